use Rattle.std.proofs.Common.{◌≡◌, ◌+◌, ◌++◌, string_bytes, sym, ap, ◌∙◌, append_assoc, append-nil, arith, rules}
use Rattle.std.proofs.lemmas.Result.{err_from_is_err_and}
use Rattle.chain.specs.Drafting.{contents}
use Rattle.chain_file.proofs.Nexts.{next-room}
use Rattle.chain_file.specs.Format.{chain, next, the_end}
use Rattle.planner.specs.Printout.{chain_line}
use Rattle.planner.specs.Steps.{reader_text}
use Rattle.planner.proofs.ReaderTexts.{text_at_chain, text_at_end, text_at_error}
use Rattle.planner.proofs.printout.Printer.put_chains.Goals as goal

pub returns-in_err-next : goal.returns-in_err-next
returns-in_err-next c =
    let p = err_from_is_err_and c.from_residual.result c.from_residual.ensures.1 in
    rw (p.1, p.2) (text_at_error c.loop-place.reader c.loop-place.invariant.few _ _ _ _ c.in_err-next.ensures _ _ c.loop-place.invariant.text)

pub loop-place-preserved : goal.loop-place-preserved
loop-place-preserved c =
    let r = c.loop-place.reader in
    let s = c.next.new.self in
    let was = string_bytes c.loop-place.self.text in
    let x = contents c.unwrap.result.now in
    let told : next r.read r.rest.now ≡ chain x s.rest.now = search rules in
    let on : s.read ≡ r.read + 1 = search rules in
    let same : s.boards ≡ r.boards = search rules in
    let line : string_bytes c.put_chain.new.self.text ≡ was ++ chain_line r.boards x = search rules in
    record {
      few = omega (arith, next-room r.read r.rest.now s.rest.now x told);
      text = ap (λ t. t ++ reader_text s) line
          ∙ append_assoc was (chain_line r.boards x) (reader_text s)
          ∙ ap (λ t. was ++ t) (sym (text_at_chain r c.loop-place.invariant.few s x told on same))
          ∙ c.loop-place.invariant.text;
    }

pub returns : goal.returns
returns c =
    let r = c.loop-place.reader in
    let was = string_bytes c.loop-place.self.text in
    let told : next r.read r.rest.now ≡ the_end = search rules in
    sym (append-nil was) ∙ ap (λ t. was ++ t) (sym (text_at_end r c.loop-place.invariant.few told)) ∙ c.loop-place.invariant.text
