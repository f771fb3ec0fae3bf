-- What a reader has still to give, by what comes next in its file.
use Rattle.std.proofs.Common.{◌≡◌, ℕ, suc, ◌+◌, ◌-◌, ◌≤◌, List, [], ◌++◌, Err, Option, sym, ap, ◌∙◌, append_assoc, arith}
use Rattle.std.specs.List.{flat_map}
use Rattle.chain.specs.declared.chains.Chain.{Chain}
use Rattle.chain.specs.Drafting.{Contents}
use Rattle.chain.specs.Limits.{most_boards, most_stages}
use Rattle.chain.specs.Refusals.{Described}
use Rattle.chain_file.proofs.Nexts.{records-step}
use Rattle.chain_file.specs.declared.readers.Reader.{Reader}
use Rattle.chain_file.specs.declared.readers.ReadError.{ReadError}
use Rattle.chain_file.specs.declared.readers.ReadError.TheVariants.{Refused, NoMemory}
use Rattle.chain_file.specs.Reading.{Reads}
use Rattle.chain_file.specs.Refusals.{described}
use Rattle.chain_file.specs.Format.{Next, chain, held_by, most_chains, next, records, refused, the_end}
use Rattle.planner.specs.Printout.{chain_line, records_text, refusal_line, stop_text}
use Rattle.planner.specs.Steps.{Ends, reader_text}

module _ (r : Reader) (few : r.read ≤ most_chains) where
  look : reader_text r ≡ records_text r.boards (held_by r.read (next r.read r.rest.now) (records (most_chains - r.read) (r.read + 1)))
  look =
      let steps : most_chains + 1 - r.read ≡ suc (most_chains - r.read) = omega arith in
      ap (λ n. records_text r.boards (records n r.read r.rest.now)) steps
      ∙ ap (records_text r.boards) (records-step (most_chains - r.read) r.read r.rest.now)

  by_next : (n : Next) → next r.read r.rest.now ≡ n → reader_text r ≡ records_text r.boards (held_by r.read n (records (most_chains - r.read) (r.read + 1)))
  by_next n is = look ∙ ap (λ m. records_text r.boards (held_by r.read m (records (most_chains - r.read) (r.read + 1)))) is

  pub text_at_end : next r.read r.rest.now ≡ the_end → reader_text r ≡ []
  text_at_end is = by_next the_end is

  pub text_at_refusal : (why : Described) → next r.read r.rest.now ≡ refused why → reader_text r ≡ refusal_line (record { at = r.read + 1; why = why })
  text_at_refusal why is = by_next (refused why) is

  pub text_at_chain : (s : Reader) (c : Contents) → next r.read r.rest.now ≡ chain c s.rest.now → s.read ≡ r.read + 1 → s.boards ≡ r.boards → reader_text r ≡ chain_line r.boards c ++ reader_text s
  text_at_chain s c is on same =
      let later = records (most_chains - r.read) (r.read + 1) s.rest.now in
      let steps : most_chains - r.read ≡ most_chains + 1 - s.read = omega (arith, on) in
      by_next (chain c s.rest.now) is
      ∙ append_assoc (chain_line r.boards c) (flat_map (chain_line r.boards) later.chains) (stop_text later.stop)
      ∙ ap (λ t. chain_line r.boards c ++ t) (λ i. records_text (sym same i) (records (steps i) (sym on i) s.rest.now))

  -- what is printed and what is still to be, at a refusal or at want of memory
  pub text_at_error : (s : Reader) (before after : Option (Chain most_stages most_boards)) (e : ReadError) → Reads r s before after (Err e) → (was whole : List ℕ) → was ++ reader_text r ≡ whole → Ends whole was (Err e)
  text_at_error s before after (Refused e) told was whole all =
      ap (λ n. was ++ refusal_line (record { at = n; why = described e.why })) told.1
      ∙ ap (λ t. was ++ t) (sym (text_at_refusal (described e.why) told.0))
      ∙ all
  text_at_error s before after NoMemory told was whole all = tt
