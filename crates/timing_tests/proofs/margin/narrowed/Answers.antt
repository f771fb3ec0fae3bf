use Rattle.std.proofs.Common.{◌≡◌, ◌+◌, get_or, set, Some, None, sym, ap, ◌∙◌, subst, arith}
use Rattle.std.proofs.lemmas.Bool.{cond-false, cond-true, leb-true}
use Rattle.timing.proofs.SameItem.{same_item}
use Rattle.timing_tests.specs.Lemmas.MarginLaws.{narrowed_read}
use Rattle.timing_tests.specs.Margin.{narrowed}
use Rattle.timing_tests.specs.Steps.{Narrowed}
use Rattle.timing_tests.proofs.margin.narrowed.Goals as goal

pub returns-in_err-item : goal.returns-in_err-item
returns-in_err-item c =
    let q = c.args.question in
    let fine = sym c.is_proper.ensures.test ∙ c.if-not-is_proper.false in
    let read = c.index-question-question in
    subst (Narrowed c.args.ticks q.table.now q.place q.above.bits q.below.bits) (sym c.from_residual.ensures)
    (narrowed_read c.args.ticks q.table.now q.place q.above.bits q.below.bits read.result fine
    ∙ cond-false _ _ None c.in_err-item.ensures)

pub returns : goal.returns
returns c =
    let q = c.args.question in
    let table = q.table.now in
    let g = c.args.ticks in
    let fine = sym c.is_proper.ensures.test ∙ c.if-not-is_proper.false in
    let read = c.index-question-question in
    let x = get_or table q.place read.result in
    let told = c.in_ok-item.ensures in
    let same : c.in_ok-item.item ≡ narrowed x g = same_item c.in_ok-item.item (narrowed x g) told.1 told.2 (let left = leb-true (x.length + g) x.window told.0 in let e = told.3 in omega arith) in (
      (c.is_proper.ensures.means.0 c.if-not-is_proper.false).few,
      narrowed_read g table q.place q.above.bits q.below.bits read.result fine
          ∙ cond-true _ (Some (set table q.place (narrowed x g))) None told.0
          ∙ ap (λ z. Some (set table q.place z)) (sym same)
          ∙ ap Some (sym c.replaced.ensures),
    )
