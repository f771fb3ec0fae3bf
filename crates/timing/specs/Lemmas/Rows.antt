-- The laws of a timing test, derived for a test described by the item asked and the rows of items
-- above and below it. Assumes nothing.
use Rattle.std.proofs.Common.{◌≡◌, ℕ, ◌<◌, Bool, true, false, cond, List, ◌∷◌, ◌++◌, length, is_some, Some, None, Option, sym, refl, ap, ◌∙◌, zero-add}
use Rattle.std.proofs.lemmas.Bool.{both_ways, cond-true, cond-false}
use Rattle.std.specs.List.{slice_get}
use Rattle.timing.specs.declared.items.Item.{Item}
use Rattle.timing.specs.Laws.{AtMost, ImproperIsNo, Leaving, Local, StepDown, Timely}
use Rattle.timing.specs.Places.{chosen, proper, with_place, without_place}
use Rattle.timing.specs.RowLaws.{RowLeaving, RowStepDown}
use Rattle.timing.specs.Rows.{by_rows, of_item}
use Rattle.timing.specs.Lemmas.Choosing.{gained}
use Rattle.timing.specs.Lemmas.Properness.{proper-down, proper_from, proper-left, proper_says, with_it, with_other, without_it, without_other}

-- a yes comes from a proper question and from an item
asked : (p : Bool) (f : Item → Bool) (o : Option Item) → cond p (of_item f false o) false ≡ true → (p ≡ true) × ((x : Item) × (o ≡ Some x) × (f x ≡ true))
asked true f (Some x) e = (refl, (x, refl, e))
asked true f None e = absurd (both_ways false refl e)
asked false f o e = absurd (both_ways false refl e)

-- a question that is proper, about the item x
pub answered : {X : Type 0} (none : X) (answer : Item → List Item → List Item → X) (table : List Item) (place above below : ℕ) (x : Item) (up down : List Item) → proper (length table) place above below ≡ true → slice_get table place ≡ Some x → chosen above table ≡ up → chosen below table ≡ down → by_rows none answer table place above below ≡ answer x up down
answered none answer table place above below x up down p e a b =
    cond-true (proper (length table) place above below) _ none p
    ∙ ap (of_item (λ y. answer y (chosen above table) (chosen below table)) none) e
    ∙ ap (λ u. answer x u (chosen below table)) a
    ∙ ap (answer x up) b

-- A response by rows is there exactly where the item passes, and at most its window, if it is so
-- for every item and every two rows.
pub rows_timely : (time : Item → List Item → List Item → Option ℕ) → ((x : Item) (above below : List Item) → AtMost (time x above below) (Some x.window)) → (table : List Item) (place above below : ℕ) → Timely (by_rows false (λ x up down. is_some (time x up down)) table place above below) table place (by_rows None time table place above below)
rows_timely time bounded table place above below =
    by_cases (proper (length table) place above below) (slice_get table place) (λ x. time x (chosen above table) (chosen below table)) (λ x. bounded x (chosen above table) (chosen below table))
  where
    by_cases : (p : Bool) (o : Option Item) (f : Item → Option ℕ) → ((x : Item) → AtMost (f x) (Some x.window)) → (is_some (cond p (of_item f None o) None) ≡ cond p (of_item (λ x. is_some (f x)) false o) false) × AtMost (cond p (of_item f None o) None) (of_item (λ x. Some x.window) None o)
    by_cases true (Some x) f h = (refl, h x)
    by_cases true None f h = (refl, tt)
    by_cases false o f h = (refl, tt)

module _ {S : Type 0} (passes : S → Item → List Item → List Item → Bool) where
  pub rows_improper : ImproperIsNo (λ (s : S). by_rows false (passes s))
  rows_improper s table place above below e = cond-false _ _ _ e

  pub rows_local : Local (λ (s : S). by_rows false (passes s))
  rows_local s table table' place place' above above' below below' p p' item up down =
      cond-true (proper (length table) place above below) _ false p
      ∙ ap (of_item (λ y. passes s y (chosen above table) (chosen below table)) false) item
      ∙ ap (λ u. of_item (λ y. passes s y u (chosen below table)) false (slice_get table' place')) up
      ∙ ap (λ d. of_item (λ y. passes s y (chosen above' table') d) false (slice_get table' place')) down
      ∙ sym (cond-true (proper (length table') place' above' below') _ false p')

  pub rows_down : RowStepDown passes → StepDown (λ (s : S). by_rows false (passes s))
  rows_down law s table place above below i up pass =
      let n = length table in
      let was = asked (proper n place above below) (λ y. passes s y (chosen above table) (chosen below table)) (slice_get table place) pass in
      let x = was.1.0 in
      let p = proper_says n place above below was.0 in
      let inside : i < n = p.above_inside i up in
      let a = gained (without_place above i) above 0 i i table inside (sym (zero-add i)) (without_it above i) up (without_other above i) in
      let b = gained below (with_place below i) 0 i i table inside (sym (zero-add i)) (p.apart i up) (with_it below i) (λ j m. sym (with_other below i j m)) in
      let same : a.it ≡ b.it = cc (a.at, b.at) in
      let before : passes s x (a.front ++ (a.it ∷ a.back)) (b.front ++ b.back) ≡ true =
      sym (ap (λ u. passes s x u (b.front ++ b.back)) a.with) ∙ sym (ap (passes s x (chosen above table)) b.without) ∙ was.1.2 in
      answered false (passes s) table place (without_place above i) (with_place below i) x (a.front ++ a.back) (b.front ++ (a.it ∷ b.back))
      (proper_from n place (without_place above i) (with_place below i) (proper-down n place above below i up p))
      was.1.1
      a.without
      (b.with ∙ ap (λ y. b.front ++ (y ∷ b.back)) (sym same))
      ∙ law s x a.it a.front a.back b.front b.back before

  pub rows_leaving : RowLeaving passes → Leaving (λ (s : S). by_rows false (passes s))
  rows_leaving law s table place above below i down pass =
      let n = length table in
      let was = asked (proper n place above below) (λ y. passes s y (chosen above table) (chosen below table)) (slice_get table place) pass in
      let x = was.1.0 in
      let p = proper_says n place above below was.0 in
      let b = gained (without_place below i) below 0 i i table (p.below_inside i down) (sym (zero-add i)) (without_it below i) down (without_other below i) in
      let before : passes s x (chosen above table) (b.front ++ (b.it ∷ b.back)) ≡ true =
      sym (ap (passes s x (chosen above table)) b.with) ∙ was.1.2 in
      answered false (passes s) table place above (without_place below i) x (chosen above table) (b.front ++ b.back)
      (proper_from n place above (without_place below i) (proper-left n place above below i p))
      was.1.1
      refl
      b.without
      ∙ law s x b.it (chosen above table) b.front b.back before
