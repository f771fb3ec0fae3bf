-- A margin over a test that keeps the laws keeps them too. Assumes nothing.
use Rattle.std.specs.Prelude.{◌≡◌, ℕ, ◌+◌, ◌≤◌, Bool, true, false, cond, leb, List, length, Some, None, Option, nat_le, slice_set, refl}
use Rattle.std.proofs.Common.{get_or, ⊎_elim, sym, ap, subst, ◌∙◌, zero-add, arith, length-set}
use Rattle.std.proofs.lemmas.Bool.{both_ways, cases_Bool, cond-true, cond-false}
use Rattle.std.proofs.lemmas.Option.{slice_get-get_or}
use Rattle.std.specs.List.{slice_get}
use Rattle.timing.specs.declared.items.Item.{Item}
use Rattle.timing.specs.Laws.{AtMost, ImproperIsNo, Leaving, Local, StepDown, Timely}
use Rattle.timing.specs.Places.{chosen, holds, proper, with_place, without_place}
use Rattle.timing.specs.Rows.{of_item}
use Rattle.timing.specs.Lemmas.Choosing.{chosen-set, item_there, nth-set}
use Rattle.timing.specs.Lemmas.Properness.{proper-down, proper_from, proper-left, proper_says}
use Rattle.timing_tests.specs.Margin.{margin, narrowed, narrowed_table, of_table}

-- the table that a margin asks about, for a proper question about the item x
pub narrowed-about : (g : ℕ) (table : List Item) (place above below : ℕ) (x : Item) → proper (length table) place above below ≡ true → slice_get table place ≡ Some x → narrowed_table g table place above below ≡ cond (nat_le (x.length + g) x.window) (Some (slice_set table place (narrowed x g))) None
narrowed-about g table place above below x p e =
    cond-true (proper (length table) place above below) _ None p
    ∙ ap (of_item (λ (y : Item). cond (nat_le (y.length + g) y.window) (Some (slice_set table place (narrowed y g))) None) None) e

-- the same where the item was read at the place asked
pub narrowed_read : (g : ℕ) (table : List Item) (place above below : ℕ) (x : Item) → proper (length table) place above below ≡ true → narrowed_table g table place above below ≡ cond (nat_le ((get_or table place x).length + g) (get_or table place x).window) (Some (slice_set table place (narrowed (get_or table place x) g))) None
narrowed_read g table place above below x p =
    narrowed-about g table place above below (get_or table place x) p (slice_get-get_or table place x (proper_says (length table) place above below p).asked_inside)

of_cond : {X : Type 0} (none : X) (ask : List Item → ℕ → ℕ → ℕ → X) (place above below : ℕ) (t : Bool) (table : List Item) → of_table ask none place above below (cond t (Some table) None) ≡ cond t (ask table place above below) none
of_cond none ask place above below true table = refl
of_cond none ask place above below false table = refl

-- what a margin answers to a proper question about the item x
pub margin-about : {X : Type 0} (none : X) (ask : List Item → ℕ → ℕ → ℕ → X) (g : ℕ) (table : List Item) (place above below : ℕ) (x : Item) → proper (length table) place above below ≡ true → slice_get table place ≡ Some x → margin none ask g table place above below ≡ cond (nat_le (x.length + g) x.window) (ask (slice_set table place (narrowed x g)) place above below) none
margin-about none ask g table place above below x p e =
    ap (of_table ask none place above below) (narrowed-about g table place above below x p e)
    ∙ of_cond none ask place above below (nat_le (x.length + g) x.window) (slice_set table place (narrowed x g))

-- a yes comes from a proper question about an item that keeps its length
record Kept (ask : List Item → ℕ → ℕ → ℕ → Bool) (g : ℕ) (table : List Item) (place above below : ℕ) : Type 0 where
  fine : proper (length table) place above below ≡ true
  item : Item
  is : slice_get table place ≡ Some item
  keeps : leb (item.length + g) item.window ≡ true
  passes : ask (slice_set table place (narrowed item g)) place above below ≡ true

kept : (ask : List Item → ℕ → ℕ → ℕ → Bool) (g : ℕ) (table : List Item) (place above below : ℕ) → margin false ask g table place above below ≡ true → Kept ask g table place above below
kept ask g table place above below pass =
    ⊎_elim
    (λ p.
    let it = item_there table place (proper_says (length table) place above below p).asked_inside in
    let x = it.0 in
    let said = sym (margin-about false ask g table place above below x p it.1) ∙ pass in
    ⊎_elim
    (λ l. record { fine = p; item = x; is = it.1; keeps = l; passes = sym (cond-true _ _ false l) ∙ said })
    (λ l. absurd (both_ways false refl (sym (cond-false _ _ false l) ∙ said)))
    (cases_Bool (nat_le (x.length + g) x.window)))
    (λ e. absurd (both_ways false refl (sym (ap (of_table ask false place above below) (cond-false (proper (length table) place above below) _ None e)) ∙ pass)))
    (cases_Bool (proper (length table) place above below))

module _ {R S : Type 0} (meaning : S → List Item → ℕ → ℕ → ℕ → Bool) (test : R → S) (ticks : R → ℕ) where
  pub margin-improper : ImproperIsNo (λ (r : R). margin false (meaning (test r)) (ticks r))
  margin-improper r table place above below e =
      ap (of_table (meaning (test r)) false place above below) (cond-false (proper (length table) place above below) _ None e)

  pub margin-down : StepDown meaning → StepDown (λ (r : R). margin false (meaning (test r)) (ticks r))
  margin-down law r table place above below i up pass =
      let k = kept (meaning (test r)) (ticks r) table place above below pass in
      let p = proper_says (length table) place above below k.fine in
      margin-about false (meaning (test r)) (ticks r) table place (without_place above i) (with_place below i) k.item
      (proper_from (length table) place (without_place above i) (with_place below i) (proper-down (length table) place above below i up p)) k.is
      ∙ cond-true _ _ false k.keeps
      ∙ law (test r) (slice_set table place (narrowed k.item (ticks r))) place above below i up k.passes

  pub margin-leaving : Leaving meaning → Leaving (λ (r : R). margin false (meaning (test r)) (ticks r))
  margin-leaving law r table place above below i down pass =
      let k = kept (meaning (test r)) (ticks r) table place above below pass in
      let p = proper_says (length table) place above below k.fine in
      margin-about false (meaning (test r)) (ticks r) table place above (without_place below i) k.item
      (proper_from (length table) place above (without_place below i) (proper-left (length table) place above below i p)) k.is
      ∙ cond-true _ _ false k.keeps
      ∙ law (test r) (slice_set table place (narrowed k.item (ticks r))) place above below i down k.passes

  pub margin-local : Local meaning → Local (λ (r : R). margin false (meaning (test r)) (ticks r))
  margin-local law r table table' place place' above above' below below' p p' item up down =
      let q = proper_says (length table) place above below p in
      let q' = proper_says (length table') place' above' below' p' in
      let it = item_there table place q.asked_inside in
      let x = it.0 in
      let y = narrowed x (ticks r) in
      margin-about false (meaning (test r)) (ticks r) table place above below x p it.1
      ∙ ap (λ t. cond (nat_le (x.length + ticks r) x.window) t false)
      (law (test r) (slice_set table place y) (slice_set table' place' y) place place' above above' below below'
      (ap (λ n. proper n place above below) (length-set table place y) ∙ p)
      (ap (λ n. proper n place' above' below') (length-set table' place' y) ∙ p')
      (nth-set table place y q.asked_inside ∙ sym (nth-set table' place' y q'.asked_inside))
      (untouched above table place y q.not_above ∙ up ∙ sym (untouched above' table' place' y q'.not_above))
      (untouched below table place y q.not_below ∙ down ∙ sym (untouched below' table' place' y q'.not_below)))
      ∙ sym (margin-about false (meaning (test r)) (ticks r) table' place' above' below' x p' (sym item ∙ it.1))
    where
      untouched : (m : ℕ) (xs : List Item) (i : ℕ) (z : Item) → holds m i ≡ false → chosen m (slice_set xs i z) ≡ chosen m xs
      untouched m xs i z out = chosen-set m 0 i xs z (ap (holds m) (zero-add i) ∙ out)

-- the item asked, in the table and in the one that a margin asks about
tight_item : (g : ℕ) (table tight : List Item) (place above below : ℕ) → narrowed_table g table place above below ≡ Some tight → (x : Item) × (slice_get table place ≡ Some x) × (slice_get tight place ≡ Some (narrowed x g))
tight_item g table tight place above below is =
    ⊎_elim
    (λ p.
    let inside = (proper_says (length table) place above below p).asked_inside in
    let it = item_there table place inside in
    let x = it.0 in
    let said = sym (narrowed-about g table place above below x p it.1) ∙ is in
    ⊎_elim
    (λ l.
    let same : slice_set table place (narrowed x g) ≡ tight = cc (sym (cond-true _ (Some (slice_set table place (narrowed x g))) None l) ∙ said) in
    (x, it.1, ap (λ t. slice_get t place) (sym same) ∙ nth-set table place (narrowed x g) inside))
    (λ l. let none = sym (cond-false _ (Some (slice_set table place (narrowed x g))) None l) ∙ said in let z : ◌≡◌ {A = ℕ} 0 1 = cc none in let no : ⊥ = omega arith in absurd no)
    (cases_Bool (nat_le (x.length + g) x.window)))
    (λ e. let none = sym (cond-false (proper (length table) place above below) _ None e) ∙ is in let z : ◌≡◌ {A = ℕ} 0 1 = cc none in let no : ⊥ = omega arith in absurd no)
    (cases_Bool (proper (length table) place above below))

at_most_more : (r : Option ℕ) (v w : ℕ) → v ≤ w → AtMost r (Some v) → AtMost r (Some w)
at_most_more (Some t) v w h less = omega arith
at_most_more None v w h less = tt

-- what a timed test below answers is timely for the margin too
pub margin-timely : (ask : List Item → ℕ → ℕ → ℕ → Bool) (g : ℕ) (table tight : List Item) (place above below : ℕ) (r : Option ℕ) → narrowed_table g table place above below ≡ Some tight → Timely (ask tight place above below) tight place r → Timely (margin false ask g table place above below) table place r
margin-timely ask g table tight place above below r is timely =
    let it = tight_item g table tight place above below is in
    let x = it.0 in
    let window = of_item (λ (y : Item). Some y.window) None in (
      timely.0 ∙ ap (of_table ask false place above below) (sym is),
      subst (AtMost r) (sym (ap window it.1))
          (at_most_more r (narrowed x g).window x.window (let h = x.fits in omega arith) (subst (AtMost r) (ap window it.2) timely.1)),
    )
