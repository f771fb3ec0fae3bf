-- The test for a proper question says what is meant by one; and a proper question stays proper
-- when a place changes sides or leaves. Assumes nothing.
use Rattle.std.proofs.Common.{◌≡◌, ℕ, ◌^◌, ◌<◌, true, false, not, ◌&&◌, ◌||◌, eqb, Decides, sym, refl, ap, ◌∙◌, ⊎_elim, arith}
use lib.Bits.{bit_and}
use Rattle.std.proofs.Math.Bool.{and-false, and-true}
use Rattle.std.proofs.lemmas.Bool.{and_from, and_parts, both_ways, cases_eq, eq-eqb, eqb-true, le-leb, leb-true, lt-ltb, ltb-true, ne_eqb, not-true, not_from_false}
use Rattle.timing.specs.Places.{Proper, holds, most_items, proper, with_place, without_place}
use Rattle.timing.specs.Lemmas.Sets.{apart_from, apart_says, holds-with, holds-without, inside_from, inside_says}

pub proper_says : (n place above below : ℕ) → proper n place above below ≡ true → Proper n place above below
unfolding proper
proper_says n place above below e =
    let p = and_parts _ _ e in
    let q = and_parts _ _ p.1 in
    let r = and_parts _ _ q.1 in
    let s = and_parts _ _ r.1 in
    let t = and_parts _ _ s.1 in
    let u = and_parts _ _ t.1 in
    record {
      few = leb-true n most_items p.0;
      asked_inside = ltb-true place n q.0;
      above_inside = λ i h. inside_says n above i (ltb-true above (2 ^ n) r.0) h;
      below_inside = λ i h. inside_says n below i (ltb-true below (2 ^ n) s.0) h;
      apart = λ i h. apart_says above below i (eqb-true (bit_and above below) 0 t.0) h;
      not_above = not-true (holds above place) u.0;
      not_below = not-true (holds below place) u.1;
    }

pub proper_from : (n place above below : ℕ) → Proper n place above below → proper n place above below ≡ true
unfolding proper
proper_from n place above below p =
    and_from _ _ (le-leb n most_items p.few)
    (and_from _ _ (lt-ltb place n p.asked_inside)
    (and_from _ _ (lt-ltb above (2 ^ n) (inside_from n above p.above_inside))
    (and_from _ _ (lt-ltb below (2 ^ n) (inside_from n below p.below_inside))
    (and_from _ _ (eq-eqb (bit_and above below) 0 (apart_from above below p.apart))
    (and_from _ _ (not_from_false _ p.not_above) (not_from_false _ p.not_below))))))

-- the test is true just for a proper question
pub proper-decides : (n place above below : ℕ) → Decides (proper n place above below) (Proper n place above below)
proper-decides n place above below = (proper_says n place above below, proper_from n place above below)

-- a set less a place holds nothing new, and not that place
pub without_less : (set i j : ℕ) → holds (without_place set i) j ≡ true → holds set j ≡ true
without_less set i j e = (and_parts (holds set j) (not (eqb i j)) (sym (holds-without set i j) ∙ e)).0

pub without_none : (set i j : ℕ) → holds set j ≡ false → holds (without_place set i) j ≡ false
without_none set i j e = holds-without set i j ∙ ap (λ t. t && not (eqb i j)) e

pub without_it : (set i : ℕ) → holds (without_place set i) i ≡ false
without_it set i = holds-without set i i ∙ ap (λ t. holds set i && not t) (eq-eqb i i refl) ∙ and-false (holds set i)

pub with_it : (set i : ℕ) → holds (with_place set i) i ≡ true
with_it set i = holds-with set i i ∙ ap (λ t. t || holds set i) (eq-eqb i i refl)

pub with_other : (set i j : ℕ) → (i ≡ j → ⊥) → holds (with_place set i) j ≡ holds set j
with_other set i j n = holds-with set i j ∙ ap (λ t. t || holds set j) (ne_eqb i j n)

pub without_other : (set i j : ℕ) → (i ≡ j → ⊥) → holds (without_place set i) j ≡ holds set j
without_other set i j n = holds-without set i j ∙ ap (λ t. holds set j && not t) (ne_eqb i j n) ∙ and-true (holds set j)

pub proper-down : (n place above below i : ℕ) → holds above i ≡ true → Proper n place above below → Proper n place (without_place above i) (with_place below i)
proper-down n place above below i up p = record {
  few = p.few;
  asked_inside = p.asked_inside;
  above_inside = λ j h. p.above_inside j (without_less above i j h);
  below_inside = λ j h. ⊎_elim (λ e. moved_inside j e) (λ m. p.below_inside j (sym (with_other below i j m) ∙ h)) (cases_eq i j);
  apart = λ j h. ⊎_elim (λ e. absurd (both_ways (holds (without_place above i) j) (ap (holds (without_place above i)) (sym e) ∙ without_it above i) h)) (λ m. with_other below i j m ∙ p.apart j (without_less above i j h)) (cases_eq i j);
  not_above = without_none above i place p.not_above;
  not_below = with_other below i place not_asked ∙ p.not_below;
}
  where
    moved_inside : (j : ℕ) → i ≡ j → j < n
    moved_inside j e = let h : i < n = p.above_inside i up in omega arith

    not_asked : i ≡ place → ⊥
    not_asked e = both_ways (holds above place) p.not_above (ap (holds above) (sym e) ∙ up)

pub proper-left : (n place above below i : ℕ) → Proper n place above below → Proper n place above (without_place below i)
proper-left n place above below i p = record {
  few = p.few;
  asked_inside = p.asked_inside;
  above_inside = p.above_inside;
  below_inside = λ j h. p.below_inside j (without_less below i j h);
  apart = λ j h. without_none below i j (p.apart j h);
  not_above = p.not_above;
  not_below = without_none below i place p.not_below;
}
