-- The first refusal in a row of conditions, as a loop goes through the row.
use Rattle.std.proofs.Common.{◌≡◌, ℕ, zero, suc, ◌+◌, ◌<◌, ◌≤◌, List, [], ◌∷◌, map, length, get_or, drop, Some, None, Option, sym, refl, ap, ◌∙◌, arith}
use Rattle.std.proofs.lemmas.List.{at_drop_all, at_drop_more}
use Rattle.chain.specs.Refusals.{Described, first_of}

-- a loop over xs that checks a condition for each element
module _ {X : Type 0} (condition : X → Option Described) (xs : List X) where
  -- what the loop finds from k on
  abbrev pub left : ℕ → Option Described
  left k = first_of (map condition (drop k xs))

  pub left-all : (k : ℕ) → length xs ≤ k → left k ≡ None
  left-all k h = at_drop_all (λ ys. first_of (map condition ys)) xs k h

  module _ (k : ℕ) (x d : X) (inside : k < length xs) (is : x ≡ get_or xs k d) where
    pub step : left k ≡ first_of (condition x ∷ map condition (drop (k + 1) xs))
    step =
        at_drop_more (λ ys. first_of (map condition ys)) xs k d inside
        ∙ ap (λ y. first_of (condition y ∷ map condition (drop (k + 1) xs))) (sym is)

    -- a condition that stands is the first; one that does not is passed over
    pub left-stands : (why : Described) → condition x ≡ Some why → left k ≡ Some why
    left-stands why stands = step ∙ ap (λ o. first_of (o ∷ map condition (drop (k + 1) xs))) stands

    pub left-passed : condition x ≡ None → left (k + 1) ≡ left k
    left-passed none = sym (step ∙ ap (λ o. first_of (o ∷ map condition (drop (k + 1) xs))) none)

-- where no refusal is found, no condition stands
pub none_first : (o : Option Described) (later : List (Option Described)) → first_of (o ∷ later) ≡ None → (o ≡ None) × (first_of later ≡ None)
none_first (Some w) later none = let z : ◌≡◌ {A = ℕ} 0 1 = cc in absurd (omega arith)
none_first None later none = (refl, none)

pub none_stands : {X : Type 0} (condition : X → Option Described) (xs : List X) (k : ℕ) (d : X) → first_of (map condition xs) ≡ None → k < length xs → condition (get_or xs k d) ≡ None
none_stands condition [] k d none h = absurd (omega arith)
none_stands condition (x ∷ xs) zero d none h = (none_first (condition x) (map condition xs) none).0
none_stands condition (x ∷ xs) (suc k) d none h = none_stands condition xs k d (none_first (condition x) (map condition xs) none).1 (omega arith)
