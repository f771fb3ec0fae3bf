-- The items at a set's places. Assumes nothing.
use Rattle.std.proofs.Common.{◌≡◌, ℕ, zero, suc, ◌+◌, ◌<◌, ◌≤◌, Bool, true, false, cond, List, [], ◌∷◌, ◌++◌, length, get_or, drop, take, set, Some, sym, refl, ap, ◌∙◌, ⊎_elim, arith}
use Rattle.std.proofs.lemmas.List.{append-nil, at_drop_all, at_drop_more, length-take-le, take_more}
use Rattle.std.proofs.lemmas.Bool.{cases_Bool, cond-true, cond-false}
use Rattle.std.specs.List.{slice_get}
use Rattle.timing.specs.Places.{chosen, chosen_from, holds}

-- sets that agree on the places of a row choose the same
pub chosen-agree : {X : Type 0} (a b k : ℕ) (xs : List X) → ((j : ℕ) → k ≤ j → holds a j ≡ holds b j) → chosen_from a k xs ≡ chosen_from b k xs
chosen-agree a b k [] agree = refl
chosen-agree a b k (x ∷ xs) agree =
    let here : holds a k ≡ holds b k = agree k (omega arith) in
    let rest : chosen_from a (k + 1) xs ≡ chosen_from b (k + 1) xs = chosen-agree a b (k + 1) xs (λ j h. agree j (omega arith)) in
    ap (λ t. cond t (x ∷ chosen_from a (k + 1) xs) (chosen_from a (k + 1) xs)) here
    ∙ ap (λ r. cond (holds b k) (x ∷ r) r) rest

-- The row that one set chooses, and the row that another chooses which holds one place more: the
-- element there stands between the elements before and after it.
pub record Gained {X : Type 0} (less more : ℕ) (k i : ℕ) (xs : List X) : Type 0 where
  pub front : List X
  pub back : List X
  pub it : X
  pub at : slice_get xs i ≡ Some it
  pub without : chosen_from less k xs ≡ front ++ back
  pub with : chosen_from more k xs ≡ front ++ (it ∷ back)

pub gained : {X : Type 0} (less more k i p : ℕ) (xs : List X) → i < length xs → p ≡ k + i → holds less p ≡ false → holds more p ≡ true → ((j : ℕ) → (p ≡ j → ⊥) → holds less j ≡ holds more j) → Gained less more k i xs
gained less more k i p [] h e out has agree = absurd (omega arith)
gained less more k zero p (x ∷ xs) h e out has agree =
    let here : p ≡ k = omega arith in
    let rest : chosen_from less (k + 1) xs ≡ chosen_from more (k + 1) xs = chosen-agree less more (k + 1) xs (λ j q. agree j (λ f. omega arith)) in
    record {
      front = [];
      back = chosen_from less (k + 1) xs;
      it = x;
      at = refl;
      without = cond-false (holds less k) _ _ (ap (holds less) (sym here) ∙ out);
      with = cond-true (holds more k) _ _ (ap (holds more) (sym here) ∙ has) ∙ ap (λ r. x ∷ r) (sym rest);
    }
gained less more k (suc i) p (x ∷ xs) h e out has agree =
    let later = gained less more (k + 1) i p xs (omega arith) (omega arith) out has agree in
    let here : holds less k ≡ holds more k = agree k (λ f. omega arith) in
    let f = later.front in
    ⊎_elim
    (λ t. record {
      front = x ∷ f;
      back = later.back;
      it = later.it;
      at = later.at;
      without = cond-true (holds less k) _ _ t ∙ ap (λ r. x ∷ r) later.without;
      with = cond-true (holds more k) _ _ (sym here ∙ t) ∙ ap (λ r. x ∷ r) later.with;
    })
    (λ t. record {
      front = f;
      back = later.back;
      it = later.it;
      at = later.at;
      without = cond-false (holds less k) _ _ t ∙ later.without;
      with = cond-false (holds more k) _ _ (sym here ∙ t) ∙ later.with;
    })
    (cases_Bool (holds less k))

-- writing at a place that a set does not hold leaves what it chooses
pub chosen-set : {X : Type 0} (m k i : ℕ) (xs : List X) (y : X) → holds m (k + i) ≡ false → chosen_from m k (set xs i y) ≡ chosen_from m k xs
chosen-set m k i [] y out = refl
chosen-set m k zero (x ∷ xs) y out =
    let off : holds m k ≡ false = ap (holds m) (omega arith) ∙ out in
    cond-false (holds m k) _ _ off ∙ sym (cond-false (holds m k) _ _ off)
chosen-set m k (suc i) (x ∷ xs) y out =
    ap (λ r. cond (holds m k) (x ∷ r) r) (chosen-set m (k + 1) i xs y (ap (holds m) (omega arith) ∙ out))

-- What a set chooses of the items that a loop over a table has passed, with the place counted beside
-- them: one more, or none, with each turn.
chosen-append : {X : Type 0} (m k : ℕ) (xs ys : List X) → chosen_from m k (xs ++ ys) ≡ chosen_from m k xs ++ chosen_from m (k + length xs) ys
chosen-append m k [] ys = ap (λ n. chosen_from m n ys) (omega arith)
chosen-append m k (x ∷ xs) ys =
    ap (λ r. cond (holds m k) (x ∷ r) r) (chosen-append m (k + 1) xs ys)
    ∙ front (holds m k)
    ∙ ap (λ n. cond (holds m k) (x ∷ chosen_from m (k + 1) xs) (chosen_from m (k + 1) xs) ++ chosen_from m n ys) (omega arith)
  where
    front : (t : Bool) → cond t (x ∷ (chosen_from m (k + 1) xs ++ chosen_from m (k + 1 + length xs) ys)) (chosen_from m (k + 1) xs ++ chosen_from m (k + 1 + length xs) ys) ≡ cond t (x ∷ chosen_from m (k + 1) xs) (chosen_from m (k + 1) xs) ++ chosen_from m (k + 1 + length xs) ys
    front true = refl
    front false = refl

chosen-turn : {X : Type 0} (m k : ℕ) (xs : List X) (x : X) → k < length xs → x ≡ get_or xs k x → chosen m (take (k + 1) xs) ≡ chosen m (take k xs) ++ cond (holds m k) (x ∷ []) []
chosen-turn m k xs x within is =
    ap (chosen m) (take_more xs k x within ∙ ap (λ y. take k xs ++ (y ∷ [])) (sym is))
    ∙ chosen-append m 0 (take k xs) (x ∷ [])
    ∙ ap (λ n. chosen m (take k xs) ++ chosen_from m n (x ∷ [])) (let e = length-take-le k xs (omega arith) in omega arith)

pub chosen_taken : {X : Type 0} (m k : ℕ) (xs : List X) (x : X) → k < length xs → x ≡ get_or xs k x → holds m k ≡ true → chosen m (take (k + 1) xs) ≡ chosen m (take k xs) ++ (x ∷ [])
chosen_taken m k xs x within is has =
    chosen-turn m k xs x within is ∙ ap (λ r. chosen m (take k xs) ++ r) (cond-true (holds m k) _ _ has)

pub chosen_skipped : {X : Type 0} (m k : ℕ) (xs : List X) (x : X) → k < length xs → x ≡ get_or xs k x → holds m k ≡ false → chosen m (take (k + 1) xs) ≡ chosen m (take k xs)
chosen_skipped m k xs x within is has =
    chosen-turn m k xs x within is ∙ ap (λ r. chosen m (take k xs) ++ r) (cond-false (holds m k) _ _ has) ∙ append-nil (chosen m (take k xs))

-- one turn of a loop over a table, with the place counted beside it
pub chosen-more : {X : Type 0} (m k : ℕ) (xs : List X) (x : X) → k < length xs → x ≡ get_or xs k x → chosen_from m k (drop k xs) ≡ cond (holds m k) (x ∷ chosen_from m (k + 1) (drop (k + 1) xs)) (chosen_from m (k + 1) (drop (k + 1) xs))
chosen-more m k xs x within is =
    at_drop_more (chosen_from m k) xs k x within
    ∙ ap (λ y. chosen_from m k (y ∷ drop (k + 1) xs)) (sym is)

-- past the table nothing is chosen
pub chosen-all : {X : Type 0} (m k : ℕ) (xs : List X) → length xs ≤ k → chosen_from m k (drop k xs) ≡ []
chosen-all m k xs past = at_drop_all (chosen_from m k) xs k past

-- the item at a place inside a table, and what stands there after a write
pub item_there : {X : Type 0} (xs : List X) (i : ℕ) → i < length xs → (x : X) × (slice_get xs i ≡ Some x)
item_there [] i h = absurd (omega arith)
item_there (x ∷ xs) zero h = (x, refl)
item_there (x ∷ xs) (suc i) h = item_there xs i (omega arith)

pub nth-set : {X : Type 0} (xs : List X) (i : ℕ) (y : X) → i < length xs → slice_get (set xs i y) i ≡ Some y
nth-set [] i y h = absurd (omega arith)
nth-set (x ∷ xs) zero y h = refl
nth-set (x ∷ xs) (suc i) y h = nth-set xs i y (omega arith)
