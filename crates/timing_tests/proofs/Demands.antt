-- What the work of the items above comes to. Assumes nothing.
use Rattle.std.proofs.Common.{◌≡◌, ℕ, max, ◌++◌, ◌+◌, ◌*◌, ◌/◌, ◌%◌, ◌^◌, ◌<◌, ◌≤◌, Bool, true, false, List, [], ◌∷◌, length, get_or, drop, take, sum_by, ap, ◌∙◌, ⊎_elim, mul-le-mul_right, mod-eq_of_lt, arith}
use native.Mathlib.Nat.{div-eq_of_lt, div-le_of_le-mul}
use Rattle.std.proofs.lemmas.Nat.{div-add-mod', le-div, mul-le}
use Rattle.std.proofs.lemmas.List.Sums.{sum_by-append, sum_by-cons}
use Rattle.std.proofs.lemmas.Bool.{cases_eq, cond-true, cond-false}
use Rattle.timing.specs.declared.items.Item.{Item}
use Rattle.timing.specs.Places.{chosen, chosen_from, holds}
use Rattle.timing.specs.Lemmas.Choosing.{chosen-all, chosen-more, chosen_taken}
use Rattle.timing_tests.specs.Demand.{interference, longest, releases}
use Rattle.timing_tests.specs.Steps.{first, share, shares}

-- inside the first period: one release up to t, and one before t if t is not 0
pub releases_first : (inclusive : Bool) (t period : ℕ) → t < period → releases inclusive t period ≡ first inclusive t
releases_first inclusive t period less = by_cases inclusive (div-eq_of_lt less) (mod-eq_of_lt less)
  where
    by_cases : (inclusive : Bool) → t / period ≡ 0 → t % period ≡ t → releases inclusive t period ≡ first inclusive t
    by_cases false none all = omega arith
    by_cases true none all = omega arith

-- inclusive releases take at most one more than the whole periods before t
releases-few : (inclusive : Bool) (t period : ℕ) → releases inclusive t period ≤ t / period + 1
releases-few false t period = omega arith
releases-few true t period = omega arith

pub work_bounded : (inclusive : Bool) (t period length : ℕ) → length ≤ period → releases inclusive t period * length ≤ t + period
work_bounded inclusive t period length short =
    let q = t / period in
    let whole : q * period + t % period ≡ t = div-add-mod' t period in
    let most : releases inclusive t period * length ≤ (q + 1) * period = mul-le _ _ (q + 1) period (releases-few inclusive t period) short in
    let opened : (q + 1) * period ≡ q * period + period = omega arith in
    omega arith

pub share_small : (x : Item) → share x ≤ 2 ^ 32
share_small x = div-le_of_le-mul x.period (omega arith)

-- one turn of a loop that adds up what the items of a set bring: x stands at place k
module _ (f : Item → ℕ) (m k sum whole : ℕ) (xs : List Item) where
  -- the set holds the place: what x brings is added
  pub sum_taken : (x : Item) → k < length xs → x ≡ get_or xs k x → holds m k ≡ true → sum + sum_by f (chosen_from m k (drop k xs)) ≡ whole → (sum + f x) + sum_by f (chosen_from m (k + 1) (drop (k + 1) xs)) ≡ whole
  sum_taken x within is has before =
      let row = chosen_from m (k + 1) (drop (k + 1) xs) in
      let now : sum_by f (chosen_from m k (drop k xs)) ≡ f x + sum_by f row =
      ap (sum_by f) (chosen-more m k xs x within is ∙ cond-true (holds m k) _ _ has) ∙ sum_by-cons f x row in
      omega arith

  -- it does not: nothing is added
  pub sum_skipped : (x : Item) → k < length xs → x ≡ get_or xs k x → holds m k ≡ false → sum + sum_by f (chosen_from m k (drop k xs)) ≡ whole → sum + sum_by f (chosen_from m (k + 1) (drop (k + 1) xs)) ≡ whole
  sum_skipped x within is has before =
      let row = chosen_from m (k + 1) (drop (k + 1) xs) in
      let now : sum_by f (chosen_from m k (drop k xs)) ≡ sum_by f row =
      ap (sum_by f) (chosen-more m k xs x within is ∙ cond-false (holds m k) _ _ has) in
      omega arith

  -- past the last item all is added
  pub sum_all : length xs ≤ k → sum + sum_by f (chosen_from m k (drop k xs)) ≡ whole → sum ≡ whole
  sum_all past before =
      let now : sum_by f (chosen_from m k (drop k xs)) ≡ 0 = ap (sum_by f) (chosen-all m k xs past) in
      omega arith

-- What a loop over a row has gathered, with one item more: x stands at place k, and the set holds
-- that place.
module _ (m k : ℕ) (xs : List Item) (x : Item) (within : k < length xs) (is : x ≡ get_or xs k x) (has : holds m k ≡ true) where
  sum_more : (f : Item → ℕ) → sum_by f (chosen m (take (k + 1) xs)) ≡ sum_by f (chosen m (take k xs)) + f x
  sum_more f =
      let a = sum_by-append f (chosen m (take k xs)) (x ∷ []) in
      let b = sum_by-cons f x [] in
      let e = ap (sum_by f) (chosen_taken m k xs x within is has) in
      omega arith

  pub interference_taken : (inclusive : Bool) (t : ℕ) → interference inclusive (chosen m (take (k + 1) xs)) t ≡ interference inclusive (chosen m (take k xs)) t + releases inclusive t x.period * x.length
  interference_taken inclusive t = sum_more (λ y. releases inclusive t y.period * y.length)

  pub shares_taken : shares (chosen m (take (k + 1) xs)) ≡ shares (chosen m (take k xs)) + share x
  shares_taken = sum_more share

  pub longest_taken : longest (chosen m (take (k + 1) xs)) ≡ max (longest (chosen m (take k xs))) x.length
  longest_taken =
      let e = ap longest (chosen_taken m k xs x within is has) in
      let a = longest_append (chosen m (take k xs)) (x ∷ []) in
      omega arith
    where
      longest_append : (xs ys : List Item) → longest (xs ++ ys) ≡ max (longest xs) (longest ys)
      longest_append [] ys = omega arith
      longest_append (x ∷ xs) ys = let e = longest_append xs ys in omega arith

pub longest_small : (xs : List Item) → longest xs ≤ 1000000
longest_small [] = omega arith
longest_small (x ∷ xs) = let h = longest_small xs in omega arith

-- a later tick counts as many releases at the least
releases-rise : (inclusive : Bool) (t t' period : ℕ) → 1 ≤ period → t ≤ t' → releases inclusive t period ≤ releases inclusive t' period
releases-rise inclusive t t' period some later =
    let q = t / period in
    let q' = t' / period in
    let whole : q * period + t % period ≡ t = div-add-mod' t period in
    let whole' : q' * period + t' % period ≡ t' = div-add-mod' t' period in
    let rise : q ≤ q' = le-div q t' period some (omega arith) in
    by_cases inclusive rise (λ same. let e : q * period ≡ q' * period = ap (λ (n : ℕ). n * period) same in omega arith)
  where
    by_cases : (inclusive : Bool) → t / period ≤ t' / period → (t / period ≡ t' / period → t % period ≤ t' % period) → releases inclusive t period ≤ releases inclusive t' period
    by_cases true rise parts = omega arith
    by_cases false rise parts =
        ⊎_elim (λ same. let h : t % period ≤ t' % period = parts same in omega arith)
        (λ n. omega arith)
        (cases_eq (t / period) (t' / period))

sum_by-rise : {X : Type 0} (f g : X → ℕ) → ((x : X) → f x ≤ g x) → (xs : List X) → sum_by f xs ≤ sum_by g xs
sum_by-rise f g less [] = omega arith
sum_by-rise f g less (x ∷ xs) =
    let here : f x ≤ g x = less x in
    let later : sum_by f xs ≤ sum_by g xs = sum_by-rise f g less xs in
    let a : sum_by f (x ∷ xs) ≡ f x + sum_by f xs = sum_by-cons f x xs in
    let b : sum_by g (x ∷ xs) ≡ g x + sum_by g xs = sum_by-cons g x xs in
    omega arith

pub interference_rises : (inclusive : Bool) (above : List Item) (t t' : ℕ) → t ≤ t' → interference inclusive above t ≤ interference inclusive above t'
interference_rises inclusive above t t' later =
    sum_by-rise _ _
    (λ (x : Item). mul-le-mul_right x.length (releases-rise inclusive t t' x.period (omega arith) later))
    above
