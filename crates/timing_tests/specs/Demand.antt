-- How much work a tick has to cover.
--   releases inclusive t T     how often an item of period T is released before t, or up to t
--   interference inclusive above t   the work that the items above bring
--   longest items              the longest length
--   first_from test k n        the first of the n numbers from k on that passes a test
use Rattle.std.specs.Prelude.{ℕ, zero, suc, ◌+◌, ◌*◌, ◌/◌, ◌%◌, min, max, Bool, true, false, cond, List, [], ◌∷◌, Some, None, sum_by, Option}
use Rattle.timing.specs.declared.items.Item.{Item}

-- before t: t ÷ T rounded up; up to t, its own tick included: t ÷ T rounded down, and one more
abbrev pub releases : (inclusive : Bool) (t period : ℕ) → ℕ
releases false t period = t / period + min 1 (t % period)
releases true t period = t / period + 1

abbrev pub interference : (inclusive : Bool) (above : List Item) (t : ℕ) → ℕ
interference inclusive above t = sum_by (λ (x : Item). releases inclusive t x.period * x.length) above

abbrev pub longest : List Item → ℕ
longest [] = 0
longest (x ∷ xs) = max x.length (longest xs)

abbrev pub first_from : (ℕ → Bool) → (k n : ℕ) → Option ℕ
first_from test k zero = None
first_from test k (suc n) = cond (test k) (Some k) (first_from test (suc k) n)
