-- Where the shares of the items above and of the item asked come to more than the whole, no time
-- up to its period covers its demand. Assumes nothing.
use Rattle.std.proofs.Common.{◌≡◌, ℕ, ◌+◌, ◌*◌, ◌/◌, ◌%◌, ◌^◌, ◌<◌, ◌≤◌, min, Bool, true, false, List, [], ◌∷◌, sym, ap, ◌∙◌, ⊎_elim, mul-le-mul_right, mul_assoc, mul_comm, mul-le-mul_left, div-mul-le_self, arith}
use Rattle.std.proofs.lemmas.Nat.{div-add-mod', mod_below}
use Rattle.std.proofs.lemmas.List.Sums.{sum_by-cons}
use Rattle.std.proofs.lemmas.Bool.{cases_lt}
use Rattle.timing.specs.declared.items.Item.{Item}
use Rattle.timing_tests.specs.Demand.{interference, releases}
use Rattle.timing_tests.specs.Steps.{share, shares}

-- the periods of the inclusive releases reach t
releases-reach : (inclusive : Bool) (t period : ℕ) → 1 ≤ period → t ≤ releases inclusive t period * period
releases-reach inclusive t period some =
    let q = t / period in
    let whole : q * period + t % period ≡ t = div-add-mod' t period in
    let small : t % period < period = mod_below t period some in
    let one : (q + 1) * period ≡ q * period + period = omega arith in
    by_cases inclusive whole small one
  where
    by_cases : (inclusive : Bool) → t / period * period + t % period ≡ t → t % period < period → (t / period + 1) * period ≡ t / period * period + period → t ≤ releases inclusive t period * period
    by_cases true whole small one = omega arith
    by_cases false whole small one =
        let m = min 1 (t % period) in
        let split : (t / period + m) * period ≡ t / period * period + m * period = omega arith in
        ⊎_elim
        (λ some. let e : m * period ≡ 1 * period = ap (λ n. n * period) (omega arith) in omega arith)
        (λ none. let e : m * period ≡ 0 * period = ap (λ n. n * period) (omega arith) in omega arith)
        (cases_lt 0 (t % period))

-- in the units of a share, an item's work is at least its share of t
work-reaches : (inclusive : Bool) (t : ℕ) (x : Item) → t * share x ≤ (releases inclusive t x.period * x.length) * 2 ^ 32
work-reaches inclusive t x =
    let n = releases inclusive t x.period in
    let a = share x in
    let p = x.period in
    let reach : t ≤ n * p = releases-reach inclusive t p (omega arith) in
    let rounded : a * p ≤ x.length * 2 ^ 32 = div-mul-le_self (x.length * 2 ^ 32) p in
    let one : t * a ≤ (n * p) * a = mul-le-mul_right a reach in
    let two : (n * p) * a ≡ n * (a * p) = mul_assoc n p a ∙ ap (λ k. n * k) (mul_comm p a) in
    let three : n * (a * p) ≤ n * (x.length * 2 ^ 32) = mul-le-mul_left n rounded in
    let four : n * (x.length * 2 ^ 32) ≡ (n * x.length) * 2 ^ 32 = sym (mul_assoc n x.length (2 ^ 32)) in
    omega arith

interference-reaches : (inclusive : Bool) (t : ℕ) (xs : List Item) → t * shares xs ≤ interference inclusive xs t * 2 ^ 32
interference-reaches inclusive t [] = omega arith
interference-reaches inclusive t (x ∷ xs) =
    let here = work-reaches inclusive t x in
    let later = interference-reaches inclusive t xs in
    let a : shares (x ∷ xs) ≡ share x + shares xs = sum_by-cons share x xs in
    let b : interference inclusive (x ∷ xs) t ≡ releases inclusive t x.period * x.length + interference inclusive xs t =
    sum_by-cons (λ (y : Item). releases inclusive t y.period * y.length) x xs in
    let c : t * (share x + shares xs) ≡ t * share x + t * shares xs = omega arith in
    let d : t * shares (x ∷ xs) ≡ t * (share x + shares xs) = ap (λ n. t * n) a in
    omega arith

pub overload_never_ends : (inclusive : Bool) (x : Item) (above : List Item) (base t : ℕ) → 2 ^ 32 < share x + shares above → x.length ≤ base → t ≤ x.period → t < base + interference inclusive above t
overload_never_ends inclusive x above base t over own within =
    let a = share x in
    let s = shares above in
    let reach : t * s ≤ interference inclusive above t * 2 ^ 32 = interference-reaches inclusive t above in
    let rounded : a * x.period ≤ x.length * 2 ^ 32 = div-mul-le_self (x.length * 2 ^ 32) x.period in
    let own_part : t * a ≤ x.period * a = mul-le-mul_right a within in
    let turned : x.period * a ≡ a * x.period = mul_comm x.period a in
    let much : t * (2 ^ 32 + 1) ≤ t * (a + s) = mul-le-mul_left t (omega arith) in
    let split : t * (a + s) ≡ t * a + t * s = omega arith in
    omega arith
