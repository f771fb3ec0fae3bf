-- Which places a set holds. Assumes nothing.
use Rattle.std.proofs.Common.{◌≡◌, ℕ, zero, suc, ◌+◌, ◌*◌, ◌/◌, ◌%◌, ◌^◌, ◌<◌, ◌≤◌, min, max, true, false, not, ◌&&◌, ◌||◌, eqb, sym, refl, ap, ◌∙◌, ⊎_elim, lt_of_lt_of_le, add-one, arith, pow_mono}
use lib.Bits.{bit_and, bit_or, bit_xor}
use Rattle.std.proofs.Math.Bool.{and-true}
use Rattle.std.proofs.lemmas.Nat.Bits.{bit_at-lt, bit_at-pow_other, bit_at-pow_same, bit_at-zero, bit_at_above, bit_at_and, bit_at_or, bit_at_xor}
use Rattle.std.proofs.lemmas.Nat.{leading_top, pow_pos, pow-add, div_below, le-div}
use Rattle.std.proofs.lemmas.Bool.{and_parts, both_ways, cases_Bool, cases_eq, cases_lt, cond-true, cond-false, eq-eqb, ne_eqb, eqb-true}
use Rattle.std.proofs.lemmas.Bool.Decides.{nat_tests}
use Rattle.timing.specs.Places.{holds, with_place, without_place}

-- tests of bits
or_test : (m a b : ℕ) → m ≡ max a b → a < 2 → b < 2 → eqb m 1 ≡ (eqb b 1 || eqb a 1)
or_test m a b e p q = grind (arith, nat_tests)

drop_test : (m a b : ℕ) → m ≡ (a + b) % 2 → a < 2 → b < 2 → (b ≡ 1 → a ≡ 1) → eqb m 1 ≡ (eqb a 1 && not (eqb b 1))
drop_test m a b e p q r = grind (arith, nat_tests)

and_test : (m a b : ℕ) → m ≡ min a b → a < 2 → b < 2 → eqb m 1 ≡ (eqb a 1 && eqb b 1)
and_test m a b e p q = grind (arith, nat_tests)

-- the set of one place
pub holds-one : (i j : ℕ) → holds (2 ^ i) j ≡ eqb i j
unfolding holds
holds-one i j =
    ⊎_elim
    (λ e. ap (λ n. eqb (2 ^ i / 2 ^ n % 2) 1) (sym e) ∙ ap (λ n. eqb n 1) (bit_at-pow_same i) ∙ sym (eq-eqb i j e))
    (λ n. ap (λ n. eqb n 1) (bit_at-pow_other i j (λ e. n (sym e))) ∙ sym (ne_eqb i j n))
    (cases_eq i j)

pub holds-with : (set i j : ℕ) → holds (with_place set i) j ≡ (eqb i j || holds set j)
unfolding holds
holds-with set i j =
    or_test (bit_or set (2 ^ i) / 2 ^ j % 2) (set / 2 ^ j % 2) (2 ^ i / 2 ^ j % 2) (bit_at_or set (2 ^ i) j) (bit_at-lt set j) (bit_at-lt (2 ^ i) j)
    ∙ ap (λ t. t || holds set j) (holds-one i j)

-- a place taken out of a set that holds it
holds-less : (set i j : ℕ) → holds set i ≡ true → holds (bit_xor set (2 ^ i)) j ≡ (holds set j && not (eqb i j))
unfolding holds
holds-less set i j e =
    let a = set / 2 ^ j % 2 in
    let b = 2 ^ i / 2 ^ j % 2 in
    let was : set / 2 ^ i % 2 ≡ 1 = eqb-true (set / 2 ^ i % 2) 1 e in
    let same : b ≡ 1 → a ≡ 1 =
    λ f. ap (λ n. set / 2 ^ n % 2) (sym (eqb-true i j (sym (holds-one i j) ∙ eq-eqb b 1 f))) ∙ was in
    drop_test (bit_xor set (2 ^ i) / 2 ^ j % 2) a b (bit_at_xor set (2 ^ i) j) (bit_at-lt set j) (bit_at-lt (2 ^ i) j) same
    ∙ ap (λ t. holds set j && not t) (holds-one i j)

-- a place taken out of a set that does not hold it
holds-as_before : (set i j : ℕ) → holds set i ≡ false → holds set j ≡ (holds set j && not (eqb i j))
holds-as_before set i j e =
    ⊎_elim
    (λ f. let out : holds set j ≡ false = ap (holds set) (sym f) ∙ e in rw out refl)
    (λ n. rw (ne_eqb i j n) (sym (and-true (holds set j))))
    (cases_eq i j)

pub holds-without : (set i j : ℕ) → holds (without_place set i) j ≡ (holds set j && not (eqb i j))
holds-without set i j =
    let less = bit_xor set (2 ^ i) in
    ⊎_elim
    (λ e. ap (λ s. holds s j) (cond-true (holds set i) less set e) ∙ holds-less set i j e)
    (λ e. ap (λ s. holds s j) (cond-false (holds set i) less set e) ∙ holds-as_before set i j e)
    (cases_Bool (holds set i))

pub holds-both : (a b i : ℕ) → holds (bit_and a b) i ≡ (holds a i && holds b i)
unfolding holds
holds-both a b i = and_test (bit_and a b / 2 ^ i % 2) (a / 2 ^ i % 2) (b / 2 ^ i % 2) (bit_at_and a b i) (bit_at-lt a i) (bit_at-lt b i)

none_held : (i : ℕ) → holds 0 i ≡ false
unfolding holds
none_held i = ap (λ n. eqb n 1) (bit_at-zero i)

below_its_power : (n : ℕ) → n < 2 ^ n
below_its_power zero = omega arith
below_its_power (suc n) = let e : 2 ^ (n + 1) ≡ 2 ^ n * 2 ^ 1 = pow-add 2 n 1 in let h = below_its_power n in rw (← add-one n) (omega arith)

-- the highest place of a set that is not empty
highest : (set : ℕ) → 0 < set → (i : ℕ) × (holds set i ≡ true) × (set < 2 ^ (i + 1))
unfolding holds
highest set some =
    let top = leading_top set set some (below_its_power set) in
    let i = top.0 in
    let below : set < 2 ^ (i + 1) = rw (add-one i) top.3 in
    let twice : 2 ^ (i + 1) ≡ 2 ^ i * 2 ^ 1 = pow-add 2 i 1 in
    let small : set / 2 ^ i < 2 = div_below set (2 ^ i) 2 (pow_pos i) (omega arith) in
    let large : 1 ≤ set / 2 ^ i = le-div 1 set (2 ^ i) (pow_pos i) (omega arith) in
    let one : set / 2 ^ i % 2 ≡ 1 = omega arith in
    (i, eq-eqb (set / 2 ^ i % 2) 1 one, below)

-- a set has no place from n on just if it is below 2 ^ n
pub inside_says : (n set i : ℕ) → set < 2 ^ n → holds set i ≡ true → i < n
unfolding holds
inside_says n set i small e =
    ⊎_elim (λ h. h)
    (λ h. let z : 0 ≡ 1 = sym (bit_at_above set n i small h) ∙ eqb-true (set / 2 ^ i % 2) 1 e in omega arith)
    (cases_lt i n)

pub inside_from : (n set : ℕ) → ((i : ℕ) → holds set i ≡ true → i < n) → set < 2 ^ n
inside_from n set inside =
    ⊎_elim
    (λ some.
    let top = highest set some in
    let h : top.0 < n = inside top.0 top.1 in
    lt_of_lt_of_le top.2 (pow_mono {i = top.0 + 1} {j = n} (omega arith)))
    (λ none. let e : set ≡ 0 = omega arith in let p = pow_pos n in omega arith)
    (cases_lt 0 set)

-- two sets have no place in common just if they have no bit in common
pub apart_says : (a b i : ℕ) → bit_and a b ≡ 0 → holds a i ≡ true → holds b i ≡ false
apart_says a b i none e =
    let both : (holds a i && holds b i) ≡ false = sym (holds-both a b i) ∙ ap (λ s. holds s i) none ∙ none_held i in
    sym (ap (λ t. t && holds b i) e) ∙ both

pub apart_from : (a b : ℕ) → ((i : ℕ) → holds a i ≡ true → holds b i ≡ false) → bit_and a b ≡ 0
apart_from a b apart =
    ⊎_elim
    (λ some.
    let top = highest (bit_and a b) some in
    let i = top.0 in
    let both = and_parts (holds a i) (holds b i) (sym (holds-both a b i) ∙ top.1) in
    absurd (both_ways (holds b i) (apart i both.0) both.1))
    (λ none. omega arith)
    (cases_lt 0 (bit_and a b))

-- a set of k bits holds no place from k on
pub holds-past : (k set i : ℕ) → set < 2 ^ k → k ≤ i → holds set i ≡ false
holds-past k set i small past =
    ⊎_elim (λ e. let h : i < k = inside_says k set i small e in let no : ⊥ = omega arith in absurd no) (λ e. e) (cases_Bool (holds set i))

-- a set of 32 bits holds no place from 32 on
pub none_past : (set i : ℕ) → set < 2 ^ 32 → 32 ≤ i → holds set i ≡ false
unfolding holds
none_past set i small past = ap (λ n. eqb n 1) (bit_at_above set 32 i small past)
