-- Sets of places, and what a question needs to be proper. A set is a number: place i is in it if
-- bit i is set.
--   holds set i             place i is in the set
--   with_place set i        the set and place i
--   without_place set i     the set less place i
--   chosen set table        the items at the set's places, in table order
--   Proper, proper          a proper question, in words and as a test
use Rattle.std.specs.Prelude.{◌≡◌, ℕ, ◌+◌, ◌/◌, ◌%◌, ◌^◌, ◌<◌, ◌≤◌, Bool, true, false, cond, not, ◌&&◌, List, [], ◌∷◌, ◌==◌, bit_and, bit_or, bit_xor, nat_le, nat_lt}

unfoldable pub holds : (set place : ℕ) → Bool
holds set i = (set / 2 ^ i % 2) == 1

abbrev pub with_place : (set place : ℕ) → ℕ
with_place set i = bit_or set (2 ^ i)

abbrev pub without_place : (set place : ℕ) → ℕ
without_place set i = cond (holds set i) (bit_xor set (2 ^ i)) set

-- the elements at the set's places, the first standing at place k
abbrev pub chosen_from : {X : Type 0} → (set k : ℕ) → List X → List X
chosen_from set k [] = []
chosen_from set k (x ∷ xs) = cond (holds set k) (x ∷ chosen_from set (k + 1) xs) (chosen_from set (k + 1) xs)

abbrev pub chosen : {X : Type 0} → (set : ℕ) → List X → List X
chosen set table = chosen_from set 0 table

-- the most items of a table: a set has 32 bits
abbrev pub most_items : ℕ
most_items = 32

-- Over a table of n items: few enough, no place outside the table, sets that do not overlap, and
-- neither holds the place asked.
pub record Proper (n place above below : ℕ) : Type 0 where
  pub few : n ≤ most_items
  pub asked_inside : place < n
  pub above_inside : (i : ℕ) → holds above i ≡ true → i < n
  pub below_inside : (i : ℕ) → holds below i ≡ true → i < n
  pub apart : (i : ℕ) → holds above i ≡ true → holds below i ≡ false
  pub not_above : holds above place ≡ false
  pub not_below : holds below place ≡ false

-- the same as a test: a set has no place from n on if it is below 2 ^ n, and two sets do not
-- overlap if they have no bit in common
abbrev pub proper_test : (n place above below : ℕ) → Bool
proper_test n place above below =
    nat_le n most_items
    && (nat_lt place n
    && (nat_lt above (2 ^ n)
    && (nat_lt below (2 ^ n)
    && (bit_and above below == 0
    && (not (holds above place)
    && not (holds below place))))))

unfoldable pub proper : (n place above below : ℕ) → Bool
proper n place above below = proper_test n place above below
