-- What every timing test owes: four laws about its meaning, a yes or a no for each test value,
-- table, place asked, set above and set below. A law of its own for swapping two neighbours of a
-- table can be added beside them.
use Rattle.std.specs.Prelude.{◌≡◌, ℕ, ◌≤◌, Bool, true, false, List, length, is_some, Some, None, Option}
use Rattle.std.specs.List.{slice_get}
use Rattle.timing.specs.declared.items.Item.{Item}
use Rattle.timing.specs.Places.{chosen, holds, proper, with_place, without_place}
use Rattle.timing.specs.Rows.{of_item}

-- the answer to an improper question is no
abbrev pub ImproperIsNo : {S : Type 0} → (S → List Item → ℕ → ℕ → ℕ → Bool) → Type 0
ImproperIsNo {S} meaning =
    (s : S) (table : List Item) (place above below : ℕ)
    → proper (length table) place above below ≡ false
    → meaning s table place above below ≡ false

-- Two proper questions about equal items, with equal items above and equal items below, have one
-- answer: it depends on nothing else but the test's own settings.
abbrev pub Local : {S : Type 0} → (S → List Item → ℕ → ℕ → ℕ → Bool) → Type 0
Local {S} meaning =
    (s : S) (table table' : List Item) (place place' above above' below below' : ℕ)
    → proper (length table) place above below ≡ true
    → proper (length table') place' above' below' ≡ true
    → slice_get table place ≡ slice_get table' place'
    → chosen above table ≡ chosen above' table'
    → chosen below table ≡ chosen below' table'
    → meaning s table place above below ≡ meaning s table' place' above' below'

-- an item that passes still passes when one item above it is moved below it
abbrev pub StepDown : {S : Type 0} → (S → List Item → ℕ → ℕ → ℕ → Bool) → Type 0
StepDown {S} meaning =
    (s : S) (table : List Item) (place above below i : ℕ)
    → holds above i ≡ true
    → meaning s table place above below ≡ true
    → meaning s table place (without_place above i) (with_place below i) ≡ true

-- an item that passes still passes when one item below it is left out of both sets
abbrev pub Leaving : {S : Type 0} → (S → List Item → ℕ → ℕ → ℕ → Bool) → Type 0
Leaving {S} meaning =
    (s : S) (table : List Item) (place above below i : ℕ)
    → holds below i ≡ true
    → meaning s table place above below ≡ true
    → meaning s table place above (without_place below i) ≡ true

-- What a response owes to the answer and to the window of the item asked: it is there exactly
-- where the item passes, and at most the window.
abbrev pub window_at : (table : List Item) (place : ℕ) → Option ℕ
window_at table place = of_item (λ x. Some x.window) None (slice_get table place)

abbrev pub AtMost : (response window : Option ℕ) → Type 0
AtMost None w = Unit {0}
AtMost (Some r) None = ⊥
AtMost (Some r) (Some w) = r ≤ w

abbrev pub Timely : (passes : Bool) (table : List Item) (place : ℕ) → Option ℕ → Type 0
Timely passes table place response = (is_some response ≡ passes) × AtMost response (window_at table place)
