-- What a test described by the item asked and by the rows of items above and below it owes, and
-- what it is answered about a table.
--   Least P o        o is the least number with the property P, or none has it
--   LeastEnd         what a question about a table is answered
--   some_time        whether there is a time
--   Within           no time is past the window
--   RowStepDown, RowLeaving   step-down and leaving in terms of rows
use Rattle.std.specs.Prelude.{◌≡◌, ℕ, ◌≤◌, Bool, true, List, ◌∷◌, ◌++◌, length, is_some, Some, None, Option}
use Rattle.std.specs.List.{slice_get}
use Rattle.timing.specs.declared.items.Item.{Item}
use Rattle.timing.specs.Laws.{AtMost}
use Rattle.timing.specs.Places.{Proper, chosen}

abbrev pub Least : (ℕ → Type 0) → Option ℕ → Type 0
Least P (Some t) = P t × ((k : ℕ) → P k → t ≤ k)
Least P None = (k : ℕ) → P k → ⊥

-- Of a table: the least time at which the item asked can end with the items of one set above it
-- and those of the other below it; none if there is no such time or the question is improper.
pub record Asked (table : List Item) (place above below : ℕ) (Ends : Item → List Item → List Item → Type 0) : Type 0 where
  pub proper : Proper (length table) place above below
  pub item : Item
  pub is : slice_get table place ≡ Some item
  pub ends : Ends item (chosen above table) (chosen below table)

abbrev pub LeastEnd : (Ends : Item → List Item → List Item → ℕ → Type 0) → (table : List Item) (place above below : ℕ) → Option ℕ → Type 0
LeastEnd Ends table place above below r =
    Least (λ t. Asked table place above below (λ x up down. Ends x up down t)) r

abbrev pub some_time : {S : Type 0} → (S → Item → List Item → List Item → Option ℕ) → S → Item → List Item → List Item → Bool
some_time time s x above below = is_some (time s x above below)

abbrev pub Within : {S : Type 0} → (S → Item → List Item → List Item → Option ℕ) → Type 0
Within {S} time =
    (s : S) (x : Item) (above below : List Item) → AtMost (time s x above below) (Some x.window)

-- `y` is the item moved or left out
abbrev pub RowStepDown : {S : Type 0} → (S → Item → List Item → List Item → Bool) → Type 0
RowStepDown {S} passes =
    (s : S) (x y : Item) (above above' below below' : List Item)
    → passes s x (above ++ (y ∷ above')) (below ++ below') ≡ true
    → passes s x (above ++ above') (below ++ (y ∷ below')) ≡ true

abbrev pub RowLeaving : {S : Type 0} → (S → Item → List Item → List Item → Bool) → Type 0
RowLeaving {S} passes =
    (s : S) (x y : Item) (above below below' : List Item)
    → passes s x above (below ++ (y ∷ below')) ≡ true
    → passes s x above (below ++ below') ≡ true
