-- A test described by the item asked and by the rows of items above and below it, as a test of
-- tables and sets.
--   items_of row            the items of a row
--   by_rows none answer     the answer for the item asked and its rows, as one to a question
use Rattle.std.specs.Prelude.{ℕ, cond, List, length, Some, None, Option}
use Rattle.std.specs.List.{slice_get}
use Rattle.timing.specs.declared.items.Item.{Item}
use Rattle.timing.specs.declared.rows.Row.{Row}
use Rattle.timing.specs.Places.{chosen, proper}

-- the items at the places of a row's set, in table order
abbrev pub items_of : Row → List Item
items_of row = chosen row.set.bits row.table.now

-- what a question about an item gives, or else what is given where there is none
abbrev pub of_item : {X : Type 0} → (Item → X) → X → Option Item → X
of_item f none (Some x) = f x
of_item f none None = none

-- an answer for the item and the rows above and below, `none` for an improper question
abbrev pub by_rows : {X : Type 0} → X → (Item → List Item → List Item → X) → List Item → ℕ → ℕ → ℕ → X
by_rows none answer table place above below =
    cond (proper (length table) place above below)
    (of_item (λ x. answer x (chosen above table) (chosen below table)) none (slice_get table place))
    none
