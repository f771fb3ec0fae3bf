-- A margin over a test.
use Rattle.std.specs.Prelude.{ℕ, ◌+◌, ◌-◌, max, cond, List, length, Some, None, Option, nat_le, slice_set}
use Rattle.std.proofs.Math.Nat.{le_trans, le-max_left, max-le, sub-le}
use Rattle.std.specs.List.{slice_get}
use Rattle.timing.specs.declared.items.Item.{Item}
use Rattle.timing.specs.Places.{proper}
use Rattle.timing.specs.Rows.{of_item}

-- the item with its window reduced by g ticks, where that leaves its length; it is asked about
-- only there, and elsewhere its window is its length
abbrev pub narrowed : Item → ℕ → Item
narrowed x g =
    record {
      length = x.length;
      period = x.period;
      window = max x.length (x.window - g);
      some = x.some;
      fits = le-max_left x.length (x.window - g);
      ends = max-le (le_trans x.fits x.ends) (le_trans (sub-le x.window g) x.ends);
      few = x.few;
    }

-- the table that the test below is asked about: the same, but for the item asked; none where g
-- ticks less do not leave its length, or where the question is improper
abbrev pub narrowed_table : (g : ℕ) → List Item → (place above below : ℕ) → Option (List Item)
narrowed_table g table place above below =
    cond (proper (length table) place above below)
    (of_item (λ x. cond (nat_le (x.length + g) x.window) (Some (slice_set table place (narrowed x g))) None) None (slice_get table place))
    None

-- what the test below answers about that table, `none` where there is none
abbrev pub of_table : {X : Type 0} → (List Item → ℕ → ℕ → ℕ → X) → X → (place above below : ℕ) → Option (List Item) → X
of_table answer none place above below (Some table) = answer table place above below
of_table answer none place above below None = none

abbrev pub margin : {X : Type 0} → X → (List Item → ℕ → ℕ → ℕ → X) → (g : ℕ) → List Item → (place above below : ℕ) → X
margin none answer g table place above below =
    of_table answer none place above below (narrowed_table g table place above below)
