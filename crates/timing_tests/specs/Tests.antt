-- The board test and the bus test.
--   BoardEnds x above t           the item can end t ticks after its release, on a board
--   BusEnds x above below r       the same on the bus
--   board_time, bus_time          the least such time, computed
--   board_passes, bus_passes      whether there is one
--   BoardResponse, BusResponse    what a question about a table is answered
use Rattle.std.specs.Prelude.{◌≡◌, ℕ, ◌+◌, ◌-◌, ◌≤◌, Bool, true, false, List, ◌∷◌, is_some, Option, nat_le}
use Rattle.std.specs.Option.{option_map}
use Rattle.timing.specs.declared.items.Item.{Item}
use Rattle.timing.specs.RowLaws.{LeastEnd}
use Rattle.timing_tests.specs.Demand.{first_from, interference, longest}

-- On a board a higher item interrupts: t ticks have to cover the item itself and every release of
-- the items above before t.
abbrev pub board_demand : Item → (above : List Item) → ℕ → ℕ
board_demand x above t = x.length + interference false above t

pub record BoardEnds (x : Item) (above : List Item) (t : ℕ) : Type 0 where
  pub begun : 1 ≤ t
  pub within : t ≤ x.window
  pub covered : board_demand x above t ≤ t

-- On the bus a message once begun is not interrupted: w ticks have to cover the longest message
-- among the item and those below, and every release of the items above up to w; then the item
-- takes its length.
abbrev pub bus_demand : Item → (above below : List Item) → ℕ → ℕ
bus_demand x above below w = longest (x ∷ below) + interference true above w

pub record BusEnds (x : Item) (above below : List Item) (r : ℕ) : Type 0 where
  pub wait : ℕ
  pub ends : r ≡ wait + x.length
  pub within : wait + x.length ≤ x.window
  pub covered : bus_demand x above below wait ≤ wait

-- the least of those times: every t from 1 to the window is tried
abbrev pub board_time : Item → (above below : List Item) → Option ℕ
board_time x above below = first_from (λ t. nat_le (board_demand x above t) t) 1 x.window

-- whether there is one
abbrev pub board_passes : Item → (above below : List Item) → Bool
board_passes x above below = is_some (board_time x above below)

abbrev pub bus_time : Item → (above below : List Item) → Option ℕ
bus_time x above below =
    option_map (λ w. w + x.length) (first_from (λ w. nat_le (bus_demand x above below w) w) 0 (x.window + 1 - x.length))

abbrev pub bus_passes : Item → (above below : List Item) → Bool
bus_passes x above below = is_some (bus_time x above below)

-- What the answer to a question about a table is: the least of those times, none if there is none or
-- the question is improper.
abbrev pub BoardResponse : (table : List Item) (place above below : ℕ) → Option ℕ → Type 0
BoardResponse table place above below r =
    LeastEnd (λ x up down. BoardEnds x up) table place above below r

abbrev pub BusResponse : (table : List Item) (place above below : ℕ) → Option ℕ → Type 0
BusResponse table place above below r =
    LeastEnd BusEnds table place above below r
