-- The board test and the bus test: the time that is computed is the least one. Assumes nothing.
use Rattle.std.proofs.Common.{◌≡◌, ℕ, ◌+◌, ◌-◌, ◌<◌, true, false, leb, List, ◌∷◌, Some, None, Option, ap, subst, ◌∙◌, arith}
use Rattle.std.proofs.lemmas.Bool.{le-leb, leb-true}
use Rattle.std.specs.Option.{option_map}
use Rattle.timing.specs.declared.items.Item.{Item}
use Rattle.timing.specs.Laws.{AtMost}
use Rattle.timing.specs.RowLaws.{Least}
use Rattle.timing.proofs.LeastEnds.{least_like}
use Rattle.timing_tests.specs.Demand.{first_from, longest}
use Rattle.timing_tests.specs.Steps.{Covered}
use Rattle.timing_tests.specs.Tests.{BoardEnds, BusEnds, board_demand, board_time, bus_demand, bus_time}
use Rattle.timing_tests.specs.Lemmas.Leasts.{Among, Moved, first_least, least_is_first, least_moved}

-- A time covers the demand of a board item just if trying every t from 1 to the window would take
-- it: no t below the item's own length does.
board_there : (x : Item) (above : List Item) (t : ℕ) → Covered false above x.length x.window t → Among (λ k. leb (board_demand x above k) k) 1 x.window t
board_there x above t h = (omega arith, omega arith, le-leb (board_demand x above t) t h.1)

board_back : (x : Item) (above : List Item) (t : ℕ) → Among (λ k. leb (board_demand x above k) k) 1 x.window t → Covered false above x.length x.window t
board_back x above t h = (omega arith, leb-true (board_demand x above t) t h.2)

pub board_time_is : (x : Item) (above below : List Item) (o : Option ℕ) → Least (Covered false above x.length x.window) o → o ≡ board_time x above below
board_time_is x above below o h =
    least_is_first (Covered false above x.length x.window) (λ k. leb (board_demand x above k) k) 1 x.window o (board_there x above) (board_back x above) h

pub board_time-least : (x : Item) (above below : List Item) → Least (BoardEnds x above) (board_time x above below)
board_time-least x above below =
    least_like (Among (λ k. leb (board_demand x above k) k) 1 x.window) (BoardEnds x above) (board_time x above below)
    (λ t h. record { begun = h.0; within = omega arith; covered = leb-true (board_demand x above t) t h.2 })
    (λ t h. (h.begun, omega arith, le-leb (board_demand x above t) t h.covered))
    (first_least (λ k. leb (board_demand x above k) k) 1 x.window)

-- the same on the bus, for the ticks before the item begins
bus_there : (x : Item) (above below : List Item) (w : ℕ) → Covered true above (longest (x ∷ below)) (x.window - x.length) w → Among (λ k. leb (bus_demand x above below k) k) 0 (x.window + 1 - x.length) w
bus_there x above below w h = (omega arith, omega arith, le-leb (bus_demand x above below w) w h.1)

bus_back : (x : Item) (above below : List Item) (w : ℕ) → Among (λ k. leb (bus_demand x above below k) k) 0 (x.window + 1 - x.length) w → Covered true above (longest (x ∷ below)) (x.window - x.length) w
bus_back x above below w h = (omega arith, leb-true (bus_demand x above below w) w h.2)

pub bus_time_is : (x : Item) (above below : List Item) (o : Option ℕ) → Least (Covered true above (longest (x ∷ below)) (x.window - x.length)) o → option_map (λ w. w + x.length) o ≡ bus_time x above below
bus_time_is x above below o h =
    ap (option_map (λ w. w + x.length))
    (least_is_first (Covered true above (longest (x ∷ below)) (x.window - x.length)) (λ k. leb (bus_demand x above below k) k) 0 (x.window + 1 - x.length) o (bus_there x above below) (bus_back x above below) h)

pub bus_time_some : (x : Item) (above below : List Item) (w blocking : ℕ) → blocking ≡ longest (x ∷ below) → Least (Covered true above blocking (x.window - x.length)) (Some w) → Some (w + x.length) ≡ bus_time x above below
bus_time_some x above below w blocking is h = bus_time_is x above below (Some w) (subst (λ n. Least (Covered true above n (x.window - x.length)) (Some w)) is h)

pub bus_time_none : (x : Item) (above below : List Item) (o : Option ℕ) (blocking : ℕ) → o ≡ None → blocking ≡ longest (x ∷ below) → Least (Covered true above blocking (x.window - x.length)) None → o ≡ bus_time x above below
bus_time_none x above below o blocking none is h = none ∙ bus_time_is x above below None (subst (λ n. Least (Covered true above n (x.window - x.length)) None) is h)

pub bus_time-least : (x : Item) (above below : List Item) → Least (BusEnds x above below) (bus_time x above below)
bus_time-least x above below =
    let test = λ (k : ℕ). leb (bus_demand x above below k) k in
    let n = x.window + 1 - x.length in
    least_like (Moved (Among test 0 n) x.length) (BusEnds x above below) (bus_time x above below)
    (λ r h. record { wait = h.0; ends = h.1; within = (let b : h.0 < 0 + n = h.2.1 in omega arith); covered = leb-true (bus_demand x above below h.0) h.0 h.2.2 })
    (λ r h. (h.wait, h.ends, (omega arith, (let b = h.within in omega arith), le-leb (bus_demand x above below h.wait) h.wait h.covered)))
    (least_moved (Among test 0 n) x.length (first_from test 0 n) (first_least test 0 n))

-- neither is past the window
board_within : (x : Item) (above : List Item) (o : Option ℕ) → Least (BoardEnds x above) o → AtMost o (Some x.window)
board_within x above (Some t) h = h.0.within
board_within x above None h = tt

pub board_time-within : (x : Item) (above below : List Item) → AtMost (board_time x above below) (Some x.window)
board_time-within x above below = board_within x above (board_time x above below) (board_time-least x above below)

bus_within : (x : Item) (above below : List Item) (o : Option ℕ) → Least (BusEnds x above below) o → AtMost o (Some x.window)
bus_within x above below (Some r) h = let e = h.0.ends in let b = h.0.within in omega arith
bus_within x above below None h = tt

pub bus_time-within : (x : Item) (above below : List Item) → AtMost (bus_time x above below) (Some x.window)
bus_time-within x above below = bus_within x above below (bus_time x above below) (bus_time-least x above below)
