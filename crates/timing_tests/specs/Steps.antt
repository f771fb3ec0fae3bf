-- What steps inside the crate promise each other. No public contract cites these.
use Rattle.std.specs.Prelude.{◌≡◌, ℕ, ◌+◌, ◌*◌, ◌/◌, ◌^◌, ◌<◌, ◌≤◌, min, Bool, true, false, List, length, take, Some, None, sum_by, Option, nat_le, nat_lt}
use Rattle.timing.specs.declared.items.Item.{Item}
use Rattle.timing_tests.specs.Demand.{interference}
use Rattle.timing_tests.specs.Margin.{narrowed_table}

-- how often an item is released inside its first period
abbrev pub first : (inclusive : Bool) (t : ℕ) → ℕ
first false t = min 1 t
first true t = 1

-- a time of at most `limit` that covers `base` ticks and what the items above bring
abbrev pub Covered : (inclusive : Bool) (above : List Item) (base limit t : ℕ) → Type 0
Covered inclusive above base limit t = (t ≤ limit) × (base + interference inclusive above t ≤ t)

-- no time before t does
abbrev pub NoneBefore : (inclusive : Bool) (above : List Item) (base t : ℕ) → Type 0
NoneBefore inclusive above base t = (k : ℕ) → k < t → k < base + interference inclusive above k

-- what an item takes of a board or of the bus, in units of 2 ^ 32 to the whole, rounded down
abbrev pub share : Item → ℕ
share x = x.length * 2 ^ 32 / x.period

abbrev pub shares : List Item → ℕ
shares xs = sum_by share xs

-- together with the item they take more than the whole
abbrev pub overload : Item → (above : List Item) → Bool
overload x above = nat_lt (2 ^ 32) (share x + shares above)

-- an item whose window was reduced by g ticks, or none where that does not leave its length
abbrev pub Tightened : Item → (g : ℕ) → Option Item → Type 0
Tightened x g (Some y) =
    (nat_le (x.length + g) x.window ≡ true) × (y.length ≡ x.length) × (y.period ≡ x.period) × (y.window + g ≡ x.window)
Tightened x g None = nat_le (x.length + g) x.window ≡ false

-- a copy that begins with the table that a test under a margin is asked about, or none
abbrev pub Narrowed : (g : ℕ) → List Item → (place above below : ℕ) → Option (List Item) → Type 0
Narrowed g table place above below (Some copy) =
    (length table ≤ 32) × (narrowed_table g table place above below ≡ Some (take (length table) copy))
Narrowed g table place above below None = narrowed_table g table place above below ≡ None
