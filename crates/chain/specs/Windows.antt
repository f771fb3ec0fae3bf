-- The windows of a placed chain's parts. The ends are what is defined; a window is the way from
-- one end to the next, so that rounding never adds up.
use Rattle.std.specs.Prelude.{◌≡◌, ℕ, ◌+◌, ◌-◌, ◌*◌, ◌/◌, ◌<◌, ◌≤◌, List, [], ◌∷◌, take, Ok, Err, vec_items, sum_by, Result}
use Rattle.std.specs.List.{AllByRecursion}
use Rattle.chain.specs.declared.parts.Part.{Part}
use Rattle.chain.specs.declared.parts.PartRow.{PartRow}
use Rattle.chain.specs.declared.parts.TooLong.{TooLong}
use Rattle.chain.specs.declared.parts.Windowed.{Windowed}
use Rattle.chain.specs.Drafting.{Contents}
use Rattle.chain.specs.Parts.{parts, total}

-- The end of a part, counted from the chain's release: of all `sum` ticks of work, `upto` are
-- done when the part ends.
abbrev pub end : (deadline sum upto : ℕ) → ℕ
end deadline sum upto = deadline * upto / sum

-- parts with their windows, `before` being the ticks of work of the parts before them
abbrev pub windowed : (deadline sum before : ℕ) → List Part → List Windowed
windowed deadline sum before [] = []
windowed deadline sum before (p ∷ ps) =
    (record { part = p; window = end deadline sum (before + p.length) - end deadline sum before })
    ∷ windowed deadline sum (before + p.length) ps

abbrev pub windows : Contents → (boards : List ℕ) → List Windowed
windows c boards = windowed c.deadline (total (parts c boards)) 0 (parts c boards)

-- the work of parts with windows, and their time
abbrev pub work : List Windowed → ℕ
work ws = sum_by (λ (w : Windowed). w.part.length) ws

abbrev pub time : List Windowed → ℕ
time ws = sum_by (λ (w : Windowed). w.window) ws

-- What an engineer asks of windows: whatever parts have passed, the time is that of the deadline
-- in proportion to their work, rounded down; all windows together fill the deadline exactly; and
-- each holds its part.
pub record Fill (deadline : ℕ) (ws : List Windowed) : Type 0 where
  pub ends : (k : ℕ) → time (take k ws) ≡ end deadline (work ws) (work (take k ws))
  pub whole : time ws ≡ deadline
  pub each : AllByRecursion (λ (w : Windowed). (w.part.length ≤ w.window) × (w.window ≤ deadline)) ws

-- The answer of placing a chain: too long exactly where the parts exceed the deadline, and then
-- the row is as it was.
abbrev pub Places : {S : ℕ} → Contents → (boards : List ℕ) → (was is : PartRow S) → Result (Unit {0}) TooLong → Type 0
Places c boards was is (Ok u) =
    (total (parts c boards) ≤ c.deadline) × (vec_items is.parts ≡ windows c boards) × Fill c.deadline (vec_items is.parts)
Places c boards was is (Err e) = (c.deadline < total (parts c boards)) × (is ≡ was)
