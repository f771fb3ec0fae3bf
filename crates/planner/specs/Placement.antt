-- The first allowed placement of a chain, by smaller boards first: pinned stages on their pins,
-- free stages on board 1.
use Rattle.std.specs.Prelude.{ℕ, Bool, true, List, [], ◌∷◌, map, Option, nat_le}
use Rattle.chain.specs.declared.stages.Pin.{Pin}
use Rattle.chain.specs.declared.stages.Pin.TheVariants.{Free, Board}
use Rattle.chain.specs.declared.stages.Stage.{Stage}
use Rattle.chain.specs.Refusals.{Described, first_of, numbered, unless}
use Rattle.planner.specs.declared.placement.PinRefusal.{PinRefusal}
use Rattle.planner.specs.declared.placement.PinRefusal.TheVariants.{PinAbove}

-- the refusal, with its number and the pin
abbrev pub described : PinRefusal → Described
described (PinAbove pin) = numbered 9 (pin ∷ [])

abbrev pub first_board : Pin → ℕ
first_board Free = 1
first_board (Board b) = b

abbrev pub first_boards : List Stage → List ℕ
first_boards stages = map (λ (s : Stage). first_board s.pin) stages

-- a pin above the board count, at the first stage that has one
abbrev pub pin_within : (boards : ℕ) → Pin → Bool
pin_within boards Free = true
pin_within boards (Board b) = nat_le b boards

abbrev pub pin_refusal : (boards : ℕ) → Stage → Option Described
pin_refusal boards s = unless (pin_within boards s.pin) (numbered 9 (first_board s.pin ∷ []))

abbrev pub placement_refusal : (boards : ℕ) → List Stage → Option Described
placement_refusal boards stages = first_of (map (pin_refusal boards) stages)
