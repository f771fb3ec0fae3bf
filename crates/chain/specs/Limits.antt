-- The limits that every chain keeps. Times are in whole ticks.
use Rattle.std.specs.Prelude.{ℕ, Bool, true, ◌&&◌, List, [], ◌∷◌, nat_le}
use Rattle.chain.specs.declared.stages.Pin.{Pin}
use Rattle.chain.specs.declared.stages.Pin.TheVariants.{Free, Board}
use Rattle.chain.specs.declared.stages.Stage.{Stage}

-- The usual kind of chain: six stages at the most, and pins to four boards. Types and definitions
-- take both numbers as parameters; here is the only place in specs/ that fixes them.
abbrev pub most_stages : ℕ
most_stages = 6

abbrev pub most_boards : ℕ
most_boards = 4

-- the longest period, and the longest stage or message
abbrev pub most_ticks : ℕ
most_ticks = 1000000

abbrev pub length_kept : ℕ → Bool
length_kept length = nat_le 1 length && nat_le length most_ticks

abbrev pub times_kept : (period deadline : ℕ) → Bool
times_kept period deadline = nat_le 1 period && (nat_le period most_ticks && (nat_le 1 deadline && nat_le deadline period))

-- a pin names one of the boards 1 to `boards`
abbrev pub pin_kept : (boards : ℕ) → Pin → Bool
pin_kept boards Free = true
pin_kept boards (Board b) = nat_le 1 b && nat_le b boards

abbrev pub stage_kept : (boards : ℕ) → Stage → Bool
stage_kept boards s = pin_kept boards s.pin && length_kept s.length

-- every element of a row passes a test
abbrev pub all_kept : {X : Type 0} → (X → Bool) → List X → Bool
all_kept kept [] = true
all_kept kept (x ∷ xs) = kept x && all_kept kept xs
