-- The parts of a placed chain. A placement is a row of boards, stage by stage; a stage past the
-- row's end counts as on board 0.
use Rattle.std.specs.Prelude.{ℕ, ◌+◌, Bool, cond, not, ◌&&◌, List, [], ◌∷◌, ◌++◌, length, sum_by, ◌==◌, nat_lt, slice_index}
use Rattle.chain.specs.declared.parts.Part.{Part}
use Rattle.chain.specs.declared.parts.Place.TheVariants.{Board, Bus}
use Rattle.chain.specs.declared.stages.Stage.{Stage}
use Rattle.chain.specs.Drafting.{Contents}

-- the message after stage k (from 0) is omitted where the stages beside it share a board
abbrev pub sent : (boards : List ℕ) → ℕ → Bool
sent boards k = not (slice_index boards k == slice_index boards (k + 1))

abbrev pub stage_part : (boards : List ℕ) → ℕ → Stage → Part
stage_part boards k s = record { place = Board (slice_index boards k); stage = k + 1; length = s.length }

-- the message after stage k, where there is one and it is sent
abbrev pub message_part : (messages boards : List ℕ) → ℕ → List Part
message_part messages boards k =
    cond (nat_lt k (length messages) && sent boards k) ((record { place = Bus; stage = k + 1; length = slice_index messages k }) ∷ []) []

-- the parts from stage k on
abbrev pub parts_from : (messages boards : List ℕ) → ℕ → List Stage → List Part
parts_from messages boards k [] = []
parts_from messages boards k (s ∷ stages) =
    stage_part boards k s ∷ (message_part messages boards k ++ parts_from messages boards (k + 1) stages)

abbrev pub parts : Contents → (boards : List ℕ) → List Part
parts c boards = parts_from c.messages boards 0 c.stages

abbrev pub total : List Part → ℕ
total ps = sum_by (λ (p : Part). p.length) ps
