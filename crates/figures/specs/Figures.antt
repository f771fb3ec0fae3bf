-- Worked figures, stated of the definitions that the contracts of the code cite.
use Rattle.std.specs.Prelude.{◌≡◌, ℕ, List, [], ◌∷◌, map}
use Rattle.chain.specs.declared.parts.Windowed.{Windowed}
use Rattle.chain.specs.declared.stages.Pin.TheVariants.{Free}
use Rattle.chain.specs.declared.stages.Stage.{Stage}
use Rattle.chain.specs.Drafting.{Contents}
use Rattle.chain.specs.Windows.{windows}

-- a chain by its deadline, its stages' lengths and its messages' lengths
abbrev pub free_stage : ℕ → Stage
free_stage l = record { pin = Free; length = l }

abbrev pub chain_of : (deadline : ℕ) (stages messages : List ℕ) → Contents
chain_of d stages messages = record { name = 1; period = d; deadline = d; stages = map free_stage stages; messages = messages }

abbrev pub windows_of : Contents → (boards : List ℕ) → List ℕ
windows_of c boards = map (λ (w : Windowed). w.window) (windows c boards)

pub record Figures : Type 0 where
  -- deadline 12, lengths 2 and 3
  pub two_stages : windows_of (chain_of 12 (2 ∷ 3 ∷ []) (1 ∷ [])) (1 ∷ 1 ∷ []) ≡ 4 ∷ 8 ∷ []
  -- deadline 58, stages 10, 1 and 9: with only a message of 2 after the second sent, and with
  -- that omitted too
  pub message_sent : windows_of (chain_of 58 (10 ∷ 1 ∷ 9 ∷ []) (1 ∷ 2 ∷ [])) (1 ∷ 1 ∷ 2 ∷ []) ≡ 26 ∷ 3 ∷ 5 ∷ 24 ∷ []
  pub message_omitted : windows_of (chain_of 58 (10 ∷ 1 ∷ 9 ∷ []) (1 ∷ 2 ∷ [])) (1 ∷ 1 ∷ 1 ∷ []) ≡ 29 ∷ 2 ∷ 27 ∷ []
