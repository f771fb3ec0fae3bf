-- What steps inside the crate promise each other. No public contract cites these.
use Rattle.std.specs.Prelude.{◌≡◌, ℕ, ◌<◌, List, Some, None, Option}
use Rattle.chain.specs.declared.parts.Part.{Part}
use Rattle.chain.specs.declared.placed.Placed.{Placed}
use Rattle.chain.specs.Drafting.{contents}
use Rattle.chain.specs.Parts.{parts}
use Rattle.chain.specs.declared.paces.Pace.{Pace}

-- A pace of some work to be done at a deadline, answered where the work is within the deadline.
-- There is always some work, since a chain has a stage and every stage a length.
abbrev pub Paced : (deadline work : ℕ) → Option Pace → Type 0
Paced deadline work (Some p) = (p.work ≡ work) × (p.deadline ≡ deadline)
Paced deadline work None = deadline < work

-- the parts of a placed chain
abbrev pub parts_of : {S B : ℕ} → Placed S B → List Part
parts_of p = parts (contents p.chain.now) p.boards.now
