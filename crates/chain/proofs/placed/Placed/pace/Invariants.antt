use Rattle.std.proofs.Common.{◌≡◌, ◌+◌, ◌≤◌}
use Rattle.chain.specs.Drafting.{contents}
use Rattle.chain.specs.Parts.{parts, total}
use Rattle.chain.proofs.PartSteps.{left}
use Rattle.chain.proofs.placed.Placed.pace.Given as goal

abbrev pub invariant-loop-k : goal.invariant-loop-k
invariant-loop-k g l =
    (l.upto ≤ l.deadline)
    × (l.upto + total (left (contents l.self.chain.now) l.self.boards.now l.k) ≡ total (parts (contents l.self.chain.now) l.self.boards.now))
