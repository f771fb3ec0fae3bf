use Rattle.std.proofs.Common.{◌≡◌, ◌+◌, ◌≤◌, ◌++◌, vec_items, vec_len, vec_capacity}
use Rattle.chain.specs.Drafting.{contents}
use Rattle.chain.specs.Parts.{total}
use Rattle.chain.specs.Windows.{windowed, windows}
use Rattle.chain.proofs.PartSteps.{left}
use Rattle.chain.proofs.windows.fill.Given as goal

abbrev pub invariant-loop-k : goal.invariant-loop-k
invariant-loop-k g l =
    (l.before + total (left (contents l.placed.chain.now) l.placed.boards.now l.k) ≡ l.pace.work)
    × (vec_items l.row ++ windowed l.pace.deadline l.pace.work l.before (left (contents l.placed.chain.now) l.placed.boards.now l.k) ≡ windows (contents l.placed.chain.now) l.placed.boards.now)
    × (vec_len l.row ≤ l.k + l.k)
    × (vec_capacity l.row ≡ vec_capacity l.initial.row)
