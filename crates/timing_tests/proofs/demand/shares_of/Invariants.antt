use Rattle.std.proofs.Common.{◌≡◌, ◌*◌, ◌^◌, ◌≤◌, take}
use Rattle.timing.specs.Places.{chosen}
use Rattle.timing_tests.specs.Steps.{shares}
use Rattle.timing_tests.proofs.demand.shares_of.Given as goal

abbrev pub invariant-loop-place : goal.invariant-loop-place
invariant-loop-place l =
    (l.sum ≡ shares (chosen l.above.set.bits (take l.place l.above.table.now))) × (l.sum ≤ 2 ^ 32 * l.place)
