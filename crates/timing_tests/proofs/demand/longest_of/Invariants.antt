use Rattle.std.proofs.Common.{◌≡◌, take}
use Rattle.timing.specs.Places.{chosen}
use Rattle.timing_tests.specs.Demand.{longest}
use Rattle.timing_tests.proofs.demand.longest_of.Given as goal

abbrev pub invariant-loop-place : goal.invariant-loop-place
invariant-loop-place l = l.most ≡ longest (chosen l.row.set.bits (take l.place l.row.table.now))
