use Rattle.std.proofs.Common.{◌≡◌, ◌*◌, ◌≤◌, take}
use Rattle.timing.specs.Places.{chosen}
use Rattle.timing_tests.specs.Demand.{interference}
use denote.Param.{number}
use Rattle.timing_tests.specs.contracts.demand.interference_of.{INCLUSIVE-type}
use Rattle.timing_tests.proofs.demand.interference_of.Given as goal

abbrev pub invariant-loop-place : goal.invariant-loop-place
invariant-loop-place g l =
    (l.sum ≡ interference (INCLUSIVE-type (number g.row.INCLUSIVE)) (chosen l.above.set.bits (take l.place l.above.table.now)) l.t)
    × (l.sum ≤ 2000000 * l.place)
