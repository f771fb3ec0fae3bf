use Rattle.std.proofs.Common.{◌≡◌, ◌+◌, ◌<◌, ◌≤◌, false}
use Rattle.timing.specs.Places.{chosen}
use Rattle.timing_tests.specs.Steps.{NoneBefore, overload}
use denote.Param.{number}
use Rattle.timing_tests.specs.contracts.demand.settled.{INCLUSIVE-type}
use Rattle.timing_tests.proofs.demand.settled.Given as goal

-- Each turn raises t, nothing before t covers its demand, and past the first turns the items leave
-- something of the board or of the bus, as far as their shares tell.
abbrev pub invariant-loop-turn : goal.invariant-loop-turn
invariant-loop-turn g l =
    (l.base + l.turn ≤ l.t)
    × NoneBefore (INCLUSIVE-type (number g.row.INCLUSIVE)) (chosen l.above.set.bits l.above.table.now) l.base l.t
    × (8 < l.turn → overload l.item (chosen l.above.set.bits l.above.table.now) ≡ false)
