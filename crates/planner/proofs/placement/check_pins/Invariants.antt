use Rattle.std.proofs.Common.{◌≡◌}
use Rattle.chain.proofs.Firsts.{left}
use Rattle.planner.specs.Placement.{pin_refusal, placement_refusal}
use Rattle.planner.proofs.placement.check_pins.Given as goal

abbrev pub invariant-loop-stage : goal.invariant-loop-stage
invariant-loop-stage l = left (pin_refusal l.boards) l.stages l.stage-index ≡ placement_refusal l.boards l.stages
