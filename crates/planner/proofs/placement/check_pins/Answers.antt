use Rattle.std.proofs.Common.{◌≡◌, Some, refl, sym, ◌∙◌, rules}
use Rattle.chain.proofs.Firsts.{left-all, left-passed, left-stands}
use Rattle.planner.specs.Placement.{described, pin_refusal, placement_refusal}
use Rattle.planner.proofs.placement.check_pins.Goals as goal

pub returns-in_err-check_pin : goal.returns-in_err-check_pin
returns-in_err-check_pin c =
    let found : placement_refusal c.args.boards c.args.stages.now ≡ Some (described c.in_err-check_pin.field-0.0) =
    sym c.loop-stage.invariant ∙ left-stands (pin_refusal c.args.boards) c.args.stages.now c.loop-stage.stage-index _ _ c.loop-stage-test.true refl _ (sym c.in_err-check_pin.ensures) in
    search rules

pub loop-stage-preserved : goal.loop-stage-preserved
loop-stage-preserved c =
    left-passed (pin_refusal c.args.boards) c.args.stages.now c.loop-stage.stage-index _ _ c.loop-stage-test.true refl (sym c.in_ok-check_pin.ensures)
    ∙ c.loop-stage.invariant

pub returns : goal.returns
returns c = sym (left-all (pin_refusal c.args.boards) c.args.stages.now c.loop-stage.stage-index c.loop-stage-test.false) ∙ c.loop-stage.invariant
