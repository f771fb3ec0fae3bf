use Rattle.std.proofs.Common.{◌+◌, ◌^◌, ◌<◌, sym, arith}
use Rattle.std.proofs.lemmas.Bool.{ltb-true}
use Rattle.timing.specs.Rows.{items_of}
use Rattle.timing_tests.specs.Demand.{interference}
use Rattle.timing_tests.specs.Steps.{share, shares}
use Rattle.timing_tests.proofs.Overload.{overload_never_ends}
use denote.Param.{number}
use Rattle.timing_tests.specs.contracts.demand.settled.{INCLUSIVE-type}
use Rattle.timing_tests.proofs.demand.settled.Goals as goal

pub returns-then-is_overload : goal.returns-then-is_overload
returns-then-is_overload g c k covered =
    let inclusive = INCLUSIVE-type (number g.row.INCLUSIVE) in
    let above = items_of c.args.above in
    let over : 2 ^ 32 < share c.args.item + shares above = ltb-true (2 ^ 32) _ (sym c.if-is_overload.ensures) in
    let never : k < c.args.base + interference inclusive above k =
    overload_never_ends inclusive c.args.item above c.args.base k over c.requires.own (omega arith) in
    omega arith
