use Rattle.std.proofs.Common.{get_or, sym, subst}
use Rattle.std.proofs.lemmas.Option.{slice_get-get_or}
use Rattle.timing.specs.Places.{chosen}
use Rattle.timing.specs.RowLaws.{Least}
use Rattle.timing.proofs.LeastEnds.{least_asked}
use Rattle.timing.proofs.row_test.RowTest.least_end.Goals as goal

pub returns-clause-least : goal.returns-clause-least
returns-clause-least g c =
    let s = c.args.self.now in
    let q = c.args.question in
    let table = q.table.now in
    let x = get_or table q.place c.index-question-question.result in
    let up = chosen q.above.bits table in
    let down = chosen q.below.bits table in
    let proper = c.is_proper.ensures.means.0 c.if-not-is_proper.false in
    let at = slice_get-get_or table q.place c.index-question-question.result proper.asked_inside in
    least_asked (g.Self.RowTest.Ends s) table q.place q.above.bits q.below.bits x c.time_of.result proper at
    (subst (Least (g.Self.RowTest.Ends s x up down)) (sym c.time_of.ensures) (g.met.Self.RowTest.least s x up down))
