use Rattle.std.proofs.Common.{◌≡◌, ◌/◌, ◌<◌, Some, length, sym, ◌∙◌, arith, rules}
use Rattle.chain.specs.Refusals.{described}
use Rattle.chain_file.specs.Format.{rows_refusal}
use Rattle.chain_file.specs.Steps.{stages_in}
use Rattle.chain_file.proofs.Rows.{last_decides, row_passed, row_stands}
use Rattle.chain_file.proofs.fields.check_rows.Goals as goal

pub returns-in_err-check_row : goal.returns-in_err-check_row
returns-in_err-check_row c =
    let rest = c.args.rest.now in
    let inside : c.loop-row.row-index < length rest / 9 = omega (arith, c.as_chunks.ensures.front_len) in
    let found : rows_refusal (stages_in rest) rest ≡ Some (described c.in_err-check_row.field-0.0) =
    sym c.loop-row.invariant ∙ row_stands rest _ _ _ c.as_chunks.ensures.front inside _ (sym c.in_err-check_row.ensures) in
    search rules

pub loop-row-preserved : goal.loop-row-preserved
loop-row-preserved c =
    row_passed c.args.rest.now _ _ _ c.as_chunks.ensures.front (omega (arith, c.as_chunks.ensures.front_len)) (sym c.in_ok-check_row.ensures)
    ∙ c.loop-row.invariant

pub returns : goal.returns
returns c =
    c.check_last.ensures
    ∙ sym (last_decides c.args.rest.now _ c.loop-row.row-index c.as_chunks.ensures.back (omega (arith, c.as_chunks.ensures.front_len)))
    ∙ c.loop-row.invariant
