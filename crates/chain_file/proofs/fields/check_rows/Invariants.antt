use Rattle.std.proofs.Common.{◌≡◌}
use Rattle.chain_file.specs.Format.{rows_refusal}
use Rattle.chain_file.specs.Steps.{stages_in}
use Rattle.chain_file.proofs.Rows.{left_from}
use Rattle.chain_file.proofs.fields.check_rows.Given as goal

abbrev pub invariant-loop-row : goal.invariant-loop-row
invariant-loop-row l = left_from l.rest l.row-index ≡ rows_refusal (stages_in l.rest) l.rest
