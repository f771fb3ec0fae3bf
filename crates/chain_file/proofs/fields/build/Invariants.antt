use Rattle.std.proofs.Common.{◌≡◌}
use Rattle.chain.specs.Drafting.{waiting}
use Rattle.chain_file.proofs.Saying.{drafted}
use Rattle.chain_file.proofs.fields.build.Given as goal

abbrev pub invariant-loop-row : goal.invariant-loop-row
invariant-loop-row l = waiting l.draft ≡ drafted l.fn.heading l.rest l.row-index
