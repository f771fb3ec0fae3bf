use Rattle.std.proofs.Common.{◌≡◌, ◌-◌, ◌≤◌, ◌++◌, string_bytes}
use Rattle.chain_file.specs.Format.{most_chains}
use Rattle.planner.specs.Steps.{reader_text}
use Rattle.planner.proofs.printout.Printer.put_chains.Given as goal

abbrev pub invariant-loop-place : goal.invariant-loop-place
invariant-loop-place l = record {
  few : l.reader.read ≤ most_chains;
  text : string_bytes l.self.text ++ reader_text l.reader ≡ string_bytes l.initial.self.text ++ reader_text l.initial.reader;
}

abbrev pub decreases-loop-place : goal.decreases-loop-place
decreases-loop-place l = most_chains - l.reader.read
