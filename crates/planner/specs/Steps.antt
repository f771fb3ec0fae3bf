-- What steps inside the program promise each other. No public contract cites these.
use Rattle.std.specs.Prelude.{◌≡◌, ℕ, ◌+◌, ◌-◌, List, ◌++◌, Ok, Err, Result}
use Rattle.chain_file.specs.declared.readers.Reader.{Reader}
use Rattle.chain_file.specs.Format.{most_chains, records}
use Rattle.chain_file.specs.declared.readers.ReadError.{ReadError}
use Rattle.chain_file.specs.declared.readers.ReadError.TheVariants.{Refused, NoMemory}
use Rattle.chain_file.specs.Refusals.{described}
use Rattle.planner.specs.Printout.{records_text, refusal_line}

-- what a reader has still to give
abbrev pub reader_text : Reader → List ℕ
reader_text r = records_text r.boards (records (most_chains + 1 - r.read) r.read r.rest.now)

-- What is printed once the chains are, `whole` being all that is to be: all of it; or all but the
-- line of the refusal that ends them.
abbrev pub Ends : (whole is : List ℕ) → Result (Unit {0}) ReadError → Type 0
Ends whole is (Ok u) = is ≡ whole
Ends whole is (Err (Refused e)) = is ++ refusal_line (record { at = e.at; why = described e.why }) ≡ whole
Ends whole is (Err NoMemory) = Unit {0}
