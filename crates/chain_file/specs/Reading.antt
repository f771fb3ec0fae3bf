-- What the reader's calls answer, by the format.
use Rattle.std.specs.Prelude.{◌≡◌, ℕ, ◌+◌, List, drop, Some, None, Ok, Err, Option, Result, MatchOption, slice_index}
use Rattle.chain.specs.declared.chains.Chain.{Chain}
use Rattle.chain.specs.Drafting.{Contents, contents}
use Rattle.chain.specs.Limits.{most_boards, most_stages}
use Rattle.chain_file.specs.declared.readers.Read.{Read}
use Rattle.chain_file.specs.declared.readers.Read.TheVariants as answer
use Rattle.chain_file.specs.declared.readers.ReadError.{ReadError}
use Rattle.chain_file.specs.declared.readers.ReadError.TheVariants.{Refused, NoMemory}
use Rattle.chain_file.specs.declared.readers.Reader.{Reader}
use Rattle.chain_file.specs.declared.readers.RecordRefusal.{RecordRefusal}
use Rattle.chain_file.specs.Format.{chain, header_refusal, next, refused, the_end}
use Rattle.chain_file.specs.Refusals.{described}

-- A call that opens a file.
abbrev pub Opens : List ℕ → Result Reader RecordRefusal → Type 0
Opens bs (Ok r) =
    (header_refusal bs ≡ None) × (r.boards ≡ slice_index bs 1) × (r.read ≡ 0) × (r.rest.now ≡ drop 2 bs)
Opens bs (Err e) = (header_refusal bs ≡ Some (described e.why)) × (e.at ≡ 0)

-- A call that reads one record, by what comes next in the file. `was` and `is` are the reader, and
-- `before` and `after` the chain place, at the call and at its return.
abbrev pub Reads : (was is : Reader) (before after : Option (Chain most_stages most_boards)) → Result Read ReadError → Type 0
Reads was is before after (Ok answer.Chain) =
    MatchOption after ⊥ (λ (c : Chain most_stages most_boards). next was.read was.rest.now ≡ chain (contents c) is.rest.now)
    × (is.read ≡ was.read + 1)
    × (is.boards ≡ was.boards)
Reads was is before after (Ok answer.End) = (next was.read was.rest.now ≡ the_end) × (is ≡ was) × (after ≡ before)
Reads was is before after (Err (Refused e)) =
    (next was.read was.rest.now ≡ refused (described e.why)) × (e.at ≡ was.read + 1) × (is ≡ was) × (after ≡ before)
Reads was is before after (Err NoMemory) =
    ((c : Contents) × (later : List ℕ) × (next was.read was.rest.now ≡ chain c later)) × (is ≡ was) × (after ≡ before)
