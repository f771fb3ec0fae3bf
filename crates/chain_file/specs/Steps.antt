-- What steps inside the crate promise each other. No public contract cites these.
use Rattle.std.specs.Prelude.{◌≡◌, ℕ, ◌+◌, ◌/◌, ◌%◌, ◌<◌, ◌≤◌, List, drop, length, Some, None, Ok, Err, Result, slice_index}
use Rattle.std.specs.Borrow.{Bor}
use Rattle.chain.specs.declared.chains.Chain.{Chain}
use Rattle.chain.specs.declared.headings.Heading.{Heading}
use Rattle.chain.specs.Drafting.{Contents, contents}
use Rattle.chain.specs.Limits.{most_boards, most_stages}
use Rattle.chain_file.specs.declared.readers.ReadError.{ReadError}
use Rattle.chain_file.specs.declared.readers.ReadError.TheVariants.{Refused, NoMemory}
use Rattle.chain_file.specs.declared.refusals.FileRefusal.{FileRefusal}
use Rattle.chain_file.specs.Fields.{head, rest, said}
use Rattle.chain_file.specs.Format.{after_record, body, body_refusal, chain, cut_refusal, header_refusal, most_chains, next, record_refusal, refused, rows_refusal}
use Rattle.chain_file.specs.Refusals.{described}

-- how many stages the rest of a body holds, nine bytes each but for the last, which has five
abbrev pub stages_in : (rest : List ℕ) → ℕ
stages_in rest = length rest / 9 + 1

-- the chain that a heading and the rest of a body say
abbrev pub said_by : Heading → (rest : List ℕ) → Contents
said_by h rest = said (record { name = h.name; period = h.period; deadline = h.deadline; stages = stages_in rest }) rest

-- a header read: the board count, and the bytes after it
abbrev pub Heads : (bs : List ℕ) → Result (ℕ × Bor (List ℕ)) FileRefusal → Type 0
Heads bs (Ok p) = (header_refusal bs ≡ None) × (p.0 ≡ slice_index bs 1) × (p.1.now ≡ drop 2 bs)
Heads bs (Err why) = header_refusal bs ≡ Some (described why)

-- a record cut into its body and the bytes after it
abbrev pub Cuts : (read : ℕ) → List ℕ → Result (Bor (List ℕ) × Bor (List ℕ)) FileRefusal → Type 0
Cuts read bs (Ok p) = (cut_refusal read bs ≡ None) × (p.0.now ≡ body bs) × (p.1.now ≡ after_record bs)
Cuts read bs (Err why) = cut_refusal read bs ≡ Some (described why)

-- a body checked whole: the chain's heading and the rest of the body, which say what the body says
pub record Checked (bs : List ℕ) (heading : Heading) (stages : List ℕ) : Type 0 where
  pub right : body_refusal bs ≡ None
  pub whole : stages ≡ rest bs
  pub size : length stages % 9 ≡ 5
  pub few : stages_in stages ≤ most_stages
  pub fine : rows_refusal (stages_in stages) stages ≡ None
  pub says : said_by heading stages ≡ said (head bs) (rest bs)

abbrev pub Checks : (bs : List ℕ) → Result (Heading × Bor (List ℕ)) FileRefusal → Type 0
Checks bs (Ok p) = Checked bs p.0 p.1.now
Checks bs (Err why) = body_refusal bs ≡ Some (described why)

-- a record checked whole: what its body says, and the bytes after it
abbrev pub RecordChecks : (read : ℕ) → List ℕ → Result (Heading × Bor (List ℕ) × Bor (List ℕ)) FileRefusal → Type 0
RecordChecks read bs (Ok p) =
    (cut_refusal read bs ≡ None) × Checked (body bs) p.0 p.1.now × (p.2.now ≡ after_record bs)
RecordChecks read bs (Err why) = record_refusal read bs ≡ Some (described why)

-- the chain of the record that stands first, and the bytes after it
abbrev pub Records : (read : ℕ) (bs : List ℕ) → Result (Chain most_stages most_boards × Bor (List ℕ)) ReadError → Type 0
Records read bs (Ok p) = (next read bs ≡ chain (contents p.0) p.1.now) × (read < most_chains)
Records read bs (Err (Refused e)) = (next read bs ≡ refused (described e.why)) × (e.at ≡ read + 1)
Records read bs (Err NoMemory) = (c : Contents) × (later : List ℕ) × (next read bs ≡ chain c later)
