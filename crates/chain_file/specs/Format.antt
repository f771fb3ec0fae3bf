-- The chain file: which chains its bytes hold, or which refusal comes at which record.
use Rattle.std.specs.Prelude.{ℕ, zero, suc, ◌+◌, ◌*◌, Bool, false, cond, ◌&&◌, ◌||◌, List, [], ◌∷◌, map, length, take, drop, Some, None, Option, ◌==◌, nat_le, nat_lt, slice_index}
use Rattle.std.specs.List.{range_with_len}
use Rattle.chain.specs.Drafting.{Contents, length_refusal, stage_refusal, start_refusal}
use Rattle.chain.specs.Limits.{most_boards, most_stages}
use Rattle.chain.specs.Refusals.{Described, first_of, numbered, unless}
use Rattle.chain_file.specs.declared.fields.Head.{Head}
use Rattle.chain_file.specs.Fields.{head, message_length, pin, rest, said, stage_length, two}

abbrev pub most_chains : ℕ
most_chains = 16

-- The header: byte 0 is the version, byte 1 the board count.
abbrev pub header_refusal : List ℕ → Option Described
header_refusal bs = first_of (
    unless (nat_le 1 (length bs)) (numbered 14 [])
    ∷ unless (slice_index bs 0 == 1) (numbered 13 (slice_index bs 0 ∷ []))
    ∷ unless (nat_le 2 (length bs)) (numbered 14 [])
    ∷ unless (nat_le 1 (slice_index bs 1) && nat_le (slice_index bs 1) most_boards) (numbered 5 (slice_index bs 1 ∷ []))
    ∷ [])

-- a body of n stages has 7 + 9n bytes
abbrev pub body_size : ℕ → ℕ
body_size n = 7 + 9 * n

-- one of the sizes for 1 to 6 stages
abbrev pub one_of : List ℕ → ℕ → Bool
one_of [] n = false
one_of (m ∷ ms) n = n == m || one_of ms n

abbrev pub size_kept : ℕ → Bool
size_kept n = one_of (map body_size (range_with_len 1 most_stages)) n

-- what is wrong with stage k of n and with the message after it
abbrev pub stage_row_refusal : (n : ℕ) (rest : List ℕ) → ℕ → Option Described
stage_row_refusal n rest k = first_of (
    stage_refusal most_boards (pin rest k) (stage_length rest k)
    ∷ cond (nat_lt (k + 1) n) (length_refusal (message_length rest k)) None
    ∷ [])

abbrev pub rows_refusal : (n : ℕ) (rest : List ℕ) → Option Described
rows_refusal n rest = first_of (map (stage_row_refusal n rest) (range_with_len 0 n))

-- the fields, in the order in which they stand
abbrev pub fields_refusal : Head → (rest : List ℕ) → Option Described
fields_refusal h rest = first_of (start_refusal h.name h.period h.deadline ∷ rows_refusal h.stages rest ∷ [])

-- what is wrong with a body: its stage count, then its fields
abbrev pub body_refusal : List ℕ → Option Described
body_refusal body = first_of (
    unless (body_size (head body).stages == length body) (numbered 15 (length body ∷ []))
    ∷ fields_refusal (head body) (rest body)
    ∷ [])

-- A record: the length of its body in two bytes, then the body.
abbrev pub body : List ℕ → List ℕ
body bs = take (two bs 0) (drop 2 bs)

abbrev pub after_record : List ℕ → List ℕ
after_record bs = drop (2 + two bs 0) bs

-- what is wrong with the record that stands first in bs, `read` records being read before it:
-- first with where it begins and ends, then with its body
abbrev pub cut_refusal : (read : ℕ) → List ℕ → Option Described
cut_refusal read bs = first_of (
    unless (nat_lt read most_chains) (numbered 16 [])
    ∷ unless (nat_le 2 (length bs)) (numbered 14 [])
    ∷ unless (size_kept (two bs 0)) (numbered 15 (two bs 0 ∷ []))
    ∷ unless (nat_le (2 + two bs 0) (length bs)) (numbered 14 [])
    ∷ [])

abbrev pub record_refusal : (read : ℕ) → List ℕ → Option Described
record_refusal read bs = first_of (cut_refusal read bs ∷ body_refusal (body bs) ∷ [])

-- What comes next in a file: its end, a refusal, or a chain and the bytes after its record.
pub data Next : Type 0 where
  the_end : Next
  refused : Described → Next
  chain : Contents → List ℕ → Next

abbrev pub unless_refused : Option Described → List ℕ → Next
unless_refused None bs = chain (said (head (body bs)) (rest (body bs))) (after_record bs)
unless_refused (Some why) bs = refused why

abbrev pub next : (read : ℕ) → List ℕ → Next
next read [] = the_end
next read (b ∷ bs) = unless_refused (record_refusal read (b ∷ bs)) (b ∷ bs)

-- What the records of a file hold: the chains up to its end or up to the first refusal, and that
-- refusal with the record where it came, records counting from 1.
pub record Stop : Type 0 where
  pub at : ℕ
  pub why : Described

pub record Held : Type 0 where
  pub chains : List Contents
  pub stop : Option Stop

abbrev pub held_by : (read : ℕ) → Next → (List ℕ → Held) → Held
held_by read the_end later = record { chains = []; stop = None }
held_by read (refused why) later = record { chains = []; stop = Some (record { at = read + 1; why = why }) }
held_by read (chain c bs) later = record { chains = c ∷ (later bs).chains; stop = (later bs).stop }

-- `steps` bounds the looks at what comes next. With sixteen records read comes the end or a
-- refusal, so seventeen looks are enough.
unfoldable pub records : (steps read : ℕ) → List ℕ → Held
records zero read bs = record { chains = []; stop = None }
records (suc steps) read bs = held_by read (next read bs) (records steps (read + 1))

abbrev pub held : List ℕ → Held
held bs = records (most_chains + 1) 0 bs
