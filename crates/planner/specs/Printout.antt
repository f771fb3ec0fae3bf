-- Every byte of the print-out.
use Rattle.std.specs.Prelude.{ℕ, cond, List, [], ◌∷◌, ◌++◌, drop, Some, None, codes, decimal, Option, nat_le, slice_index}
use Rattle.std.specs.List.{flat_map}
use Rattle.chain.specs.declared.parts.Windowed.{Windowed}
use Rattle.chain.specs.Drafting.{Contents}
use Rattle.chain.specs.Parts.{parts, total}
use Rattle.chain.specs.Refusals.{Described}
use Rattle.chain.specs.Windows.{windows}
use Rattle.chain_file.specs.Format.{Held, Stop, header_refusal, held}
use Rattle.chain_file.specs.Refusals.{refusal_text}
use Rattle.planner.specs.Placement.{first_boards, placement_refusal}

abbrev pub newline : List ℕ
newline = 10 ∷ []

abbrev pub window_text : Windowed → List ℕ
window_text w = codes " " ++ decimal w.window

abbrev pub windows_text : List Windowed → List ℕ
windows_text ws = codes " windows" ++ flat_map window_text ws

-- what is printed of a chain after its name, its stages being on the boards given
abbrev pub placed_text : Contents → (boards : List ℕ) → List ℕ
placed_text c boards = cond (nat_le (total (parts c boards)) c.deadline) (windows_text (windows c boards)) (codes " long")

abbrev pub refused_text : Described → List ℕ
refused_text why = codes "refused " ++ decimal why.number

abbrev pub answer_text : Option Described → Contents → List ℕ
answer_text (Some why) c = codes " " ++ refused_text why
answer_text None c = placed_text c (first_boards c.stages)

abbrev pub chain_line : (boards : ℕ) → Contents → List ℕ
chain_line boards c = codes "chain " ++ (decimal c.name ++ (answer_text (placement_refusal boards c.stages) c ++ newline))

abbrev pub refusal_line : Stop → List ℕ
refusal_line s = refusal_text s.why s.at ++ newline

abbrev pub stop_text : Option Stop → List ℕ
stop_text None = []
stop_text (Some s) = refusal_line s

abbrev pub records_text : (boards : ℕ) → Held → List ℕ
records_text boards h = flat_map (chain_line boards) h.chains ++ stop_text h.stop

abbrev pub boards_line : ℕ → List ℕ
boards_line boards = codes "boards " ++ (decimal boards ++ newline)

-- a file whose header is refused prints that alone
abbrev pub file_text : Option Described → List ℕ → List ℕ
file_text (Some why) bs = refusal_line (record { at = 0; why = why })
file_text None bs = boards_line (slice_index bs 1) ++ records_text (slice_index bs 1) (held (drop 2 bs))

abbrev pub printout : List ℕ → List ℕ
printout bs = file_text (header_refusal bs) bs
