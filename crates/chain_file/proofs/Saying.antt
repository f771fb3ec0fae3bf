-- The chain that a checked body says, drafted row by row.
use Rattle.std.proofs.Common.{◌≡◌, ℕ, ◌+◌, ◌-◌, ◌/◌, ◌<◌, ◌≤◌, cond, ltb, List, [], ◌∷◌, map, length, get_or, None, Ok, Err, Option, Result, refl, sym, ap, subst, ◌∙◌, arith}
use Rattle.std.specs.Result.{IsOk}
use Rattle.std.proofs.lemmas.List.FromFn.{get_or-range_with_len, length-range_with_len, length-map-range_with_len, map-range_with_len_more}
use Rattle.std.proofs.lemmas.Bool.{lt-ltb}
use Rattle.std.proofs.lemmas.Bool.Decides.{nat_tests}
use Rattle.std.specs.List.{range_with_len}
use Rattle.chain.proofs.Firsts.{none_first, none_stands}
use Rattle.chain.specs.declared.headings.Heading.{Heading}
use Rattle.chain.specs.declared.drafts.GivenBack.{GivenBack}
use Rattle.chain.specs.Drafting.{Answers, Contents, length_refusal, message_refusal, says, stage_refusal, start_refusal, with_message, with_stage}
use Rattle.chain.specs.Limits.{most_boards}
use Rattle.chain.specs.Refusals.{Described}
use Rattle.chain_file.specs.declared.fields.Head.{Head}
use Rattle.chain_file.specs.Fields.{message_length, pin, said, stage, stage_length}
use Rattle.chain_file.specs.Format.{fields_refusal, rows_refusal, stage_row_refusal}
use Rattle.chain_file.specs.Steps.{said_by, stages_in}

-- the first k rows: as many stages, each with the message after it
abbrev pub drafted : Heading → (rest : List ℕ) → ℕ → Contents
drafted h rest k = says h (map (stage rest) (range_with_len 0 k)) (map (message_length rest) (range_with_len 0 k))

pub length-drafted : (h : Heading) (rest : List ℕ) (k : ℕ) → length (drafted h rest k).stages ≡ k
length-drafted h rest k = length-map-range_with_len (stage rest) 0 k

-- one row more, and the last stage
pub drafted_more : (h : Heading) (rest : List ℕ) (k : ℕ) → with_message (with_stage (drafted h rest k) (pin rest k) (stage_length rest k)) (message_length rest k) ≡ drafted h rest (k + 1)
drafted_more h rest k =
    let stages = sym (map-range_with_len_more (stage rest) 0 k k (omega arith)) in
    let messages = sym (map-range_with_len_more (message_length rest) 0 k k (omega arith)) in
    λ i. says h (stages i) (messages i)

pub drafted_last : (h : Heading) (rest : List ℕ) (k : ℕ) → k ≡ length rest / 9 → with_stage (drafted h rest k) (pin rest k) (stage_length rest k) ≡ said_by h rest
drafted_last h rest k is =
    let n : k + 1 ≡ stages_in rest = omega arith in
    let m : k ≡ stages_in rest - 1 = omega arith in
    let stages = sym (map-range_with_len_more (stage rest) 0 k k (omega arith)) ∙ (λ i. map (stage rest) (range_with_len 0 (n i))) in
    λ i. says h (stages i) (map (message_length rest) (range_with_len 0 (m i)))

-- the first k stages, with the messages between them
abbrev pub said_upto : Head → (rest : List ℕ) → ℕ → Contents
said_upto h rest k = said (record { name = h.name; period = h.period; deadline = h.deadline; stages = k }) rest

-- one message and one stage more
pub said_more : (h : Head) (rest : List ℕ) (k : ℕ) → 1 ≤ k → with_stage (with_message (said_upto h rest k) (message_length rest (k - 1))) (pin rest k) (stage_length rest k) ≡ said_upto h rest (k + 1)
said_more h rest k some =
    let next : k - 1 + 1 ≡ k + 1 - 1 = omega arith in
    let stages = map-range_with_len_more (stage rest) 0 k k (omega arith) in
    let messages = map-range_with_len_more (message_length rest) 0 (k - 1) (k - 1) (omega arith) in
    let on = sym messages ∙ ap (λ n. map (message_length rest) (range_with_len 0 n)) next in
    λ i. record { name = h.name; period = h.period; deadline = h.deadline; stages = sym stages i; messages = on i }

-- what is said up to k has k stages
pub length-said : (h : Head) (rest : List ℕ) (k : ℕ) → length (said_upto h rest k).stages ≡ k
length-said h rest k = length-map-range_with_len (stage rest) 0 k

-- where nothing is wrong with the fields
module _ (h : Head) (rest : List ℕ) (checked : fields_refusal h rest ≡ None) where
  -- nothing is wrong with the rows
  rows_pass : rows_refusal h.stages rest ≡ None
  rows_pass =
      (none_first (rows_refusal h.stages rest) [] (none_first (start_refusal h.name h.period h.deadline) (rows_refusal h.stages rest ∷ []) checked).1).0

  -- nothing is wrong with row k
  row_passes : (k : ℕ) → k < h.stages → stage_row_refusal h.stages rest k ≡ None
  row_passes k inside =
      let here : k ≡ get_or (range_with_len 0 h.stages) k k = omega (arith, get_or-range_with_len 0 h.stages k k inside) in
      ap (stage_row_refusal h.stages rest) here
      ∙ none_stands (stage_row_refusal h.stages rest) (range_with_len 0 h.stages) k k rows_pass (omega (arith, length-range_with_len 0 h.stages))

  -- nothing is wrong with stage k
  pub stage_passes : (k : ℕ) → k < h.stages → stage_refusal most_boards (pin rest k) (stage_length rest k) ≡ None
  stage_passes k inside = (none_first (stage_refusal most_boards (pin rest k) (stage_length rest k)) _ (row_passes k inside)).0

  -- nothing is wrong with the message after stage k
  pub message_passes : (k : ℕ) → k + 1 < h.stages → length_refusal (message_length rest k) ≡ None
  message_passes k inside =
      let message = cond (ltb (k + 1) h.stages) (length_refusal (message_length rest k)) None in
      sym (ap (λ b. cond b (length_refusal (message_length rest k)) None) (lt-ltb (k + 1) h.stages inside))
      ∙ (none_first message [] (none_first (stage_refusal most_boards (pin rest k) (stage_length rest k)) (message ∷ []) (row_passes k (omega arith))).1).0

pub message_fits : (most stages l : ℕ) → stages < most → length_refusal l ≡ None → message_refusal most stages l ≡ None
message_fits most stages l few none = grind (arith, nat_tests)

-- a drafting call with nothing wrong is not refused, and gives the next draft
module _ {D N : Type 0} (why : Option Described) (draft : D) (P : N → Type 0) where
  pub not_refused : (r : Result N (GivenBack D)) → Answers why draft P r → why ≡ None → IsOk r
  not_refused (Ok n) answer none = refl
  not_refused (Err e) answer none = let z : ◌≡◌ {A = ℕ} 0 1 = cc in absurd (omega arith)

  pub given_next : (r : Result N (GivenBack D)) (n : N) → Answers why draft P r → r ≡ Ok n → P n
  given_next r n answer is = (subst (Answers why draft P) is answer).1
