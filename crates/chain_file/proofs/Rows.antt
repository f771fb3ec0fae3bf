-- The rows of a body's stages, cut from the rest of the body: nine bytes for each but the last.
use Rattle.std.proofs.Common.{◌≡◌, ℕ, zero, suc, ◌+◌, ◌*◌, ◌/◌, ◌<◌, ◌≤◌, List, ◌∷◌, [], map, length, get_or, take, drop, Some, None, Option, nat_lt, slice_index, add-zero, refl, sym, ap, ◌∙◌, arith}
use Rattle.std.proofs.lemmas.Bool.{lt-ltb, cond-true, cond-false}
use Rattle.std.proofs.lemmas.Bool.Decides.{nat_tests}
use Rattle.std.proofs.lemmas.List.{get_or-take, get_or-drop, drop-drop, drop_all}
use Rattle.std.proofs.lemmas.List.FromFn.{get_or-range_with_len, length-range_with_len}
use Rattle.std.specs.List.{range_with_len}
use Rattle.chain.proofs.Firsts.{left, left-passed, left-stands, none_first, none_stands, step}
use Rattle.std.specs.Simd.{first_chunks}
use Rattle.chain.specs.Drafting.{length_refusal, stage_refusal}
use Rattle.chain.specs.Limits.{most_boards}
use Rattle.chain.specs.Refusals.{Described, first_of}
use Rattle.chain_file.specs.Fields.{four, message_length, pin, stage_length}
use Rattle.chain_file.specs.Format.{rows_refusal, stage_row_refusal}
use Rattle.chain_file.specs.Steps.{stages_in}

-- row k of the rows that are cut off first
pub row_cut : {X : Type 0} (n rows : ℕ) (xs : List X) (k : ℕ) (d : List X) → k < rows → get_or (first_chunks n rows xs) k d ≡ take n (drop (n * k) xs)
row_cut n zero xs k d h = absurd (omega arith)
row_cut n (suc rows) xs zero d h =
    let none : 0 ≡ n * zero = omega arith in
    ap (λ m. take n (drop m xs)) none
row_cut n (suc rows) xs (suc k) d h =
    let on : n + n * k ≡ n * suc k = omega arith in
    row_cut n rows (drop n xs) k d (omega arith)
    ∙ ap (take n) (drop-drop (n * k) n xs ∙ ap (λ m. drop m xs) on)

-- four bytes that stand elsewhere are the same number
four_same : (row rest : List ℕ) (at to : ℕ) → ((j : ℕ) → j < 4 → slice_index row (at + j) ≡ slice_index rest (to + j)) → four row at ≡ four rest to
four_same row rest at to same =
    let first : slice_index row at ≡ slice_index rest to = ap (slice_index row) (sym (add-zero at)) ∙ same 0 (omega arith) ∙ ap (slice_index rest) (add-zero to) in
    λ i. first i * 16777216 + same 1 (omega arith) i * 65536 + same 2 (omega arith) i * 256 + same 3 (omega arith) i

-- a row whose bytes are those of row k
pub record IsRow (rest : List ℕ) (k bytes : ℕ) (row : List ℕ) : Type 0 where
  same : (j : ℕ) → j < bytes → slice_index row j ≡ slice_index rest (9 * k + j)

pub IsRow-cut : (rest row : List ℕ) (k : ℕ) → row ≡ take 9 (drop (9 * k) rest) → IsRow rest k 9 row
IsRow-cut rest row k is = record { same = λ j h. ap (λ r. slice_index r j) is ∙ get_or-take 9 (drop (9 * k) rest) j 0 h ∙ get_or-drop (9 * k) rest j 0 }

pub IsRow-last : (rest row : List ℕ) (k : ℕ) → row ≡ drop (9 * k) rest → IsRow rest k 5 row
IsRow-last rest row k is = record { same = λ j h. ap (λ r. slice_index r j) is ∙ get_or-drop (9 * k) rest j 0 }

module _ (rest row : List ℕ) (k bytes : ℕ) (some : 5 ≤ bytes) (r : IsRow rest k bytes row) where
  pub pin_in : pin row 0 ≡ pin rest k
  pin_in = r.same 0 (omega arith) ∙ ap (slice_index rest) (add-zero (9 * k))

  pub stage_length-in : stage_length row 0 ≡ stage_length rest k
  stage_length-in =
      four_same row rest 1 (9 * k + 1) (λ j h. r.same (1 + j) (omega arith) ∙ (let e : 9 * k + (1 + j) ≡ 9 * k + 1 + j = omega arith in ap (slice_index rest) e))

  pub stage_refusal-in : stage_refusal most_boards (pin row 0) (stage_length row 0) ≡ stage_refusal most_boards (pin rest k) (stage_length rest k)
  stage_refusal-in = λ i. stage_refusal most_boards (pin_in i) (stage_length-in i)

module _ (rest row : List ℕ) (k : ℕ) (r : IsRow rest k 9 row) where
  pub message_length-in : message_length row 0 ≡ message_length rest k
  message_length-in =
      four_same row rest 5 (9 * k + 5) (λ j h. r.same (5 + j) (omega arith) ∙ (let e : 9 * k + (5 + j) ≡ 9 * k + 5 + j = omega arith in ap (slice_index rest) e))

  pub row_refusal-in : (n : ℕ) → k + 1 < n → stage_row_refusal 2 row 0 ≡ stage_row_refusal n rest k
  row_refusal-in n h =
      (λ i. first_of (stage_refusal-in rest row k 9 (omega arith) r i ∷ length_refusal (message_length-in i) ∷ []))
      ∙ ap (λ o. first_of (stage_refusal most_boards (pin rest k) (stage_length rest k) ∷ o ∷ [])) (sym (cond-true (nat_lt (k + 1) n) _ None (lt-ltb (k + 1) n h)))

pub last_refusal-in : (rest row : List ℕ) (k n : ℕ) → IsRow rest k 5 row → k + 1 ≡ n → stage_row_refusal 1 row 0 ≡ stage_row_refusal n rest k
last_refusal-in rest row k n r is =
    ap (λ o. first_of (o ∷ None ∷ [])) (stage_refusal-in rest row k 5 (omega arith) r)
    ∙ ap (λ o. first_of (stage_refusal most_boards (pin rest k) (stage_length rest k) ∷ o ∷ [])) (sym (cond-false (nat_lt (k + 1) n) (length_refusal (message_length rest k)) None (grind (arith, nat_tests))))

-- what is wrong from stage k on
abbrev pub left_from : (rest : List ℕ) → ℕ → Option Described
left_from rest k = left (stage_row_refusal (stages_in rest) rest) (range_with_len 0 (stages_in rest)) k

first_alone : (o : Option Described) → first_of (o ∷ []) ≡ o
first_alone None = refl
first_alone (Some why) = refl

-- no stage of a body that is checked has anything wrong with it
stage_fine : (rest : List ℕ) (k : ℕ) → rows_refusal (stages_in rest) rest ≡ None → k < stages_in rest → stage_row_refusal (stages_in rest) rest k ≡ None
stage_fine rest k checked inside =
    let n = stages_in rest in
    let at : k ≡ get_or (range_with_len 0 n) k k = omega (arith, get_or-range_with_len 0 n k k inside) in
    ap (stage_row_refusal n rest) at ∙ none_stands (stage_row_refusal n rest) (range_with_len 0 n) k k checked (omega (arith, length-range_with_len 0 n))

module _ (rest : List ℕ) (rows : List (List ℕ)) (k : ℕ) (d : List ℕ) (cut : rows ≡ first_chunks 9 (length rest / 9) rest) (inside : k < length rest / 9) where
  pub row_is : IsRow rest k 9 (get_or rows k d)
  row_is = IsRow-cut rest (get_or rows k d) k (ap (λ rs. get_or rs k d) cut ∙ row_cut 9 (length rest / 9) rest k d inside)

  here : stage_row_refusal 2 (get_or rows k d) 0 ≡ stage_row_refusal (stages_in rest) rest k
  here = row_refusal-in rest (get_or rows k d) k row_is (stages_in rest) (omega arith)

  pub row_stands : (why : Described) → stage_row_refusal 2 (get_or rows k d) 0 ≡ Some why → left_from rest k ≡ Some why
  row_stands why is =
      left-stands (stage_row_refusal (stages_in rest) rest) (range_with_len 0 (stages_in rest)) k k k
      (omega (arith, length-range_with_len 0 (stages_in rest)))
      (omega (arith, get_or-range_with_len 0 (stages_in rest) k k))
      why (sym here ∙ is)

  pub row_passed : stage_row_refusal 2 (get_or rows k d) 0 ≡ None → left_from rest (k + 1) ≡ left_from rest k
  row_passed none =
      left-passed (stage_row_refusal (stages_in rest) rest) (range_with_len 0 (stages_in rest)) k k k
      (omega (arith, length-range_with_len 0 (stages_in rest)))
      (omega (arith, get_or-range_with_len 0 (stages_in rest) k k))
      (sym here ∙ none)

  -- nothing is wrong with a row of a body that is checked
  pub row_fine : rows_refusal (stages_in rest) rest ≡ None → (stage_refusal most_boards (pin (get_or rows k d) 0) (stage_length (get_or rows k d) 0) ≡ None) × (length_refusal (message_length (get_or rows k d) 0) ≡ None)
  row_fine checked =
      let row = get_or rows k d in
      let both = none_first (stage_refusal most_boards (pin row 0) (stage_length row 0)) _ (here ∙ stage_fine rest k checked (omega arith)) in
      (both.0, (none_first (length_refusal (message_length row 0)) [] both.1).0)

pub last_decides : (rest last : List ℕ) (k : ℕ) → last ≡ drop (length rest / 9 * 9) rest → k ≡ length rest / 9 → left_from rest k ≡ stage_row_refusal 1 last 0
last_decides rest last k cut is =
    let n = stages_in rest in
    let condition = stage_row_refusal n rest in
    let xs = range_with_len 0 n in
    let at : length rest / 9 * 9 ≡ 9 * k = omega arith in
    let none : map condition (drop (k + 1) xs) ≡ [] = ap (map condition) (drop_all (k + 1) xs (omega (arith, length-range_with_len 0 n))) in
    step condition xs k k k (omega (arith, length-range_with_len 0 n)) (omega (arith, get_or-range_with_len 0 n k k))
    ∙ ap (λ os. first_of (condition k ∷ os)) none
    ∙ first_alone (condition k)
    ∙ sym (last_refusal-in rest last k n (IsRow-last rest last k (cut ∙ ap (λ m. drop m rest) at)) (omega arith))

module _ (rest last : List ℕ) (cut : last ≡ drop (length rest / 9 * 9) rest) where
  pub last_is : IsRow rest (length rest / 9) 5 last
  last_is =
      let at : length rest / 9 * 9 ≡ 9 * (length rest / 9) = omega arith in
      IsRow-last rest last (length rest / 9) (cut ∙ ap (λ m. drop m rest) at)

  pub last_fine : rows_refusal (stages_in rest) rest ≡ None → stage_refusal most_boards (pin last 0) (stage_length last 0) ≡ None
  last_fine checked =
      (none_first (stage_refusal most_boards (pin last 0) (stage_length last 0)) _
      (last_refusal-in rest last (length rest / 9) (stages_in rest) last_is refl ∙ stage_fine rest (length rest / 9) checked (omega arith))).0
