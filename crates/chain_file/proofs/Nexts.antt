-- What comes next in a file, from what is wrong with a record's bounds and with its body.
use Rattle.std.proofs.Common.{◌≡◌, ℕ, suc, ◌+◌, ◌<◌, eqb, List, [], ◌∷◌, length, Some, None, Option, refl, ap, ◌∙◌, arith}
use Rattle.std.proofs.lemmas.Bool.{eq-eqb}
use Rattle.std.proofs.lemmas.Bool.Decides.{nat_tests}
use Rattle.chain.proofs.Firsts.{none_first}
use Rattle.chain.specs.Drafting.{Contents}
use Rattle.chain.specs.Refusals.{Described, first_of, numbered, unless}
use Rattle.chain_file.specs.Fields.{head, rest, said}
use Rattle.chain_file.specs.Format.{after_record, body, body_refusal, body_size, chain, cut_refusal, fields_refusal, held_by, most_chains, next, record_refusal, records, unless_refused}

-- where the first of two conditions does not stand
second_decides : (a b : Option Described) → a ≡ None → first_of (a ∷ b ∷ []) ≡ b
second_decides None None e = refl
second_decides None (Some w) e = refl
second_decides (Some w) b e = let z : ◌≡◌ {A = ℕ} 0 1 = cc in absurd (omega arith)

module _ (read : ℕ) (bs : List ℕ) (some : 0 < length bs) where
  by_refusal : next read bs ≡ unless_refused (record_refusal read bs) bs
  by_refusal = go bs some
    where
      go : (xs : List ℕ) → 0 < length xs → next read xs ≡ unless_refused (record_refusal read xs) xs
      go [] h = absurd (omega arith)
      go (x ∷ xs) h = refl

  -- where the bounds are right, the body decides
  pub next-by_body : cut_refusal read bs ≡ None → next read bs ≡ unless_refused (body_refusal (body bs)) bs
  next-by_body right = by_refusal ∙ ap (λ o. unless_refused o bs) (second_decides (cut_refusal read bs) (body_refusal (body bs)) right)

-- a cut that is right has room for one record more
pub cut_room : (read : ℕ) (bs : List ℕ) → cut_refusal read bs ≡ None → read < most_chains
cut_room read bs right = grind (arith, nat_tests)

-- where the stage count is right, the fields decide
pub body_by_fields : (bs : List ℕ) → body_size (head bs).stages ≡ length bs → body_refusal bs ≡ fields_refusal (head bs) (rest bs)
body_by_fields bs right =
    let wrong = numbered 15 (length bs ∷ []) in
    second_decides (unless (eqb (body_size (head bs).stages) (length bs)) wrong) (fields_refusal (head bs) (rest bs)) (ap (λ b. unless b wrong) (eq-eqb (body_size (head bs).stages) (length bs) right))

-- a record that is right in its bounds and in its body gives its chain
pub next-chain : (read : ℕ) (bs : List ℕ) → 0 < length bs → cut_refusal read bs ≡ None → body_refusal (body bs) ≡ None → next read bs ≡ chain (said (head (body bs)) (rest (body bs))) (after_record bs)
next-chain read bs some right fine = next-by_body read bs some right ∙ ap (λ o. unless_refused o bs) fine

-- a chain comes next only where nothing is refused, so where sixteen have not been read
chain_unrefused : (o : Option Described) (bs later : List ℕ) (c : Contents) → unless_refused o bs ≡ chain c later → o ≡ None
chain_unrefused None bs later c is = refl
chain_unrefused (Some w) bs later c is = let z : ◌≡◌ {A = ℕ} 0 1 = cc in absurd (omega arith)

pub next-room : (read : ℕ) (bs later : List ℕ) (c : Contents) → next read bs ≡ chain c later → read < most_chains
next-room read [] later c is = let z : ◌≡◌ {A = ℕ} 0 1 = cc in absurd (omega arith)
next-room read (b ∷ bs) later c is =
    cut_room read (b ∷ bs) (none_first (cut_refusal read (b ∷ bs)) (body_refusal (body (b ∷ bs)) ∷ []) (chain_unrefused (record_refusal read (b ∷ bs)) (b ∷ bs) later c is)).0

-- one look at what comes next
pub records-step : (steps read : ℕ) (bs : List ℕ) → records (suc steps) read bs ≡ held_by read (next read bs) (records steps (read + 1))
unfolding records
records-step steps read bs = refl
