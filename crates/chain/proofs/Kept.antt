-- Rows that keep their limits go on keeping them when a checked element is added.
use Rattle.std.proofs.Common.{◌≡◌, ℕ, Bool, true, List, [], ◌∷◌, ◌++◌, None, refl, arith}
use Rattle.std.proofs.lemmas.Bool.{and_from, and_parts}
use Rattle.std.proofs.lemmas.Bool.Decides.{nat_tests}
use Rattle.chain.specs.Limits.{all_kept, length_kept, stage_kept}
use Rattle.chain.specs.Drafting.{message_refusal, pin_of, stage_refusal}

pub one_more_kept : {X : Type 0} (kept : X → Bool) (xs : List X) (x : X) → all_kept kept xs ≡ true → kept x ≡ true → all_kept kept (xs ++ x ∷ []) ≡ true
one_more_kept kept [] x row one = and_from (kept x) true one refl
one_more_kept kept (y ∷ ys) x row one =
    let parts = and_parts (kept y) (all_kept kept ys) row in
    and_from (kept y) (all_kept kept (ys ++ x ∷ [])) parts.0 (one_more_kept kept ys x parts.1 one)

pub unrefused_message_kept : (most stages l : ℕ) → message_refusal most stages l ≡ None → length_kept l ≡ true
unrefused_message_kept most stages l e = grind (arith, nat_tests)

pub unrefused_stage_kept : (boards pin l : ℕ) → stage_refusal boards pin l ≡ None → stage_kept boards (record { pin = pin_of pin; length = l }) ≡ true
unrefused_stage_kept boards pin l e = grind (arith, nat_tests)
