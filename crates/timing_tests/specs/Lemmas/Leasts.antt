-- The least number with a property. Assumes nothing.
use Rattle.std.proofs.Common.{◌≡◌, ℕ, zero, suc, ◌+◌, ◌<◌, ◌≤◌, Bool, true, false, Some, None, Option, sym, refl, ap, ◌∙◌, subst, ⊎_elim, le_antisymm, arith}
use Rattle.std.proofs.lemmas.Bool.{both_ways, cases_Bool, cases_eq, cond-true, cond-false}
use Rattle.std.specs.Option.{option_map}
use Rattle.timing.specs.RowLaws.{Least}
use Rattle.timing.proofs.LeastEnds.{least_like}
use Rattle.timing_tests.specs.Demand.{first_from}

-- there is but one least number
pub least_unique : (P : ℕ → Type 0) (a b : Option ℕ) → Least P a → Least P b → a ≡ b
least_unique P (Some a) (Some b) p q = ap Some (le_antisymm (p.1 b q.0) (q.1 a p.0))
least_unique P (Some a) None p q = absurd (q a p.0)
least_unique P None (Some b) p q = absurd (p b q.0)
least_unique P None None p q = refl

-- the least number, moved by a constant
abbrev pub Moved : (ℕ → Type 0) → ℕ → ℕ → Type 0
Moved P by r = (w : ℕ) × (r ≡ w + by) × P w

pub least_moved : (P : ℕ → Type 0) (by : ℕ) (o : Option ℕ) → Least P o → Least (Moved P by) (option_map (λ w. w + by) o)
least_moved P by (Some a) p = ((a, refl, p.0), λ k q. let h : a ≤ q.0 = p.1 q.0 q.2 in let e = q.1 in omega arith)
least_moved P by None p = λ k q. p q.0 q.2

-- one of the n numbers from k on, and it passes the test
abbrev pub Among : (ℕ → Bool) → (k n t : ℕ) → Type 0
Among test k n t = (k ≤ t) × (t < k + n) × (test t ≡ true)

pub first_least : (test : ℕ → Bool) (k n : ℕ) → Least (Among test k n) (first_from test k n)
first_least test k zero = λ t h. omega arith
first_least test k (suc n) =
    let rest = first_from test (suc k) n in
    ⊎_elim
    (λ e. subst (Least (Among test k (suc n))) (sym (cond-true (test k) (Some k) rest e)) ((omega arith, omega arith, e), λ t h. h.0))
    (λ e. subst (Least (Among test k (suc n))) (sym (cond-false (test k) (Some k) rest e))
    (least_like (Among test (suc k) n) (Among test k (suc n)) rest
    (λ t h. (omega arith, omega arith, h.2))
    (λ t h. (later t e h, omega arith, h.2))
    (first_least test (suc k) n)))
    (cases_Bool (test k))
  where
    later : (t : ℕ) → test k ≡ false → Among test k (suc n) t → suc k ≤ t
    later t e h =
        ⊎_elim (λ same. absurd (both_ways (test t) (ap test (sym same) ∙ e) h.2)) (λ apart. omega arith) (cases_eq k t)

-- so whatever is the least is what trying in turn gives
pub least_is_first : (P : ℕ → Type 0) (test : ℕ → Bool) (k n : ℕ) (o : Option ℕ) → ((t : ℕ) → P t → Among test k n t) → ((t : ℕ) → Among test k n t → P t) → Least P o → o ≡ first_from test k n
least_is_first P test k n o there back p =
    least_unique (Among test k n) o (first_from test k n) (least_like P (Among test k n) o there back p) (first_least test k n)
