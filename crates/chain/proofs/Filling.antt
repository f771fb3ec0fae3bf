-- Windows fill the time to the deadline, and each holds its part.
use Rattle.std.proofs.Common.{◌≡◌, ℕ, zero, suc, ◌+◌, ◌-◌, ◌≤◌, true, leb, List, [], ◌∷◌, ◌++◌, length, take, sym, refl, ap, subst, ◌∙◌, add-zero, zero-add, arith}
use Rattle.std.proofs.lemmas.List.Sums.{sum_by-cons}
use Rattle.std.proofs.lemmas.Bool.{and_parts, leb-true}
use Rattle.std.specs.List.{AllByRecursion}
use Rattle.chain.specs.declared.parts.Part.{Part}
use Rattle.chain.specs.declared.parts.Windowed.{Windowed}
use Rattle.chain.specs.declared.stages.Stage.{Stage}
use Rattle.chain.specs.Limits.{all_kept, length_kept, most_ticks, pin_kept, stage_kept}
use Rattle.chain.specs.Parts.{message_part, parts_from, stage_part, total}
use Rattle.chain.specs.Windows.{Fill, end, time, windowed, work}
use Rattle.chain.proofs.Ends.{end-at_last, end-at_start, end-within, ends_apart}

module _ (deadline sum : ℕ) (some : 1 ≤ sum) (fits : sum ≤ deadline) where
  windows-add_up : (before : ℕ) (ps : List Part) → time (windowed deadline sum before ps) + end deadline sum before ≡ end deadline sum (before + total ps)
  windows-add_up b [] = omega (arith, ap (end deadline sum) (add-zero b))
  windows-add_up b (p ∷ ps) =
      let next = b + p.length in
      let w : Windowed = record { part = p; window = end deadline sum next - end deadline sum b } in
      let on : next + total ps ≡ b + total (p ∷ ps) = omega (arith, sum_by-cons (λ (q : Part). q.length) p ps) in
      omega (
        arith,
        sum_by-cons (λ (v : Windowed). v.window) w (windowed deadline sum next ps),
        windows-add_up next ps,
        ends_apart deadline sum b p.length some fits,
        ap (end deadline sum) on,
      )

  each_holds_its_part : (before : ℕ) (ps : List Part) → before + total ps ≤ sum → AllByRecursion (λ (w : Windowed). (w.part.length ≤ w.window) × (w.window ≤ deadline)) (windowed deadline sum before ps)
  each_holds_its_part b [] h = tt
  each_holds_its_part b (p ∷ ps) h =
      let inside : b + p.length + total ps ≤ sum = omega (arith, sum_by-cons (λ (q : Part). q.length) p ps) in (
        (omega (arith, ends_apart deadline sum b p.length some fits), omega (arith, end-within deadline sum (b + p.length) (omega arith))),
        each_holds_its_part (b + p.length) ps inside,
      )

work-windowed : (deadline sum before : ℕ) (ps : List Part) → work (windowed deadline sum before ps) ≡ total ps
work-windowed d s b [] = refl
work-windowed d s b (p ∷ ps) =
    let w : Windowed = record { part = p; window = end d s (b + p.length) - end d s b } in
    omega (
      arith,
      sum_by-cons (λ (v : Windowed). v.part.length) w (windowed d s (b + p.length) ps),
      sum_by-cons (λ (q : Part). q.length) p ps,
      work-windowed d s (b + p.length) ps,
    )

take-windowed : (deadline sum before k : ℕ) (ps : List Part) → take k (windowed deadline sum before ps) ≡ windowed deadline sum before (take k ps)
take-windowed d s b zero ps = refl
take-windowed d s b (suc k) [] = refl
take-windowed d s b (suc k) (p ∷ ps) = ap (λ ws. windowed d s b (p ∷ []) ++ ws) (take-windowed d s (b + p.length) k ps)

pub windows-fill : (deadline : ℕ) (ps : List Part) → 1 ≤ total ps → total ps ≤ deadline → Fill deadline (windowed deadline (total ps) 0 ps)
windows-fill deadline ps some fits = record { ends = ends_at; whole = add_up ps ∙ end-at_last deadline (total ps) some; each = each_holds_its_part deadline (total ps) some fits 0 ps (omega arith) }
  where
    add_up : (qs : List Part) → time (windowed deadline (total ps) 0 qs) ≡ end deadline (total ps) (total qs)
    add_up qs = omega (arith, windows-add_up deadline (total ps) some fits 0 qs, end-at_start deadline (total ps), ap (end deadline (total ps)) (zero-add (total qs)))

    ends_at : (k : ℕ) → time (take k (windowed deadline (total ps) 0 ps)) ≡ end deadline (work (windowed deadline (total ps) 0 ps)) (work (take k (windowed deadline (total ps) 0 ps)))
    ends_at k =
        let front = take-windowed deadline (total ps) 0 k ps in
        ap time front
        ∙ add_up (take k ps)
        ∙ (λ i. end deadline (sym (work-windowed deadline (total ps) 0 ps) i) (sym (ap work front ∙ work-windowed deadline (total ps) 0 (take k ps)) i))

-- the same of a row that is known to hold them
pub row_fills : (deadline : ℕ) (row : List Windowed) (ps : List Part) → row ≡ windowed deadline (total ps) 0 ps → 1 ≤ total ps → total ps ≤ deadline → Fill deadline row
row_fills deadline row ps is some fits = subst (Fill deadline) (sym is) (windows-fill deadline ps some fits)

-- a chain has a stage, and a stage has a length
pub some_work : (most : ℕ) (messages boards : List ℕ) (stages : List Stage) → 1 ≤ length stages → all_kept (stage_kept most) stages ≡ true → 1 ≤ total (parts_from messages boards 0 stages)
some_work most messages boards [] some kept = absurd (omega arith)
some_work most messages boards (s ∷ stages) some kept =
    let first = (and_parts (pin_kept most s.pin) (length_kept s.length) (and_parts (stage_kept most s) (all_kept (stage_kept most) stages) kept).0).1 in
    let long = leb-true 1 s.length (and_parts (leb 1 s.length) (leb s.length most_ticks) first).0 in
    omega (arith, sum_by-cons (λ (p : Part). p.length) (stage_part boards 0 s) (message_part messages boards 0 ++ parts_from messages boards 1 stages))
