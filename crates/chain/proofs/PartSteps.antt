-- What one turn of a loop over a chain's stages takes off the parts that are left.
use Rattle.std.proofs.Common.{◌≡◌, ℕ, ◌+◌, ◌≤◌, List, [], ◌∷◌, ◌++◌, length, drop, add-zero, sym, ap, ◌∙◌, arith, ◌<◌, get_or, append_assoc}
use Rattle.std.proofs.lemmas.List.{at_drop_more, drop_all}
use Rattle.std.proofs.lemmas.List.Sums.{sum_by-append, sum_by-cons}
use Rattle.chain.specs.declared.parts.Part.{Part}
use Rattle.chain.specs.declared.parts.Windowed.{Windowed}
use Rattle.chain.specs.declared.stages.Stage.{Stage}
use Rattle.chain.specs.Drafting.{Contents}
use Rattle.chain.specs.Parts.{message_part, parts_from, stage_part, total}
use Rattle.chain.specs.Windows.{windowed}

-- the windows of parts that follow others begin where those end
windowed-append : (deadline sum before : ℕ) (ps qs : List Part) → windowed deadline sum before (ps ++ qs) ≡ windowed deadline sum before ps ++ windowed deadline sum (before + total ps) qs
windowed-append d s b [] qs = ap (λ n. windowed d s n qs) (sym (add-zero b))
windowed-append d s b (p ∷ ps) qs =
    let on : b + p.length + total ps ≡ b + total (p ∷ ps) = omega (arith, sum_by-cons (λ (q : Part). q.length) p ps) in
    ap (λ ws. windowed d s b (p ∷ []) ++ ws)
    (windowed-append d s (b + p.length) ps qs ∙ ap (λ n. windowed d s (b + p.length) ps ++ windowed d s n qs) on)

module _ (chain : Contents) (boards : List ℕ) where
  -- the parts from stage k on, and the message after stage k
  abbrev pub left : ℕ → List Part
  left k = parts_from chain.messages boards k (drop k chain.stages)

  abbrev pub message : ℕ → List Part
  message k = message_part chain.messages boards k

  -- past the last stage no part is left
  pub nothing_left : (k : ℕ) → length chain.stages ≤ k → left k ≡ []
  nothing_left k h = ap (parts_from chain.messages boards k) (drop_all k chain.stages h)

  module _ (k : ℕ) (s : Stage) (inside : k < length chain.stages) (is : s ≡ get_or chain.stages k s) where
    parts_step : left k ≡ stage_part boards k s ∷ (message k ++ left (k + 1))
    parts_step =
        at_drop_more (parts_from chain.messages boards k) chain.stages k s inside
        ∙ ap (λ (x : Stage). stage_part boards k x ∷ (message k ++ left (k + 1))) (sym is)

    pub total-step : total (left k) ≡ s.length + (total (message k) + total (left (k + 1)))
    total-step =
        ap total parts_step
        ∙ sum_by-cons (λ (p : Part). p.length) (stage_part boards k s) (message k ++ left (k + 1))
        ∙ ap (λ n. s.length + n) (sum_by-append (λ (p : Part). p.length) (message k) (left (k + 1)))

    module _ (deadline sum : ℕ) where
      windowed-step : (before : ℕ) → windowed deadline sum before (left k) ≡ windowed deadline sum before (stage_part boards k s ∷ []) ++ (windowed deadline sum (before + total (stage_part boards k s ∷ [])) (message k) ++ windowed deadline sum (before + total (stage_part boards k s ∷ []) + total (message k)) (left (k + 1)))
      windowed-step before =
          let stage = stage_part boards k s ∷ [] in
          ap (windowed deadline sum before) parts_step
          ∙ windowed-append deadline sum before stage (message k ++ left (k + 1))
          ∙ ap (λ ws. windowed deadline sum before stage ++ ws) (windowed-append deadline sum (before + total stage) (message k) (left (k + 1)))

      -- A turn that adds the windows of stage k and of its message: what is in the row and what is
      -- left give the whole as before.
      pub fill_turn : (row row₁ row₂ whole : List Windowed) (before before₁ before₂ : ℕ) (p : Part) (ms : List Part) → p ≡ stage_part boards k s → ms ≡ message k → before₁ ≡ before + total (p ∷ []) → row₁ ≡ row ++ windowed deadline sum before (p ∷ []) → before₂ ≡ before₁ + total ms → row₂ ≡ row₁ ++ windowed deadline sum before₁ ms → row ++ windowed deadline sum before (left k) ≡ whole → row₂ ++ windowed deadline sum before₂ (left (k + 1)) ≡ whole
      fill_turn row row₁ row₂ whole before before₁ before₂ p ms is-p is-ms is-b₁ is-row₁ is-b₂ is-row₂ inv =
          let stage = windowed deadline sum before (p ∷ []) in
          let sent = windowed deadline sum before₁ ms in
          let rest = windowed deadline sum before₂ (left (k + 1)) in
          let step = windowed-step before in
          let outer = append_assoc (row ++ stage) sent rest in
          let inner = append_assoc row stage (sent ++ rest) in
          cc
