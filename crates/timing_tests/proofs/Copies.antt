-- A table copied into the front of a longer array. Assumes nothing.
use Rattle.std.proofs.Common.{◌≡◌, ℕ, ◌<◌, List, ◌++◌, length, take, set, sym, ap, ◌∙◌, length-set}
use lib.Seq.{take-append_seam}
use Rattle.std.proofs.lemmas.List.{set-append_left}

-- a write into the front of a row, which is all that is kept
pub front_set : {X : Type 0} (copied xs rest : List X) (i : ℕ) (y : X) → copied ≡ xs → i < length xs → take (length xs) (set (copied ++ rest) i y) ≡ set xs i y
front_set copied xs rest i y same inside =
    ap (λ c. take (length xs) (set (c ++ rest) i y)) same
    ∙ ap (take (length xs)) (set-append_left xs rest i y inside)
    ∙ ap (λ n. take n (set xs i y ++ rest)) (sym (length-set xs i y))
    ∙ take-append_seam (set xs i y) rest
