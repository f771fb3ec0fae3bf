-- A text that a loop makes piece by piece.
use Rattle.std.proofs.Common.{◌≡◌, ℕ, ◌+◌, ◌<◌, ◌≤◌, List, ◌++◌, length, get_or, take, sym, ap, ◌∙◌, append_assoc}
use Rattle.std.proofs.lemmas.List.{flat_map_more, take_all, take_more}
use Rattle.std.specs.List.{flat_map}

module _ {X : Type 0} (piece : X → List ℕ) (start : List ℕ) (xs : List X) (i : ℕ) where
  -- one piece more
  pub joined_turn : (text next : List ℕ) (d : X) → i < length xs → text ≡ start ++ flat_map piece (take i xs) → next ≡ text ++ piece (get_or xs i d) → next ≡ start ++ flat_map piece (take (i + 1) xs)
  joined_turn text next d inside so_far added =
      added
      ∙ ap (λ t. t ++ piece (get_or xs i d)) so_far
      ∙ flat_map_more piece start (take i xs) (get_or xs i d)
      ∙ ap (λ ys. start ++ flat_map piece ys) (sym (take_more xs i d inside))

  -- all pieces
  pub joined_done : (text : List ℕ) → length xs ≤ i → text ≡ start ++ flat_map piece (take i xs) → text ≡ start ++ flat_map piece xs
  joined_done text past so_far = so_far ∙ ap (λ ys. start ++ flat_map piece ys) (take_all i xs past)

-- three pieces, one after another
pub three_pieces : (t t₁ t₂ t₃ a b c : List ℕ) → t₁ ≡ t ++ a → t₂ ≡ t₁ ++ b → t₃ ≡ t₂ ++ c → t₃ ≡ t ++ (a ++ (b ++ c))
three_pieces t t₁ t₂ t₃ a b c first second third =
    let outer = append_assoc (t ++ a) b c in
    let inner = append_assoc t a (b ++ c) in
    cc
