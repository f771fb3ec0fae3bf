-- Each refusal of a chain file, with its number and the values that it carries.
use Rattle.std.specs.Prelude.{ℕ, List, [], ◌∷◌, ◌++◌, codes, decimal}
use Rattle.chain.specs.Refusals.{Described, numbered}
use Rattle.chain.specs.Refusals as draft
use Rattle.chain_file.specs.declared.refusals.FileRefusal.{FileRefusal}
use Rattle.chain_file.specs.declared.refusals.FileRefusal.TheVariants.{Boards, Version, TooShort, RecordSize, TooManyChains, Field}

abbrev pub described : FileRefusal → Described
described (Boards boards) = numbered 5 (boards ∷ [])
described (Version version) = numbered 13 (version ∷ [])
described TooShort = numbered 14 []
described (RecordSize length) = numbered 15 (length ∷ [])
described TooManyChains = numbered 16 []
described (Field why) = draft.described why

-- what a refusal that comes at a record prints
abbrev pub refusal_text : Described → (at : ℕ) → List ℕ
refusal_text why at = codes "file refused " ++ (decimal why.number ++ (codes " record " ++ decimal at))
