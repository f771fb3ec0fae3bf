-- Items: their limits, and the refusal of other numbers.
use Rattle.std.specs.Prelude.{◌≡◌, ℕ, Bool, ◌&&◌, List, [], ◌∷◌, ◌++◌, codes, decimal, Some, None, Ok, Err, Option, Result, nat_le}
use Rattle.std.specs.List.{flat_map}
use Rattle.chain.specs.Limits.{most_ticks}
use Rattle.chain.specs.Refusals.{Described, first_of, numbered, unless}
use Rattle.timing.specs.declared.items.Item.{Item}
use Rattle.timing.specs.declared.refusals.ItemRefusal.{ItemRefusal}
use Rattle.timing.specs.declared.refusals.ItemRefusal.TheVariants.{OutsideLimits}

abbrev pub described : ItemRefusal → Described
described (OutsideLimits length period window) = numbered 20 (length ∷ period ∷ window ∷ [])

-- a refusal as it is printed: its number and its values
abbrev pub refused_text : Described → List ℕ
refused_text why = codes "refused " ++ (decimal why.number ++ flat_map (λ n. codes " " ++ decimal n) why.values)

-- 1 ≤ length ≤ window ≤ period ≤ 1,000,000
abbrev pub item_kept : (length period window : ℕ) → Bool
item_kept length period window = nat_le 1 length && (nat_le length window && (nat_le window period && nat_le period most_ticks))

abbrev pub item_refusal : (length period window : ℕ) → Option Described
item_refusal length period window =
    first_of (unless (item_kept length period window) (numbered 20 (length ∷ period ∷ window ∷ [])) ∷ [])

-- what making an item of three numbers answers
abbrev pub Made : (length period window : ℕ) → Result Item ItemRefusal → Type 0
Made length period window (Ok x) =
    (item_refusal length period window ≡ None) × (x.length ≡ length) × (x.period ≡ period) × (x.window ≡ window)
Made length period window (Err why) = item_refusal length period window ≡ Some (described why)
