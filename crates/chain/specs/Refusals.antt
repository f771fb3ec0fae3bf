-- Each refusal of a drafting call, with its number and the values that it carries. Promises about
-- refusals are stated by number and values.
use Rattle.std.specs.Prelude.{ℕ, Bool, cond, List, [], ◌∷◌, Some, None, Option, Result}
use Rattle.std.specs.Option.{option_map}
use Rattle.std.specs.Result.{result_err}
use Rattle.chain.specs.declared.refusals.DraftRefusal.{DraftRefusal}
use Rattle.chain.specs.declared.refusals.DraftRefusal.TheVariants.{Times, Length, PinAbove, StagesFull, NoName}

pub record Described : Type 0 where
  pub number : ℕ
  pub values : List ℕ

abbrev pub numbered : ℕ → List ℕ → Described
numbered n vs = record { number = n; values = vs }

abbrev pub described : DraftRefusal → Described
described (Times period deadline) = numbered 1 (period ∷ deadline ∷ [])
described (Length length) = numbered 2 (length ∷ [])
described (PinAbove pin) = numbered 3 (pin ∷ [])
described StagesFull = numbered 4 []
described NoName = numbered 6 []

-- what a call refuses by, if it does
abbrev pub refusal_of : {T R : Type 0} → (R → Described) → Result T R → Option Described
refusal_of describes result = option_map describes (result_err result)

-- A call's conditions, in the order in which it checks them: each stands unless its test passes,
-- and the first that stands is the refusal.
abbrev pub unless : Bool → Described → Option Described
unless passes why = cond passes None (Some why)

abbrev pub first_of : List (Option Described) → Option Described
first_of [] = None
first_of (None ∷ later) = first_of later
first_of (Some why ∷ later) = Some why
