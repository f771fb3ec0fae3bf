-- Step-down and leaving, for the board test and the bus test. Assumes nothing.
use Rattle.std.specs.Prelude.{◌≡◌, ℕ, zero, suc, ◌+◌, ◌-◌, ◌*◌, ◌/◌, ◌≤◌, max, Bool, true, false, List, [], ◌∷◌, ◌++◌, is_some, Some, None, sum_by, Option, nat_le, refl}
use Rattle.std.proofs.Common.{⊎_elim, sym, ap, ◌∙◌, mul-le-mul_right, arith}
use Rattle.std.proofs.lemmas.List.Sums.{sum_by-append, sum_by-cons}
use Rattle.std.proofs.lemmas.Bool.{cases_Bool, cond-true, cond-false, le-leb, leb-true}
use Rattle.std.specs.Option.{option_map}
use Rattle.timing.specs.declared.items.Item.{Item}
use Rattle.timing.specs.RowLaws.{RowLeaving, RowStepDown}
use Rattle.timing_tests.specs.Demand.{first_from, interference, longest, releases}
use Rattle.timing_tests.specs.Tests.{board_demand, board_passes, bus_demand, bus_passes}

-- a test that passes more finds a number wherever the other does
first_weaker : (test test' : ℕ → Bool) (k n : ℕ) → ((t : ℕ) → test t ≡ true → test' t ≡ true) → is_some (first_from test k n) ≡ true → is_some (first_from test' k n) ≡ true
first_weaker test test' k zero weaker found = found
first_weaker test test' k (suc n) weaker found =
    ⊎_elim
    (λ e. ap is_some (cond-true (test' k) (Some k) (first_from test' (suc k) n) (weaker k e)))
    (λ e. ⊎_elim
    (λ f. ap is_some (cond-true (test' k) (Some k) (first_from test' (suc k) n) f))
    (λ f. ap is_some (cond-false (test' k) (Some k) (first_from test' (suc k) n) f)
    ∙ first_weaker test test' (suc k) n weaker (sym (ap is_some (cond-false (test k) (Some k) (first_from test (suc k) n) e)) ∙ found))
    (cases_Bool (test' k)))
    (cases_Bool (test k))

-- what one item among those above brings
interference-out : (inclusive : Bool) (y : Item) (above above' : List Item) (t : ℕ) → interference inclusive (above ++ (y ∷ above')) t ≡ releases inclusive t y.period * y.length + interference inclusive (above ++ above') t
interference-out inclusive y above above' t =
    let work = λ (x : Item). releases inclusive t x.period * x.length in
    let a : sum_by work (above ++ (y ∷ above')) ≡ sum_by work above + sum_by work (y ∷ above') = sum_by-append work above (y ∷ above') in
    let b : sum_by work (y ∷ above') ≡ work y + sum_by work above' = sum_by-cons work y above' in
    let c : sum_by work (above ++ above') ≡ sum_by work above + sum_by work above' = sum_by-append work above above' in
    omega arith

longest-out : (y : Item) (below below' : List Item) → longest (below ++ (y ∷ below')) ≡ max y.length (longest (below ++ below'))
longest-out y [] below' = refl
longest-out y (x ∷ below) below' = let e = longest-out y below below' in omega arith

-- the bus counts each item above at least once
once_at_least : (t period length : ℕ) → length ≤ releases true t period * length
once_at_least t period length =
    let h : 1 * length ≤ (t / period + 1) * length = mul-le-mul_right length (omega arith) in
    omega arith

some_mapped : (f : ℕ → ℕ) (o : Option ℕ) → is_some (option_map f o) ≡ is_some o
some_mapped f (Some t) = refl
some_mapped f None = refl

pub board_steps_down : {S : Type 0} → RowStepDown (λ (s : S). board_passes)
board_steps_down s x y above above' below below' pass =
    first_weaker (λ t. nat_le (board_demand x (above ++ (y ∷ above')) t) t) (λ t. nat_le (board_demand x (above ++ above') t) t) 1 x.window
    (λ t h.
    let before : board_demand x (above ++ (y ∷ above')) t ≤ t = leb-true _ t h in
    let out = interference-out false y above above' t in
    le-leb (board_demand x (above ++ above') t) t (omega arith))
    pass

pub board_leaves : {S : Type 0} → RowLeaving (λ (s : S). board_passes)
board_leaves s x y above below below' pass = pass

-- the bus test passes with less demand
bus_weaker : (x : Item) (above above' below below' : List Item) → ((w : ℕ) → bus_demand x above' below' w ≤ bus_demand x above below w) → bus_passes x above below ≡ true → bus_passes x above' below' ≡ true
bus_weaker x above above' below below' less pass =
    let n = x.window + 1 - x.length in
    let test = λ (w : ℕ). nat_le (bus_demand x above below w) w in
    let test' = λ (w : ℕ). nat_le (bus_demand x above' below' w) w in
    some_mapped (λ w. w + x.length) (first_from test' 0 n)
    ∙ first_weaker test test' 0 n
    (λ w h.
    let before : bus_demand x above below w ≤ w = leb-true _ w h in
    let d = less w in
    le-leb (bus_demand x above' below' w) w (omega arith))
    (sym (some_mapped (λ w. w + x.length) (first_from test 0 n)) ∙ pass)

pub bus_steps_down : {S : Type 0} → RowStepDown (λ (s : S). bus_passes)
bus_steps_down s x y above above' below below' pass =
    bus_weaker x (above ++ (y ∷ above')) (above ++ above') (below ++ below') (below ++ (y ∷ below'))
    (λ w.
    let out = interference-out true y above above' w in
    let long = longest-out y below below' in
    let once : y.length ≤ releases true w y.period * y.length = once_at_least w y.period y.length in
    omega arith)
    pass

pub bus_leaves : {S : Type 0} → RowLeaving (λ (s : S). bus_passes)
bus_leaves s x y above below below' pass =
    bus_weaker x above above (below ++ (y ∷ below')) (below ++ below')
    (λ w. let long = longest-out y below below' in omega arith)
    pass
