-- The least time for the item asked is the least for the question. Assumes nothing.
use Rattle.std.proofs.Common.{◌≡◌, ℕ, true, false, ◌⊎◌, List, length, Some, None, Option, sym, refl, ◌∙◌, ap, subst, inl, inr, ⊎_elim, arith}
use Rattle.std.proofs.lemmas.Bool.{both_ways, cases_Bool, cond-false, cond-true}
use Rattle.std.specs.List.{slice_get}
use Rattle.timing.specs.declared.items.Item.{Item}
use Rattle.timing.specs.Places.{Proper, chosen, proper}
use Rattle.timing.specs.RowLaws.{Asked, Least, LeastEnd}
use Rattle.timing.specs.Rows.{by_rows, of_item}
use Rattle.timing.specs.Lemmas.Properness.{proper_from, proper_says}
use Rattle.timing.specs.Lemmas.Rows.{answered}

-- a property that holds of the same numbers has the same least one
pub least_like : (P Q : ℕ → Type 0) (o : Option ℕ) → ((k : ℕ) → P k → Q k) → ((k : ℕ) → Q k → P k) → Least P o → Least Q o
least_like P Q (Some a) there back p = (there a p.0, λ k q. p.1 k (back k q))
least_like P Q None there back p = λ k q. p k (back k q)

-- what is the least for the item asked and its rows is the least for a proper question about it
pub least_asked : (Ends : Item → List Item → List Item → ℕ → Type 0) (table : List Item) (place above below : ℕ) (x : Item) (o : Option ℕ) → Proper (length table) place above below → slice_get table place ≡ Some x → Least (Ends x (chosen above table) (chosen below table)) o → LeastEnd Ends table place above below o
least_asked Ends table place above below x o p is =
    let up = chosen above table in
    let down = chosen below table in
    least_like (Ends x up down) (λ t. Asked table place above below (λ y. λ u d. Ends y u d t)) o
    (λ t h. record { proper = p; item = x; is = is; ends = h })
    (λ t h. let same : h.item ≡ x = cc (h.is, is) in subst (λ y. Ends y up down t) same h.ends)

-- what is the least for every item and every two rows is the least for every question
pub asked_least : (Ends : Item → List Item → List Item → ℕ → Type 0) (time : Item → List Item → List Item → Option ℕ) → ((x : Item) (above below : List Item) → Least (Ends x above below) (time x above below)) → (table : List Item) (place above below : ℕ) → Least (λ t. Asked table place above below (λ x up down. Ends x up down t)) (by_rows None time table place above below)
asked_least Ends time least table place above below =
    ⊎_elim
    (λ p. ⊎_elim (λ found. about p found.0 found.1) (λ none. empty p none) (some_item (slice_get table place)))
    improper
    (cases_Bool (proper n place above below))
  where
    n : ℕ
    n = length table

    Ended : ℕ → Type 0
    Ended t = Asked table place above below (λ x up down. Ends x up down t)

    some_item : (o : Option Item) → ((x : Item) × (o ≡ Some x)) ⊎ (o ≡ None)
    some_item (Some x) = inl (x, refl)
    some_item None = inr refl

    about : proper n place above below ≡ true → (x : Item) → slice_get table place ≡ Some x → Least Ended (by_rows None time table place above below)
    about p x e =
        let up = chosen above table in
        let down = chosen below table in
        subst (Least Ended) (sym (answered None time table place above below x up down p e refl refl))
        (least_asked Ends table place above below x (time x up down) (proper_says n place above below p) e (least x up down))

    empty : proper n place above below ≡ true → slice_get table place ≡ None → Least Ended (by_rows None time table place above below)
    empty p none =
        subst (Least Ended) (sym (cond-true (proper n place above below) _ None p ∙ ap (of_item (λ x. time x (chosen above table) (chosen below table)) None) none))
        (λ t h. let z : ◌≡◌ {A = ℕ} 0 1 = cc (h.is, none) in omega arith)

    improper : proper n place above below ≡ false → Least Ended (by_rows None time table place above below)
    improper e =
        subst (Least Ended) (sym (cond-false (proper n place above below) _ None e))
        (λ t h. both_ways (proper n place above below) e (proper_from n place above below h.proper))
