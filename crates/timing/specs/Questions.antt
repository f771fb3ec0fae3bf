-- What is said of a question, from what is said of its table, its place and its sets.
use Rattle.std.specs.Prelude.{ℕ, List}
use Rattle.timing.specs.declared.items.Item.{Item}
use Rattle.timing.specs.declared.questions.Question.{Question}

abbrev pub of_question {ℓ} : {X : Type ℓ} → (List Item → (place above below : ℕ) → X) → Question → X
of_question says q = says q.table.now q.place q.above.bits q.below.bits
