-- The words of a question.
use Rattle.std.specs.Prelude.{◌≡◌, ◌↔◌, ℕ, List, codes, Result, Ok}
use Rattle.anyhow.specs.declared.error.Error.{Error}
use Rattle.crosscheck.specs.declared.questions.Test.{Test}
use Rattle.crosscheck.specs.declared.questions.Test.TheVariants.{Board, Bus}

-- the name of a test
abbrev pub name : Test → List ℕ
name Board = codes "board"
name Bus = codes "bus"

-- a word is read as a test exactly where it is its name
abbrev pub ReadsTest : List ℕ → Result Test Error → Type 0
ReadsTest word result = (test : Test) → (result ≡ Ok test) ↔ (word ≡ name test)
