-- The answer to a question.
use Rattle.std.specs.Prelude.{ℕ, Bool, false, cond, List, ◌++◌, codes, decimal, Some, None, vec_items, Option, Vec, Result, Ok, Err}
use Rattle.std.specs.Global.{Global}
use Rattle.timing.specs.declared.items.Item.{Item}
use Rattle.timing.specs.declared.refusals.ItemRefusal.{ItemRefusal}
use Rattle.timing.specs.Rows.{by_rows}
use Rattle.timing_tests.specs.Margin.{margin}
use Rattle.timing_tests.specs.Tests.{board_passes, board_time, bus_passes, bus_time}
use Rattle.crosscheck.specs.declared.answers.Replies.{Replies}
use Rattle.crosscheck.specs.declared.answers.Reply.{Reply}
use Rattle.crosscheck.specs.declared.questions.Question.{Question}
use Rattle.crosscheck.specs.declared.questions.Test.{Test}
use Rattle.crosscheck.specs.declared.questions.Test.TheVariants.{Board, Bus}

-- what a test says of a question by its meaning and its times
abbrev pub reply : (meaning : List Item → ℕ → ℕ → ℕ → Bool) (time : List Item → ℕ → ℕ → ℕ → Option ℕ) → List Item → (place above below : ℕ) → Reply
reply meaning time table place above below =
    record {
      passes = meaning table place above below;
      response = time table place above below;
    }

-- the same, and what it says with a margin
abbrev pub replies : (meaning : List Item → ℕ → ℕ → ℕ → Bool) (time : List Item → ℕ → ℕ → ℕ → Option ℕ) → (ticks : ℕ) → List Item → (place above below : ℕ) → Replies
replies meaning time ticks table place above below =
    record {
      plain = reply meaning time table place above below;
      tight = reply (margin false meaning ticks) (margin None time ticks) table place above below;
    }

abbrev pub test_replies : Test → (ticks : ℕ) → List Item → (place above below : ℕ) → Replies
test_replies Board = replies (by_rows false board_passes) (by_rows None board_time)
test_replies Bus = replies (by_rows false bus_passes) (by_rows None bus_time)

-- a reply as it is printed
abbrev pub response_text : Option ℕ → List ℕ
response_text (Some t) = decimal t
response_text None = codes "-"

abbrev pub reply_text : Reply → List ℕ
reply_text r = cond r.passes (codes "yes") (codes "no") ++ (codes " " ++ response_text r.response)

abbrev pub table_answer : Question → Result (Vec Item Global) ItemRefusal → Result Replies ItemRefusal
table_answer q (Ok items) = Ok (test_replies q.test q.margin (vec_items items) q.place q.above.bits q.below.bits)
table_answer q (Err why) = Err why

abbrev pub answer : Question → Result Replies ItemRefusal
answer q = table_answer q q.table
