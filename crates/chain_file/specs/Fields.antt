-- Where the fields of a record's body stand. Numbers are big-endian and unsigned.
use Rattle.std.specs.Prelude.{ℕ, ◌+◌, ◌-◌, ◌*◌, List, map, drop, slice_index}
use Rattle.std.specs.List.{range_with_len}
use Rattle.chain.specs.Drafting.{Contents, pin_of}
use Rattle.chain.specs.declared.stages.Stage.{Stage}
use Rattle.chain_file.specs.declared.fields.Head.{Head}

-- the number in two bytes, and in four, from a place on
abbrev pub two : List ℕ → ℕ → ℕ
two bs at = slice_index bs at * 256 + slice_index bs (at + 1)

abbrev pub four : List ℕ → ℕ → ℕ
four bs at = slice_index bs at * 16777216 + slice_index bs (at + 1) * 65536 + slice_index bs (at + 2) * 256 + slice_index bs (at + 3)

-- the first eleven bytes of a body: name, period, deadline and stage count
abbrev pub head : List ℕ → Head
head body = record { name = two body 0; period = four body 2; deadline = four body 6; stages = slice_index body 10 }

-- the rest holds the stages: stage k, from 0, has nine bytes, its pin, its length and the length
-- of the message after it; the last stage has no message
abbrev pub rest : List ℕ → List ℕ
rest body = drop 11 body

abbrev pub pin : (rest : List ℕ) → ℕ → ℕ
pin rest k = slice_index rest (9 * k)

abbrev pub stage_length : (rest : List ℕ) → ℕ → ℕ
stage_length rest k = four rest (9 * k + 1)

abbrev pub message_length : (rest : List ℕ) → ℕ → ℕ
message_length rest k = four rest (9 * k + 5)

abbrev pub stage : (rest : List ℕ) → ℕ → Stage
stage rest k = record { pin = pin_of (pin rest k); length = stage_length rest k }

-- the chain that a head and the rest say, given that nothing is wrong with them
abbrev pub said : Head → (rest : List ℕ) → Contents
said h rest = record {
  name = h.name;
  period = h.period;
  deadline = h.deadline;
  stages = map (stage rest) (range_with_len 0 h.stages);
  messages = map (message_length rest) (range_with_len 0 (h.stages - 1));
}
