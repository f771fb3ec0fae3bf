use Rattle.std.proofs.Common.{◌≡◌, ◌/◌, ◌<◌, length, vec_len, length-append, sym, refl, ap, ◌∙◌, arith}
use Rattle.chain.specs.declared.stages.Stage.{Stage}
use Rattle.chain.specs.Drafting.{Contents, length_refusal, stage_refusal, with_message, with_stage}
use Rattle.chain.specs.Limits.{most_boards, most_stages}
use Rattle.chain_file.proofs.Rows.{last_fine, last_is, message_length-in, pin_in, row_fine, row_is, stage_length-in}
use Rattle.chain_file.proofs.Saying.{drafted, drafted_last, drafted_more, given_next, length-drafted, message_fits, not_refused}
use Rattle.chain_file.proofs.fields.build.Goals as goal

pub unwrap-staged-requires : goal.unwrap-staged-requires
unwrap-staged-requires c =
    let row = c.stage_in-pin.ensures in
    not_refused _ _ _ c.stage.result c.stage.ensures
    ((λ i. stage_refusal most_boards (row.pin i) (row.length i)) ∙ (row_fine c.args.rest.now _ c.loop-row.row-index _ c.as_chunks.ensures.front (omega (arith, c.as_chunks.ensures.front_len)) c.requires.checked).0)

pub unwrap-draft-requires : goal.unwrap-draft-requires
unwrap-draft-requires c =
    let rest = c.args.rest.now in
    let k = c.loop-row.row-index in
    let before = ap (λ (x : Contents). length x.stages) c.loop-row.invariant ∙ length-drafted c.args.heading rest k in
    let more = ap (λ (x : Contents). length x.stages) (given_next _ _ _ c.stage.result c.unwrap-staged.result c.stage.ensures c.unwrap-staged.ensures) in
    let few : vec_len c.unwrap-staged.result.chain.stages < most_stages = omega (arith, before, more, length-append {A = Stage}, c.unwrap-staged.result.chain.stages.ok.0, c.requires.few, c.as_chunks.ensures.front_len) in
    let fine = (row_fine rest _ k _ c.as_chunks.ensures.front (omega (arith, c.as_chunks.ensures.front_len)) c.requires.checked).1 in
    not_refused _ _ _ c.message.result c.message.ensures (message_fits most_stages _ c.message_in.result few (ap length_refusal c.message_in.ensures ∙ fine))

pub unwrap-staged-requires-2 : goal.unwrap-staged-requires-2
unwrap-staged-requires-2 c =
    let row = c.stage_in-pin-2.ensures in
    not_refused _ _ _ c.stage-2.result c.stage-2.ensures
    ((λ i. stage_refusal most_boards (row.pin i) (row.length i)) ∙ last_fine c.args.rest.now _ c.as_chunks.ensures.back c.requires.checked)

pub loop-row-preserved : goal.loop-row-preserved
loop-row-preserved c =
    let rest = c.args.rest.now in
    let k = c.loop-row.row-index in
    let row = c.stage_in-pin.ensures in
    let inside : k < length rest / 9 = omega (arith, c.as_chunks.ensures.front_len) in
    let is = row_is rest _ k _ c.as_chunks.ensures.front inside in
    let staged = given_next _ _ _ c.stage.result c.unwrap-staged.result c.stage.ensures c.unwrap-staged.ensures in
    given_next _ _ _ c.message.result c.unwrap-draft.result c.message.ensures c.unwrap-draft.ensures
    ∙ (λ i. with_message ((staged ∙ (λ j. with_stage (c.loop-row.invariant j) ((row.pin ∙ pin_in rest _ k 9 (omega arith) is) j) ((row.length ∙ stage_length-in rest _ k 9 (omega arith) is) j))) i) ((c.message_in.ensures ∙ message_length-in rest _ k is) i))
    ∙ drafted_more c.args.heading rest k

pub returns : goal.returns
returns c =
    let rest = c.args.rest.now in
    let row = c.stage_in-pin-2.ensures in
    let is = last_is rest _ c.as_chunks.ensures.back in
    let at : length rest / 9 ≡ c.loop-row.row-index = omega (arith, c.as_chunks.ensures.front_len) in
    c.finish.ensures
    ∙ given_next _ _ _ c.stage-2.result c.unwrap-staged-2.result c.stage-2.ensures c.unwrap-staged-2.ensures
    ∙ (λ i. with_stage ((c.loop-row.invariant ∙ (λ j. drafted c.args.heading rest (sym at j))) i) ((row.pin ∙ pin_in rest _ _ 5 (omega arith) is) i) ((row.length ∙ stage_length-in rest _ _ 5 (omega arith) is) i))
    ∙ drafted_last c.args.heading rest (length rest / 9) refl
