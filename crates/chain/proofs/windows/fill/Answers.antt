use Rattle.std.proofs.Common.{◌≡◌, ◌+◌, ◌<◌, ◌++◌, length, vec_items, sym, ap, ◌∙◌, append-nil, arith, rules}
use Rattle.chain.specs.Drafting.{contents}
use Rattle.chain.specs.Parts.{parts, total}
use Rattle.chain.specs.Windows.{windowed, windows}
use Rattle.chain.proofs.Filling.{row_fills}
use Rattle.chain.proofs.PartSteps.{fill_turn, left, message, nothing_left, total-step}
use Rattle.chain.proofs.windows.fill.Given as given
use Rattle.chain.proofs.windows.fill.Goals as goal
use Rattle.chain.proofs.windows.fill.Goals.{After-message_after-message}

inside : (g : given.Over) (c : After-message_after-message g) → c.loop-k.k < length (vec_items c.args.placed.chain.now.stages)
inside g c = omega (arith, c.args.placed.chain.now.stages.ok.0)

-- the work of a stage, of its message and of what is left after them
work : (g : given.Over) (c : After-message_after-message g) → c.loop-k.before + (c.index.result.now.length + (total (message (contents c.args.placed.chain.now) c.args.placed.boards.now c.loop-k.k) + total (left (contents c.args.placed.chain.now) c.args.placed.boards.now (c.loop-k.k + 1)))) ≡ c.args.pace.work
work g c = omega (arith, total-step (contents c.args.placed.chain.now) c.args.placed.boards.now c.loop-k.k c.index.result.now (inside g c) c.index.ensures, c.loop-k.invariant.0)

pub put-before-requires : goal.put-before-requires
put-before-requires g c = record {
  within = omega (arith, work g (goal.at.put-before-requires g c).After-message_after-message);
  room = omega (arith, c.loop-k.invariant.2, c.loop-k.invariant.3, c.requires.room);
}

pub put-before-requires-in-loop-k : goal.put-before-requires-in-loop-k
put-before-requires-in-loop-k g c =
    let put = c.put-before.ensures in
    record {
      within = omega (arith, work g (goal.at.put-before-requires-in-loop-k g c).After-message_after-message, ap total c.message_after-message.ensures, put.after);
      room = omega (arith, c.loop-k.invariant.2, c.loop-k.invariant.3, c.requires.room, put.len, put.capacity);
    }

pub loop-k-preserved : goal.loop-k-preserved
loop-k-preserved g c =
    let turn = (goal.at.loop-k-preserved g c).After-message_after-message in
    let stage = c.put-before.ensures in
    let sent = c.put-before-in-loop-k.ensures in (
      omega (arith, work g turn, ap total c.message_after-message.ensures, stage.after, sent.after),
      fill_turn (contents c.args.placed.chain.now) c.args.placed.boards.now c.loop-k.k c.index.result.now (inside g turn) c.index.ensures _ _
          (vec_items c.loop-k.row) (vec_items c.put-before.new.row) _ _
          c.loop-k.before c.put-before.result c.put-before-in-loop-k.result _ _
          (search rules) c.message_after-message.ensures stage.after stage.items sent.after sent.items c.loop-k.invariant.1,
      omega (arith, c.loop-k.invariant.2, stage.len, sent.len),
      sent.capacity ∙ stage.capacity ∙ c.loop-k.invariant.3,
    )

pub returns : goal.returns
returns g c =
    let chain = c.args.placed.chain.now in
    let boards = c.args.placed.boards.now in
    let done = nothing_left (contents chain) boards c.loop-k.k (omega (arith, chain.stages.ok.0)) in
    let all = sym (append-nil _) ∙ ap (λ ps. vec_items c.loop-k.row ++ windowed c.args.pace.deadline c.args.pace.work c.loop-k.before ps) (sym done) ∙ c.loop-k.invariant.1 in
    let items : c.loop-k.row.items ≡ windows (contents chain) boards = all in
    record {
      items = items;
      filled = row_fills chain.heading.deadline c.loop-k.row.items (parts (contents chain) boards) items (omega (arith, c.requires.work, c.args.pace.some)) (omega (arith, c.requires.work, c.requires.deadline, c.args.pace.fits));
      capacity = c.loop-k.invariant.3;
    }
