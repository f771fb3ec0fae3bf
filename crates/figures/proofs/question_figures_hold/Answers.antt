use Rattle.std.proofs.Common.{refl}
use Rattle.timing.specs.Places.{holds, proper}
use Rattle.figures.specs.QuestionFigures.{QuestionFigures}
use Rattle.figures.proofs.question_figures_hold.Goals as goal

all_hold : QuestionFigures
unfolding holds proper
all_hold = record {
  board_in_time = refl;
  board_late = refl;
  bus_in_time = refl;
  bus_late = refl;
  blocked_in_time = refl;
  blocked_late = refl;
  alone = refl;
  margin_kept = refl;
  margin_missed = refl;
}

pub returns-clause-figures : goal.returns-clause-figures
returns-clause-figures c = all_hold
