-- Worked figures of the timing tests, stated of the definitions that the contracts of the code cite.
use Rattle.std.specs.Prelude.{◌≡◌, ℕ, true, false, T, [], ◌∷◌, Some, None, nat_le}
use Rattle.std.proofs.Common.{lit≤}
use Rattle.chain.specs.Limits.{most_ticks}
use Rattle.timing.specs.declared.items.Item.{Item}
use Rattle.timing.specs.Rows.{by_rows}
use Rattle.timing_tests.specs.Margin.{margin}
use Rattle.timing_tests.specs.Tests.{board_passes, bus_passes, bus_time}

-- an item by its length, its period and its window; the tests show its limits
abbrev pub item : (length period window : ℕ) → T (nat_le 1 length) → T (nat_le length window) → T (nat_le window period) → T (nat_le period most_ticks) → Item
item length period window some fits ends few = record {
  length = length;
  period = period;
  window = window;
  some = lit≤ some;
  fits = lit≤ fits;
  ends = lit≤ ends;
  few = lit≤ few;
}

-- Items are written (length, period, window).
pub record QuestionFigures : Type 0 where
  -- board, (2,5,5) above: (3,20,5) passes, (3,20,4) does not
  pub board_in_time : by_rows false board_passes (item 2 5 5 tt tt tt tt ∷ item 3 20 5 tt tt tt tt ∷ []) 1 1 0 ≡ true
  pub board_late : by_rows false board_passes (item 2 5 5 tt tt tt tt ∷ item 3 20 4 tt tt tt tt ∷ []) 1 1 0 ≡ false
  -- bus, (1,3,3) above: (2,20,6) passes, (2,20,5) does not
  pub bus_in_time : by_rows false bus_passes (item 1 3 3 tt tt tt tt ∷ item 2 20 6 tt tt tt tt ∷ []) 1 1 0 ≡ true
  pub bus_late : by_rows false bus_passes (item 1 3 3 tt tt tt tt ∷ item 2 20 5 tt tt tt tt ∷ []) 1 1 0 ≡ false
  -- bus, (4,20,8) below: (1,10,5) passes, (1,10,4) does not
  pub blocked_in_time : by_rows false bus_passes (item 1 10 5 tt tt tt tt ∷ item 4 20 8 tt tt tt tt ∷ []) 0 0 2 ≡ true
  pub blocked_late : by_rows false bus_passes (item 1 10 4 tt tt tt tt ∷ item 4 20 8 tt tt tt tt ∷ []) 0 0 2 ≡ false
  -- bus, (3,20,6) alone: response 6
  pub alone : by_rows None bus_time (item 3 20 6 tt tt tt tt ∷ []) 0 0 0 ≡ Some 6
  -- board with margin 2, (2,5,5) above: (3,20,7) passes; with margin 3 not
  pub margin_kept : margin false (by_rows false board_passes) 2 (item 2 5 5 tt tt tt tt ∷ item 3 20 7 tt tt tt tt ∷ []) 1 1 0 ≡ true
  pub margin_missed : margin false (by_rows false board_passes) 3 (item 2 5 5 tt tt tt tt ∷ item 3 20 7 tt tt tt tt ∷ []) 1 1 0 ≡ false
