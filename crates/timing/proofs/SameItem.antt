-- Items of the same numbers are the same. Assumes nothing.
use mathlib.Core.HLevel.{is_prop→PathP}
use Rattle.std.proofs.Common.{◌≡◌, ◌≤◌}
use native.Mathlib.Bridge.{le_prop}
use Rattle.chain.specs.Limits.{most_ticks}
use Rattle.timing.specs.declared.items.Item.{Item}

pub same_item : (x y : Item) → x.length ≡ y.length → x.period ≡ y.period → x.window ≡ y.window → x ≡ y
same_item x y l p w = λ i. record {
  length = l i;
  period = p i;
  window = w i;
  some = is_prop→PathP (λ j. 1 ≤ l j) (λ j. le_prop) x.some y.some i;
  fits = is_prop→PathP (λ j. l j ≤ w j) (λ j. le_prop) x.fits y.fits i;
  ends = is_prop→PathP (λ j. w j ≤ p j) (λ j. le_prop) x.ends y.ends i;
  few = is_prop→PathP (λ j. p j ≤ most_ticks) (λ j. le_prop) x.few y.few i;
}
