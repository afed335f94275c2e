use Rattle.std.proofs.Common.{ℕ, ◌<◌, ◌≤◌, ◌-◌}
use Rattle.lex_check.specs.Stretches.{label_at}
use Rattle.lex_check.proofs.sorted.search_from.Given as goal

abbrev pub invariant-loop-low : goal.invariant-loop-low
invariant-loop-low l =
    record {
      from : l.stretch.low ≤ l.low;
      order : l.low ≤ l.high;
      to : l.high ≤ l.stretch.high;
      before : (place : ℕ) → l.stretch.low ≤ place → place < l.low → label_at l.paths l.stretch.depth place < l.label;
      following : (place : ℕ) → l.high ≤ place → place < l.stretch.high → l.label ≤ label_at l.paths l.stretch.depth place;
    }

abbrev pub decreases-loop-low : goal.decreases-loop-low
decreases-loop-low l = l.high - l.low
