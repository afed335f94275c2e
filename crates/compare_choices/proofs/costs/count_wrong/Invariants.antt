use Rattle.std.proofs.Common.{◌≡◌, ◌+◌, ◌≤◌}
use Rattle.compare_choices.proofs.Wrong.{wrong_to}
use Rattle.compare_choices.proofs.costs.count_wrong.Given as goal

abbrev pub invariant-loop-place : goal.invariant-loop-place
invariant-loop-place l = record { so_far : l.scores + l.sums ≡ wrong_to l.written l.right l.place; few_scores : l.scores ≤ l.place; few_sums : l.sums ≤ l.place }
