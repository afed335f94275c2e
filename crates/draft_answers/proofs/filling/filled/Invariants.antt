use Rattle.std.proofs.Common.{◌≡◌, ◌++◌, drop}
use Rattle.draft_answers.specs.Filling.{filled}
use Rattle.draft_answers.proofs.filling.filled.Given as goal

abbrev pub invariant-loop-place : goal.invariant-loop-place
invariant-loop-place l = l.numbers.items ++ filled (drop l.place l.lacks) (drop l.place l.written) (drop l.place l.right) ≡ filled l.lacks l.written l.right
