use Rattle.std.proofs.Common.{◌≡◌, ◌++◌}
use Rattle.draft_numbers.specs.Having.{totals_of}
use Rattle.draft_numbers.specs.Numbers.{wrong_written}
use Rattle.draft_numbers.proofs.Numbered.{rest_from}
use Rattle.draft_numbers.proofs.numbering.wrong_written.Given as goal

abbrev pub invariant-loop-place : goal.invariant-loop-place
invariant-loop-place l = l.wrong.items ++ rest_from (totals_of l.had) l.lacks l.written l.right l.place ≡ wrong_written l.lacks l.written l.right
