use Rattle.std.proofs.Common.{◌≡◌, take}
use Rattle.std.specs.List.{filter}
use Rattle.draft_answers.specs.Filled.{is_reported_before}
use Rattle.draft_answers.proofs.cutting.reported_before.Given as goal

abbrev pub invariant-loop-number : goal.invariant-loop-number
invariant-loop-number l = l.kept.items ≡ filter (is_reported_before l.line) (take l.number-index l.numbers)
