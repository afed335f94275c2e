use Rattle.std.proofs.Common.{◌≡◌, drop}
use Rattle.std.specs.List.{list_any}
use Rattle.game_corrections.specs.WrongNumbers.{is_sum_of}
use Rattle.game_corrections.proofs.reported_sums.has_sum_of.Given as goal

abbrev pub invariant-loop-number : goal.invariant-loop-number
invariant-loop-number l = list_any (is_sum_of l.line) (drop l.number-index l.numbers) ≡ list_any (is_sum_of l.line) l.numbers
