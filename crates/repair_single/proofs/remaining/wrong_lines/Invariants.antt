use Rattle.std.proofs.Common.{◌≡◌, None}
use Rattle.std.specs.List.{flat_map, range_with_len}
use Rattle.game_corrections.specs.WrongNumbers.{wrong_at}
use Rattle.repair_single.proofs.remaining.wrong_lines.Given as goal

abbrev pub invariant-loop-place : goal.invariant-loop-place
invariant-loop-place l = record { so_far : l.wrong.items ≡ flat_map (wrong_at None l.sheet l.right) (range_with_len 0 l.place) }
