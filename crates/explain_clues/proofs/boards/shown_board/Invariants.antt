use Rattle.std.proofs.Common.{◌≡◌, map}
use Rattle.std.specs.List.{range_with_len}
use Rattle.explain_clues.specs.Boards.{shown_square}
use Rattle.explain_clues.proofs.boards.shown_board.Given as goal

abbrev pub invariant-loop-number : goal.invariant-loop-number
invariant-loop-number l = l.squares.items ≡ map (shown_square l.rules l.board l.kind) (range_with_len 0 l.number)
