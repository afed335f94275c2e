use Rattle.std.proofs.Common.{◌≡◌, map, take, length}
use Rattle.explain_clues.specs.Plays.{played_square}
use Rattle.explain_clues.proofs.plays.played_squares.Given as goal

abbrev pub invariant-loop-square : goal.invariant-loop-square
invariant-loop-square l =
    record {
      squares : l.played.items ≡ map played_square (take l.square-index l.squares);
      len : length l.played.items ≡ l.square-index;
    }
