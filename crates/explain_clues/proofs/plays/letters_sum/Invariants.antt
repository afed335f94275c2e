use Rattle.std.proofs.Common.{◌≡◌, ◌*◌, ◌≤◌, sum_by, take}
use Rattle.explain_clues.specs.Words.{worth}
use Rattle.explain_clues.proofs.plays.letters_sum.Given as goal

abbrev pub invariant-loop-square : goal.invariant-loop-square
invariant-loop-square l =
    record {
      added : l.sum ≡ sum_by worth (take l.square-index l.squares);
      limit : l.sum ≤ 765 * l.square-index;
    }
