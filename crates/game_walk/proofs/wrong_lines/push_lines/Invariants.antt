use Rattle.std.proofs.Common.{◌≡◌, ◌++◌, take}
use Rattle.game_walk.specs.Numbers.{renumbered}
use Rattle.game_walk.specs.Totals.{HasTotals}
use Rattle.game_walk.proofs.WrongRows.{wrong_to}
use Rattle.game_walk.proofs.wrong_lines.push_lines.Given as goal

abbrev pub invariant-loop-place : goal.invariant-loop-place
invariant-loop-place l =
    record {
      wrong : l.wrong.items ≡ l.initial.wrong.items ++ wrong_to l.stop (renumbered l.right l.numbers) l.right l.place;
      totals : HasTotals (take l.place (renumbered l.right l.numbers)) l.totals;
    }
