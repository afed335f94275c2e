use Rattle.std.proofs.Common.{◌≡◌}
use Rattle.game_board.specs.Laying.{board_before}
use Rattle.game_board.proofs.Steps.{standing_before, HaveNoFault}
use Rattle.sheet_scores.proofs.BoardSteps.{AreSoFar}
use Rattle.sheet_scores.proofs.boards.pictures_of.Given as goal

abbrev pub invariant-loop-place : goal.invariant-loop-place
invariant-loop-place l =
    record {
      standing : l.standing ≡ standing_before l.events l.place;
      board : l.board ≡ board_before l.events l.place;
      none : HaveNoFault l.events l.place;
      so_far : AreSoFar l.events l.place l.pictures.items;
    }
