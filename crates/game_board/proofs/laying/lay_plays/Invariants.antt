use Rattle.std.proofs.Common.{◌≡◌}
use Rattle.game_board.specs.Laying.{board_before}
use Rattle.game_board.proofs.Steps.{standing_before, HaveNoFault}
use Rattle.game_board.proofs.laying.lay_plays.Given as goal

abbrev pub invariant-loop-end : goal.invariant-loop-end
invariant-loop-end l =
    record {
      standing : l.standing ≡ standing_before l.events l.end;
      board : l.board ≡ board_before l.events l.end;
      none : HaveNoFault l.events l.end;
    }
