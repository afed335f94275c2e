use Rattle.std.proofs.Common.{ap}
use Rattle.game_turns.specs.Tallies.{State}
use Rattle.game_turns.proofs.SameStates.{same_states}
use Rattle.game_turns.proofs.machine.Machine.is_like.Goals as goal

pub returns : goal.returns
returns c =
    let a = c.args.self.now in
    let b = c.args.other.now in
    (λ yes_it. same_states a b (c.has_counts_of.ensures.0 c.if-not-has_counts_of.false) (c.has_players_of.ensures.0 c.if-not-has_players_of.false) (c.are_same_sides.ensures.0 c.if-not-are_same_sides.false) (c.is_like.ensures.0 c.if-not-is_like.false) (c.is_same_board.ensures.0 yes_it), λ same. c.is_same_board.ensures.1 (ap (λ (s : State). s.board) same))
