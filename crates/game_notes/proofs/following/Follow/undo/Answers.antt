use Rattle.lex_check.specs.Pairs.{list_in}
use Rattle.game_notes.specs.Following.{board_of, cross_of}
use Rattle.game_notes.proofs.FollowLaws.{lift_is_right}
use Rattle.game_notes.proofs.following.Follow.undo.Goals as goal

pub returns-clause-follows : goal.returns-clause-follows
returns-clause-follows c =
    lift_is_right c.args.rules.now (list_in c.args.pair.now) _ (board_of c.args.self.now) c.undo.new.board c.args.play.now.tiles.items (cross_of c.args.self.now) c.after_play.new.self
    c.file.ensures.agreed c.undo.ensures.board c.requires.follows c.after_play.ensures
