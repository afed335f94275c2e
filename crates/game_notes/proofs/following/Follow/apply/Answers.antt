use Rattle.lex_check.specs.Pairs.{list_in}
use Rattle.game_notes.specs.Following.{board_of, cross_of}
use Rattle.game_notes.proofs.FollowLaws.{put_is_right}
use Rattle.game_notes.proofs.following.Follow.apply.Goals as goal

pub returns-clause-follows : goal.returns-clause-follows
returns-clause-follows c =
    put_is_right c.args.rules.now (list_in c.args.pair.now) _ (board_of c.args.self.now) c.apply.new.board c.args.play.now.tiles.items (cross_of c.args.self.now) c.after_play.new.self
    c.file.ensures.agreed c.apply.ensures.board c.requires.follows c.after_play.ensures
