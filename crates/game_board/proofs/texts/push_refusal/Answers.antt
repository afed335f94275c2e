use Rattle.std.specs.Prelude.{codes}
use Rattle.ref_play.specs.Faults.{name_of}
use Rattle.game_board.specs.Texts.{refusal_text}
use Rattle.game_board.proofs.Lines.{two}
use Rattle.game_board.proofs.texts.push_refusal.Goals as goal

pub returns : goal.returns
unfolding refusal_text
returns c =
    two c.args.text.now.items (codes ", whose play cannot be laid: ") (name_of c.args.why) c.extend_from_slice.new.self.items c.push_name.new.text.items
    c.in_ok-extend_from_slice.ensures.items c.in_ok-push_name.ensures
