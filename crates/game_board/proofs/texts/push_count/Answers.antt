use Rattle.std.proofs.Common.{◌++◌, ◌∙◌, ap, [], ◌∷◌}
use Rattle.std.specs.Prelude.{codes, decimal}
use Rattle.game_board.specs.Texts.{count_line}
use Rattle.game_board.specs.Tiles.{all_off}
use Rattle.game_board.proofs.Lines.{three}
use Rattle.game_board.proofs.texts.push_count.Goals as goal

pub returns : goal.returns
unfolding count_line
returns c =
    three c.args.text.now.items (codes "tiles not on the board: ") (decimal (all_off c.args.rules.now c.args.board.now 27)) (10 ∷ []) c.extend_from_slice.new.self.items c.push_number.new.text.items c.push.new.self.items
    c.in_ok-extend_from_slice.ensures.items (c.in_ok-push_number.ensures.written ∙ ap (λ n. c.extend_from_slice.new.self.items ++ decimal n) c.tiles_off.ensures) c.in_ok-push.ensures.items
