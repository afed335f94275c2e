use Rattle.std.proofs.Common.{rules, sym, ◌∙◌, lt-ltb, arith}
use Rattle.ref_play.specs.Notations.{written}
use Rattle.ref_play.proofs.PlaceLaws.{is_play-few}
use Rattle.gen_moves.proofs.Writing.{count_wanted, wanted_as_written, same_dir-is}
use Rattle.gen_moves.proofs.spots.Spot.has_written.Goals as goal

pub returns-then-len-gt1 : goal.returns-then-len-gt1
returns-then-len-gt1 c =
    let spot = c.args.self.now in
    let tiles = c.args.play.now.tiles.items in
    let few = is_play-few spot.dir tiles c.requires.runs.play in
    lt-ltb 1 c.len.result c.if-len-gt1.true ∙ sym (count_wanted spot.dir spot.board.now tiles c.requires.runs few (omega arith))

pub returns-else-len-gt1 : goal.returns-else-len-gt1
returns-else-len-gt1 c =
    let spot = c.args.self.now in
    let tiles = c.args.play.now.tiles.items in
    let few = is_play-few spot.dir tiles c.requires.runs.play in
    same_dir-is c.notation.result.dir spot.dir c.eq.result (λ t. search rules, λ e. search rules)
    ∙ sym (wanted_as_written spot.dir spot.board.now tiles (written c.notation.result) c.law_of_squares.ensures c.requires.legal c.requires.runs few c.notation.ensures)
