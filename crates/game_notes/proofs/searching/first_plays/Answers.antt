use Rattle.std.proofs.Common.{refl}
use Rattle.game_notes.proofs.FirstPlays.{first_taken}
use Rattle.game_notes.proofs.searching.first_plays.Goals as goal

pub returns-clause-first : goal.returns-clause-first
returns-clause-first g c =
    let found = c.generate.ensures.all in
    first_taken g.row.N c.args.rules.now g.words c.args.board.now c.args.rack.now found.0 _ _ _ c.generate.result c.law_of_squares.ensures found.1 c.new-top.ensures.board c.new-top.ensures.items (c.generate.ensures.steady refl) found.2
