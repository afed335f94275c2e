use Rattle.std.proofs.Common.{◌≡◌, ◌<◌, false, inr, sym, ap, ◌∙◌, arith}
use Rattle.ref_board.specs.declared.directions.Dir.{Dir}
use Rattle.ref_board.specs.Anchors.{follows_tile, precedes_tile}
use Rattle.ref_board.specs.Lines.{other_dir}
use Rattle.gen_moves.proofs.Alone.{alone_scores_none}
use Rattle.gen_moves.proofs.places.cross_factor.Goals as goal

pub returns-clause-factor : goal.returns-clause-factor
returns-clause-factor c =
    let board = c.args.board.now in
    let square = c.args.square in
    let e : Dir = other_dir c.args.dir in
    let on : square < 225 = omega arith in
    let before : follows_tile e board square ≡ false = ap (λ (x : Dir). follows_tile x board square) (sym c.other.ensures) ∙ sym c.follows_tile.ensures ∙ c.if-follows_tile.false in
    let following : precedes_tile e board square 1 ≡ false =
    ap (λ (x : Dir). precedes_tile x board square 1) (sym c.other-else-follows_tile.ensures) ∙ sym c.precedes_tile.ensures ∙ c.if-precedes_tile.false in
    inr (alone_scores_none board e square c.law_of_squares.ensures on before following)
