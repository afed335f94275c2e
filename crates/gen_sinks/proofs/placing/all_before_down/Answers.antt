use Rattle.std.proofs.Common.{ℤ, sym, subst}
use Rattle.ref_play.specs.declared.plays.Play.{Play}
use Rattle.ref_play.specs.Legality.{IsLegal}
use Rattle.gen_sinks.proofs.Keeping.{legal_at}
use Rattle.gen_sinks.proofs.placing.all_before_down.Goals as goal

pub is_before_down-requires : goal.is_before_down-requires
is_before_down-requires c =
    let scored = c.index-kept-place.result in
    record {
      legal = subst (λ (p : Play × ℤ). IsLegal c.args.board.now p.0.tiles.items) (sym c.index-kept-place.is)
          (legal_at c.args.board.now c.args.kept.now c.loop-place.place scored c.law_of_squares.ensures c.requires.kept c.loop-place-test.true);
    }
