use Rattle.std.proofs.Common.{option_map, sym, subst}
use Rattle.ref_play.specs.Best.{IsAnnotation}
use Rattle.gen_sinks.specs.Sinks.{seen_pair}
use Rattle.lex_check.specs.Pairs.{list_in}
use Rattle.game_notes.specs.Following.{board_of}
use Rattle.game_notes.proofs.latest.LatestBests.best.Goals as goal

pub returns-in-Some-clause-best : goal.returns-in-Some-clause-best
returns-in-Some-clause-best c =
    subst (λ b. IsAnnotation c.args.rules.now (list_in c.args.pair.now) b c.args.rack.now (option_map seen_pair c.in-Some.best)) c.board.ensures
    (c.in-Some.ensures c.args.rules.now (list_in c.args.pair.now) c.requires.latest)

pub returns-clause-latest : goal.returns-clause-latest
returns-clause-latest c =
    let own = c.args.rules.now in
    let list = list_in c.args.pair.now in
    c.keep.ensures own list c.requires.latest
    (subst (λ b. IsAnnotation own list b c.args.rack.now (option_map seen_pair c.copy_best.result)) (sym c.board-2.ensures)
    (subst (λ o. IsAnnotation own list (board_of c.args.follow.now) c.args.rack.now (option_map seen_pair o)) (sym c.copy_best.ensures) c.annotate-best.ensures))
