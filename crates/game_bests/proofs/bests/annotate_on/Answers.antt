use Rattle.std.proofs.Common.{option_map, sym, ◌∙◌, subst}
use Rattle.ref_play.specs.Best.{IsAnnotation}
use Rattle.gen_sinks.specs.Sinks.{seen_pair}
use Rattle.lex_check.specs.Pairs.{list_in}
use Rattle.game_notes.proofs.SameBoards.{same_tile, same_board}
use Rattle.game_bests.proofs.bests.annotate_on.Goals as goal

pub returns-then-eq : goal.returns-then-eq
returns-then-eq c =
    let same = same_board _ same_tile _ _ (sym c.eq.ensures ∙ c.if-eq.true) in
    subst (λ b. IsAnnotation c.args.rules.now (list_in c.args.pair.now) b c.args.rack.now (option_map seen_pair c.annotate.result)) (sym c.board.ensures ∙ same) c.annotate.ensures
