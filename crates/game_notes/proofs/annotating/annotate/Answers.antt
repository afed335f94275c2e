use Rattle.std.proofs.Common.{None, rules, subst, sym, w32, to_z-of_z}
use Rattle.std.proofs.lemmas.Int.{ints}
use Rattle.lex_check.specs.Pairs.{list_in}
use Rattle.game_notes.specs.Keeping.{AreFirstPlays}
use Rattle.game_notes.proofs.FirstPlays.{best_is_first, best_is_shown}
use Rattle.game_notes.proofs.annotating.annotate.Goals as goal

pub returns-in-Some-clause-annotation : goal.returns-in-Some-clause-annotation
returns-in-Some-clause-annotation c =
    let first = subst (AreFirstPlays 1 c.args.rules.now (list_in c.args.pair.now) c.args.board.now c.args.rack.now) (sym c.items.ensures) c.best_plays-best.ensures.first in
    best_is_shown c.args.rules.now (list_in c.args.pair.now) c.args.board.now c.args.rack.now c.items.result.now c.in-Some.field-0.now c.copy.result _ first c.in-Some.ensures.value
    (search rules) (to_z-of_z {w = w32} (search (rules, ints)))

pub returns-in-None-clause-annotation : goal.returns-in-None-clause-annotation
returns-in-None-clause-annotation c =
    let first = subst (AreFirstPlays 1 c.args.rules.now (list_in c.args.pair.now) c.args.board.now c.args.rack.now) (sym c.items.ensures) c.best_plays-best.ensures.first in
    best_is_first c.args.rules.now (list_in c.args.pair.now) c.args.board.now c.args.rack.now c.items.result.now None first c.in-None.ensures.value
