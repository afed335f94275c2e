use Rattle.std.proofs.Common.{subst, arith}
use Rattle.std.specs.List.{flat_map}
use Rattle.ref_play.specs.Best.{AreAll}
use Rattle.gen_moves.specs.Reporting.{both_cells}
use Rattle.gen_moves.specs.Starts.{given_from}
use Rattle.gen_moves.proofs.Offering.{right_scores}
use Rattle.gen_moves.proofs.Settings.{setting_of}
use Rattle.gen_moves.proofs.Starting.{good_sorted, all_sorted}
use Rattle.gen_moves.proofs.generating.generate.Goals as goal

pub all_bounds-requires-clause-scores : goal.all_bounds-requires-clause-scores
all_bounds-requires-clause-scores g c = right_scores c.args.rules.now g.words c.args.board.now c.args.cross.now c.law_of_squares.ensures c.requires.1.1.1.1.1.0

pub all_bounds-requires-2-clause-scores : goal.all_bounds-requires-2-clause-scores
all_bounds-requires-2-clause-scores g c = right_scores c.args.rules.now g.words c.args.board.now c.args.cross.now c.law_of_squares.ensures c.requires.1.1.1.1.1.0

pub from_starts-requires-clause-scores : goal.from_starts-requires-clause-scores
from_starts-requires-clause-scores g c = right_scores c.args.rules.now g.words c.args.board.now c.args.cross.now c.law_of_squares.ensures c.requires.1.1.1.1.1.0

pub from_starts-requires-clause-good : goal.from_starts-requires-clause-good
from_starts-requires-clause-good g c =
    let path = g.L.PathLex.language c.args.lex.now in
    let a = c.all_cells-across.result in
    let b = c.all_cells-down.result in
    let s = setting_of c.args.rules.now g.words c.args.board.now c.args.cross.now path a b c.law_of_squares.ensures c.requires.1.1.1.0 c.requires.1.1.1.1.0 c.requires.1.1.1.1.1.0 (c.all_cells-across.ensures g.words) (c.all_cells-down.ensures g.words) in
    good_sorted c.args.rules.now g.words c.args.board.now path a b s c.numbers-numbers.result c.rack_worth-worth.result.points c.rack_worth-worth.result.ones c.rack_worth-worth.ensures.points c.rack_worth-worth.ensures.ones
    c.all_bounds.result c.all_bounds-2.result c.all_starts.result c.best_first-starts.result (omega arith) c.all_starts.ensures c.best_first-starts.ensures c.all_bounds.ensures c.all_bounds-2.ensures

pub returns-clause-all : goal.returns-clause-all
returns-clause-all g c =
    let path = g.L.PathLex.language c.args.lex.now in
    let a = c.all_cells-across.result in
    let b = c.all_cells-down.result in
    let s = setting_of c.args.rules.now g.words c.args.board.now c.args.cross.now path a b c.law_of_squares.ensures c.requires.1.1.1.0 c.requires.1.1.1.1.0 c.requires.1.1.1.1.1.0 (c.all_cells-across.ensures g.words) (c.all_cells-down.ensures g.words) in
    let given = flat_map (given_from c.args.rules.now c.args.board.now path (both_cells a b) c.numbers-numbers.result) c.best_first-starts.result in (
      given,
      subst (λ r. AreAll c.args.rules.now g.words c.args.board.now r given) c.numbers-numbers.ensures.numbers
          (all_sorted c.args.rules.now g.words c.args.board.now path a b s c.numbers-numbers.result c.all_bounds.result c.all_bounds-2.result c.all_starts.result c.best_first-starts.result (omega arith) c.all_starts.ensures c.best_first-starts.ensures),
      c.from_starts.ensures.took,
    )
