use Rattle.std.proofs.Common.{sym, subst}
use Rattle.std.specs.Prelude.{All}
use Rattle.ref_play.specs.Words.{IsWithin}
use Rattle.ref_play.proofs.LegalLaws.{overlaps-from}
use Rattle.ref_play.proofs.FormedRuns.{laid_from, runs_within}
use Rattle.ref_play.proofs.judging.formed.Goals as goal

pub laid-after-requires : goal.laid-after-requires
laid-after-requires c = overlaps-from c.args.board.now c.args.play.now.tiles.items c.requires.on_empty

pub runs_of-runs-requires : goal.runs_of-runs-requires
runs_of-runs-requires c =
    let play = c.args.play.now in
    rw (c.laid-after.ensures, c.deref.ensures.0) (laid_from play.dir c.args.board.now play.tiles.items c.law_of_squares.ensures play.proper c.requires.no_gap)

pub returns-clause-within : goal.returns-clause-within
returns-clause-within c = subst (All IsWithin) (sym c.runs_of-runs.ensures) (runs_within _ _ _)
