use Rattle.std.proofs.Common.{◌≡◌, true, sym, subst, rules}
use Rattle.ref_play.specs.Placements.{are_rising}
use Rattle.ref_play.proofs.PlaceLaws.{is_play-parts}
use Rattle.ref_play.proofs.Taking.{without_empties}
use Rattle.ref_play.proofs.judging.undo.Goals as goal

pub lift_tiles-requires-clause-rising : goal.lift_tiles-requires-clause-rising
lift_tiles-requires-clause-rising c =
    subst (λ ps. are_rising ps ≡ true) (sym c.deref.ensures.0) (is_play-parts c.args.play.now.dir c.args.play.now.tiles.items c.args.play.now.proper).2

pub returns-clause-board : goal.returns-clause-board
returns-clause-board c = search (without_empties, rules)

pub returns-clause-squares : goal.returns-clause-squares
returns-clause-squares c = search (without_empties, rules)
