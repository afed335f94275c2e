use Rattle.std.proofs.Common.{◌∙◌, sym}
use Rattle.ref_play.specs.Placements.{with_tiles}
use Rattle.ref_play.proofs.PlaceLaws.{is_play-parts}
use Rattle.ref_play.proofs.LegalLaws.{has_gap-false}
use Rattle.ref_play.proofs.FormedRuns.{laid_from}
use Rattle.ref_play.proofs.judging.try_play.Goals as goal

pub is_too_short-requires : goal.is_too_short-requires
is_too_short-requires c =
    let play = c.args.play.now in
    let ps = play.tiles.items in
    let after = with_tiles c.args.board.now ps in
    let parts = is_play-parts play.dir ps play.proper in
    let gap = rw (c.laid-after.ensures, c.deref-2.ensures.0) at (sym c.has_gap.ensures ∙ c.if-has_gap.false) in
    rw (c.laid-after.ensures, c.deref-4.ensures.0) (laid_from play.dir c.args.board.now ps c.law_of_squares.ensures play.proper (has_gap-false play.dir after ps parts.2 parts.3 gap))
