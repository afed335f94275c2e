use Rattle.std.proofs.Common.{◌≡◌, true, ◌==◌, length, subst}
use Rattle.ref_board.specs.declared.directions.Dir.TheVariants.{Across}
use Rattle.ref_play.specs.Placements.{is_play, are_in_line}
use Rattle.ref_play.proofs.WrittenRuns.{row_of_across, row_of_down}
use Rattle.ref_play.proofs.writing.lies_across.Goals as goal

pub returns-in-Across : goal.returns-in-Across
returns-in-Across c =
    let ps = c.args.play.now.tiles.items in
    let row : are_in_line Across ps ≡ true = row_of_across ps (subst (λ d. is_play d ps ≡ true) c.in-Across.is c.args.play.now.proper) in
    cc

pub returns-in-Down : goal.returns-in-Down
returns-in-Down c =
    let ps = c.args.play.now.tiles.items in
    let row : (length ps == 1) ≡ are_in_line Across ps = row_of_down ps (subst (λ d. is_play d ps ≡ true) c.in-Down.is c.args.play.now.proper) in
    cc
