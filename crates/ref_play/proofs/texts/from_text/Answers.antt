use Rattle.std.proofs.Common.{◌≡◌, ◌≤◌, length, true, false, sym, ◌∙◌, subst, arith, rules}
use Rattle.std.specs.List.{list_all}
use Rattle.std.proofs.lemmas.Bool.Decides.{nat_tests}
use Rattle.ref_play.specs.Placements.{is_play}
use Rattle.ref_board.specs.Lines.{line_of, place_of}
use Rattle.ref_board.specs.Cells.{occupied_on}
use Rattle.ref_board.specs.Runs.{IsWhole}
use Rattle.ref_play.specs.Placements.{with_tiles}
use Rattle.ref_play.specs.Texts.{placement_of, fits_board, text_cells, is_open_ended}
use Rattle.ref_play.proofs.TextLemmas.{is_play-placement_of}
use Rattle.ref_play.proofs.WholeTexts.{whole_text}
use Rattle.ref_play.proofs.texts.from_text.Goals as goal

pub invariant_of-result : goal.invariant_of-result
invariant_of-result c =
    let named = placement_of c.args.board.now c.args.dir c.args.at c.args.word.now in
    let same : c.shortened.result.items ≡ named = search rules in
    let some : 1 ≤ length named = rw (← c.placement_of-tiles.ensures) (grind (arith, nat_tests)) in
    let few : length named ≤ 7 = rw (← c.placement_of-tiles.ensures) (search rules) in
    record { proper = subst (λ ps. is_play c.args.dir ps ≡ true) (sym same) (is_play-placement_of c.args.board.now c.args.dir c.args.at c.args.word.now c.place.ensures.on_board (omega arith) some few) }

pub returns-clause-whole : goal.returns-clause-whole
returns-clause-whole c =
    let board = c.args.board.now in
    let d = c.args.dir in
    let at = c.args.at in
    let word = c.args.word.now in
    let same : c.shortened.result.items ≡ placement_of board d at word = search rules in
    let fits : list_all (fits_board board) (text_cells d at word) ≡ true = search rules in
    let closed : is_open_ended board d at word ≡ false = sym c.is_open_ended.ensures ∙ c.if-is_open_ended.false in
    subst (λ ps. IsWhole (occupied_on d (with_tiles board ps) (line_of d at)) (place_of d at) (length word)) (sym same)
    (whole_text board d at word c.law_of_squares.ensures c.place.ensures.on_board (omega arith) fits closed)
