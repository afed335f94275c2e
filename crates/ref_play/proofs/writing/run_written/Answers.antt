use Rattle.std.proofs.Common.{◌≡◌, ◌≤◌, true, false, sym, ◌∙◌, arith, ⊎_elim}
use Rattle.std.proofs.lemmas.Bool.{both_ways}
use Rattle.ref_board.specs.declared.directions.Dir.TheVariants.{Across}
use Rattle.ref_play.specs.Placements.{are_in_line}
use Rattle.ref_play.proofs.LegalLaws.{overlaps-from}
use Rattle.ref_play.proofs.WrittenRuns.{first_holds, written_across, written_down}
use Rattle.ref_play.proofs.writing.run_written.Goals as goal

pub laid-after-requires : goal.laid-after-requires
laid-after-requires c = overlaps-from c.args.board.now c.args.play.now.tiles.items c.requires.on_empty

pub run_through-across-requires : goal.run_through-across-requires
run_through-across-requires c =
    let play = c.args.play.now in
    rw (c.laid-after.ensures, c.deref.ensures.0) (first_holds play.dir c.args.board.now play.tiles.items c.index-deref-0.result c.law_of_squares.ensures play.proper)

pub returns-then-across-gt1-clause-run : goal.returns-then-across-gt1-clause-run
returns-then-across-gt1-clause-run c =
    let play = c.args.play.now in
    let through = rw (c.laid-after.ensures, c.deref.ensures.0) at c.run_through-across.ensures.run in
    written_across play.dir c.args.board.now play.tiles.items c.index-deref-0.result c.run_through-across.result c.law_of_squares.ensures play.proper c.requires
    (sym c.lies_across.ensures ∙ c.if-lies_across.true) c.run_through-across.ensures.dir through c.if-across-gt1.true

pub returns-else-lies_across-clause-run : goal.returns-else-lies_across-clause-run
returns-else-lies_across-clause-run c =
    let play = c.args.play.now in
    let ps = play.tiles.items in
    let row = rw (c.laid-after.ensures, c.deref.ensures.0) at c.run_through-across.ensures.run in
    let through = rw (c.laid-after.ensures, c.deref.ensures.0) at c.run_through.ensures.run in
    written_down play.dir c.args.board.now ps c.index-deref-0.result c.run_through-across.result.start c.run_through-across.result.len c.run_through.result c.law_of_squares.ensures play.proper c.requires
    row
    (λ (t : are_in_line Across ps ≡ true).
    ⊎_elim (λ (h : (c.lies_across.result ≡ true) × (c.run_through-across.result.len ≤ 1)). omega (arith, h.1))
    (λ (h : c.lies_across.result ≡ false). absurd (both_ways (are_in_line Across ps) (sym c.lies_across.ensures ∙ h) t))
    c.else-lies_across.either)
    c.run_through.ensures.dir through
