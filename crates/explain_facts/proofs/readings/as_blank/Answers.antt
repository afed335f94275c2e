use Rattle.std.proofs.lemmas.Int.{ints}
use Rattle.std.proofs.Common.{rules, w32, to_z, of_z, to_z-of_z, length, refl, ap, ◌∙◌, subst}
use Rattle.std.proofs.lemmas.Option.{slice_get_read}
use Rattle.ref_tiles.specs.Symbols.{byte_of}
use Rattle.explain_facts.specs.Moments.{moment_of}
use Rattle.explain_facts.specs.Readings.{swapped, AreTwoTiles, with_symbol}
use Rattle.explain_facts.proofs.ReadLaws.{read_as, as_blank}
use Rattle.explain_facts.proofs.readings.as_blank.Goals as goal

pub returns : goal.returns
returns c =
    let m = moment_of c.args.scene.now in
    let word = c.args.word.now in
    let symbol = c.in-Some.symbol.now in
    let blank = c.swapped-other.ensures in
    let same = c.as_slice.ensures.value ∙ c.in_ok-text.ensures ∙ ap (with_symbol word c.args.place) blank in
    let value = to_z-of_z {w = w32} {z = c.value.result} (search (rules, ints)) ∙ c.value.ensures.value in
    let scored = to_z-of_z {w = w32} {z = c.score-score.result} (search (rules, ints)) in
    let is = read_as m c.board-board.result.now c.args.at c.args.dir word c.as_slice.result.now c.args.place symbol (swapped symbol) c.in-Ok.play.tiles.items c.along.result c.byte.result c.byte-2.result
    (to_z w32 (of_z w32 c.score-score.result)) c.board-board.ensures (slice_get_read word (length word) c.args.place symbol refl c.in-Some.ensures.lookup.3.0 c.in-Some.ensures.lookup.1) c.along.ensures c.byte.ensures (c.byte-2.ensures ∙ ap byte_of blank)
    same c.in-Ok.ensures.none c.in-Ok.ensures.tiles.1 (scored ∙ c.score-score.ensures)
    (subst (AreTwoTiles symbol) blank (c.are_two_tiles.ensures c.if-not-are_two_tiles.false)) in
    as_blank m c.args.at c.args.dir word c.args.place symbol _ _ _ _ c.requires is (ap (to_z w32) c.if-score-value.false ∙ value)
