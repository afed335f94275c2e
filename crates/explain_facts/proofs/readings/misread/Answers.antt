use Rattle.std.proofs.lemmas.Int.{ints}
use Rattle.std.proofs.Common.{◌≡◌, rules, true, w32, to_z, of_z, to_z-of_z, length, refl, ap, ◌∙◌}
use Rattle.std.proofs.lemmas.Option.{slice_get_read}
use Rattle.std.specs.List.{list_all}
use Rattle.ref_play.specs.Words.{items_of, words_formed}
use Rattle.lex_list.specs.Words.{is_listed}
use Rattle.explain_facts.specs.Moments.{moment_of}
use Rattle.explain_facts.specs.Readings.{IsOnRack}
use Rattle.game_turns.specs.Unlisted.{letters_in}
use Rattle.explain_facts.proofs.Plays.{of_play}
use Rattle.explain_facts.proofs.ReadLaws.{read_as, misread}
use Rattle.explain_facts.proofs.readings.misread.Goals as goal

pub returns : goal.returns
returns c =
    let m = moment_of c.args.scene.now in
    let word = c.args.word.now in
    let text = c.as_slice.result.now in
    let symbol = c.in-Some.symbol.now in
    let other = c.args.other in
    let ps = c.in-Ok.play.tiles.items in
    let rack = c.in-Some-rack.rack in
    let items = items_of c.words-formed.result.items in
    let same = c.as_slice.ensures.value ∙ c.in_ok-text.ensures in
    let value = to_z-of_z {w = w32} {z = c.value.result} (search (rules, ints)) ∙ c.value.ensures.value in
    let scored = to_z-of_z {w = w32} {z = c.score.result} (search (rules, ints)) in
    let stands = slice_get_read word (length word) c.args.place symbol refl c.in-Some.ensures.lookup.3.0 c.in-Some.ensures.lookup.1 in
    let is = read_as m c.board-board.result.now c.args.at c.args.dir word text c.args.place symbol other ps c.along.result c.byte.result c.byte-2.result
    (to_z w32 (of_z w32 c.score.result)) c.board-board.ensures stands c.along.ensures c.byte.ensures c.byte-2.ensures
    same c.in-Ok.ensures.none c.in-Ok.ensures.tiles.1 (scored ∙ c.score.ensures) (c.are_two_tiles.ensures c.if-not-are_two_tiles.false) in
    let on_rack : IsOnRack rack ps = search rules in
    let listed : list_all (is_listed m.list) items ≡ true = search rules in
    let spelled : letters_in c.in_ok-spelled.field-0.items ≡ items = search rules in
    of_play c.args.scene.now.event.now.kind c.args.at c.args.dir word _ c.requires
    (misread m c.board-board.result.now c.args.at c.args.dir word text c.args.place symbol other ps rack c.along.result c.byte.result c.byte-2.result items
    (letters_in c.in_ok-spelled.field-0.items) (to_z w32 (of_z w32 c.score.result)) (to_z w32 (of_z w32 c.value.result)) c.board-board.ensures is c.in-Some-rack.is same
    c.in-Ok.ensures.tiles.1 on_rack
    (c.words-formed.ensures ∙ ap (λ d. words_formed d c.board-board.result.now ps) c.in-Ok.ensures.tiles.0) spelled listed value)
