use Rattle.std.proofs.Common.{◌<◌, ◌++◌, [], ◌∷◌, map, take, length, refl, sym, ap, ◌∙◌, arith, rules, add-one}
use Rattle.std.proofs.lemmas.Option.{slice_get_read}
use Rattle.ref_play.specs.Words.{items_of}
use Rattle.explain_clues.specs.Words.{sum_in}
use Rattle.explain_clues.specs.Plays.{word_in, words_by}
use Rattle.explain_clues.proofs.WordLaws.{words_more, one_reported}
use Rattle.explain_clues.proofs.plays.played_words.Goals as goal

pub loop-k-preserved : goal.loop-k-preserved
loop-k-preserved c =
    let list = c.args.list.now in
    let k = c.loop-k.k in
    let w = c.index-scored-k.result in
    let l = c.index-letters-k.result in
    let second : k < length c.args.letters.now = omega (arith, c.loop-k-test.true, c.requires.each) in
    let more = words_more list c.args.scored.now c.args.letters.now k w l (slice_get_read c.args.scored.now (length c.args.scored.now) k w refl c.loop-k-test.true c.index-scored-k.is)
    (slice_get_read c.args.letters.now (length c.args.letters.now) k l refl second c.index-letters-k.is) in
    record {
      words = rw (add-one k) (ap (map word_in) c.push.ensures.items ∙ one_reported c.loop-k.words.items c.played_word.result ∙ ap (λ ws. ws ++ word_in c.played_word.result ∷ []) c.loop-k.invariant.words
          ∙ ap (λ v. words_by list (map sum_in (take k c.args.scored.now)) (items_of (take k c.args.letters.now)) ++ v ∷ []) c.played_word.ensures ∙ sym more);
      len = search (rules);
    }
