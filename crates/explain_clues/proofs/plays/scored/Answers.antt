use Rattle.std.proofs.lemmas.Int.{ints}
use Rattle.std.proofs.Common.{rules, w32, to_z-of_z, ◌∙◌, ap, map, List}
use Rattle.ref_play.specs.Words.{items_of}
use Rattle.explain_clues.specs.declared.words.ScoredWord.{ScoredWord}
use Rattle.explain_clues.specs.Words.{sum_in}
use Rattle.explain_clues.specs.Plays.{full_bonus}
use Rattle.explain_clues.proofs.WordLaws.{as_many, play_adds_up}
use Rattle.explain_clues.proofs.plays.scored.Goals as goal

pub played_words-requires-clause-each : goal.played_words-requires-clause-each
played_words-requires-clause-each c =
    let play = c.args.play.now in
    as_many c.args.rules.now c.args.board.now play.dir play.tiles.items c.as_slice.result.now c.as_slice-2.result.now
    (ap (λ (ws : List ScoredWord). map sum_in ws) c.as_slice.ensures.value ∙ c.scored_words-sums.ensures) (ap items_of c.as_slice-2.ensures.value ∙ c.words-spelled.ensures)

pub returns : goal.returns
returns c =
    let play = c.args.play.now in
    play_adds_up c.law_of_sums.ensures c.args.rules.now c.args.list.now c.args.board.now play.dir play.tiles.items _ (map sum_in c.as_slice.result.now) (items_of c.as_slice-2.result.now)
    (ap (λ (ws : List ScoredWord). map sum_in ws) c.as_slice.ensures.value ∙ c.scored_words-sums.ensures) (ap items_of c.as_slice-2.ensures.value ∙ c.words-spelled.ensures)
    c.played_words.ensures (c.full_bonus.ensures ∙ ap (full_bonus c.args.rules.now) c.deref.ensures.0) (to_z-of_z {w = w32} {z = c.score.result} (search (rules, ints)) ∙ c.score.ensures)
