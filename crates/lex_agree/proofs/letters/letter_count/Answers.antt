use Rattle.std.proofs.Common.{[], length, ap, arith}
use Rattle.std.proofs.lemmas.List.Sums.{sum_by_more}
use Rattle.lex_list.specs.Words.{most_words}
use Rattle.lex_agree.proofs.Paths.{word_sizes}
use Rattle.lex_agree.proofs.letters.letter_count.Goals as goal

pub overflow_add-count : goal.overflow_add-count
unfolding most_words
overflow_add-count c =
    let few = (word_sizes c.word.result.now c.word.ensures.letters).1 in
    let words = c.len-place-end.ensures.proper.few in
    let number = c.len-place-end.ensures.number in
    let so_far = c.loop-place.invariant.few in
    let inside = c.loop-place-test.true in
    omega arith

pub loop-place-preserved : goal.loop-place-preserved
loop-place-preserved c =
    let few = (word_sizes c.word.result.now c.word.ensures.letters).1 in
    let so_far = c.loop-place.invariant.few in
    let number = c.len-place-end.ensures.number in
    let inside = c.loop-place-test.true in
    let before = c.loop-place.invariant.number in
    let more = sum_by_more length c.args.list.now c.loop-place.place [] (omega arith) in
    let word = ap length c.word.ensures.word in
    record { number = omega arith; few = omega arith }

pub returns-clause-few : goal.returns-clause-few
unfolding most_words
returns-clause-few c =
    let words = c.len-place-end.ensures.proper.few in
    let number = c.len-place-end.ensures.number in
    let so_far = c.loop-place.invariant.few in
    omega arith
