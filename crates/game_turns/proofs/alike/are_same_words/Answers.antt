use Rattle.std.proofs.Common.{◌≡◌, ◌<◌, length, refl, sym, ◌∙◌, arith}
use Rattle.ref_play.specs.Words.{items_of}
use Rattle.game_turns.proofs.SameLists.{same_more, other_here, same_all, item_at, as_many}
use Rattle.game_turns.proofs.alike.are_same_words.Goals as goal

pub loop-place-init : goal.loop-place-init
loop-place-init c = refl

pub returns-then-not-same_letters : goal.returns-then-not-same_letters
returns-then-not-same_letters c =
    let words = c.args.words.now in
    let others = c.args.others.now in
    let a = c.index-words-place.result in
    let b = c.index-others-place.result in
    let many = as_many words in (
      λ no. cc,
      λ same.
          absurd (other_here (items_of words) (items_of others) c.loop-place.place a.items b.items (omega (arith, many)) (item_at words c.loop-place.place a c.index-words-place.is)
          (item_at others c.loop-place.place b c.index-others-place.is)
          (λ alike. let so = c.same_letters.ensures.1 (c.deref.ensures.0 ∙ alike ∙ sym c.deref-in-loop-place.ensures.0) in let not_so = c.if-not-same_letters.true in cc) same),
    )

pub loop-place-preserved : goal.loop-place-preserved
loop-place-preserved c =
    let words = c.args.words.now in
    let others = c.args.others.now in
    let a = c.index-words-place.result in
    let b = c.index-others-place.result in
    let many = as_many words in
    let count_others = as_many others in
    let within : c.loop-place.place < length others = omega arith in
    same_more (items_of words) (items_of others) c.loop-place.place a.items b.items (omega (arith, many)) (omega (arith, count_others, within)) (item_at words c.loop-place.place a c.index-words-place.is)
    (item_at others c.loop-place.place b c.index-others-place.is)
    (sym c.deref.ensures.0 ∙ c.same_letters.ensures.0 c.if-not-same_letters.false ∙ c.deref-in-loop-place.ensures.0) c.loop-place.invariant

pub returns : goal.returns
returns c =
    let words = c.args.words.now in
    let others = c.args.others.now in
    let many = as_many words in
    let count_others = as_many others in
    let all = c.loop-place-test.false in
    let long : length words ≡ length others = omega arith in
    (λ yes_it. same_all (items_of words) (items_of others) c.loop-place.place (many ∙ long ∙ sym count_others) (omega (arith, many, all)) c.loop-place.invariant, λ same. refl)
