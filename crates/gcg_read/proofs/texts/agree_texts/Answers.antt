use Rattle.std.proofs.Common.{◌≡◌, ◌<◌, length, refl, arith}
use Rattle.std.proofs.lemmas.Option.{slice_get_within}
use Rattle.gcg_read.specs.Alike.{AgreeSymbols}
use Rattle.gcg_read.proofs.AlikeLists.{alike_more}
use Rattle.gcg_read.proofs.texts.agree_texts.Goals as goal

pub loop-place-preserved : goal.loop-place-preserved
loop-place-preserved c =
    let also : c.loop-place.place < length c.args.text.now = omega arith in
    record {
      alike = alike_more AgreeSymbols c.args.word.now c.args.text.now c.loop-place.place c.index-word-place.result c.index-text-place.result c.loop-place-test.true also c.index-word-place.is c.index-text-place.is
          (c.agree_symbols.ensures.0 c.if-not-agree_symbols.false) c.loop-place.invariant.alike;
    }

pub returns : goal.returns
returns c =
    let long : length c.args.word.now ≡ length c.args.text.now = omega arith in
    let all = c.loop-place-test.false in (
      λ is.
          record {
            as_many = long;
            each = λ k a b of_a of_b. let within = slice_get_within c.args.word.now k a of_a in c.loop-place.invariant.alike k a b (omega (arith, within, all)) of_a of_b;
          },
      λ same. refl,
    )
