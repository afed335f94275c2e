use Rattle.std.proofs.Common.{◌≡◌, ◌<◌, length, refl, arith}
use Rattle.std.proofs.lemmas.Option.{slice_get_within}
use Rattle.repair_rewrites.specs.Reading.{SameByName}
use Rattle.gcg_read.proofs.AlikeLists.{alike_more}
use Rattle.repair_rewrites.proofs.comparing.alike_by_name.Goals as goal

pub loop-place-preserved : goal.loop-place-preserved
loop-place-preserved c =
    let also : c.loop-place.place < length c.args.others.now = omega arith in
    record {
      alike = alike_more (SameByName c.args.players.now c.args.names.now) c.args.events.now c.args.others.now c.loop-place.place c.index-events-place.result c.index-others-place.result c.loop-place-test.true also c.index-events-place.is c.index-others-place.is
          (c.same_by_name.ensures.0 c.if-not-same_by_name.false) c.loop-place.invariant.alike;
    }

pub returns : goal.returns
returns c =
    let long : length c.args.events.now ≡ length c.args.others.now = omega arith in
    let all = c.loop-place-test.false in (
      λ is.
          record {
            as_many = long;
            each = λ k a b of_a of_b. let within = slice_get_within c.args.events.now k a of_a in c.loop-place.invariant.alike k a b (omega (arith, within, all)) of_a of_b;
          },
      λ same. refl,
    )
