use Rattle.std.proofs.Common.{◌≡◌, length, ap, ◌∙◌, refl, arith}
use Rattle.game_case.specs.Archiving.{unlisted_plays, unlisted_to}
use Rattle.game_case.proofs.WalkedRecords.{unlisted_more}
use Rattle.compare_choices.proofs.corrections.unlisted_plays.Goals as goal

pub loop-place-init : goal.loop-place-init
loop-place-init c = record { plays = λ rules list events have. refl; few = omega arith }

pub loop-place-preserved : goal.loop-place-preserved
loop-place-preserved c =
    let more = c.unlisted_here-plays.ensures.few in
    let so_far = c.loop-place.invariant.few in
    record {
      plays = λ rules list events have.
          unlisted_more rules list events c.args.rows.now c.loop-place.place c.index-rows-place.result c.loop-place.plays c.unlisted_here-plays.result have c.loop-place-test.true c.index-rows-place.is
          (c.loop-place.invariant.plays rules list events have) c.unlisted_here-plays.ensures.number;
      few = omega (arith, more, so_far);
    }

pub returns : goal.returns
unfolding unlisted_plays
returns c =
    λ rules list events have.
    let many = have.are.as_many in
    let within = c.loop-place.auto.place-end in
    let past = c.loop-place-test.false in
    let place : c.loop-place.place ≡ length events = omega (arith, many) in
    c.loop-place.invariant.plays rules list events have ∙ ap (unlisted_to rules list events) place
