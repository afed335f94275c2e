use Rattle.std.proofs.Common.{length, refl, ap, ◌∙◌, arith}
use Rattle.gcg_read.specs.declared.records.Record.{Record}
use Rattle.game_deal.proofs.FitWalks.{sizes_differ, not_at, not_after, one_more, all_fit}
use Rattle.game_deal.proofs.fitting.fits.Goals as goal

pub returns-then-held-events : goal.returns-then-held-events
returns-then-held-events c =
    sizes_differ c.args.passed.now c.args.deal.now c.as_slice-events.result.now (length c.as_slice-held.result.now) (length c.as_slice-events.result.now)
    (ap length c.as_slice-held.ensures) refl (c.as_slice-events.ensures ∙ ap (λ (r : Record). r.events) c.record.ensures.record) c.if-held-events.true

pub returns-then-not-fits_at : goal.returns-then-not-fits_at
returns-then-not-fits_at c =
    not_at c.args.passed.now c.rules-rules.result.now c.args.deal.now c.as_slice-held.result.now c.loop-place.place c.take_step-step.result c.index-held-place.result c.fits_at.result
    c.rules-rules.ensures c.as_slice-held.ensures c.take_step-step.ensures.step (omega arith) c.index-held-place.is c.loop-place.invariant.rest c.if-not-fits_at.true c.fits_at.ensures

pub returns-then-not-follows_to : goal.returns-then-not-follows_to
returns-then-not-follows_to c =
    not_after c.args.passed.now c.rules-rules.result.now c.args.deal.now c.as_slice-held.result.now c.split_at.result.1.now c.loop-place.place c.take_step-step.result c.index-held-place.result
    c.follows_to.result c.rules-rules.ensures c.as_slice-held.ensures c.take_step-step.ensures.step (omega arith) c.index-held-place.is c.split_at.ensures.back c.loop-place.invariant.rest c.if-not-follows_to.true
    c.follows_to.ensures

pub loop-place-preserved : goal.loop-place-preserved
loop-place-preserved c =
    record {
      before = c.take_step-step.ensures.following;
      rest =
          one_more c.args.passed.now c.rules-rules.result.now c.args.deal.now c.as_slice-held.result.now c.split_at.result.1.now c.loop-place.place c.take_step-step.result
          c.index-held-place.result c.fits_at.result c.follows_to.result c.rules-rules.ensures c.as_slice-held.ensures c.take_step-step.ensures.step (omega arith) c.index-held-place.is
          c.split_at.ensures.back c.loop-place.invariant.rest c.if-not-fits_at.false c.fits_at.ensures c.if-not-follows_to.false c.follows_to.ensures;
    }

pub returns : goal.returns
returns c =
    all_fit c.args.passed.now c.args.deal.now c.as_slice-events.result.now (length c.as_slice-held.result.now) (length c.as_slice-events.result.now) c.loop-place.place
    (ap length c.as_slice-held.ensures) refl (c.as_slice-events.ensures ∙ ap (λ (r : Record). r.events) c.record.ensures.record) c.if-held-events.false (omega arith)
    c.loop-place.invariant.rest
