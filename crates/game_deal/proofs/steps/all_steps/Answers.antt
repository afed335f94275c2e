use Rattle.std.proofs.Common.{ap, ◌∙◌}
use Rattle.std.proofs.lemmas.List.{take_all}
use Rattle.gcg_read.specs.declared.records.Record.{Record}
use Rattle.game_deal.specs.Recorded.{steps_of}
use Rattle.game_deal.proofs.RecordWalks.{steps_more, at_end}
use Rattle.game_deal.proofs.steps.all_steps.Goals as goal

pub loop-place-preserved : goal.loop-place-preserved
loop-place-preserved c =
    let passed = c.args.passed.now in
    let steps = steps_of passed.rules.now passed.record.now.events in
    let more = steps_more steps c.loop-place.place c.take_step-step.result c.take_step-step.ensures.step in
    let pushed = c.in_ok-append.ensures in
    record { before = c.take_step-step.ensures.following; steps = cc }

pub returns : goal.returns
returns c =
    let passed = c.args.passed.now in
    let events = passed.record.now.events in
    let steps = steps_of passed.rules.now events in
    let place = c.loop-place.place in
    let same = ap (λ (r : Record). r.events) c.record.ensures.record in
    c.loop-place.invariant.steps
    ∙ take_all place steps (at_end passed.rules.now events c.record.result.now.events c.len-place-end.result place same c.len-place-end.ensures c.loop-place-test.false)
