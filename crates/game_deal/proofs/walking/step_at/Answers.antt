use Rattle.std.proofs.Common.{ap, ◌∙◌}
use Rattle.gcg_read.specs.declared.records.Record.{Record}
use Rattle.game_turns.specs.Machines.{state_of}
use Rattle.game_deal.proofs.StepLaws.{given_named, given_step}
use Rattle.game_deal.proofs.walking.step_at.Goals as goal

pub next_step-requires : goal.next_step-requires
next_step-requires c =
    let passed = c.args.passed.now in
    let same = c.as_slice-events.ensures ∙ ap (λ (r : Record). r.events) c.record.ensures.record in
    given_named passed.rules.now passed.list.now passed.record.now.events c.as_slice-events.result.now c.args.place c.index-events-place.result (state_of c.args.machine.now)
    c.record.ensures.allowed same c.requires.place c.index-events-place.is c.requires.before.state

pub returns : goal.returns
returns c =
    let passed = c.args.passed.now in
    let same = c.as_slice-events.ensures ∙ ap (λ (r : Record). r.events) c.record.ensures.record in
    given_step passed.rules.now passed.record.now.events c.as_slice-events.result.now c.args.place c.index-events-place.result (state_of c.args.machine.now) c.get.result c.withdraws.result c.next_step.result
    same c.requires.place c.index-events-place.is c.requires.before.state c.get.ensures.lookup.0 c.get.ensures.lookup.1 c.withdraws.ensures c.next_step.ensures
