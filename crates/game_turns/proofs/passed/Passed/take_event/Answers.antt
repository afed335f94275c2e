use Rattle.std.proofs.Common.{◌≡◌, sym, ◌∙◌, arith, Some, None}
use Rattle.std.specs.Option.{option_copied}
use Rattle.game_turns.specs.declared.faults.RuleFault.{RuleFault}
use Rattle.game_turns.specs.Machines.{state_of}
use Rattle.game_turns.proofs.PlaceLaws.{fault_reported, state_remaining}
use Rattle.game_turns.proofs.passed.Passed.take_event.Goals as goal

no_fault : (why : RuleFault) → Some why ≡ None → ⊥
no_fault why e = (cc)

pub unreachable-requires : goal.unreachable-requires
unreachable-requires c =
    let passed = c.args.self.now in
    let events = c.as_slice-events.result.now in
    let place = c.args.place in
    let reported = fault_reported passed.rules.now passed.list.now events place c.index-events-place.result c.args.machine.now (Some c.in_default.field-0) (rw c.as_slice-events.ensures c.requires.place)
    c.index-events-place.is c.requires.rules (rw c.as_slice-events.ensures c.requires.state) c.in_default.ensures.reported in
    no_fault c.in_default.field-0 (sym reported ∙ rw c.as_slice-events.ensures (passed.allowed place c.requires.place))

pub returns-clause-state : goal.returns-clause-state
returns-clause-state c =
    let passed = c.args.self.now in
    let events = c.as_slice-events.result.now in
    let place = c.args.place in
    rw (sym c.as_slice-events.ensures) (state_remaining c.law_of_tallies.ensures passed.rules.now passed.list.now events place c.index-events-place.result c.args.machine.now (state_of c.step.new.self) (option_copied c.event_after.result)
    (rw c.as_slice-events.ensures c.requires.place) c.index-events-place.is c.requires.rules (rw c.as_slice-events.ensures c.requires.state) c.event_after.ensures
    (λ k below. rw c.as_slice-events.ensures (passed.allowed k (omega arith))) c.in-Ok.ensures.state)
