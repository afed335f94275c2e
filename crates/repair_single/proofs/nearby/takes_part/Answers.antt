use Rattle.std.proofs.Common.{◌-◌, ◌<◌, List, length, sym, ◌∙◌, subst, arith}
use Rattle.gcg_read.specs.declared.events.Event.{Event}
use Rattle.game_turns.specs.Machines.{rules_of, state_of}
use Rattle.repair_single.specs.FirstSteps.{MayAddStep}
use Rattle.repair_single.proofs.Neighbours.{begin_anywhere, more_anywhere, refused_part, taken_part}
use Rattle.repair_single.proofs.nearby.takes_part.Goals as goal

pub loop-place-init : goal.loop-place-init
loop-place-init c =
    record { anywhere = begin_anywhere (rules_of c.args.machine.now) c.args.list.now c.args.near.now c.args.machine.now c.args.first.now.steps.items c.requires }

pub loop-place-preserved : goal.loop-place-preserved
loop-place-preserved c =
    let many = c.len.ensures in
    let last = c.saturating_sub-last.ensures in
    let within : c.loop-place.place < length c.args.near.now - 1 = omega (arith, many, last) in
    record {
      anywhere = more_anywhere c.law_of_tallies.ensures (rules_of c.args.machine.now) c.args.list.now c.args.near.now c.loop-place.near c.mend.new.events c.args.machine.now c.loop-place.machine
          c.mend.new.machine c.loop-place.place c.loop-place.first.steps.items c.note.new.self.steps.items c.mend.result c.loop-place.invariant.anywhere within
          (subst (λ (es : List Event). MayAddStep (state_of c.loop-place.machine) es c.loop-place.place c.loop-place.first.steps.items c.note.new.self.steps.items) c.as_slice.ensures c.in_ok-note.ensures)
          c.mend.ensures.mended (sym c.is_err.ensures.value ∙ c.if-is_err.false) c.mend.ensures.reported c.mend.ensures.state c.mend.ensures.rules;
    }

pub returns-then-is_err-clause-refused : goal.returns-then-is_err-clause-refused
returns-then-is_err-clause-refused c =
    let many = c.len.ensures in
    let last = c.saturating_sub-last.ensures in
    let within : c.loop-place.place < length c.args.near.now - 1 = omega (arith, many, last) in
    λ no.
    refused_part (rules_of c.args.machine.now) c.args.list.now c.args.near.now c.loop-place.near c.mend.new.events c.args.machine.now c.loop-place.machine c.loop-place.place
    c.loop-place.first.steps.items c.mend.result c.loop-place.invariant.anywhere within c.mend.ensures.mended (sym c.is_err.ensures.value ∙ c.if-is_err.true) c.mend.ensures.reported c.mend.ensures.remaining

pub returns-clause-taken : goal.returns-clause-taken
returns-clause-taken c =
    let many = c.len.ensures in
    let last = c.saturating_sub-last.ensures in
    let past = c.loop-place-test.false in
    let auto = c.loop-place.auto.place-end in
    λ yes_it.
    taken_part (rules_of c.args.machine.now) c.args.list.now c.args.near.now c.loop-place.near c.args.machine.now c.loop-place.machine c.loop-place.place c.loop-place.first.steps.items
    c.loop-place.invariant.anywhere (omega (arith, many, last, past, auto))
