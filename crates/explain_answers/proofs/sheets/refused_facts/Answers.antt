use Rattle.std.proofs.Common.{◌+◌, List, take, drop, refl, ap, ◌∙◌}
use Rattle.gcg_read.specs.declared.events.Event.{Event}
use Rattle.game_turns.specs.Machines.{state_of}
use Rattle.explain_answers.proofs.Refusing.{fails_in, all_at}
use Rattle.explain_answers.proofs.Ruling.{adds_up, allowed_before}
use Rattle.explain_answers.proofs.sheets.refused_facts.Goals as goal

pub rule_fault_facts-requires : goal.rule_fault_facts-requires
rule_fault_facts-requires c =
    let sheet = c.args.sheet.now in
    record {
      fails = fails_in sheet.rules.now sheet.list.now sheet.record.now.events c.args.place c.args.event.now (state_of c.args.machine.now) c.args.why.now c.requires.stands c.requires.state
          c.requires.fails;
    }

pub returns-clause-reported : goal.returns-clause-reported
returns-clause-reported c =
    let sheet = c.args.sheet.now in
    all_at sheet.rules.now sheet.list.now sheet.record.now.events c.args.place _ c.in_ok-facts.facts.items
    (record {
      by = refl;
      listed = refl;
      past = ap (λ (events : List Event). take c.args.place events) c.as_slice-events.ensures;
      stands = c.requires.stands;
      later = c.events_after-later.ensures ∙ ap (λ (events : List Event). drop (c.args.place + 1) events) c.as_slice-events.ensures;
      before = c.requires.state;
    })
    c.in_ok-facts.ensures.reported

pub returns-clause-first : goal.returns-clause-first
returns-clause-first c =
    let sheet = c.args.sheet.now in
    let front = ap (λ (events : List Event). take c.args.place events) c.as_slice-events.ensures in
    c.in_ok-facts.ensures.first (
      adds_up sheet.rules.now sheet.record.now.events _ c.args.place c.args.event.now (state_of c.args.machine.now) c.requires.stands c.requires.state front,
      allowed_before sheet.rules.now sheet.list.now sheet.record.now.events _ c.args.place front c.requires.allowed,
    )
