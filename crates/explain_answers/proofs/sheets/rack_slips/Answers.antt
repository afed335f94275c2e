use Rattle.std.proofs.Common.{◌+◌, List, take, drop, refl, ap, ◌∙◌}
use Rattle.gcg_read.specs.declared.events.Event.{Event}
use Rattle.explain_answers.proofs.Refusing.{all_at}
use Rattle.explain_answers.proofs.sheets.rack_slips.Goals as goal

pub returns : goal.returns
returns c =
    let sheet = c.args.sheet.now in
    all_at sheet.rules.now sheet.list.now sheet.record.now.events c.args.place _ c.report_rack_slip.new.facts.items
    (record {
      by = refl;
      listed = refl;
      past = ap (λ (events : List Event). take c.args.place events) c.as_slice-events.ensures;
      stands = c.requires.stands;
      later = c.events_after-later.ensures ∙ ap (λ (events : List Event). drop (c.args.place + 1) events) c.as_slice-events.ensures;
      before = c.requires.state;
    })
    c.in_ok-report_rack_slip.ensures
