use Rattle.std.proofs.Common.{◌∙◌, ap}
use Rattle.gcg_numbers.specs.Numbers.{text_with}
use Rattle.sheet_audit.proofs.ReadBack.{read_back}
use Rattle.sheet_audit.proofs.corrected.corrected_text.Goals as goal

pub returns-clause-again : goal.returns-clause-again
returns-clause-again c =
    read_back c.args.audit.now c.in_ok-text.text.items c.law_of_numbers.ensures
    (c.in_ok-text.ensures ∙ ap (λ events. text_with events c.deref.result.now) c.as_slice.ensures ∙ ap (text_with c.args.audit.now.entry.record.events) c.deref.ensures.value)
