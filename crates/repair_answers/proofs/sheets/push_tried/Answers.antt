use Rattle.std.proofs.Common.{◌≡◌, ◌+◌, ◌∙◌, List, Some, ap, sym, subst}
use Rattle.std.specs.Option.{option_copied}
use Rattle.std.specs.Prelude.{slice_get}
use Rattle.repair_answers.specs.Sheets.{IsTrial, AreFoundTo}
use Rattle.repair_answers.specs.declared.sheet_repair.SheetRepair.{SheetRepair}
use Rattle.repair_answers.proofs.SheetsFound.{none_more, one_more}
use Rattle.repair_answers.proofs.sheets.push_tried.Goals as goal

pub returns-in_default-2 : goal.returns-in_default-2
returns-in_default-2 c =
    let at : slice_get c.args.slips.now c.args.number ≡ Some c.in-Some.slip.now = sym c.slip_at.ensures ∙ ap option_copied c.in-Some.is in
    none_more c.args.rules.now c.args.list.now c.args.text.now c.args.events.now c.args.room c.args.number c.args.slips.now c.args.found.now.items c.in-Some.slip.now at
    (subst (IsTrial c.args.rules.now c.args.list.now c.args.text.now c.args.events.now c.args.room c.args.number c.in-Some.slip.now) c.in_default-2.is c.in_ok-repair.ensures)

pub returns : goal.returns
returns c =
    let at : slice_get c.args.slips.now c.args.number ≡ Some c.in-Some.slip.now = sym c.slip_at.ensures ∙ ap option_copied c.in-Some.is in
    λ so_far.
    subst
    (λ (rs : List SheetRepair). AreFoundTo c.args.rules.now c.args.list.now c.args.text.now c.args.events.now c.args.room c.args.slips.now (c.args.number + 1) rs)
    (sym c.in_ok-push.ensures.items)
    (one_more c.args.rules.now c.args.list.now c.args.text.now c.args.events.now c.args.room c.args.number c.args.slips.now c.args.found.now.items c.in-Some.slip.now c.in-Some-2.repair at
    (subst (IsTrial c.args.rules.now c.args.list.now c.args.text.now c.args.events.now c.args.room c.args.number c.in-Some.slip.now) c.in-Some-2.is c.in_ok-repair.ensures)
    so_far)
