use Rattle.std.proofs.Common.{List, [], sym, subst}
use Rattle.repair_answers.specs.Sheets.{AreFoundTo}
use Rattle.repair_answers.specs.declared.sheet_repair.SheetRepair.{SheetRepair}
use Rattle.repair_answers.proofs.SheetsFound.{none_found}
use Rattle.repair_answers.proofs.sheets.found_among.Goals as goal

pub loop-number-init : goal.loop-number-init
loop-number-init c =
    record {
      so_far = subst (λ (rs : List SheetRepair). AreFoundTo c.args.rules.now c.args.list.now c.args.text.now c.args.events.now c.args.room c.args.slips.now 0 rs) (sym c.new-found.ensures.items)
          (none_found c.args.rules.now c.args.list.now c.args.text.now c.args.events.now c.args.room c.args.slips.now);
    }
