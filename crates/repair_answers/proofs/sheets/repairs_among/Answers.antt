use Rattle.std.proofs.Common.{ℕ, rules}
use Rattle.std.proofs.lemmas.List.Sorted.{IsNonDecreasingBy-from_sort_by_key, answers_always}
use Rattle.repair_answers.specs.declared.sheet_repair.SheetRepair.{SheetRepair}
use Rattle.repair_answers.proofs.SheetsFound.{sorted_ones}
use Rattle.repair_answers.proofs.sheets.repairs_among.Goals as goal

pub returns : goal.returns
returns c =
    let key : SheetRepair → ℕ = λ (x : SheetRepair). x.cost in
    let rises = IsNonDecreasingBy-from_sort_by_key key c.sort_by_key.new.self.items c.in_ok-sort_by_key.ensures.sorted (λ a r f k. search rules) in
    sorted_ones c.args.rules.now c.args.list.now c.args.text.now c.args.events.now c.args.room c.args.slips.now c.in_ok-found.found.items c.sort_by_key.new.self.items
    c.in_ok-found.ensures c.sort_by_key.ensures.permutation rises (c.sort_by_key.ensures.stable key (answers_always _ _ _ (λ f a r g h. search rules)))
