use Rattle.std.proofs.Common.{◌≡◌, ◌-◌, ◌∷◌, [], length, take, drop, sym, ◌∙◌, arith, rules}
use Rattle.repair_answers.specs.Choices.{all_known}
use Rattle.repair_answers.proofs.SheetChoices.{whole, same_choice}
use Rattle.repair_answers.proofs.choices.choice_among.Goals as goal

pub returns-in-len1-up : goal.returns-in-len1-up
returns-in-len1-up c =
    let parts = c.first-item.result ∷ take (length c.args.sheets.now - 1) (drop 1 c.args.sheets.now) in
    let same : c.args.sheets.now ≡ parts = whole c.args.sheets.now c.first-item.result (search rules) (search rules) in
    let known = sym c.all_known.ensures ∙ c.if-not-all_known.false in
    same_choice c.args.found.now.reported.items c.as_slice-reported.result.now (all_known c.args.found.now.remaining.items c.args.found.now.from) c.args.pairs.now c.args.sheets.now parts c.args.alone.now
    c.with_sheets.result c.as_slice-reported.ensures.value known same c.with_sheets.ensures
