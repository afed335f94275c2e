use Rattle.std.proofs.Common.{rules}
use Rattle.repair_answers.proofs.sheet_choices.with_sheets.Goals as goal

pub returns-then-is_sheet_ahead : goal.returns-then-is_sheet_ahead
returns-then-is_sheet_ahead c = c.by_sheet.ensures c.args.reported.now c.args.pairs.now c.args.alone.now c.args.rest.now (search rules)

pub returns-else-is_sheet_ahead : goal.returns-else-is_sheet_ahead
returns-else-is_sheet_ahead c =
    c.beside_sheet.ensures c.args.reported.now c.args.pairs.now c.args.rest.now (λ ahead. cc (c.is_sheet_ahead.ensures.1 ahead, c.if-is_sheet_ahead.false)) c.requires
