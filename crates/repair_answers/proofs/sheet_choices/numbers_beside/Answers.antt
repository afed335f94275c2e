use Rattle.repair_answers.proofs.SheetChoices.{numbers_near}
use Rattle.repair_answers.proofs.sheet_choices.numbers_beside.Goals as goal

pub returns-else-are_numbers_below : goal.returns-else-are_numbers_below
returns-else-are_numbers_below c =
    numbers_near c.args.first.now c.args.alone.now (λ rest below. cc ((c.are_numbers_below.ensures rest).1 below, c.if-are_numbers_below.false))
