use Rattle.std.proofs.Common.{true, [], subst}
use Rattle.repair_answers.specs.Choices.{IsChoice}
use Rattle.repair_answers.specs.declared.choices.Choice.{Choice}
use Rattle.repair_answers.proofs.sheet_choices.beside_sheet.Goals as goal

pub returns-in-Clear : goal.returns-in-Clear
returns-in-Clear c =
    λ reported pairs rest following is.
    c.repair_beside.ensures reported pairs c.args.alone.now rest following (subst (λ (what : Choice). IsChoice reported true pairs [] c.args.alone.now what) c.in-Clear.is is)
