use Rattle.std.proofs.Common.{subst}
use Rattle.lex_check.specs.Pairs.{list_in}
use Rattle.sheet_notes.specs.Notes.{IsAnnotatedSheet}
use Rattle.reply_answers.specs.Given.{read_of}
use Rattle.reply_answers.proofs.annotated.annotated.Goals as goal

pub returns-clause-annotated : goal.returns-clause-annotated
returns-clause-annotated c =
    subst (λ n. IsAnnotatedSheet n c.args.rules.now (list_in c.args.pair.now) (read_of c.args.game.now) c.in_ok-annotated_sheet.field-0) c.notes_asked.ensures
    (c.in_ok-annotated_sheet.ensures.noted (read_of c.args.game.now) c.in_ok-case.ensures.found)
