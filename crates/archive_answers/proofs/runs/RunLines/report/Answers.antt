use Rattle.std.proofs.Common.{◌∙◌, ap, ℕ, max, refl}
use Rattle.game_exits.specs.Exits.{status_of}
use Rattle.archive_answers.proofs.Running.{has_line}
use Rattle.archive_answers.proofs.runs.RunLines.report.Goals as goal

pub returns-clause-reported : goal.returns-clause-reported
returns-clause-reported c =
    has_line c.args.fields.now c.args.self.now _ refl c.in_ok-put_line.ensures
    (c.worse-self.ensures ∙ ap (λ (n : ℕ). max (status_of c.args.self.now.worst) n) c.exit_of_line.ensures)
