use Rattle.std.proofs.Common.{◌≡◌, slice_get, subst}
use Rattle.std.specs.Option.{option_copied}
use Rattle.gcg_numbers.proofs.Rounds.{of_nothing}
use Rattle.gcg_numbers.proofs.writing.push_next.Goals as goal

pub returns-in_default-clause-line : goal.returns-in_default-clause-line
returns-in_default-clause-line c =
    of_nothing c.args.events.now c.args.line.now (subst (λ o. option_copied o ≡ slice_get c.args.events.now 0) c.in_default.is c.first.ensures.value)
