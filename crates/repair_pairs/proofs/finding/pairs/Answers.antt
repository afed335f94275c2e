use Rattle.std.proofs.Common.{◌∙◌, List, subst}
use Rattle.gcg_read.specs.declared.events.Event.{Event}
use Rattle.repair_pairs.specs.Finding.{ArePairsSoFar}
use Rattle.repair_pairs.proofs.Adding.{reported_ok}
use Rattle.repair_pairs.proofs.finding.pairs.Goals as goal

pub returns-clause-reported : goal.returns-clause-reported
returns-clause-reported c =
    let found = c.in_ok-found.found in
    let so = subst (λ (es : List Event). ArePairsSoFar c.args.rules.now c.args.list.now es c.args.singles.now found) (c.as_slice.ensures ∙ c.in_ok-walk.ensures.same) c.in_ok-found.ensures in
    reported_ok c.args.rules.now c.args.list.now c.args.events.now c.args.singles.now c.args.most found c.first_of.result so c.first_of.ensures
