use Rattle.std.proofs.Common.{◌∙◌, List, [], sym, subst}
use Rattle.gcg_read.specs.declared.events.Event.{Event}
use Rattle.game_walk.specs.Walks.{IsWalkOf}
use Rattle.std.specs.Prelude.{IfOk}
use Rattle.repair_single.specs.Repairs.{AreFirstRepairs}
use Rattle.repair_single.proofs.finding.repairs.Goals as goal

pub repairs_by-requires : goal.repairs_by-requires
repairs_by-requires c =
    subst (λ (es : List Event). IsWalkOf c.args.rules.now c.args.list.now es c.in_ok-walk.walk) (sym (c.as_slice.ensures ∙ c.in_ok-walk.ensures.same)) c.in_ok-walk.ensures.walk

pub returns-clause-reported : goal.returns-clause-reported
returns-clause-reported c =
    subst (λ (es : List Event). IfOk c.repairs_by.result (λ r. AreFirstRepairs c.args.rules.now c.args.list.now es [] c.args.below r.from c.args.most r.reported.items r.remaining.items))
    (c.as_slice.ensures ∙ c.in_ok-walk.ensures.same) c.repairs_by.ensures.reported
