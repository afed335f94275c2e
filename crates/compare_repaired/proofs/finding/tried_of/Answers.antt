use Rattle.std.proofs.Common.{sym, subst}
use Rattle.std.specs.Prelude.{List, All}
use Rattle.std.proofs.lemmas.List.Elements.{All-push}
use Rattle.compare_repaired.specs.Repaired.{IsRepairedChoice}
use Rattle.compare_repaired.specs.declared.repaired.RepairedChoice.{RepairedChoice}
use Rattle.compare_repaired.proofs.finding.tried_of.Goals as goal

pub loop-reach-preserved : goal.loop-reach-preserved
loop-reach-preserved c =
    let holds = IsRepairedChoice c.args.rules.now c.args.list.now c.args.sheets.now in
    record {
      each = subst (λ (rs : List RepairedChoice). All holds rs) (sym c.in_ok-push.ensures.items)
          (All-push holds c.loop-reach.tried.items c.in_ok-repaired.repaired c.loop-reach.invariant.each c.in_ok-repaired.ensures);
    }
