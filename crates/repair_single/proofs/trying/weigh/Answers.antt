use Rattle.std.proofs.Common.{subst}
use Rattle.repair_changes.specs.Applied.{applied}
use Rattle.repair_single.specs.Remaining.{AreFewer}
use Rattle.repair_single.specs.Trying.{IsCorrectionOf}
use Rattle.repair_single.specs.Weighers.{wrong_by}
use Rattle.repair_single.proofs.Weighing.{count_is, cost_is, none_fewer}
use Rattle.repair_single.proofs.trying.weigh.Goals as goal

pub returns-then-not-are_fewer : goal.returns-then-not-are_fewer
returns-then-not-are_fewer c =
    let weigh = wrong_by c.args.weigher.now in
    let rules = c.args.rules.now in
    let list = c.args.list.now in
    let change = c.args.change.now in
    let written = c.args.events.now in
    let changed = applied change written in
    let right = c.in-Some.right in
    let remaining = c.in_ok-remaining.remaining in
    let is = subst (IsCorrectionOf rules list changed) c.in-Some.is c.in_ok-right.ensures in
    let remain = c.in_ok-remaining.ensures in
    λ other of_other fewer game.
    none_fewer weigh rules list change written changed right other c.args.below c.many.result is (count_is weigh rules list change written right remaining c.many.result remain c.many.ensures)
    (λ enough. let yes_it = c.are_fewer.ensures.1 enough in let not_it = c.if-not-are_fewer.true in cc) of_other fewer

pub returns : goal.returns
returns c =
    let weigh = wrong_by c.args.weigher.now in
    let rules = c.args.rules.now in
    let list = c.args.list.now in
    let change = c.args.change.now in
    let written = c.args.events.now in
    let right = c.in-Some.right in
    let remaining = c.in_ok-remaining.remaining in
    let is = subst (IsCorrectionOf rules list (applied change written)) c.in-Some.is c.in_ok-right.ensures in
    let remain = c.in_ok-remaining.ensures in
    record {
      right = right;
      is = is;
      fewer = subst (AreFewer c.args.below) (count_is weigh rules list change written right remaining c.many.result remain c.many.ensures) (c.are_fewer.ensures.0 c.if-not-are_fewer.false);
      costs = cost_is weigh rules list change written right remaining c.cost.result remain c.cost.ensures;
    }
