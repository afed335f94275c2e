use Rattle.std.proofs.Common.{◌≡◌, ◌<◌, ◌∙◌, inl, inr, List, [], length, refl, sym, subst, arith}
use Rattle.std.proofs.lemmas.Iterator.Adapters.{YieldsList-from_vec}
use Rattle.std.proofs.lemmas.Iterator.Consumers.{YieldsList-turn, YieldsList-end}
use Rattle.std.proofs.lemmas.List.{length_push}
use Rattle.repair_single.specs.Weighers.{wrong_by}
use Rattle.repair_single.specs.declared.listed.Listed.{Listed}
use Rattle.repair_single.specs.declared.repair.Repair.{Repair}
use Rattle.repair_single.specs.Repairs.{AreFirstBy}
use Rattle.repair_single.proofs.FirstOnes.{AreSoFar, none_so_far, next_tried, first_ones}
use Rattle.repair_single.proofs.finding.first_repairs.Goals as goal

pub loop-candidate-init : goal.loop-candidate-init
loop-candidate-init c =
    record {
      so_far = λ plays are.
          let so : AreSoFar (wrong_by c.args.weigher.now) c.args.rules.now c.args.list.now c.args.events.now plays c.args.below c.args.most c.args.found.items 0 [] [] =
          none_so_far (wrong_by c.args.weigher.now) c.args.rules.now c.args.list.now c.args.events.now plays c.args.below c.args.most c.args.found.items in
          subst (λ (xs : List Repair). AreSoFar (wrong_by c.args.weigher.now) c.args.rules.now c.args.list.now c.args.events.now plays c.args.below c.args.most c.args.found.items 0 xs c.new-2.result.items) (sym c.new.ensures.items)
          (subst (λ (xs : List Listed). AreSoFar (wrong_by c.args.weigher.now) c.args.rules.now c.args.list.now c.args.events.now plays c.args.below c.args.most c.args.found.items 0 [] xs) (sym c.new-2.ensures.items) so);
      from = refl;
    }

pub loop-candidate-preserved : goal.loop-candidate-preserved
loop-candidate-preserved c =
    let found = c.args.found.items in
    let t = YieldsList-turn (YieldsList-from_vec found c.into_iter-candidate-iterator.ensures.into_iter_gives.0 (c.into_iter-candidate-iterator.ensures.into_iter_gives.1 ∙ c.args.found.ok.0)) c.loop-candidate.yielded _
    c.loop-candidate.yielded_by c.next.result c.next.new.self c.in-Some.candidate c.in-Some.is c.next.ensures.steps in
    record {
      so_far = λ plays are.
          let so = c.loop-candidate.invariant.so_far plays are in
          let few = so.few in
          let ok = c.loop-candidate.first.reported.ok in
          let room : length c.loop-candidate.first.reported.items < c.args.most = omega arith in
          let next = next_tried (wrong_by c.args.weigher.now) c.args.rules.now c.args.list.now c.args.events.now plays c.args.below c.args.most found (length c.loop-candidate.yielded) c.in-Some.candidate c.loop-candidate.first
          c.push_candidate.new.self are so t.0 t.1 room c.in_ok-push_candidate.ensures.tried in
          subst (λ n. AreSoFar (wrong_by c.args.weigher.now) c.args.rules.now c.args.list.now c.args.events.now plays c.args.below c.args.most found n c.push_candidate.new.self.reported.items c.push_candidate.new.self.remaining.items)
          (sym (length_push c.loop-candidate.yielded c.in-Some.candidate)) next;
      from = c.in_ok-push_candidate.ensures.from ∙ c.loop-candidate.invariant.from;
    }

pub returns-clause-reported : goal.returns-clause-reported
returns-clause-reported c =
    let found = c.args.found.items in
    let t = YieldsList-end (YieldsList-from_vec found c.into_iter-candidate-iterator.ensures.into_iter_gives.0 (c.into_iter-candidate-iterator.ensures.into_iter_gives.1 ∙ c.args.found.ok.0)) c.loop-candidate.yielded _
    c.loop-candidate.yielded_by c.next.result c.next.new.self c.in-None.is c.next.ensures.steps in
    let all = t.1 in
    λ plays are.
    subst (λ n. AreFirstBy (wrong_by c.args.weigher.now) c.args.rules.now c.args.list.now c.args.events.now plays c.args.below n c.args.most c.loop-candidate.first.reported.items c.loop-candidate.first.remaining.items) (sym c.loop-candidate.invariant.from)
    (first_ones (wrong_by c.args.weigher.now) c.args.rules.now c.args.list.now c.args.events.now plays c.args.below c.args.most found (length c.loop-candidate.yielded) c.loop-candidate.first.reported.items
    c.loop-candidate.first.remaining.items are (c.loop-candidate.invariant.so_far plays are) (inl (omega (arith, all))))

pub returns-then-len-most-clause-reported : goal.returns-then-len-most-clause-reported
returns-then-len-most-clause-reported c =
    let ok = c.loop-candidate.first.reported.ok in
    let many : length c.loop-candidate.first.reported.items ≡ c.args.most = omega arith in
    λ plays are.
    subst (λ n. AreFirstBy (wrong_by c.args.weigher.now) c.args.rules.now c.args.list.now c.args.events.now plays c.args.below n c.args.most c.loop-candidate.first.reported.items c.loop-candidate.first.remaining.items) (sym c.loop-candidate.invariant.from)
    (first_ones (wrong_by c.args.weigher.now) c.args.rules.now c.args.list.now c.args.events.now plays c.args.below c.args.most c.args.found.items (length c.loop-candidate.yielded) c.loop-candidate.first.reported.items
    c.loop-candidate.first.remaining.items are (c.loop-candidate.invariant.so_far plays are) (inr many))
