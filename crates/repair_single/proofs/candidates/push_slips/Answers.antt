use Rattle.std.proofs.Common.{◌≡◌, ◌<◌, ◌+◌, ◌∙◌, length, get_or, refl, sym, ap, subst, arith}
use Rattle.std.proofs.lemmas.Iterator.Adapters.{YieldsList-from_vec}
use Rattle.std.proofs.lemmas.Iterator.Consumers.{YieldsList-turn, YieldsList-end}
use Rattle.std.proofs.lemmas.List.{length_push}
use Rattle.repair_single.specs.Weighers.{wrong_by}
use Rattle.repair_single.proofs.PlaceChanges.{is_listed, at_none, up_more, up_all}
use Rattle.repair_single.proofs.candidates.push_slips.Goals as goal

pub loop-slip-init : goal.loop-slip-init
loop-slip-init c =
    record {
      so_far = λ plays are. at_none (wrong_by c.args.weigher.now) c.args.rules.now c.args.list.now c.args.events.now plays c.args.below c.args.place c.args.found.now.items;
      counted = refl;
    }

pub overflow_add-index : goal.overflow_add-index
overflow_add-index c =
    let slips = c.args.slips.items in
    let t = YieldsList-turn (YieldsList-from_vec slips c.into_iter-slip-iterator.ensures.into_iter_gives.0 (c.into_iter-slip-iterator.ensures.into_iter_gives.1 ∙ c.args.slips.ok.0)) c.loop-slip.yielded _ c.loop-slip.yielded_by c.next.result c.next.new.self
    c.in-Some.slip c.in-Some.is c.next.ensures.steps in
    let below : length c.loop-slip.yielded < length slips = t.0 in
    let counted = c.loop-slip.invariant.counted in
    omega (arith, below, counted, c.into_iter-slip-iterator.ensures.into_iter_gives.1, c.into_iter-slip-iterator.ensures.into_iter_gives.2, c.args.slips.ok.0)

pub loop-slip-preserved : goal.loop-slip-preserved
loop-slip-preserved c =
    let slips = c.args.slips.items in
    let t = YieldsList-turn (YieldsList-from_vec slips c.into_iter-slip-iterator.ensures.into_iter_gives.0 (c.into_iter-slip-iterator.ensures.into_iter_gives.1 ∙ c.args.slips.ok.0)) c.loop-slip.yielded _ c.loop-slip.yielded_by c.next.result c.next.new.self
    c.in-Some.slip c.in-Some.is c.next.ensures.steps in
    let counted = c.loop-slip.invariant.counted in
    record {
      so_far = λ plays are.
          let listed = is_listed c.args.rules.now c.args.events.now plays c.args.place c.loop-slip.index slips c.in-Some.slip are c.requires.within (subst (λ n. n < length slips) (sym counted) t.0)
          (subst (λ n. c.in-Some.slip ≡ get_or slips n c.in-Some.slip) (sym counted) t.1) in
          up_more (wrong_by c.args.weigher.now) c.args.rules.now c.args.list.now c.args.events.now plays c.args.below c.args.place c.loop-slip.index _ c.args.found.now.items c.loop-slip.found.items c.push_listed.new.found.items listed
          refl refl (c.loop-slip.invariant.so_far plays are) (c.in_ok-push_listed.ensures plays listed);
      counted = ap (λ n. n + 1) counted ∙ sym (length_push c.loop-slip.yielded c.in-Some.slip);
    }

pub returns : goal.returns
returns c =
    let slips = c.args.slips.items in
    let t = YieldsList-end (YieldsList-from_vec slips c.into_iter-slip-iterator.ensures.into_iter_gives.0 (c.into_iter-slip-iterator.ensures.into_iter_gives.1 ∙ c.args.slips.ok.0)) c.loop-slip.yielded _ c.loop-slip.yielded_by c.next.result c.next.new.self
    c.in-None.is c.next.ensures.steps in
    λ plays are.
    up_all (wrong_by c.args.weigher.now) c.args.rules.now c.args.list.now c.args.events.now plays c.args.below c.args.place c.loop-slip.index slips c.args.found.now.items c.loop-slip.found.items are
    (c.loop-slip.invariant.counted ∙ t.1) (c.loop-slip.invariant.so_far plays are)
