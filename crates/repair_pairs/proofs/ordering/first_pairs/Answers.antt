use Rattle.std.proofs.Common.{◌<◌, ◌+◌, ◌∙◌, length, List, sym, subst, arith}
use Rattle.std.proofs.lemmas.Iterator.Adapters.{YieldsList-from_vec}
use Rattle.std.proofs.lemmas.Iterator.Consumers.{YieldsList-turn}
use Rattle.std.proofs.lemmas.List.{length_push}
use Rattle.repair_pairs.specs.Finding.{IsMadeBy}
use Rattle.repair_pairs.specs.declared.found.Pair.{Pair}
use Rattle.repair_pairs.proofs.Firsts.{AreSoFar, reported_more}
use Rattle.repair_pairs.proofs.ordering.first_pairs.Goals as goal

pub loop-pair-preserved-in-Continue-1 : goal.loop-pair-preserved-in-Continue-1
loop-pair-preserved-in-Continue-1 c =
    let found = c.args.found.items in
    let reported = c.loop-pair.reported.items in
    let p = c.in-Some.pair in
    let n = length c.loop-pair.yielded in
    let t = YieldsList-turn (YieldsList-from_vec found c.into_iter-pair-iterator.ensures.into_iter_gives.0 (c.into_iter-pair-iterator.ensures.into_iter_gives.1 ∙ c.args.found.ok.0)) c.loop-pair.yielded _
    c.loop-pair.yielded_by c.next.result c.next.new.self p c.in-Some.is c.next.ensures.steps in
    let few = c.loop-pair.invariant.so_far.few in
    let ok = c.loop-pair.reported.ok in
    let room : length reported < c.args.most = omega arith in
    let next = reported_more found c.args.most n p reported c.requires c.loop-pair.invariant.so_far t.0 t.1 room
    (λ made.
    let shown = subst (λ (ps : List Pair). IsMadeBy ps c.as_slice-in-loop-pair.result.now) (sym c.as_slice.ensures.value) (subst (IsMadeBy reported) (sym c.as_slice-in-loop-pair.ensures) made) in
    let is = c.is_made_by.ensures.1 shown in
    let not = c.if-not-is_made_by.true in
    cc) in
    record {
      so_far = subst (λ n. AreSoFar found c.args.most n c.push.new.self.items) (sym (length_push c.loop-pair.yielded p))
          (subst (AreSoFar found c.args.most (n + 1)) (sym c.in_ok-push.ensures.items) next);
    }
