use Rattle.std.proofs.Common.{◌∙◌, length}
use Rattle.std.proofs.lemmas.Iterator.Adapters.{YieldsList-from_vec}
use Rattle.std.proofs.lemmas.Iterator.Consumers.{YieldsList-turn}
use Rattle.repair_pairs.proofs.Adding.{none_added, one_added}
use Rattle.repair_pairs.proofs.finding.push_pairs.Goals as goal

pub loop-then-init : goal.loop-then-init
loop-then-init c = record { so_far = none_added c.args.singles.now c.args.made.now c.args.head c.args.weight c.args.found.items c.args.reported.now.items }

pub loop-then-preserved : goal.loop-then-preserved
loop-then-preserved c =
    let found = c.args.found.items in
    let t = YieldsList-turn (YieldsList-from_vec found c.into_iter-then-iterator.ensures.into_iter_gives.0 (c.into_iter-then-iterator.ensures.into_iter_gives.1 ∙ c.args.found.ok.0)) c.loop-then.yielded _
    c.loop-then.yielded_by c.next.result c.next.new.self c.in-Some.then c.in-Some.is c.next.ensures.steps in
    record {
      so_far = one_added c.args.singles.now c.args.made.now c.args.head c.args.weight (length c.loop-then.yielded) found c.in-Some.then c.args.reported.now.items c.loop-then.reported.items c.push_pair.new.reported.items
          t.0 t.1 c.loop-then.invariant.so_far c.in_ok-push_pair.ensures;
    }
