use Rattle.std.proofs.Common.{◌≡◌, ◌<◌, ℕ, ◌≤◌, get_or, take, length}
use Rattle.deal_completion.proofs.PickLoops.{AreTimes}
use Rattle.deal_completion.proofs.picking.times_of.Given as goal

abbrev pub invariant-loop-kind : goal.invariant-loop-kind
invariant-loop-kind l =
    record {
      are : AreTimes l.times (take l.kind-index l.list);
      few : (k : ℕ) → k < 27 → get_or l.times k 0 ≤ l.kind-index;
      long : length l.times ≡ 27;
    }
