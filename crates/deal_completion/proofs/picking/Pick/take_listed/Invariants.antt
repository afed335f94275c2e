use Rattle.std.proofs.Common.{◌≡◌, ◌-◌, drop, sum}
use Rattle.deal_completion.specs.Completion.{pick_listed}
use Rattle.deal_completion.specs.Taking.{HasRoomIn}
use Rattle.deal_completion.proofs.picking.Pick.take_listed.Given as goal

abbrev pub invariant-loop-kind : goal.invariant-loop-kind
invariant-loop-kind l =
    record {
      rest : pick_listed (drop l.kind-index l.list) l.number l.self ≡ pick_listed l.list l.number l.initial.self;
      more : l.more ≡ l.number - sum l.self.taken;
      room : HasRoomIn l.self;
    }
