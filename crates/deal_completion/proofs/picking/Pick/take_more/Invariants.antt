use Rattle.std.proofs.Common.{◌≡◌, ◌-◌}
use Rattle.deal_completion.specs.Taking.{HasRoomIn, pick_spare}
use Rattle.deal_completion.proofs.picking.Pick.take_more.Given as goal

abbrev pub invariant-loop : goal.invariant-loop
invariant-loop l =
    record {
      rest : pick_spare l.times (l.more - l.counter) l.self ≡ pick_spare l.times l.more l.initial.self;
      room : HasRoomIn l.self;
    }
