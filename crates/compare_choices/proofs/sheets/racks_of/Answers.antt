use Rattle.std.proofs.Common.{arith}
use Rattle.compare_choices.proofs.Racks.{rack_more, rack_few, racks_all}
use Rattle.compare_choices.proofs.sheets.racks_of.Goals as goal

pub loop-event-preserved : goal.loop-event-preserved
loop-event-preserved c =
    record {
      so_far = rack_more c.args.player c.loop-event.many c.more_racks-many.result c.args.events.now c.loop-event.event-index c.event-item.result _ c.loop-event-test.true c.event-item.is c.more_racks-many.ensures
          c.loop-event.invariant.so_far;
      few = rack_few c.args.player c.loop-event.many c.more_racks-many.result c.loop-event.event-index c.event-item.result c.more_racks-many.ensures c.loop-event.invariant.few;
    }

pub returns-clause-many : goal.returns-clause-many
returns-clause-many c = racks_all c.args.player c.loop-event.many c.args.events.now c.loop-event.event-index _ (omega arith) c.loop-event.invariant.so_far
