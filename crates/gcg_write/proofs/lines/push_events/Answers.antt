use Rattle.std.proofs.Common.{take}
use Rattle.gcg_write.specs.Normal.{events_text}
use Rattle.text_lines.proofs.Outputs.{front_through}
use Rattle.gcg_write.proofs.lines.push_events.Goals as goal

pub returns-in_err-push_event_line-clause-kept : goal.returns-in_err-push_event_line-clause-kept
returns-in_err-push_event_line-clause-kept c =
    front_through c.args.out.now.items c.loop-event.out.items c.push_event_line.new.out.items
    (events_text c.args.players.now (take c.loop-event.event-index c.args.events.now)) c.loop-event.invariant c.push_event_line.ensures.kept
