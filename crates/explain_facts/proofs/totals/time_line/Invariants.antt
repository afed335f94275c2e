use Rattle.std.proofs.Common.{◌≡◌, drop}
use Rattle.std.specs.List.{list_any}
use Rattle.explain_facts.specs.Totals.{is_time_of}
use Rattle.explain_facts.proofs.totals.time_line.Given as goal

abbrev pub invariant-loop-event : goal.invariant-loop-event
invariant-loop-event l = list_any (is_time_of l.player) (drop l.event-index l.events) ≡ list_any (is_time_of l.player) l.events
