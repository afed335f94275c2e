use Rattle.std.proofs.Common.{◌≡◌, ◌+◌, ◌≤◌, drop}
use Rattle.compare_choices.specs.Sheets.{racks_of}
use Rattle.compare_choices.proofs.sheets.racks_of.Given as goal

abbrev pub invariant-loop-event : goal.invariant-loop-event
invariant-loop-event l = record { so_far : l.many + racks_of l.player (drop l.event-index l.events) ≡ racks_of l.player l.events; few : l.many ≤ l.event-index }
