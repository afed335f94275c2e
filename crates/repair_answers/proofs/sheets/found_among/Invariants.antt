use Rattle.repair_answers.specs.Sheets.{AreFoundTo}
use Rattle.repair_answers.proofs.sheets.found_among.Given as goal

abbrev pub invariant-loop-number : goal.invariant-loop-number
invariant-loop-number l = record { so_far : AreFoundTo l.rules l.list l.text l.events l.room l.slips l.number l.found.items }
