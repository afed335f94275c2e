-- What becomes of an event that is refused with any numbers that a record can write.
use Rattle.std.specs.Prelude.{⊤, ℕ, List, Option, Some, None}
use Rattle.ref_tiles.specs.declared.rulebook.Rules.{Rules}
use Rattle.gcg_read.specs.declared.events.Event.{Event}
use Rattle.game_turns.specs.declared.faults.RuleFault.{RuleFault}
use Rattle.game_turns.specs.Tallies.{State}
use Rattle.game_corrections.specs.Corrections.{IsRemaining}
use Rattle.game_corrections.specs.Mending.{IsRefusedAt}

-- if it is refused, no number cures that, and it has the numbers with which it is refused
abbrev pub LeavesIt : Rules → (list : List (List ℕ)) → State → (old new : List Event) → (place : ℕ) → Option RuleFault → Type 0
LeavesIt rules list s old new place None = ⊤
LeavesIt rules list s old new place (Some why) = IsRemaining why × IsRefusedAt rules list s old new place
