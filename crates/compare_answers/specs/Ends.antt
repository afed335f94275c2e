-- How the game ends, by both sheets and by what is right.
use Rattle.std.specs.Prelude.{◌≡◌, Bool, List, Option, Some, None}
use Rattle.gcg_read.specs.declared.events.Event.{Event}
use Rattle.repair_single.specs.declared.repair.Repair.{Repair}
use Rattle.compare_repaired.specs.declared.repaired.BestRepair.{BestRepair}
use Rattle.compare_choices.specs.declared.sheets.Sheets.{Sheets}
use Rattle.compare_choices.specs.declared.best.Best.{Best}
use Rattle.compare_choices.specs.Results.{AreResults}
use Rattle.compare_answers.specs.declared.ends.GameEnd.{GameEnd}

-- whether the last racks are in, and the last totals and who is ahead, by both sheets and by these right events
pub record IsEnd (s : Sheets) (right : List Event) (ended : Bool) (e : GameEnd) : Type 0 where
  pub complete : e.complete ≡ ended
  pub results : AreResults s right e.results

abbrev pub IsEndOf : Sheets → List Event → (ended : Bool) → Option GameEnd → Type 0
IsEndOf s right ended None = ⊥
IsEndOf s right ended (Some e) = IsEnd s right ended e

-- How the game of the best choice ends, or of the best repair if no choice is known to make a game.
abbrev pub IsEndBy : Sheets → Option Best → Option BestRepair → Option Repair → Option GameEnd → Type 0
IsEndBy s (Some b) best repair e = IsEndOf s b.right b.complete e
IsEndBy s None (Some best) (Some repair) e = IsEndOf s repair.right best.complete e
IsEndBy s None (Some best) None e = e ≡ None
IsEndBy s None None repair e = e ≡ None
