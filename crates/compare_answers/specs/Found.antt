-- The merged record, or why there is none.
use Rattle.std.specs.Prelude.{◌≡◌, ℕ, ◌==◌, Bool, List, length, Option, Some, None, Result, Ok, Err, if◌then◌else◌}
use Rattle.gcg_read.specs.declared.events.Event.{Event}
use Rattle.gcg_read.specs.declared.players.Players.{Players}
use Rattle.gcg_read.specs.declared.records.Record.{Record}
use Rattle.repair_single.specs.declared.repair.Repair.{Repair}
use Rattle.repair_rewrites.specs.Names.{AreNamed}
use Rattle.compare_repaired.specs.declared.repaired.RepairedChoices.{RepairedChoices}
use Rattle.compare_repaired.specs.declared.repaired.BestRepair.{BestRepair}
use Rattle.compare_choices.specs.declared.best.Best.{Best}
use Rattle.compare_choices.specs.declared.finds.Find.{Find}
use Rattle.compare_answers.specs.declared.found.WhyNotMerged.{WhyNotMerged}
use Rattle.compare_answers.specs.declared.found.WhyNotMerged.TheVariants as why

-- the best of all choices has rivals, or a choice is left open
abbrev pub why_not_best : (rivals remaining : List ℕ) → Option WhyNotMerged
why_not_best rivals remaining = if length rivals == 0 then (if length remaining == 0 then None else Some why.ChoiceRemainsOpen) else Some why.OtherChoice

-- there is no repair, or the best one is not ahead of the others, or one is left open
abbrev pub why_not_repaired : Option BestRepair → Option WhyNotMerged
why_not_repaired None = Some why.NoGame
why_not_repaired (Some b) = if b.ahead then (if b.settled then None else Some why.ChangeRemainsOpen) else Some why.OtherChange

abbrev pub why_not_by : Option Best → (rivals remaining : List ℕ) → Option BestRepair → Option WhyNotMerged
why_not_by (Some b) rivals remaining repair = why_not_best rivals remaining
why_not_by None rivals remaining repair = why_not_repaired repair

-- why neither the best of all choices is ahead of the others nor, if no choice is known to make a game, the best repair of one
abbrev pub why_not : Find → RepairedChoices → Option WhyNotMerged
why_not f r = why_not_by f.best f.rivals.items f.remaining.items r.best

-- the right events of the best choice, or of the best repair if no choice is known to make a game
abbrev pub right_events : Option Best → Option Repair → Option (List Event)
right_events (Some b) repair = Some b.right
right_events None (Some repair) = Some repair.right
right_events None None = None

-- the record of these players and events, unless one of them is by a player who has no nickname
abbrev pub IsMergedOf : Players → List Event → Result Record WhyNotMerged → Type 0
IsMergedOf players events (Ok game) = AreNamed players events × (game ≡ record { players = players; events = events })
IsMergedOf players events (Err reason) = (AreNamed players events → ⊥) × (reason ≡ why.NoNickname)

-- The merged record: of the players of the first sheet, and of the right events of what is ahead of all others.
abbrev pub IsMerged : Players → Option WhyNotMerged → Option (List Event) → Result Record WhyNotMerged → Type 0
IsMerged players (Some reason) events merged = merged ≡ Err reason
IsMerged players None None merged = merged ≡ Err why.NoGame
IsMerged players None (Some events) merged = IsMergedOf players events merged
