-- What the line of an event says of its best play, by the value of it.
use Rattle.std.specs.Prelude.{ℕ, ℤ, List, [], ◌∷◌, ◌++◌, codes}
use Rattle.std.specs.Fmt.{signed_decimal}
use Rattle.ref_tiles.specs.declared.rulebook.Rules.{Rules}
use Rattle.ref_play.specs.Notations.{written}
use Rattle.gcg_read.specs.declared.events.Event.{Event}
use Rattle.game_turns.specs.Tallies.{State}
use Rattle.game_report.specs.BestPlays.{notation_text, ReportsBest}
use Rattle.game_bests.specs.declared.bests.TurnBest.{TurnBest}
use Rattle.game_bests.specs.declared.bests.TurnBest.TheVariants as best
use Rattle.game_bests.specs.Bests.{IsTurnBest}

-- what a line says of the best play
abbrev pub best_reported : TurnBest → List ℕ
best_reported best.NoTurn = []
best_reported best.NotShown = codes " best -"
best_reported best.NoPlay = codes " best none"
best_reported (best.Best b) = codes " best " ++ notation_text (written b.written) ++ 32 ∷ signed_decimal b.score

-- ---- laws

-- The text of the value of a best play is the one that the line of the event has.
abbrev pub BestsAreReported : Type 0
BestsAreReported = (rules : Rules) (list : List (List ℕ)) (s : State) (e : Event) (gave : ℤ) (b : TurnBest) → IsTurnBest rules list s e gave b → ReportsBest rules list s e (best_reported b)
