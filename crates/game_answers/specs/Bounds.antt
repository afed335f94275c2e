-- Verdicts on a record.
use Rattle.std.specs.Prelude.{ℕ, List}
use Rattle.ref_tiles.specs.declared.rulebook.Rules.{Rules}
use Rattle.gcg_read.specs.declared.events.Event.{Event}
use Rattle.game_turns.specs.declared.faults.RuleFault.{RuleFault}
use Rattle.game_turns.specs.Places.{is_finished}
use Rattle.engine_stages.specs.declared.verdicts.GameFault.TheVariants as game
use Rattle.engine_stages.specs.declared.verdicts.Verdict.{Verdict}
use Rattle.engine_stages.specs.declared.verdicts.Verdict.TheVariants as verdict

-- that the game is legal, and whether it has ended
abbrev pub legal_verdict : Rules → List Event → Verdict
legal_verdict rules events = verdict.Legal (is_finished rules events)

-- that the rules do not allow an event
abbrev pub refused_verdict : (line : ℕ) → RuleFault → Verdict
refused_verdict line why = verdict.Illegal line (game.Rule why)
