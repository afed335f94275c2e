-- The report of a legal game.
use Rattle.std.specs.Prelude.{ℕ, Bool, List, length}
use Rattle.ref_tiles.specs.declared.rulebook.Rules.{Rules}
use Rattle.gcg_read.specs.declared.records.Record.{Record}
use Rattle.game_report.specs.BestPlays.{Appends}
use Rattle.game_report.specs.EventLines.{AreEventLines}
use Rattle.engine_stages.specs.Reports.{legal_line}

-- the report of a legal game: the verdict, and then a line for each event
abbrev pub IsLegalReport : Rules → (list : List (List ℕ)) → Bool → Record → (bytes : List ℕ) → Type 0
IsLegalReport rules list complete r bytes = Appends (AreEventLines rules list r (length r.events)) (legal_line complete) bytes
