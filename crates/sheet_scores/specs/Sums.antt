-- What the rows of a sheet say of the best plays.
use Rattle.std.specs.Prelude.{ℕ, List, slice_get, Option, Some, None}
use Rattle.game_bests.specs.declared.bests.TurnBest.{TurnBest}
use Rattle.sheet_scores.specs.declared.rows.SheetRow.{SheetRow}

-- what is said of the best play in a row, if there is a row that says it
abbrev pub best_in : Option SheetRow → Option TurnBest
best_in None = None
best_in (Some row) = row.best

-- the same for the row of the event at a place
abbrev pub best_of : List SheetRow → (place : ℕ) → Option TurnBest
best_of rows place = best_in (slice_get rows place)
