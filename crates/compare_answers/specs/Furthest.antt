-- Where the choice that goes furthest stops.
use Rattle.std.specs.Prelude.{◌≡◌, ℕ, Option, Some, None}
use Rattle.compare_choices.specs.declared.sheets.Sheets.{Sheets}
use Rattle.compare_choices.specs.declared.comparing.Stop.{Stop}
use Rattle.compare_answers.specs.Places.{IsPairOf}

-- the index of the pair from which the event is taken at which a choice stops
abbrev pub IsStopAt : Sheets → Option Stop → Option ℕ → Type 0
IsStopAt s None at = at ≡ None
IsStopAt s (Some stop) at = IsPairOf s stop.choice stop.stopped.place at
