-- How a call ends after what was found.
use Rattle.std.specs.Prelude.{ℕ, Option, Some, None, Result, Ok, Err}
use Rattle.engine_stages.specs.declared.decisions.Decision.{Decision}
use Rattle.game_exits.specs.Exits.{status_of, exit_of}

-- the status after what was found: that of the reply, or that an input is bad
abbrev pub status_of_found : {A : Type 0} → (ends : A → ℕ) → Result A Decision → ℕ
status_of_found ends (Ok reply) = ends reply
status_of_found ends (Err d) = status_of (exit_of d.verdict)

-- the decision that an input is bad, if that was found
abbrev pub refused_of : {A : Type 0} → Result A Decision → Option Decision
refused_of (Ok reply) = None
refused_of (Err d) = Some d
