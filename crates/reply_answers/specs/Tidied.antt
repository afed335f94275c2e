-- The normal form of the record that a request gives.
use Rattle.std.specs.Prelude.{ℕ, List, [], ◌∷◌}
use Rattle.engine_stages.specs.declared.decisions.Decision.{Decision}
use Rattle.engine.specs.Tidying.{IsTidied}

-- what `tidy` answers on the bytes of a record
abbrev pub IsTidiedOf : (text : List ℕ) → Decision → Type 0
IsTidiedOf text d = IsTidied (text ∷ []) d.verdict d.report.items
