-- The best plays that a request asks for.
use Rattle.std.specs.Prelude.{ℕ, min, List, Option, Some, None, option_map, Result, Ok, Err}
use Rattle.ref_tiles.specs.declared.rulebook.Rules.{Rules}
use Rattle.lex_list.specs.Lists.{capitals}
use Rattle.engine_stages.specs.declared.decisions.Decision.{Decision}
use Rattle.engine_stages.specs.declared.verdicts.Verdict.TheVariants as verdict
use Rattle.engine_stages.specs.Reports.{bad_rack_line}
use Rattle.engine_stages.specs.Reporting.{IsReported}
use Rattle.game_answers.specs.declared.tops.FoundPlays.{FoundPlays}
use Rattle.game_answers.specs.Tops.{AreTopPlaysOf}

-- how many plays are requested: ten, unless a number is given, and at most a hundred
abbrev pub number_asked : Option ℕ → ℕ
number_asked None = 10
number_asked (Some number) = min number 100

-- the bytes of a rack that is named, with its letters as capitals; none if none is named
abbrev pub bytes_named : Option (List ℕ) → Option (List ℕ)
bytes_named rack = option_map capitals rack

-- that the rack is not one
abbrev pub IsNoRack : Result FoundPlays Decision → Type 0
IsNoRack (Ok found) = ⊥
IsNoRack (Err d) = IsReported verdict.BadRack bad_rack_line d.verdict d.report.items

-- the plays by the given rack, or by that of the line; if what is given is not a rack, the answer says so, whatever the record is
abbrev pub ArePlaysBy : (number : ℕ) → (line : Option ℕ) → Rules → (list : List (List ℕ)) → (rack : Option (Option (List ℕ))) → (text : List ℕ) → Result FoundPlays Decision → Type 0
ArePlaysBy number line rules list (Some rack) text x = AreTopPlaysOf number line rules list rack text x
ArePlaysBy number line rules list None text x = IsNoRack x
