-- The faults of a rules text, and their names.
use Rattle.std.specs.Prelude.{ℕ, List, codes}
use Rattle.ref_tiles.specs.declared.rules_faults.RulesWhy.{RulesWhy}
use Rattle.ref_tiles.specs.declared.rules_faults.RulesWhy.TheVariants as why
use Rattle.ref_tiles.specs.declared.rules_faults.RulesFault.{RulesFault}

-- the name of a fault, as reports print it
abbrev pub name_of : RulesWhy → List ℕ
name_of why.TooLong = codes "TooLong"
name_of why.Unknown = codes "Unknown"
name_of why.Fields = codes "Fields"
name_of why.Name = codes "Name"
name_of why.Number = codes "Number"
name_of why.Twice = codes "Twice"
name_of why.Missing = codes "Missing"
name_of why.Limits = codes "Limits"

-- a fault on a line; 0 for one that is not on a line
abbrev pub at_line : ℕ → RulesWhy → RulesFault
at_line line w = record { line = line; why = w }
