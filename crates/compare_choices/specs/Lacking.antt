-- What is missing on two drafts.
use Rattle.std.specs.Prelude.{ℕ, List, Option, Some, None}
use Rattle.gcg_drafts.specs.declared.missing.Missing.{Missing}
use Rattle.gcg_drafts.specs.declared.missing.Missing.TheVariants as missing
use Rattle.compare_alignments.specs.declared.lacking.Lacks.{Lacks}
use Rattle.compare_alignments.specs.declared.pairs.Pair.{Pair}
use Rattle.compare_alignments.specs.declared.pairs.Side.{Side}
use Rattle.compare_alignments.specs.declared.pairs.Side.TheVariants.{First, Second}
use Rattle.compare_alignments.specs.Lacking.{lack_at, merged_lacks}
use Rattle.compare_choices.specs.declared.sheets.Sheets.{Sheets}

-- what is missing on the lines of a choice, with the numbers of a sheet
abbrev pub choice_lacks : Sheets → Lacks → (sheet : Side) → (choice : ℕ) → List Missing
choice_lacks s l sheet choice = merged_lacks sheet choice s.first.events s.second.events l s.pairs.items

-- what the line of a pair lacks on a sheet: nothing, if it is no draft or has no line there
abbrev pub lack_by : Option Lacks → Pair → Side → Missing
lack_by None p sheet = missing.Nothing
lack_by (Some l) p First = lack_at l.first.items p.first
lack_by (Some l) p Second = lack_at l.second.items p.second

abbrev pub lack_on : Sheets → Pair → Side → Missing
lack_on s p sheet = lack_by s.lacks p sheet
