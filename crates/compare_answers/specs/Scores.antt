-- Lines of a pair, and their scores.
use Rattle.std.specs.Prelude.{ℕ, ℤ, slice_get, Option, Some, None}
use Rattle.gcg_read.specs.declared.events.Event.{Event}
use Rattle.gcg_drafts.specs.declared.missing.Missing.{Missing}
use Rattle.gcg_drafts.specs.declared.missing.Missing.TheVariants as missing
use Rattle.compare_alignments.specs.declared.pairs.Pair.{Pair}
use Rattle.compare_alignments.specs.declared.pairs.Side.{Side}
use Rattle.compare_alignments.specs.declared.pairs.Side.TheVariants.{First, Second}
use Rattle.compare_alignments.specs.Merging.{line_at}
use Rattle.compare_choices.specs.declared.sheets.Sheets.{Sheets}
use Rattle.compare_choices.specs.Lacking.{lack_on}
use Rattle.compare_choices.specs.declared.best.Best.{Best}
use Rattle.compare_answers.specs.Places.{place_of}

abbrev pub other_side : Side → Side
other_side First = Second
other_side Second = First

-- the line of a pair on a sheet
abbrev pub line_on : Sheets → Pair → Side → Option Event
line_on s p First = line_at s.first.events p.first
line_on s p Second = line_at s.second.events p.second

abbrev pub score_of : Option Event → Option ℤ
score_of None = None
score_of (Some e) = Some e.score

-- the score, if it is not missing
abbrev pub unless_missing : Missing → Option ℤ → Option ℤ
unless_missing missing.Nothing score = score
unless_missing missing.Total score = score
unless_missing missing.Both score = None

-- the score of the line of a pair on a sheet, if there is a line and its score is written
abbrev pub score_on : Sheets → Pair → Side → Option ℤ
score_on s p which = unless_missing (lack_on s p which) (score_of (line_on s p which))

-- the score that the rules give the event of the pair at an index, in a game
abbrev pub right_score : Sheets → Best → (index : ℕ) → Option ℤ
right_score s game index = score_of (slice_get game.right (place_of s game.choice index))
