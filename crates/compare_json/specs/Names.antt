-- The names of what is found of two sheets.
use Rattle.std.specs.Prelude.{ℕ, List, codes}
use Rattle.compare_alignments.specs.declared.pairs.Side.{Side}
use Rattle.compare_alignments.specs.declared.pairs.Side.TheVariants as side
use Rattle.compare_answers.specs.declared.agreements.Agreement.{Agreement}
use Rattle.compare_answers.specs.declared.agreements.Agreement.TheVariants as agreement
use Rattle.compare_answers.specs.declared.found.WhyNotMerged.{WhyNotMerged}
use Rattle.compare_answers.specs.declared.found.WhyNotMerged.TheVariants as why
use Rattle.compare_answers.specs.declared.lines.LinesAnswer.{LinesAnswer}
use Rattle.compare_answers.specs.declared.lines.LinesAnswer.TheVariants as lines
use Rattle.compare_answers.specs.declared.lines.OtherLine.{OtherLine}
use Rattle.compare_answers.specs.declared.lines.OtherLine.TheVariants as other
use Rattle.compare_answers.specs.declared.racks.OwnRack.{OwnRack}
use Rattle.compare_answers.specs.declared.racks.OwnRack.TheVariants as own
use Rattle.compare_answers.specs.declared.racks.RacksAnswer.{RacksAnswer}
use Rattle.compare_answers.specs.declared.racks.RacksAnswer.TheVariants as racks

-- a sheet
abbrev pub side_name : Side → List ℕ
side_name side.First = codes "first"
side_name side.Second = codes "second"

-- the verdict on two sheets
abbrev pub verdict_name : Agreement → List ℕ
verdict_name agreement.Agree = codes "agree"
verdict_name agreement.Differ = codes "differ"
verdict_name agreement.Unsettled = codes "unsettled"

-- what is said of two lines
abbrev pub lines_name : LinesAnswer → List ℕ
lines_name lines.Agree = codes "agree"
lines_name (lines.OtherScores right) = codes "other scores"
lines_name lines.Differ = codes "differ"
lines_name (lines.Taken taken it) = codes "differ"

-- what comes of the line that is not taken
abbrev pub other_name : OtherLine → List ℕ
other_name other.NotVaried = codes "not varied"
other_name other.AsGood = codes "as good"
other_name (other.Refused at reason) = codes "refused"
other_name other.NoDeal = codes "no deal"
other_name other.NoDealFound = codes "no deal found"
other_name (other.OtherScore written right) = codes "other score"
other_name other.MoreWrong = codes "more wrong"

-- what is said of two racks
abbrev pub racks_name : RacksAnswer → List ℕ
racks_name racks.Same = codes "same"
racks_name racks.Differ = codes "differ"
racks_name (racks.Own its player) = codes "own"
racks_name (racks.Other its player reason) = codes "other"

-- why a player's own rack is not taken
abbrev pub own_rack_name : OwnRack → List ℕ
own_rack_name own.NoGame = codes "no game"
own_rack_name own.NoDeal = codes "no deal"
own_rack_name own.NoDealFound = codes "no deal found"
own_rack_name own.MoreWrong = codes "more wrong"

-- why there is no merged record
abbrev pub why_name : WhyNotMerged → List ℕ
why_name why.OtherChoice = codes "other choice"
why_name why.ChoiceRemainsOpen = codes "choice left open"
why_name why.NoGame = codes "no game"
why_name why.OtherChange = codes "other change"
why_name why.ChangeRemainsOpen = codes "change left open"
why_name why.NoNickname = codes "no nickname"
