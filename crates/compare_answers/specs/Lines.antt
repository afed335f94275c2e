-- What the rules say of the lines of a pair.
use Rattle.std.specs.Prelude.{◌≡◌, ℕ, ℤ, ◌==◌, Bool, true, false, Option, Some, None, if◌then◌else◌}
use Rattle.std.specs.Ordering.{int_eq}
use Rattle.compare_alignments.specs.declared.pairs.Pair.{Pair}
use Rattle.compare_alignments.specs.declared.pairs.Side.TheVariants.{First, Second}
use Rattle.compare_alignments.specs.Merging.{chosen_side}
use Rattle.compare_choices.specs.declared.sheets.Sheets.{Sheets}
use Rattle.compare_choices.specs.declared.best.Best.{Best}
use Rattle.compare_choices.specs.declared.corrections.Stopped.{Stopped}
use Rattle.compare_choices.specs.declared.trials.Trial.{Trial}
use Rattle.compare_choices.specs.declared.trials.Trial.TheVariants as trial
use Rattle.compare_choices.specs.Comparisons.{flipped}
use Rattle.compare_answers.specs.Places.{IsPairOf}
use Rattle.compare_answers.specs.Scores.{score_on, right_score, other_side}
use Rattle.compare_answers.specs.declared.lines.OtherLine.{OtherLine}
use Rattle.compare_answers.specs.declared.lines.OtherLine.TheVariants as other
use Rattle.compare_answers.specs.declared.lines.LinesAnswer.{LinesAnswer}
use Rattle.compare_answers.specs.declared.lines.LinesAnswer.TheVariants as lines

-- more is wrong with a line: its score, or something else
abbrev pub worse : (written right : Option ℤ) → OtherLine
worse (Some written) (Some right) = if int_eq written right then other.MoreWrong else other.OtherScore written right
worse written right = other.MoreWrong

-- a choice stops at an event, which is taken from a pair
abbrev pub IsRefused : Sheets → (choice : ℕ) → Stopped → OtherLine → Type 0
IsRefused s choice stopped (other.Refused at why) = IsPairOf s choice stopped.place at × (why ≡ stopped.refusal.why)
IsRefused s choice stopped o = ⊥

-- What comes of the best choice with the other line of the pair at an index, which is the item with a number: it is not varied, or that choice stops, has
-- no deal or none that was found, or makes a game. That game costs as little, or more is wrong with it.
abbrev pub IsOtherLine : Sheets → Pair → (index number : ℕ) → Best → Option Trial → OtherLine → Type 0
IsOtherLine s p index number b None o = o ≡ other.NotVaried
IsOtherLine s p index number b (Some (trial.Stops stopped)) o = IsRefused s (flipped b.choice number) stopped o
IsOtherLine s p index number b (Some trial.NoGame) o = o ≡ other.NoDeal
IsOtherLine s p index number b (Some trial.Open) o = o ≡ other.NoDealFound
IsOtherLine s p index number b (Some (trial.Game game)) o =
    o ≡ (if game.cost == b.cost then other.AsGood else worse (score_on s p (other_side (chosen_side b.choice number))) (right_score s game index))

-- what is said of two lines that agree, by the scores that are written and the one that the rules give
abbrev pub other_scores : (score other right : Option ℤ) → LinesAnswer
other_scores (Some score) (Some other) (Some right) = if int_eq score other then lines.Agree else lines.OtherScores right
other_scores score other right = lines.Agree

-- lines that differ, of which the best choice takes one
abbrev pub IsTaken : Sheets → Pair → (index number : ℕ) → Best → Option Trial → LinesAnswer → Type 0
IsTaken s p index number b flip (lines.Taken which o) = (which ≡ chosen_side b.choice number) × IsOtherLine s p index number b flip o
IsTaken s p index number b flip a = ⊥

abbrev pub IsLinesAnswerBy : (agrees : Bool) → Sheets → Pair → (index number : ℕ) → Option Best → Option Trial → LinesAnswer → Type 0
IsLinesAnswerBy true s p index number None flip a = a ≡ lines.Agree
IsLinesAnswerBy false s p index number None flip a = a ≡ lines.Differ
IsLinesAnswerBy true s p index number (Some b) flip a = a ≡ other_scores (score_on s p First) (score_on s p Second) (right_score s b index)
IsLinesAnswerBy false s p index number (Some b) flip a = IsTaken s p index number b flip a

-- What is said of the lines of the pair at an index: if they agree, the right score if theirs are not the same; if they differ, which of them the best
-- choice takes, and what comes of the other one.
abbrev pub IsLinesAnswer : Sheets → Pair → (index number : ℕ) → Option Best → Option Trial → LinesAnswer → Type 0
IsLinesAnswer s p index number best flip a = IsLinesAnswerBy p.agrees s p index number best flip a
