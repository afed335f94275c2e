-- What is found of two sheets, by the records that they are of.
use Rattle.std.proofs.Common.{◌≡◌, ℕ, List, Option, sym, subst}
use Rattle.ref_tiles.specs.declared.rulebook.Rules.{Rules}
use Rattle.gcg_read.specs.declared.records.Record.{Record}
use Rattle.compare_alignments.specs.declared.lacking.Lacks.{Lacks}
use Rattle.compare_choices.specs.declared.sheets.Sheets.{Sheets}
use Rattle.compare_choices.specs.Sheets.{AreSheets}
use Rattle.compare_choices.specs.Seats.{in_seats_of}
use Rattle.compare_answers.specs.declared.answers.ComparisonAnswer.{ComparisonAnswer}
use Rattle.compare_answers.specs.Answers.{IsAnswerOn, IsComparisonAnswer}

pub is_comparison_answer : (rules : Rules) (list : List (List ℕ)) (first second seated : Record) (lacks : Option Lacks) (s : Sheets) (a : ComparisonAnswer) → IsAnswerOn rules list s a → AreSheets first seated lacks s
    → seated ≡ in_seats_of first.players second → IsComparisonAnswer rules list first second lacks a
is_comparison_answer rules list first second seated lacks s a is are same =
    record {
      sheets = subst (λ (o : Record). AreSheets first o lacks a.sheets) same (subst (λ (t : Sheets). AreSheets first seated lacks t) (sym is.sheets) are);
      found = is.found;
    }
