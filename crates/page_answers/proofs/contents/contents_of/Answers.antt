use Rattle.std.proofs.Common.{◌∙◌, ap, subst, ℕ, List, None}
use Rattle.gcg_read.specs.declared.events.Event.{Event}
use Rattle.lex_check.specs.Pairs.{list_in}
use Rattle.gcg_about.specs.Encodings.{encoding_of}
use Rattle.gcg_about.specs.Words.{AreWordsOf}
use Rattle.explain_answers.specs.Explaining.{IsExplanation}
use Rattle.page_answers.specs.Sheets.{IsPageSheet}
use Rattle.page_answers.specs.Pages.{faulty_place, place_in_view}
use Rattle.page_answers.proofs.contents.contents_of.Goals as goal

pub returns : goal.returns
returns c =
    λ right is of_case.
    let rules = c.args.rules.now in
    let list = list_in c.args.pair.now in
    let entry = c.args.entry.now in
    let same = c.as_slice-events.ensures in
    let faulty = c.faulty_place-faulty.result in
    let at = c.place_in_view-place.ensures.is ∙ ap (λ (es : List Event). place_in_view es faulty) same in
    record {
      faulty = c.faulty_place-faulty.ensures.is ∙ ap (λ (es : List Event). faulty_place es entry.finding) same;
      verdict = c.in_ok-case_line.ensures;
      explanation = subst (λ (l : List (List ℕ)). IsExplanation rules l entry None c.in_ok-explain.field-0) c.list.ensures.list c.in_ok-explain.ensures;
      encoding = c.of.ensures ∙ ap encoding_of c.as_slice-2.ensures.value;
      words = subst (λ (t : List ℕ). AreWordsOf t c.in_ok-words_of.field-0) c.as_slice.ensures.value c.in_ok-words_of.ensures;
      right = right;
      walk = c.args.walk.now;
      walked = is;
      sheet = subst (λ (p : ℕ). IsPageSheet rules list entry.record right p c.in_ok-page_sheet.field-0) at (c.in_ok-page_sheet.ensures right is);
      repaired = c.repaired_board.ensures;
      audited = c.in_ok-audit_without.ensures c.args.case.now.text.items of_case;
    }
