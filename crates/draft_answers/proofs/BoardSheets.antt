-- The sheet of a draft for its board.
use Rattle.std.proofs.Common.{◌≡◌, inl, inr, ◌<◌, ℕ, List, [], length, Result, Ok, Err, refl, sym, subst, ap, ◌∙◌}
use Rattle.ref_tiles.specs.declared.rulebook.Rules.{Rules}
use Rattle.gcg_read.specs.declared.events.Event.{Event}
use Rattle.gcg_read.specs.declared.faults.ReadFault.{ReadFault}
use Rattle.gcg_read.specs.declared.faults.Why.TheVariants as why
use Rattle.gcg_read.specs.Records.{most_bytes}
use Rattle.gcg_numbers.specs.Numbers.{text_with}
use Rattle.lex_list.specs.declared.faults.ListFault.{ListFault}
use Rattle.lex_list.specs.Faults.{Gives}
use Rattle.lex_list.specs.Lines.{lines_in}
use Rattle.lex_list.specs.Lists.{with_line, words_in, spelling_fault, fault_of, first_bad_line, list_in, list_of}
use Rattle.lex_list.specs.Words.{most_words}
use Rattle.gcg_drafts.specs.declared.drafts.Draft.{Draft}
use Rattle.gcg_drafts.specs.Drafts.{IsDraft, IsFaultOf}
use Rattle.draft_answers.specs.declared.faults.DraftFault.{DraftFault}
use Rattle.draft_answers.specs.declared.making.DraftSheet.{DraftSheet}
use Rattle.draft_answers.specs.Faults.{reported_fault}
use Rattle.draft_answers.specs.Filling.{filled_events}
use Rattle.draft_answers.specs.Filled.{AreFilled, too_long}
use Rattle.draft_answers.specs.KnownTotals.{place_of_stop, HaveKnownTotals, IsBoardSheet, IsBoardSheetOf}
use Rattle.draft_answers.proofs.Sheets.{no_draft as not_read}

-- ---- a list without words

no_word : list_of [] ≡ Ok []
unfolding list_of list_in first_bad_line words_in fault_of spelling_fault with_line most_words lines_in
no_word = refl

same_list : (one other : List (List ℕ)) (a b : Result (List (List ℕ)) ListFault) → a ≡ Ok one → b ≡ Ok other → a ≡ b → one ≡ other
same_list one other a b is also same = cc

pub is_empty : (list : List (List ℕ)) (text : List ℕ) → text ≡ [] → Gives (Ok list) (list_of text) → list ≡ []
is_empty list text none gives = same_list list [] (list_of text) (list_of []) gives no_word (ap list_of none)

-- ---- the sheet

pub made : (rules : Rules) (list : List (List ℕ)) (text : List ℕ) (draft : Draft) (new known : List Event) (s : DraftSheet)
    → AreFilled rules list draft.missing.items draft.record.events new s.stopped → s.lacks ≡ draft.missing
    → HaveKnownTotals (place_of_stop new s.stopped) draft.missing.items new known → s.text.items ≡ text_with known draft.text.items → IsDraft text draft → list ≡ []
    → IsBoardSheet rules text s
made rules list text draft new known s filled lacks totals out is none =
    let right = subst (λ l. AreFilled rules l draft.missing.items draft.record.events new s.stopped) none filled in
    record {
      drafted = draft.record;
      means = is.means;
      missing = ap (λ l. l.items) lacks ∙ is.missing;
      right = right.right;
      righted = right.righted;
      filled = new;
      are = subst (λ l. new ≡ filled_events l draft.record.events right.right) (sym (ap (λ l. l.items) lacks)) right.is;
      known = known;
      totals = subst (λ l. HaveKnownTotals (place_of_stop new s.stopped) l new known) (sym (ap (λ l. l.items) lacks)) totals;
      is = out ∙ ap (text_with known) is.completed;
    }

pub long_draft : (rules : Rules) (text : List ℕ) (s : DraftSheet) (f : DraftFault) → IsBoardSheet rules text s → most_bytes < length s.text.items → f ≡ too_long
    → IsBoardSheetOf rules text (Err f)
long_draft rules text s f is long named = inr (s, is, long, named)

pub no_draft : (rules : Rules) (text : List ℕ) (fault : ReadFault) (f : DraftFault) → IsFaultOf text fault → (fault.why ≡ why.NoMemory → ⊥) → f ≡ reported_fault text fault
    → IsBoardSheetOf rules text (Err f)
no_draft rules text fault f is known reported = inl (not_read text fault f is known reported)
