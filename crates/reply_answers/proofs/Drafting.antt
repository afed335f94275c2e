-- The record that a draft makes.
use Rattle.std.proofs.Common.{◌≡◌, ◌≤◌, ◌&&◌, ℕ, Bool, true, false, nat_lt, List, length, Option, Some, None, is_none, Result, Ok, Err, IfSome, refl}
use Rattle.ref_tiles.specs.declared.rulebook.Rules.{Rules}
use Rattle.gcg_read.specs.Records.{most_bytes}
use Rattle.gcg_numbers.specs.Numbers.{text_with}
use Rattle.sheet_audit.specs.Standing.{is_written}
use Rattle.draft_answers.specs.Filled.{IsFillOf}
use Rattle.draft_answers.specs.Outs.{is_out, IsOnlyRecord, IsRecordOfDraft}
use Rattle.draft_answers.specs.declared.faults.DraftFault.{DraftFault}
use Rattle.draft_answers.specs.declared.filled.FilledDraft.{FilledDraft}
use Rattle.reply_answers.specs.Drafted.{IsKept, IsKeptOf}

both_remaining : (a b : Bool) → (a && b) ≡ true → a ≡ true
both_remaining true b e = refl
both_remaining false b e = cc

is_not_there : {A : Type 0} (x : Option A) → is_none x ≡ true → x ≡ None
is_not_there None e = refl
is_not_there (Some a) e = cc

-- the rules refuse no line of a draft whose record is to be written
pub kept : (f : FilledDraft) (out : List ℕ) → is_out f ≡ true → out ≡ text_with f.answer.audit.entry.record.events f.answer.audit.text.items → IsRecordOfDraft f out → IsKept f out
kept f out goes text again =
    record {
      going = is_not_there f.stopped (both_remaining (is_none f.stopped) (is_written f.answer && nat_lt 0 (length f.answer.audit.entry.record.events)) goes);
      text = text;
      again = again;
    }

-- the text of the record of a draft reads as the only record that the rules allow
only_one : (rules : Rules) (list : List (List ℕ)) (draft out : List ℕ) (found : Result FilledDraft DraftFault) → IsFillOf rules list draft found → IsKeptOf found out
    → length out ≤ most_bytes → IsOnlyRecord rules list draft out
only_one rules list draft out (Ok f) is kept short = kept.again rules list draft is kept.going short
only_one rules list draft out (Err fault) is kept short = absurd kept

-- and so does the text that is kept, if there is one
pub only_kept : {V : Type 0} (items : V → List ℕ) (rules : Rules) (list : List (List ℕ)) (draft : List ℕ) (found : Result FilledDraft DraftFault) (text : Option V)
    → IsFillOf rules list draft found → IfSome text (λ out. IsKeptOf found (items out)) → IfSome text (λ out. length (items out) ≤ most_bytes → IsOnlyRecord rules list draft (items out))
only_kept items rules list draft found None is kept = tt
only_kept items rules list draft found (Some out) is kept = only_one rules list draft (items out) found is kept
