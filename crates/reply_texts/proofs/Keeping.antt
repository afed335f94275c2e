-- The repaired sheet that is kept, if it is requested.
use Rattle.std.proofs.Common.{◌≡◌, inl, inr, ℕ, true, List, Option, Some, None, Result, Ok, Err, IfOk, sym, subst}
use Rattle.std.specs.Prelude.{MatchOption}
use Rattle.repair_rewrites.specs.Kept.{IsRepairedText, IsNoRepairedText}
use Rattle.reply_calls.specs.declared.printed.Printed.{Printed}
use Rattle.reply_answers.specs.declared.repaired.RepairedCase.{RepairedCase}
use Rattle.reply_texts.specs.Kept.{has_nothing, IsSheetKept, IsNoSheetKept}

-- the sheet of the case, since it is requested
pub kept_of : {V E : Type 0} (items : V → List ℕ) (x : RepairedCase) (result : Result (Option V) E) → x.asked ≡ true
    → IfOk result (λ made. MatchOption made (IsNoRepairedText x.case x.answer.faulty x.answer.of_line) (λ t. IsRepairedText x.case x.answer.faulty x.answer.of_line (items t)))
    → IfOk result (λ kept. MatchOption kept (IsNoSheetKept x) (λ t. IsSheetKept x (items t)))
kept_of items x (Ok (Some made)) asked is = (asked, is)
kept_of items x (Ok None) asked is = inr (inr is)
kept_of items x (Err why) asked is = tt

none_of : {V : Type 0} (No : Type 0) (Yes : V → Type 0) (kept : Option V) → kept ≡ None → No → MatchOption kept No Yes
none_of {V} No Yes kept is holds = subst (λ (k : Option V). MatchOption k No Yes) (sym is) holds

-- a record without an event has none
pub none_kept : {E : Type 0} (x : RepairedCase) (result : Result Printed E) → has_nothing x.case.read ≡ true → IfOk result (λ printed. printed.kept ≡ None)
    → IfOk result (λ printed. MatchOption printed.kept (IsNoSheetKept x) (λ text. IsSheetKept x text.items))
none_kept x (Ok printed) empty none = none_of (IsNoSheetKept x) (λ text. IsSheetKept x text.items) printed.kept none (inr (inl empty))
none_kept x (Err why) empty none = tt
