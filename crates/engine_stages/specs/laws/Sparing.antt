-- Answers that do not say that an input is bad.
use Rattle.std.proofs.Common.{◌≢◌, ℕ, List, [], ◌∷◌, Result, Ok, Err, sym, ◌∙◌, ⊎_elim}
use Rattle.gcg_read.specs.declared.records.Record.{Record}
use Rattle.gcg_read.specs.Records.{record_of}
use Rattle.lex_list.specs.Lists.{list_of}
use Rattle.engine_stages.specs.declared.verdicts.Verdict.{Verdict}
use Rattle.engine_stages.specs.declared.verdicts.Verdict.TheVariants as verdict
use Rattle.engine_stages.specs.Lexicons.{IsLexicon}
use Rattle.engine_stages.specs.Reading.{ReadsNoMore, ByMeaning, ReadsList, ReadsRecord, ReadsLexicon, IsReportedFile}
use Rattle.engine_stages.specs.Reports.{bad_list_line, bad_record_line}
use Rattle.engine_stages.specs.Reporting.{IsReported, IsOwn, IsLater}

-- no answer is this verdict
abbrev pub Spares : Verdict → (List (List ℕ) → Verdict → List ℕ → Type 0) → Type 0
Spares bad IsAnswer = (texts : List (List ℕ)) (v : Verdict) (report : List ℕ) → IsAnswer texts v report → v ≢ bad

pub more_spares : (bad : Verdict) (IsAnswer : Verdict → List ℕ → Type 0) → ((v : Verdict) (report : List ℕ) → IsAnswer v report → v ≢ bad) → Spares bad (ReadsNoMore IsAnswer)
more_spares bad IsAnswer own [] v report is = own v report is
more_spares bad IsAnswer own (text ∷ texts) v report is = absurd is

reported_spares : (bad what v : Verdict) (text report : List ℕ) → what ≢ bad → IsReported what text v report → v ≢ bad
reported_spares bad what v text report other reported same = other (sym reported.verdict_is ∙ same)

pub meaning_spares : {A F : Type 0} (bad what : Verdict) (line : F → List ℕ) (IsAnswer : A → List (List ℕ) → Verdict → List ℕ → Type 0) (meaning : Result A F) → what ≢ bad
    → ((a : A) → Spares bad (IsAnswer a)) → Spares bad (ByMeaning what line IsAnswer meaning)
meaning_spares bad what line IsAnswer (Ok a) other each texts v report is = each a texts v report is
meaning_spares bad what line IsAnswer (Err fault) other each texts v report is = reported_spares bad what v (line fault) report other is

pub record_spares : (bad : Verdict) (IsAnswer : Record → List (List ℕ) → Verdict → List ℕ → Type 0) → verdict.BadRecord ≢ bad
    → ((r : Record) → Spares bad (IsAnswer r)) → Spares bad (ReadsRecord IsAnswer)
record_spares bad IsAnswer other each [] v report is = absurd is
record_spares bad IsAnswer other each (text ∷ rest) v report is = meaning_spares bad verdict.BadRecord bad_record_line IsAnswer (record_of text) other each rest v report is

pub list_spares : (bad : Verdict) (IsAnswer : List (List ℕ) → List (List ℕ) → Verdict → List ℕ → Type 0) → verdict.BadList ≢ bad
    → ((words : List (List ℕ)) → Spares bad (IsAnswer words)) → Spares bad (ReadsList IsAnswer)
list_spares bad IsAnswer other each [] v report is = absurd is
list_spares bad IsAnswer other each (text ∷ rest) v report is = meaning_spares bad verdict.BadList bad_list_line IsAnswer (list_of text) other each rest v report is

pub lexicon_spares : (bad : Verdict) (words : List (List ℕ)) (IsAnswer : List (List ℕ) → Verdict → List ℕ → Type 0) → verdict.BadFile ≢ bad
    → Spares bad IsAnswer → Spares bad (ReadsLexicon words IsAnswer)
lexicon_spares bad words IsAnswer other each [] v report is = absurd is
lexicon_spares bad words IsAnswer other each (bytes ∷ rest) v report is =
    ⊎_elim
    (λ (good : IsLexicon words bytes × IsAnswer rest v report). each rest v report good.1)
    (λ (reported : IsReportedFile words bytes v report). λ same. other (sym reported.verdict_is ∙ same))
    is

-- what is answered on a record
pub record_later : (IsAnswer : Record → Verdict → List ℕ → Type 0) → ((r : Record) (v : Verdict) (report : List ℕ) → IsAnswer r v report → IsOwn v) → (texts : List (List ℕ)) (v : Verdict) (report : List ℕ)
    → ReadsRecord (λ r. ReadsNoMore (IsAnswer r)) texts v report → IsLater v
record_later IsAnswer own texts v report is =
    record {
      rules = record_spares verdict.BadRules (λ r. ReadsNoMore (IsAnswer r)) (λ same. cc) (λ r. more_spares verdict.BadRules (IsAnswer r) (λ w reported given. (own r w reported given).rules)) texts v report is;
      words = record_spares verdict.BadList (λ r. ReadsNoMore (IsAnswer r)) (λ same. cc) (λ r. more_spares verdict.BadList (IsAnswer r) (λ w reported given. (own r w reported given).words)) texts v report is;
      lexicon = record_spares verdict.BadFile (λ r. ReadsNoMore (IsAnswer r)) (λ same. cc) (λ r. more_spares verdict.BadFile (IsAnswer r) (λ w reported given. (own r w reported given).lexicon)) texts v report is;
    }
