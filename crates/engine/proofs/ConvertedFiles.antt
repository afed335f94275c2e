-- Answers of a conversion, by the results of opening its file and of converting it.
use Rattle.std.proofs.Common.{◌≡◌, ◌⊎◌, ℕ, ◌<◌, List, Result, Ok, Err, IfOk, Some, None, refl, subst, ◌∙◌, ⊎_elim, inl, inr}
use Rattle.lex_file.specs.declared.faults.FileFault.{FileFault}
use Rattle.lex_file.specs.declared.formats.Format.{Format}
use Rattle.lex_build.specs.Converts.{IsConverted, words_in_format}
use Rattle.lex_build.specs.Stores.{limit_of}
use Rattle.engine_stages.specs.declared.decisions.Decision.{Decision}
use Rattle.engine_stages.specs.declared.lexicons.LexiconFault.TheVariants as fault
use Rattle.engine_stages.specs.declared.verdicts.Verdict.TheVariants as verdict
use Rattle.engine.specs.Converting.{IsNewFormat, IsMalformed, IsPastLimit, IsConvertedBy, StaysLexicon}
use Rattle.engine_stages.specs.Lexicons.{file_fault, IsRefusedFile}
use Rattle.engine_stages.specs.Reports.{too_many_arcs_line}
use Rattle.engine_stages.specs.Reporting.{IsReported}

pub converted : (format : Format) (bytes shown report : List ℕ) → file_fault bytes ≡ None → shown ≡ bytes → IsConverted format shown report
    → IsConvertedBy format bytes verdict.Done report
converted format bytes shown report form same is =
    inl (record { verdict_is = refl; form = form; converted = subst (λ b. IsConverted format b report) same is })

pub malformed : {E : Type 0} (format : Format) (bytes : List ℕ) (first : FileFault) (r : Result Decision E) → file_fault bytes ≡ Some first
    → IfOk r (λ d. IsRefusedFile (fault.Form first) d) → IfOk r (λ d. IsConvertedBy format bytes d.verdict d.report.items)
malformed format bytes first (Ok d) fails refused = inr (inl (record { first = first; fails = fails; reported = refused }))
malformed format bytes first (Err gone) fails refused = tt

pub past_limit : {E : Type 0} (format : Format) (bytes shown : List ℕ) (r : Result Decision E) → file_fault bytes ≡ None → shown ≡ bytes
    → limit_of format < words_in_format format shown → IfOk r (λ d. IsReported verdict.BadFile too_many_arcs_line d.verdict d.report.items)
    → IfOk r (λ d. IsConvertedBy format bytes d.verdict d.report.items)
past_limit format bytes shown (Ok d) form same many refused =
    inr (inr (record { form = form; many = subst (λ b. limit_of format < words_in_format format b) same many; reported = refused }))
past_limit format bytes shown (Err gone) form same many refused = tt

-- ---- the lexicon of a list

pub stays_lexicon : StaysLexicon
stays_lexicon format words lexicon bytes is of_list =
    ⊎_elim
    (λ (new : IsNewFormat format lexicon verdict.Done bytes). record {
      shape = new.converted.shape;
      agreed = record {
        paths = λ string. new.converted.strings string ∙ of_list.agreed.paths string;
        count = new.converted.count ∙ of_list.agreed.count;
      };
    })
    (λ (rest : IsMalformed lexicon verdict.Done bytes ⊎ IsPastLimit format lexicon verdict.Done bytes).
    ⊎_elim
    (λ (bad : IsMalformed lexicon verdict.Done bytes). let both = bad.reported.verdict_is in cc)
    (λ (past : IsPastLimit format lexicon verdict.Done bytes). let both = past.reported.verdict_is in cc)
    rest)
    is
