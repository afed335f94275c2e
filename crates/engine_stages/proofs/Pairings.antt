-- Bytes that are not a lexicon of some words, by what was found wrong with them.
use Rattle.std.proofs.Common.{◌≡◌, ℕ, true, false, List, Some, None, Result, Ok, Err, IfOk, ◌++◌, sym, ap, subst, ◌∙◌, ⊎_elim}
use Rattle.std.proofs.lemmas.Bool.{false≢true}
use Rattle.arrayvec.specs.ArrayVec.{ArrayVec}
use Rattle.lex_file.specs.declared.faults.FileFault.{FileFault}
use Rattle.lex_file.specs.declared.files.LexFile.{LexFile}
use Rattle.lex_file.specs.Files.{bytes_of}
use Rattle.lex_file.specs.Languages.{language_of}
use Rattle.lex_list.specs.RotatedPaths.{is_path, StandsFor}
use Rattle.lex_check.specs.declared.checks.Mismatch.TheVariants as why
use Rattle.lex_check.specs.declared.pairs.Checked.{Checked}
use Rattle.lex_check.specs.Checks.{IsAgreed, IsMismatch}
use Rattle.lex_check.specs.Differences.{IsMissing, IsExtra, Begins, BeginsNone}
use Rattle.lex_check.specs.Pairs.{file_in, list_in}
use Rattle.engine_stages.specs.declared.lexicons.LexiconFault.{LexiconFault}
use Rattle.engine_stages.specs.declared.lexicons.LexiconFault.TheVariants as fault
use Rattle.engine_stages.specs.declared.decisions.Decision.{Decision}
use Rattle.engine_stages.specs.Lexicons.{file_fault, IsLexicon, IsFaultOf, IsRefusedPair}
use Rattle.engine_stages.specs.Stages.{IsPairOf}

-- ---- a fault says that the bytes are not a lexicon of the words

missing_differs : (words : List (List ℕ)) (bytes path : List ℕ) → IsMissing (language_of bytes) (is_path words) path → StandsFor (language_of bytes) words → ⊥
missing_differs words bytes path missing same = false≢true (sym missing.absent ∙ same path ∙ missing.listed)

extra_differs : (words : List (List ℕ)) (bytes path : List ℕ) → IsExtra (language_of bytes) (is_path words) path → StandsFor (language_of bytes) words → ⊥
extra_differs words bytes path extra same =
    ⊎_elim
    (λ (alone : (language_of bytes path ≡ true) × (is_path words path ≡ false)). false≢true (sym alone.1 ∙ sym (same path) ∙ alone.0))
    (λ (longer : Begins (language_of bytes) path × BeginsNone (is_path words) path).
    false≢true (sym (longer.1 longer.0.rest) ∙ sym (same (path ++ longer.0.rest)) ∙ longer.0.holds))
    extra.extra

unlike_by : (words : List (List ℕ)) (bytes : List ℕ) (first : LexiconFault) → IsFaultOf words bytes first → IsLexicon words bytes → ⊥
unlike_by words bytes (fault.Form form) is lexicon = let both : None ≡ Some form = sym lexicon.form ∙ is in cc
unlike_by words bytes (fault.Missing path) is lexicon = missing_differs words bytes path.items is.1.differs lexicon.agreed.paths
unlike_by words bytes (fault.Extra path) is lexicon = extra_differs words bytes path.items is.1.differs lexicon.agreed.paths
unlike_by words bytes fault.WordCount is lexicon = is.1.1 lexicon.agreed.count

-- ---- the verdict on it

refused_by : (words : List (List ℕ)) (bytes : List ℕ) (first : LexiconFault) (p : Result Checked Decision) → IsFaultOf words bytes first → IsRefusedPair first p → IsPairOf words bytes p
refused_by words bytes first (Ok pair) is refused = absurd refused
refused_by words bytes first (Err d) is refused =
    record {
      verdict_is = refused.verdict_is;
      bad = record { unlike = unlike_by words bytes first is; fault = first; fails = is; reported = refused.reported };
    }

refused_with : {E : Type 0} (words : List (List ℕ)) (bytes : List ℕ) (first : LexiconFault) (r : Result (Result Checked Decision) E) → IsFaultOf words bytes first → IfOk r (λ p. IsRefusedPair first p)
    → IfOk r (λ p. IsPairOf words bytes p)
refused_with words bytes first (Ok p) is refused = refused_by words bytes first p is refused
refused_with words bytes first (Err gone) is refused = tt

pub bad_form : {E : Type 0} (words : List (List ℕ)) (bytes : List ℕ) (form : FileFault) (r : Result (Result Checked Decision) E) → file_fault bytes ≡ Some form → IfOk r (λ p. IsRefusedPair (fault.Form form) p)
    → IfOk r (λ p. IsPairOf words bytes p)
bad_form words bytes form r is refused = refused_with words bytes (fault.Form form) r is refused

pub is_missing : {E : Type 0} (words : List (List ℕ)) (bytes shown : List ℕ) (path : ArrayVec ℕ) (r : Result (Result Checked Decision) E) → file_fault bytes ≡ None → shown ≡ bytes
    → IsMismatch words shown (why.Missing path) → IfOk r (λ p. IsRefusedPair (fault.Missing path) p) → IfOk r (λ p. IsPairOf words bytes p)
is_missing words bytes shown path r form same is refused =
    refused_with words bytes (fault.Missing path) r (form, subst (λ b. IsMismatch words b (why.Missing path)) same is) refused

pub is_extra : {E : Type 0} (words : List (List ℕ)) (bytes shown : List ℕ) (path : ArrayVec ℕ) (r : Result (Result Checked Decision) E) → file_fault bytes ≡ None → shown ≡ bytes
    → IsMismatch words shown (why.Extra path) → IfOk r (λ p. IsRefusedPair (fault.Extra path) p) → IfOk r (λ p. IsPairOf words bytes p)
is_extra words bytes shown path r form same is refused =
    refused_with words bytes (fault.Extra path) r (form, subst (λ b. IsMismatch words b (why.Extra path)) same is) refused

pub is_miscounted : {E : Type 0} (words : List (List ℕ)) (bytes shown : List ℕ) (r : Result (Result Checked Decision) E) → file_fault bytes ≡ None → shown ≡ bytes
    → IsMismatch words shown why.WordCount → IfOk r (λ p. IsRefusedPair fault.WordCount p) → IfOk r (λ p. IsPairOf words bytes p)
is_miscounted words bytes shown r form same is refused =
    refused_with words bytes fault.WordCount r (form, subst (λ b. IsMismatch words b why.WordCount) same is) refused

pub is_agreed : (words : List (List ℕ)) (bytes : List ℕ) (file : LexFile) (pair : Checked) → file_fault bytes ≡ None → bytes_of file ≡ bytes
    → file_in pair ≡ file → list_in pair ≡ words → IsAgreed words (bytes_of file) → IsPairOf words bytes (Ok pair)
is_agreed words bytes file pair form same kept list agreed =
    (record { form = form; agreed = subst (IsAgreed words) same agreed }, list, ap bytes_of kept ∙ same)
