-- What follows from a stage of the door, for the answer to a question.
use Rattle.std.proofs.Common.{◌≡◌, ℕ, List, ◌∷◌, ◌++◌, Option, Some, None, Result, Ok, Err, refl, sym, subst, ◌∙◌, inl, inr}
use Rattle.io_devices.specs.Devices.{Device}
use Rattle.ref_tiles.specs.declared.rulebook.Rules.{Rules}
use Rattle.lex_list.specs.Lists.{most_list_bytes}
use Rattle.lex_file.specs.Formats.{most_file_bytes}
use Rattle.lex_check.specs.declared.pairs.Checked.{Checked}
use Rattle.engine_stages.specs.declared.decisions.Decision.{Decision}
use Rattle.engine_stages.specs.declared.faults.RunFault.{RunFault}
use Rattle.engine_stages.specs.declared.verdicts.Verdict.{Verdict}
use Rattle.engine_stages.specs.declared.verdicts.Verdict.TheVariants as verdict
use Rattle.engine_stages.specs.Lexicons.{IsLexicon}
use Rattle.engine_stages.specs.Reading.{ReadsList, ReadsLexicon, ReadsRulesBut, ByParts, IsReportedFile}
use Rattle.engine_stages.specs.Runs.{Says, Gives}
use Rattle.engine_stages.specs.Sources.{Source, AreUntouched, rules_source, rules_sources, words_source, lexicon_source}
use Rattle.engine_stages.specs.laws.Sparing.{Spares}
use Rattle.engine_stages.specs.Stages.{IsRead, AreRead, IsListOf, AreRulesOf, IsPairOf}
use Rattle.engine_stages.proofs.Giving.{gives_failed, gives_bad, gives_good}
use Rattle.engine_stages.proofs.Stages.{Form, Means, ReadsText, source_of, lists, rules_texts, meaning_bad, meaning_good}

-- if a decision is an answer, so is an answer that says the same
same_said : (IsAnswer : Verdict → List ℕ → Type 0) (v w : Verdict) (report reported : List ℕ) → v ≡ w → report ≡ reported → IsAnswer w reported → IsAnswer v report
same_said IsAnswer v w report reported same_verdict same_report is = subst (λ x. IsAnswer x report) (sym same_verdict) (subst (IsAnswer w) (sym same_report) is)

-- ---- texts

-- it means nothing
pub asks_bad : {A B F X : Type 0} (says : Says X) (form : Form A B F) (old new : Device) (sources : List Source) (IsAnswer : X → B → List (List ℕ) → Verdict → List ℕ → Type 0) (a : Result A Decision) (d : Decision) (x : X)
    → IsRead form.limit old new (Means form) (Ok a) → a ≡ Err d → AreUntouched sources → says.verdict x ≡ d.verdict → says.report x ≡ d.report.items
    → Gives says (source_of form old new ∷ sources) (λ y. ReadsText form (IsAnswer y)) (Ok x)
asks_bad says form old new sources IsAnswer a d x read is still same_verdict same_report =
    gives_bad says (source_of form old new) sources (Means form) (λ y. ReadsText form (IsAnswer y)) a x read still
    (λ text rest means.
    same_said (ReadsText form (IsAnswer x) (text ∷ rest)) (says.verdict x) d.verdict (says.report x) d.report.items same_verdict same_report
    (meaning_bad form.bad form.line form.view (IsAnswer x) (form.meaning text) a d rest is means))

-- it means something, and the others are read
asks_good : {A B F X : Type 0} (says : Says X) (form : Form A B F) (old new : Device) (sources : List Source) (IsNext : X → List (List ℕ) → Verdict → List ℕ → Type 0)
    (IsAnswer : X → B → List (List ℕ) → Verdict → List ℕ → Type 0) (a : Result A Decision) (meant : A) (r : Result X RunFault)
    → IsRead form.limit old new (Means form) (Ok a) → a ≡ Ok meant → Gives says sources IsNext r → ((x : X) → Spares form.bad (IsNext x))
    → (extends : (x : X) (rest : List (List ℕ)) (v : Verdict) (report : List ℕ) → IsNext x rest v report → IsAnswer x (form.view meant) rest v report)
    → Gives says (source_of form old new ∷ sources) (λ y. ReadsText form (IsAnswer y)) r
asks_good says form old new sources IsNext IsAnswer a meant r read is next spares extends =
    gives_good says (source_of form old new) sources (Means form) IsNext (λ y. ReadsText form (IsAnswer y)) a r read next
    (λ x text rest v report means answer. meaning_good form.bad form.line form.view (IsAnswer x) (form.meaning text) a meant rest v report is means (extends x rest v report answer)) spares

pub asks_list : {X : Type 0} (says : Says X) (old new : Device) (sources : List Source) (IsAnswer : X → List (List ℕ) → List (List ℕ) → Verdict → List ℕ → Type 0) (a : Result (List (List ℕ)) Decision)
    (words : List (List ℕ)) (r : Result X RunFault) → IsRead most_list_bytes old new IsListOf (Ok a) → a ≡ Ok words → Gives says sources (λ x. IsAnswer x words) r
    → ((x : X) → Spares verdict.BadList (IsAnswer x words)) → Gives says (words_source old new ∷ sources) (λ x. ReadsList (IsAnswer x)) r
asks_list says old new sources IsAnswer a words r read is next spares =
    asks_good says lists old new sources (λ x. IsAnswer x words) IsAnswer a words r read is next spares (λ x rest v report answer. answer)

-- ---- the rules, which are known or those of a text

pub asks_unruled : {X : Type 0} (says : Says X) (known : Option Rules) (old new : Device) (sources : List Source) (IsAnswer : X → List (List ℕ) → Verdict → List ℕ → Type 0) (fault : RunFault)
    → AreRead known old new (Err fault) → AreUntouched sources → Gives says (rules_sources known old new ++ sources) IsAnswer (Err fault)
asks_unruled says (Some rules) old new sources IsAnswer fault read still = cc
asks_unruled says None old new sources IsAnswer fault read still =
    gives_failed says (rules_source old new) sources AreRulesOf IsAnswer fault read still

pub asks_bad_rules : {X : Type 0} (says : Says X) (known : Option Rules) (old new : Device) (sources : List Source) (IsAnswer : X → Rules → List (List ℕ) → Verdict → List ℕ → Type 0) (a : Result Rules Decision)
    (d : Decision) (x : X) → AreRead known old new (Ok a) → a ≡ Err d → AreUntouched sources → says.verdict x ≡ d.verdict → says.report x ≡ d.report.items
    → Gives says (rules_sources known old new ++ sources) (λ y. ReadsRulesBut known (IsAnswer y)) (Ok x)
asks_bad_rules says (Some rules) old new sources IsAnswer a d x read is still same_verdict same_report = cc
asks_bad_rules says None old new sources IsAnswer a d x read is still same_verdict same_report =
    asks_bad says rules_texts old new sources (λ y. ByParts (IsAnswer y)) a d x read is still same_verdict same_report

pub asks_rules : {X : Type 0} (says : Says X) (known : Option Rules) (old new : Device) (sources : List Source) (IsAnswer : X → Rules → List (List ℕ) → Verdict → List ℕ → Type 0) (a : Result Rules Decision)
    (rules : Rules) (r : Result X RunFault) → AreRead known old new (Ok a) → a ≡ Ok rules → Gives says sources (λ x. IsAnswer x rules) r
    → ((x : X) → Spares verdict.BadRules (IsAnswer x rules)) → Gives says (rules_sources known old new ++ sources) (λ x. ReadsRulesBut known (IsAnswer x)) r
asks_rules {X} says (Some known) old new sources IsAnswer a rules r read is next spares =
    let same : a ≡ Ok known = cc in
    let rules_are : rules ≡ known = cc in
    subst (λ (it : Rules). Gives says sources (λ (x : X). IsAnswer x it) r) rules_are next
asks_rules says None old new sources IsAnswer a rules r read is next spares =
    asks_good says rules_texts old new sources (λ x. IsAnswer x rules) (λ x. ByParts (IsAnswer x)) a rules r read is next spares (λ x rest v report answer. (rules, refl, answer))

-- ---- lexicons, by the bytes that were read of their file

pub asks_bad_file : {A X : Type 0} (says : Says X) (items : A → List ℕ) (old new : Device) (sources : List Source) (words : List (List ℕ)) (IsAnswer : X → List (List ℕ) → Verdict → List ℕ → Type 0) (bytes : A) (shown : List ℕ)
    (p : Result Checked Decision) (d : Decision) (x : X) → IsRead most_file_bytes old new (λ text b. items b ≡ text) (Ok bytes) → shown ≡ items bytes → IsPairOf words shown p → p ≡ Err d → AreUntouched sources
    → says.verdict x ≡ d.verdict → says.report x ≡ d.report.items → Gives says (lexicon_source old new ∷ sources) (λ y. ReadsLexicon words (IsAnswer y)) (Ok x)
asks_bad_file says items old new sources words IsAnswer bytes shown p d x read same pair is still same_verdict same_report =
    gives_bad says (lexicon_source old new) sources (λ text b. items b ≡ text) (λ y. ReadsLexicon words (IsAnswer y)) bytes x read still
    (λ text rest means.
    same_said (ReadsLexicon words (IsAnswer x) (text ∷ rest)) (says.verdict x) d.verdict (says.report x) d.report.items same_verdict same_report
    (let reported : IsReportedFile words shown d.verdict d.report.items = subst (IsPairOf words shown) is pair in
    inr (subst (λ t. IsReportedFile words t d.verdict d.report.items) (same ∙ means) reported)))

pub asks_lexicon : {A X : Type 0} (says : Says X) (items : A → List ℕ) (old new : Device) (sources : List Source) (words : List (List ℕ)) (IsAnswer : X → List (List ℕ) → Verdict → List ℕ → Type 0) (bytes : A) (shown : List ℕ)
    (p : Result Checked Decision) (pair : Checked) (r : Result X RunFault) → IsRead most_file_bytes old new (λ text b. items b ≡ text) (Ok bytes) → shown ≡ items bytes → IsPairOf words shown p → p ≡ Ok pair
    → Gives says sources IsAnswer r → ((x : X) → Spares verdict.BadFile (IsAnswer x)) → Gives says (lexicon_source old new ∷ sources) (λ y. ReadsLexicon words (IsAnswer y)) r
asks_lexicon says items old new sources words IsAnswer bytes shown p pair r read same agreed is next spares =
    gives_good says (lexicon_source old new) sources (λ text b. items b ≡ text) IsAnswer (λ y. ReadsLexicon words (IsAnswer y)) bytes r read next
    (λ x text rest v report means answer.
    let good = subst (IsPairOf words shown) is agreed in
    inl (subst (IsLexicon words) (same ∙ means) good.0, answer)) spares
