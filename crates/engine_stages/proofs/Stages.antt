-- What follows from a stage, for the decision of a call.
use Rattle.std.proofs.Common.{◌≡◌, ℕ, List, [], ◌∷◌, Result, Ok, Err, refl, sym, subst, ◌∙◌, inl, inr}
use Rattle.io_devices.specs.Devices.{Device}
use Rattle.ref_tiles.specs.declared.parts.RuleParts.{RuleParts}
use Rattle.ref_tiles.specs.declared.rulebook.Rules.{Rules}
use Rattle.ref_tiles.specs.declared.rules_faults.RulesFault.{RulesFault}
use Rattle.ref_tiles.specs.Parts.{parts_of}
use Rattle.ref_tiles.specs.RulesTexts.{meaning_of, most_text_bytes}
use Rattle.gcg_read.specs.declared.faults.ReadFault.{ReadFault}
use Rattle.gcg_read.specs.declared.records.Record.{Record}
use Rattle.gcg_read.specs.Records.{record_of, most_bytes}
use Rattle.lex_list.specs.declared.faults.ListFault.{ListFault}
use Rattle.lex_list.specs.Lists.{list_of, most_list_bytes}
use Rattle.lex_file.specs.Formats.{most_file_bytes}
use Rattle.lex_check.specs.declared.pairs.Checked.{Checked}
use Rattle.lex_check.specs.Pairs.{list_in}
use Rattle.engine_stages.specs.declared.decisions.Decision.{Decision}
use Rattle.engine_stages.specs.declared.faults.RunFault.{RunFault}
use Rattle.engine_stages.specs.declared.verdicts.Verdict.{Verdict}
use Rattle.engine_stages.specs.declared.verdicts.Verdict.TheVariants as verdict
use Rattle.engine_stages.specs.Lexicons.{IsLexicon}
use Rattle.engine_stages.specs.Reading.{ReadsNoMore, ReadsNext, ByMeaning, ReadsList, ByParts, ReadsRules, ByLexicon, ReadsLexicon, IsReportedFile}
use Rattle.engine_stages.specs.Reports.{bad_list_line, bad_record_line, bad_rules_line}
use Rattle.engine_stages.specs.Runs.{Decides}
use Rattle.engine_stages.specs.Sources.{Source, AreUntouched, rules_source, words_source, lexicon_source}
use Rattle.engine_stages.specs.Stages.{IsRead, IsMeaning, IsListOf, AreRulesOf, IsPairOf}
use Rattle.engine_stages.proofs.Deciding.{front_bad, front_good, last_read}
use Rattle.engine_stages.specs.laws.Sparing.{Spares}

-- ---- a text and its meaning

pub meaning_bad : {A B F : Type 0} (bad : Verdict) (line : F → List ℕ) (view : A → B) (IsAnswer : B → List (List ℕ) → Verdict → List ℕ → Type 0) (meaning : Result B F) (a : Result A Decision) (d : Decision)
    (rest : List (List ℕ)) → a ≡ Err d → IsMeaning bad line view meaning a → ByMeaning bad line IsAnswer meaning rest d.verdict d.report.items
meaning_bad bad line view IsAnswer meaning a d rest is means =
    let none = subst (IsMeaning bad line view meaning) is means in
    subst (λ m. ByMeaning bad line IsAnswer m rest d.verdict d.report.items) (sym none.1) none.2

pub meaning_good : {A B F : Type 0} (bad : Verdict) (line : F → List ℕ) (view : A → B) (IsAnswer : B → List (List ℕ) → Verdict → List ℕ → Type 0) (meaning : Result B F) (a : Result A Decision) (x : A)
    (rest : List (List ℕ)) (v : Verdict) (report : List ℕ) → a ≡ Ok x → IsMeaning bad line view meaning a → IsAnswer (view x) rest v report → ByMeaning bad line IsAnswer meaning rest v report
meaning_good bad line view IsAnswer meaning a x rest v report is means answer =
    let some : meaning ≡ Ok (view x) = subst (IsMeaning bad line view meaning) is means in
    subst (λ m. ByMeaning bad line IsAnswer m rest v report) (sym some) answer

-- ---- texts

-- A form of text: the greatest number of bytes that one may have, the verdict that it is bad, the line that gives its first fault, what contracts see
-- of what is read, and what a text means.
pub record Form (A B F : Type 0) : Type 0 where
  pub limit : ℕ
  pub bad : Verdict
  pub line : F → List ℕ
  pub view : A → B
  pub meaning : List ℕ → Result B F

abbrev pub lists : Form (List (List ℕ)) (List (List ℕ)) ListFault
lists = record { limit = most_list_bytes; bad = verdict.BadList; line = bad_list_line; view = λ list. list; meaning = list_of }

abbrev pub records : Form Record Record ReadFault
records = record { limit = most_bytes; bad = verdict.BadRecord; line = bad_record_line; view = λ r. r; meaning = record_of }

abbrev pub rules_texts : Form Rules RuleParts RulesFault
rules_texts = record { limit = most_text_bytes; bad = verdict.BadRules; line = bad_rules_line; view = parts_of; meaning = meaning_of }

abbrev pub source_of : {A B F : Type 0} → Form A B F → (old new : Device) → Source
source_of form old new = record { limit = form.limit; bad = form.bad; old = old; new = new }

-- what is read of such a text
abbrev pub Means : {A B F : Type 0} → Form A B F → (text : List ℕ) → Result A Decision → Type 0
Means form text = IsMeaning form.bad form.line form.view (form.meaning text)

-- such a text is read
abbrev pub ReadsText : {A B F : Type 0} → Form A B F → (B → List (List ℕ) → Verdict → List ℕ → Type 0) → List (List ℕ) → Verdict → List ℕ → Type 0
ReadsText form IsAnswer = ReadsNext (λ text. ByMeaning form.bad form.line IsAnswer (form.meaning text))

-- it means nothing
pub text_bad : {A B F : Type 0} (form : Form A B F) (old new : Device) (sources : List Source) (IsAnswer : B → List (List ℕ) → Verdict → List ℕ → Type 0) (a : Result A Decision) (d : Decision)
    → IsRead form.limit old new (Means form) (Ok a) → a ≡ Err d → AreUntouched sources → Decides (source_of form old new ∷ sources) (ReadsText form IsAnswer) (Ok d)
text_bad form old new sources IsAnswer a d read is still =
    front_bad (source_of form old new) sources (Means form) (ReadsText form IsAnswer) a d read still
    (λ text rest means. meaning_bad form.bad form.line form.view IsAnswer (form.meaning text) a d rest is means)

-- it means something, and is the last
pub text_last : {A B F : Type 0} (form : Form A B F) (old new : Device) (IsAnswer : B → Verdict → List ℕ → Type 0) (a : Result A Decision) (x : A) (d : Decision)
    → IsRead form.limit old new (Means form) (Ok a) → a ≡ Ok x → IsAnswer (form.view x) d.verdict d.report.items
    → Decides (source_of form old new ∷ []) (ReadsText form (λ b. ReadsNoMore (IsAnswer b))) (Ok d)
text_last form old new IsAnswer a x d read is answer =
    last_read (source_of form old new) (Means form) (ReadsText form (λ b. ReadsNoMore (IsAnswer b))) a d read
    (λ text means. meaning_good form.bad form.line form.view (λ b. ReadsNoMore (IsAnswer b)) (form.meaning text) a x [] d.verdict d.report.items is means answer)

-- It means something, and the others are read. `extends` says how an answer by the others is one by it and them.
text_good : {A B F : Type 0} (form : Form A B F) (old new : Device) (sources : List Source) (IsNext : List (List ℕ) → Verdict → List ℕ → Type 0) (IsAnswer : B → List (List ℕ) → Verdict → List ℕ → Type 0)
    (a : Result A Decision) (x : A) (r : Result Decision RunFault) → IsRead form.limit old new (Means form) (Ok a) → a ≡ Ok x → Decides sources IsNext r → Spares form.bad IsNext
    → (extends : (rest : List (List ℕ)) (v : Verdict) (report : List ℕ) → IsNext rest v report → IsAnswer (form.view x) rest v report)
    → Decides (source_of form old new ∷ sources) (ReadsText form IsAnswer) r
text_good form old new sources IsNext IsAnswer a x r read is next spares extends =
    front_good (source_of form old new) sources (Means form) IsNext (ReadsText form IsAnswer) a r read next
    (λ text rest v report means answer. meaning_good form.bad form.line form.view IsAnswer (form.meaning text) a x rest v report is means (extends rest v report answer)) spares

pub list_good : (old new : Device) (sources : List Source) (IsAnswer : List (List ℕ) → List (List ℕ) → Verdict → List ℕ → Type 0) (a : Result (List (List ℕ)) Decision) (words : List (List ℕ))
    (r : Result Decision RunFault) → IsRead most_list_bytes old new IsListOf (Ok a) → a ≡ Ok words → Decides sources (IsAnswer words) r → Spares verdict.BadList (IsAnswer words)
    → Decides (words_source old new ∷ sources) (ReadsList IsAnswer) r
list_good old new sources IsAnswer a words r read is next spares =
    text_good lists old new sources (IsAnswer words) IsAnswer a words r read is next spares (λ rest v report answer. answer)

pub rules_good : (old new : Device) (sources : List Source) (IsAnswer : Rules → List (List ℕ) → Verdict → List ℕ → Type 0) (a : Result Rules Decision) (rules : Rules) (r : Result Decision RunFault)
    → IsRead most_text_bytes old new AreRulesOf (Ok a) → a ≡ Ok rules → Decides sources (IsAnswer rules) r → Spares verdict.BadRules (IsAnswer rules)
    → Decides (rules_source old new ∷ sources) (ReadsRules IsAnswer) r
rules_good old new sources IsAnswer a rules r read is next spares =
    text_good rules_texts old new sources (IsAnswer rules) (ByParts IsAnswer) a rules r read is next spares (λ rest v report answer. (rules, refl, answer))

-- ---- lexicons, by the bytes that were read of their file

pub lexicon_bad : {A : Type 0} (items : A → List ℕ) (old new : Device) (sources : List Source) (words : List (List ℕ)) (IsAnswer : List (List ℕ) → Verdict → List ℕ → Type 0) (bytes : A) (shown : List ℕ)
    (p : Result Checked Decision) (d : Decision) → IsRead most_file_bytes old new (λ text b. items b ≡ text) (Ok bytes) → shown ≡ items bytes → IsPairOf words shown p → p ≡ Err d → AreUntouched sources
    → Decides (lexicon_source old new ∷ sources) (ReadsLexicon words IsAnswer) (Ok d)
lexicon_bad items old new sources words IsAnswer bytes shown p d read same pair is still =
    front_bad (lexicon_source old new) sources (λ text b. items b ≡ text) (ReadsLexicon words IsAnswer) bytes d read still
    (λ text rest means.
    let reported : IsReportedFile words shown d.verdict d.report.items = subst (IsPairOf words shown) is pair in
    inr (subst (λ t. IsReportedFile words t d.verdict d.report.items) (same ∙ means) reported))

pub lexicon_good : {A : Type 0} (items : A → List ℕ) (old new : Device) (sources : List Source) (words : List (List ℕ)) (IsAnswer : List (List ℕ) → Verdict → List ℕ → Type 0) (bytes : A) (shown : List ℕ)
    (p : Result Checked Decision) (pair : Checked) (r : Result Decision RunFault) → IsRead most_file_bytes old new (λ text b. items b ≡ text) (Ok bytes) → shown ≡ items bytes → IsPairOf words shown p → p ≡ Ok pair
    → Decides sources IsAnswer r → Spares verdict.BadFile IsAnswer → Decides (lexicon_source old new ∷ sources) (ReadsLexicon words IsAnswer) r
lexicon_good items old new sources words IsAnswer bytes shown p pair r read same agreed is next spares =
    front_good (lexicon_source old new) sources (λ text b. items b ≡ text) IsAnswer (ReadsLexicon words IsAnswer) bytes r read next
    (λ text rest v report means answer.
    let good = subst (IsPairOf words shown) is agreed in
    inl (subst (IsLexicon words) (same ∙ means) good.0, answer)) spares

-- the list of the pair is that of the words
pub paired_words : (words : List (List ℕ)) (shown : List ℕ) (p : Result Checked Decision) (pair : Checked) → IsPairOf words shown p → p ≡ Ok pair → list_in pair ≡ words
paired_words words shown p pair agreed is = let good = subst (IsPairOf words shown) is agreed in good.1

-- an answer by the file only
pub file_last : {A : Type 0} (items : A → List ℕ) (old new : Device) (IsAnswer : List ℕ → Verdict → List ℕ → Type 0) (bytes : A) (shown : List ℕ) (d : Decision)
    → IsRead most_file_bytes old new (λ text b. items b ≡ text) (Ok bytes) → shown ≡ items bytes → IsAnswer shown d.verdict d.report.items
    → Decides (lexicon_source old new ∷ []) (ReadsNext (λ text. ReadsNoMore (IsAnswer text))) (Ok d)
file_last items old new IsAnswer bytes shown d read same answer =
    last_read (lexicon_source old new) (λ text b. items b ≡ text) (ReadsNext (λ text. ReadsNoMore (IsAnswer text))) bytes d read
    (λ text means. subst (λ t. IsAnswer t d.verdict d.report.items) (same ∙ means) answer)

-- an answer by a list and the file
pub lexicon_last : {A : Type 0} (items : A → List ℕ) (old new : Device) (words : List (List ℕ)) (IsAnswer : List (List ℕ) → Verdict → List ℕ → Type 0) (bytes : A) (shown : List ℕ) (d : Decision)
    → IsRead most_file_bytes old new (λ text b. items b ≡ text) (Ok bytes) → shown ≡ items bytes → ByLexicon words IsAnswer shown [] d.verdict d.report.items
    → Decides (lexicon_source old new ∷ []) (ReadsLexicon words IsAnswer) (Ok d)
lexicon_last items old new words IsAnswer bytes shown d read same answer =
    last_read (lexicon_source old new) (λ text b. items b ≡ text) (ReadsLexicon words IsAnswer) bytes d read
    (λ text means. subst (λ t. ByLexicon words IsAnswer t [] d.verdict d.report.items) (same ∙ means) answer)
