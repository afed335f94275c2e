-- Answers on texts that are read in order until one is bad. An answer is a relation between the texts that are still to be
-- read, a verdict, and the bytes of its report.
use Rattle.std.specs.Prelude.{◌≡◌, ◌⊎◌, ℕ, List, [], ◌∷◌, Option, Some, None, Result, Ok, Err}
use Rattle.ref_tiles.specs.declared.parts.RuleParts.{RuleParts}
use Rattle.ref_tiles.specs.declared.rulebook.Rules.{Rules}
use Rattle.ref_tiles.specs.Parts.{parts_of}
use Rattle.ref_tiles.specs.RulesTexts.{meaning_of}
use Rattle.gcg_read.specs.declared.records.Record.{Record}
use Rattle.gcg_read.specs.Records.{record_of}
use Rattle.lex_list.specs.Lists.{list_of}
use Rattle.engine_stages.specs.declared.verdicts.Verdict.{Verdict}
use Rattle.engine_stages.specs.declared.verdicts.Verdict.TheVariants as verdict
use Rattle.engine_stages.specs.Lexicons.{IsLexicon, IsBadFile}
use Rattle.engine_stages.specs.Reports.{bad_list_line, bad_record_line, bad_rules_line}
use Rattle.engine_stages.specs.Reporting.{IsReported}

-- no text is left
abbrev pub ReadsNoMore : (Verdict → List ℕ → Type 0) → (texts : List (List ℕ)) → Verdict → List ℕ → Type 0
ReadsNoMore IsAnswer [] v report = IsAnswer v report
ReadsNoMore IsAnswer (text ∷ texts) v report = ⊥

-- the next text is read, and this is the answer by it
abbrev pub ReadsNext : ((text : List ℕ) → (rest : List (List ℕ)) → Verdict → List ℕ → Type 0) → (texts : List (List ℕ)) → Verdict → List ℕ → Type 0
ReadsNext IsAnswer [] v report = ⊥
ReadsNext IsAnswer (text ∷ rest) v report = IsAnswer text rest v report

-- What is answered by the meaning of a text, and by the texts after it; if it has none, the verdict that it is bad, with its
-- first fault, whatever comes after it.
abbrev pub ByMeaning : {A F : Type 0} → (bad : Verdict) → (line : F → List ℕ) → (A → List (List ℕ) → Verdict → List ℕ → Type 0)
    → Result A F → (rest : List (List ℕ)) → Verdict → List ℕ → Type 0
ByMeaning bad line IsAnswer (Ok meant) rest v report = IsAnswer meant rest v report
ByMeaning bad line IsAnswer (Err fault) rest v report = IsReported bad (line fault) v report

-- a word list is read
abbrev pub ReadsList : ((list : List (List ℕ)) → (rest : List (List ℕ)) → Verdict → List ℕ → Type 0) → (texts : List (List ℕ)) → Verdict → List ℕ → Type 0
ReadsList IsAnswer texts v report = ReadsNext (λ text. ByMeaning verdict.BadList bad_list_line IsAnswer (list_of text)) texts v report

-- a record is read
abbrev pub ReadsRecord : (Record → (rest : List (List ℕ)) → Verdict → List ℕ → Type 0) → (texts : List (List ℕ)) → Verdict → List ℕ → Type 0
ReadsRecord IsAnswer texts v report = ReadsNext (λ text. ByMeaning verdict.BadRecord bad_record_line IsAnswer (record_of text)) texts v report

-- what is answered by some rules that have these parts
abbrev pub ByParts : (Rules → (rest : List (List ℕ)) → Verdict → List ℕ → Type 0) → RuleParts → (rest : List (List ℕ)) → Verdict → List ℕ → Type 0
ByParts IsAnswer parts rest v report = (rules : Rules) × (parts_of rules ≡ parts) × IsAnswer rules rest v report

-- a rules text is read
abbrev pub ReadsRules : (Rules → (rest : List (List ℕ)) → Verdict → List ℕ → Type 0) → (texts : List (List ℕ)) → Verdict → List ℕ → Type 0
ReadsRules IsAnswer texts v report = ReadsNext (λ text. ByMeaning verdict.BadRules bad_rules_line (ByParts IsAnswer) (meaning_of text)) texts v report

-- the file is not a lexicon of the words, and the report says what is wrong with it
pub record IsReportedFile (words : List (List ℕ)) (bytes : List ℕ) (v : Verdict) (report : List ℕ) : Type 0 where
  pub verdict_is : v ≡ verdict.BadFile
  pub bad : IsBadFile words bytes report

-- what is answered if the file is the lexicon of the words; otherwise that it is not, whatever comes after it
abbrev pub ByLexicon : (words : List (List ℕ)) → ((rest : List (List ℕ)) → Verdict → List ℕ → Type 0) → (bytes : List ℕ) → (rest : List (List ℕ)) → Verdict → List ℕ → Type 0
ByLexicon words IsAnswer bytes rest v report = IsLexicon words bytes × IsAnswer rest v report ⊎ IsReportedFile words bytes v report

-- the lexicon of the words is read
abbrev pub ReadsLexicon : (words : List (List ℕ)) → ((rest : List (List ℕ)) → Verdict → List ℕ → Type 0) → (texts : List (List ℕ)) → Verdict → List ℕ → Type 0
ReadsLexicon words IsAnswer texts v report = ReadsNext (ByLexicon words IsAnswer) texts v report

-- a rules text is read, if the rules are not known
abbrev pub ReadsRulesBut : (known : Option Rules) → (Rules → (rest : List (List ℕ)) → Verdict → List ℕ → Type 0) → (texts : List (List ℕ)) → Verdict → List ℕ → Type 0
ReadsRulesBut (Some rules) IsAnswer = IsAnswer rules
ReadsRulesBut None IsAnswer = ReadsRules IsAnswer

-- a rules text is read, if the rules are not known, and then a word list and its lexicon
abbrev pub ReadsPair : (known : Option Rules) → (Rules → (list : List (List ℕ)) → (rest : List (List ℕ)) → Verdict → List ℕ → Type 0) → (texts : List (List ℕ)) → Verdict → List ℕ → Type 0
ReadsPair known IsAnswer = ReadsRulesBut known (λ rules. ReadsList (λ list. ReadsLexicon list (IsAnswer rules list)))
