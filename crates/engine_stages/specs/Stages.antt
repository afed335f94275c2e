-- The results of the stages in which a call reads an input and finds what it means.
use Rattle.std.specs.Prelude.{◌≡◌, ℕ, ◌+◌, List, Option, Some, None, Result, Ok, Err, IfOk, IfErr, OnOk}
use Rattle.io_devices.specs.Devices.{Device, HasFailed, HasWorked}
use Rattle.io_devices.specs.Inputs.{IsInput, TakesAtMost}
use Rattle.ref_tiles.specs.declared.rulebook.Rules.{Rules}
use Rattle.ref_tiles.specs.Parts.{parts_of}
use Rattle.ref_tiles.specs.RulesTexts.{meaning_of, most_text_bytes}
use Rattle.gcg_read.specs.declared.records.Record.{Record}
use Rattle.gcg_read.specs.Records.{record_of}
use Rattle.lex_file.specs.Files.{bytes_of}
use Rattle.lex_list.specs.Lists.{list_of}
use Rattle.lex_check.specs.declared.pairs.Checked.{Checked}
use Rattle.lex_check.specs.Pairs.{file_in, list_in}
use Rattle.engine_stages.specs.declared.decisions.Decision.{Decision}
use Rattle.engine_stages.specs.declared.faults.RunFault.{RunFault}
use Rattle.engine_stages.specs.declared.faults.RunFault.TheVariants as run
use Rattle.engine_stages.specs.declared.verdicts.Verdict.{Verdict}
use Rattle.engine_stages.specs.declared.verdicts.Verdict.TheVariants as verdict
use Rattle.engine_stages.specs.Lexicons.{IsLexicon}
use Rattle.engine_stages.specs.Reading.{IsReportedFile}
use Rattle.engine_stages.specs.Reports.{bad_list_line, bad_record_line, bad_rules_line}
use Rattle.engine_stages.specs.Reporting.{IsReported}

-- why an input was not read: it failed, or memory was refused
abbrev pub ReadGivesUp : RunFault → (old new : Device) → Type 0
ReadGivesUp run.ReadFailed old new = HasFailed old new
ReadGivesUp run.WriteFailed old new = ⊥
ReadGivesUp run.NoMemory old new = HasWorked old new

-- bytes that an input gives, and what they were found to mean
pub record IsTaken {A : Type 0} (limit : ℕ) (input : Device) (Means : List ℕ → A → Type 0) (taken : A) : Type 0 where
  pub text : List ℕ
  pub given : IsInput limit input text
  pub means : Means text taken

-- An input is read to its end, or to one byte past the limit and no further, with this result.
pub record IsRead {A : Type 0} (limit : ℕ) (old new : Device) (Means : List ℕ → A → Type 0) (result : Result A RunFault) : Type 0 where
  pub taken : IfOk result (IsTaken limit old Means)
  pub worked : OnOk result (HasWorked old new)
  pub gave_up : IfErr result (λ fault. ReadGivesUp fault old new)
  pub within : TakesAtMost (limit + 1) old new

-- What a text means, or the verdict that it is bad, with its first fault. `view` is what contracts see of the meaning.
abbrev pub IsMeaning : {A B F : Type 0} → (bad : Verdict) → (line : F → List ℕ) → (view : A → B) → Result B F → Result A Decision → Type 0
IsMeaning {A} {B} {F} bad line view meaning (Ok meant) = meaning ≡ Ok (view meant)
IsMeaning {A} {B} {F} bad line view meaning (Err d) = (fault : F) × (meaning ≡ Err fault) × IsReported bad (line fault) d.verdict d.report.items

abbrev pub IsListOf : (text : List ℕ) → Result (List (List ℕ)) Decision → Type 0
IsListOf text = IsMeaning verdict.BadList bad_list_line (λ list. list) (list_of text)

abbrev pub IsRecordOf : (text : List ℕ) → Result Record Decision → Type 0
IsRecordOf text = IsMeaning verdict.BadRecord bad_record_line (λ r. r) (record_of text)

abbrev pub AreRulesOf : (text : List ℕ) → Result Rules Decision → Type 0
AreRulesOf text = IsMeaning verdict.BadRules bad_rules_line parts_of (meaning_of text)

-- the rules, which are known, or are read
abbrev pub AreRead : (known : Option Rules) → (old new : Device) → Result (Result Rules Decision) RunFault → Type 0
AreRead (Some rules) old new result = result ≡ Ok (Ok rules)
AreRead None old new result = IsRead most_text_bytes old new AreRulesOf result

-- the words and the bytes, which are a lexicon of them, or the verdict that they are not
abbrev pub IsPairOf : (words : List (List ℕ)) → (bytes : List ℕ) → Result Checked Decision → Type 0
IsPairOf words bytes (Ok pair) = IsLexicon words bytes × (list_in pair ≡ words) × (bytes_of (file_in pair) ≡ bytes)
IsPairOf words bytes (Err d) = IsReportedFile words bytes d.verdict d.report.items
