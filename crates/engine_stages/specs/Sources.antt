-- The inputs of a call, in the order in which they are read.
use Rattle.std.specs.Prelude.{◌≡◌, ◌⊎◌, ℕ, ◌+◌, List, [], ◌∷◌, ◌++◌, Option, Some, None}
use Rattle.io_devices.specs.Devices.{Device, HasFailed, HasWorked}
use Rattle.io_devices.specs.Inputs.{IsInput, TakesAtMost}
use Rattle.ref_tiles.specs.declared.rulebook.Rules.{Rules}
use Rattle.ref_tiles.specs.RulesTexts.{most_text_bytes}
use Rattle.gcg_read.specs.Records.{most_bytes}
use Rattle.lex_list.specs.Lists.{most_list_bytes}
use Rattle.lex_file.specs.Formats.{most_file_bytes}
use Rattle.engine_stages.specs.declared.verdicts.Verdict.{Verdict}
use Rattle.engine_stages.specs.declared.verdicts.Verdict.TheVariants as verdict

-- An input of a call: the greatest number of bytes that it may have, the verdict that it is bad, and its device before and
-- after the call.
pub record Source : Type 0 where
  pub limit : ℕ
  pub bad : Verdict
  pub old : Device
  pub new : Device

abbrev pub rules_source : (old new : Device) → Source
rules_source old new = record { limit = most_text_bytes; bad = verdict.BadRules; old = old; new = new }

abbrev pub words_source : (old new : Device) → Source
words_source old new = record { limit = most_list_bytes; bad = verdict.BadList; old = old; new = new }

abbrev pub lexicon_source : (old new : Device) → Source
lexicon_source old new = record { limit = most_file_bytes; bad = verdict.BadFile; old = old; new = new }

abbrev pub game_source : (old new : Device) → Source
game_source old new = record { limit = most_bytes; bad = verdict.BadRecord; old = old; new = new }

-- a device that is not there: nothing is known of its bytes, and it never failed
abbrev pub no_device : Device
no_device = record { bytes = None; failures = 0; stalls = 0 }

-- the rules that are known: if there is no text
abbrev pub known_but : {A : Type 0} → (text : Option A) → Rules → Option Rules
known_but None rules = Some rules
known_but (Some text) rules = None

-- the device of a text, if there is one
abbrev pub device_in : {A : Type 0} → (device : A → Device) → (text : Option A) → Device
device_in device None = no_device
device_in device (Some text) = device text

-- the rules text, if the rules are not known
abbrev pub rules_sources : (known : Option Rules) → (old new : Device) → List Source
rules_sources (Some rules) old new = []
rules_sources None old new = rules_source old new ∷ []

-- the rules text if the rules are not known, a word list, its lexicon, and what is read after them
abbrev pub pair_sources : (known : Option Rules) → (rules_old rules_new words_old words_new lexicon_old lexicon_new : Device) → (more : List Source) → List Source
pair_sources known rules_old rules_new words_old words_new lexicon_old lexicon_new more =
    rules_sources known rules_old rules_new ++ words_source words_old words_new ∷ lexicon_source lexicon_old lexicon_new ∷ more

-- the bytes that the inputs give, in their order
abbrev pub AreGiven : List Source → (texts : List (List ℕ)) → Type 0
AreGiven [] [] = Unit {0}
AreGiven [] (text ∷ texts) = ⊥
AreGiven (s ∷ sources) [] = ⊥
AreGiven (s ∷ sources) (text ∷ texts) = IsInput s.limit s.old text × AreGiven sources texts

-- no input failed
abbrev pub AllHaveWorked : List Source → Type 0
AllHaveWorked [] = Unit {0}
AllHaveWorked (s ∷ sources) = HasWorked s.old s.new × AllHaveWorked sources

-- one input failed, and no other
abbrev pub OneHasFailed : List Source → Type 0
OneHasFailed [] = ⊥
OneHasFailed (s ∷ sources) = HasFailed s.old s.new × AllHaveWorked sources ⊎ HasWorked s.old s.new × OneHasFailed sources

-- no input is read further than one byte past its limit
abbrev pub AreWithin : List Source → Type 0
AreWithin [] = Unit {0}
AreWithin (s ∷ sources) = TakesAtMost (s.limit + 1) s.old s.new × AreWithin sources

-- the inputs are not touched
abbrev pub AreUntouched : List Source → Type 0
AreUntouched [] = Unit {0}
AreUntouched (s ∷ sources) = (s.new ≡ s.old) × AreUntouched sources

-- if the verdict is that an input is bad, those after it are not touched
abbrev pub EndsAt : Verdict → List Source → Type 0
EndsAt v [] = Unit {0}
EndsAt v (s ∷ sources) = (v ≡ s.bad → AreUntouched sources) × EndsAt v sources
