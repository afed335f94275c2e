-- What is found of two texts.
use Rattle.std.proofs.Common.{◌≡◌, ℕ, Bool, false, List, [], Option, Ok, sym}
use Rattle.ref_tiles.specs.declared.rulebook.Rules.{Rules}
use Rattle.gcg_read.specs.declared.records.Record.{Record}
use Rattle.gcg_read.specs.Records.{record_of}
use Rattle.gcg_about.specs.Encodings.{encoding_of}
use Rattle.gcg_drafts.specs.declared.drafts.Draft.{Draft}
use Rattle.gcg_drafts.specs.Drafts.{IsDraft}
use Rattle.compare_alignments.specs.declared.lacking.Lacks.{Lacks}
use Rattle.compare_answers.specs.Answers.{IsComparisonAnswer}
use Rattle.reply_answers.specs.declared.compared.BadSheet.{BadSheet}
use Rattle.reply_answers.specs.declared.compared.BothCompared.{BothCompared}
use Rattle.reply_answers.specs.declared.compared.SheetsFound.TheVariants as sheets
use Rattle.reply_answers.specs.declared.compared.ReadSheet.{ReadSheet}
use Rattle.reply_answers.specs.Compared.{HasEvents, HasNoEvent, IsDraftRead, IsDraftOfNothing, IsRead, IsBad, AreLacks, IsComparedOf}

pub has_events : (text : List ℕ) (r : Record) → Ok r ≡ record_of text → (r.events ≡ [] → ⊥) → HasEvents text r
has_events text r is some = record { means = sym is; events = some }

pub has_no_event : (text : List ℕ) (r : Record) → Ok r ≡ record_of text → r.events ≡ [] → HasNoEvent text
has_no_event text r is none = record { written = r; means = sym is; none = none }

pub draft_read : (text : List ℕ) (d : Draft) (r : ReadSheet) → IsDraft text d → (d.record.events ≡ [] → ⊥) → r.game ≡ d.record → r.lacks.items ≡ d.missing.items
    → IsDraftRead text r.game r.lacks.items
draft_read text d r is some game lacking = record { draft = d; is = is; events = some; game = game; lacking = lacking }

pub draft_without_event : (text : List ℕ) (d : Draft) → IsDraft text d → d.record.events ≡ [] → IsDraftOfNothing text
draft_without_event text d is none = record { draft = d; is = is; none = none }

pub record_read : (text : List ℕ) (r : ReadSheet) → HasEvents text r.game → r.lacks.items ≡ [] → IsRead false text r.game r.lacks.items
record_read text r has none = (has, none)

pub both_found : (draft : Bool) (rules : Rules) (list : List (List ℕ)) (first second : List ℕ) (merged : Bool) (one other : ReadSheet) (lacks : Option Lacks) (both : BothCompared)
    → IsRead draft first one.game one.lacks.items → IsRead draft second other.game other.lacks.items → AreLacks one.lacks.items other.lacks.items lacks → IsComparisonAnswer rules list one.game other.game lacks both.answer
    → both.encoding ≡ encoding_of first → both.merged ≡ merged → IsComparedOf draft rules list first second merged (sheets.Both both)
both_found draft rules list first second merged one other lacks both has also are answer encoding asked = (
  record { one = one.game; other = other.game; of_one = one.lacks.items; of_other = other.lacks.items; is_one = has; is_other = also; lacks = lacks; are = are; answer = answer },
  encoding,
  asked,
)

pub second_bad : (draft : Bool) (rules : Rules) (list : List (List ℕ)) (first second : List ℕ) (merged : Bool) (one : ReadSheet) (why : BadSheet) → IsRead draft first one.game one.lacks.items → IsBad draft second why
    → IsComparedOf draft rules list first second merged (sheets.SecondBad why)
second_bad draft rules list first second merged one why has bad = (one.game, one.lacks.items, has, bad)
