-- The repaired sheet of a case, by the choice among its repairs: which text it is, and when there is none.
use Rattle.std.specs.Prelude.{◌≡◌, ℕ, true, List, [], Option, Some, None, Result, Ok, Err}
use Rattle.gcg_read.specs.declared.faults.ReadFault.{ReadFault}
use Rattle.gcg_read.specs.declared.players.Players.{Players}
use Rattle.gcg_read.specs.declared.records.Record.{Record}
use Rattle.gcg_read.specs.Players.{no_players}
use Rattle.gcg_read.specs.Records.{record_of}
use Rattle.gcg_numbers.specs.Numbers.{text_with}
use Rattle.game_walk.specs.Numbers.{renumbered}
use Rattle.game_case.specs.declared.entries.Entry.{Entry}
use Rattle.game_case.specs.declared.explains.Case.{Case}
use Rattle.repair_rewrites.specs.Reading.{IsKept, IsNotKept, IsKeptBySeat, IsNotKeptBySeat, IsKeptWithout, IsNotKeptWithout}
use Rattle.repair_rewrites.specs.Sheets.{sheet_without}
use Rattle.repair_rewrites.specs.Texts.{repaired_text}
use Rattle.repair_answers.specs.declared.answers.Faulty.{Faulty}
use Rattle.repair_answers.specs.declared.bad_records.LineRepairs.{LineRepairs}
use Rattle.repair_answers.specs.declared.choices.Choice.{Choice}
use Rattle.repair_answers.specs.declared.choices.Choice.TheVariants as choice
use Rattle.repair_answers.specs.declared.numbers_alone.NumbersAlone.{NumbersAlone}
use Rattle.repair_answers.specs.Choices.{all_known, IsChoice}

-- the text with only its numbers corrected, which reads as the same events with these numbers
pub record IsRenumberedBy (text : List ℕ) (alone : NumbersAlone) (made : List ℕ) : Type 0 where
  pub read : Record
  pub is : record_of text ≡ Ok read
  pub kept : IsKeptBySeat (renumbered read.events alone.right.items) (text_with (renumbered read.events alone.right.items) text) made

-- it does not read so
pub record IsNotRenumberedBy (text : List ℕ) (alone : NumbersAlone) : Type 0 where
  pub none : (read : Record) → record_of text ≡ Ok read → IsNotKeptBySeat (renumbered read.events alone.right.items) (text_with (renumbered read.events alone.right.items) text)

abbrev pub IsRenumbered : (text : List ℕ) → Option NumbersAlone → (made : List ℕ) → Type 0
IsRenumbered text (Some alone) made = IsRenumberedBy text alone made
IsRenumbered text None made = ⊥

abbrev pub IsNotRenumbered : (text : List ℕ) → Option NumbersAlone → Type 0
IsNotRenumbered text (Some alone) = IsNotRenumberedBy text alone
IsNotRenumbered text None = Unit {0}

-- The text that a choice makes of a sheet: with this repair, without this slip of the whole sheet, or with only its numbers corrected. It is that text, and
-- it reads as the events with their right numbers.
abbrev pub IsTextBy : (text : List ℕ) → Players → Option NumbersAlone → Choice → (made : List ℕ) → Type 0
IsTextBy text players alone (choice.Clear repair) made = IsKept players repair.now.right (repaired_text repair.now.listed.change players repair.now.right text) made
IsTextBy text players alone (choice.Sheet s) made = IsKeptWithout s.now.slip players s.now.right (sheet_without s.now.slip players s.now.right text) made
IsTextBy text players alone choice.Numbers made = IsRenumbered text alone made
IsTextBy text players alone other made = ⊥

-- There is no such text: a player who has a line has no nickname, or it does not read so; or the choice makes none.
abbrev pub IsNoTextBy : (text : List ℕ) → Players → Option NumbersAlone → Choice → Type 0
IsNoTextBy text players alone (choice.Clear repair) = IsNotKept players repair.now.right (repaired_text repair.now.listed.change players repair.now.right text)
IsNoTextBy text players alone (choice.Sheet s) = IsNotKeptWithout s.now.slip players s.now.right (sheet_without s.now.slip players s.now.right text)
IsNoTextBy text players alone choice.Numbers = IsNotRenumbered text alone
IsNoTextBy text players alone other = Unit {0}

-- the text by the choice among the repairs of a record
pub record IsChosenText (text : List ℕ) (players : Players) (f : Faulty) (made : List ℕ) : Type 0 where
  pub chosen : Choice
  pub is_choice : IsChoice f.found.reported.items (all_known f.found.remaining.items f.found.from) f.pairs.reported.items f.sheets.items f.alone chosen
  pub by_choice : IsTextBy text players f.alone chosen made

pub record IsNoChosenText (text : List ℕ) (players : Players) (f : Faulty) : Type 0 where
  pub chosen : Choice
  pub is_choice : IsChoice f.found.reported.items (all_known f.found.remaining.items f.found.from) f.pairs.reported.items f.sheets.items f.alone chosen
  pub by_choice : IsNoTextBy text players f.alone chosen

-- the same for a text that is not a record, by the choice among the slips of its bad line
pub record IsLineText (text : List ℕ) (l : LineRepairs) (made : List ℕ) : Type 0 where
  pub chosen : Choice
  pub is_choice : IsChoice [] true [] l.found.items None chosen
  pub by_choice : IsTextBy text no_players None chosen made

pub record IsNoLineText (text : List ℕ) (l : LineRepairs) : Type 0 where
  pub chosen : Choice
  pub is_choice : IsChoice [] true [] l.found.items None chosen
  pub by_choice : IsNoTextBy text no_players None chosen

abbrev pub IsTextOfRead : (text : List ℕ) → Result Entry ReadFault → Faulty → (made : List ℕ) → Type 0
IsTextOfRead text (Ok entry) f made = IsChosenText text entry.record.players f made
IsTextOfRead text (Err fault) f made = ⊥

abbrev pub IsNoTextOfRead : (text : List ℕ) → Result Entry ReadFault → Faulty → Type 0
IsNoTextOfRead text (Ok entry) f = IsNoChosenText text entry.record.players f
IsNoTextOfRead text (Err fault) f = Unit {0}

-- the repaired sheet of a case
abbrev pub IsRepairedText : Case → Option Faulty → Option LineRepairs → (made : List ℕ) → Type 0
IsRepairedText case (Some f) l made = IsTextOfRead case.text.items case.read f made
IsRepairedText case None (Some l) made = IsLineText case.text.items l made
IsRepairedText case None None made = ⊥

-- there is none
abbrev pub IsNoRepairedText : Case → Option Faulty → Option LineRepairs → Type 0
IsNoRepairedText case (Some f) l = IsNoTextOfRead case.text.items case.read f
IsNoRepairedText case None (Some l) = IsNoLineText case.text.items l
IsNoRepairedText case None None = Unit {0}
