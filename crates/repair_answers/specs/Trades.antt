-- Which repairs are listed of a record that was perhaps played with another word list.
use Rattle.std.specs.Prelude.{◌≡◌, ℕ, ◌<◌, ◌^◌, ◌&&◌, not, nat_lt, Bool, true, false, List, length, filter, Option, Some, None}
use Rattle.ref_tiles.specs.declared.rulebook.Rules.{Rules}
use Rattle.gcg_read.specs.declared.events.Event.{Event}
use Rattle.repair_changes.specs.declared.slips.Change.{Change}
use Rattle.repair_changes.specs.declared.slips.Slip.{Slip}
use Rattle.repair_changes.specs.declared.slips.Slip.TheVariants as slip
use Rattle.repair_changes.specs.declared.slips.SpellingSlip.TheVariants as spelling
use Rattle.repair_single.specs.Remaining.{Weighing, wrong_with}
use Rattle.repair_single.specs.Repairs.{AreFirstBy}
use Rattle.repair_single.specs.declared.listed.Listed.{Listed}
use Rattle.repair_single.specs.declared.repair.Repair.{Repair}
use Rattle.repair_answers.specs.declared.numbers_alone.NumbersAlone.{NumbersAlone}

-- two letters of a word are in each other's place
abbrev pub is_trade : Slip → Bool
is_trade (slip.Spelling (spelling.Twisted place)) = true
is_trade other = false

-- a repair leaves as many numbers wrong as there are if only the numbers are
abbrev pub rights_none : NumbersAlone → Repair → Bool
rights_none alone repair = not (nat_lt (length repair.remains.wrong.items) (length alone.remains.wrong.items))

-- More than three words are not in the list if only the numbers are wrong, and all that a repair does is to avoid one by letters that trade places.
abbrev pub avoids_word : NumbersAlone → Repair → Bool
avoids_word alone repair = nat_lt 3 (length alone.remains.unlisted.items) && is_trade repair.listed.change.slip && rights_none alone repair

-- such a repair is not listed
abbrev pub is_reported : Option NumbersAlone → Repair → Bool
is_reported None repair = true
is_reported (Some alone) repair = not (avoids_word alone repair)

-- The first repairs of a sheet, no more than memory holds, but for those.
pub record AreReportedBy (weigh : Weighing) (rules : Rules) (list : List (List ℕ)) (written : List Event) (alone : Option NumbersAlone) (plays : List Change) (below : Option ℕ) (from most : ℕ) (reported : List Repair) (remaining : List Listed) : Type 0 where
  pub found : List Repair
  pub first : AreFirstBy weigh rules list written plays below from most found remaining
  pub few : length found < 2 ^ 63
  pub kept : reported ≡ filter (is_reported alone) found

-- those of a record, of which all numbers count
abbrev pub AreReported : Rules → (list : List (List ℕ)) → (written : List Event) → (alone : Option NumbersAlone) → (plays : List Change) → (below : Option ℕ) → (from most : ℕ) → (reported : List Repair) → (remaining : List Listed) → Type 0
AreReported rules list written alone plays below from most reported remaining = AreReportedBy wrong_with rules list written alone plays below from most reported remaining
