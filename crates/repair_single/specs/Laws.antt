-- Laws: where no change helps, which records are always tried, and that a record is a draft.
use Rattle.std.specs.Prelude.{◌≡◌, ◌⊎◌, ℕ, ◌+◌, ◌<◌, Bool, true, false, List, take, Contains, None}
use Rattle.ref_tiles.specs.declared.rulebook.Rules.{Rules}
use Rattle.gcg_read.specs.declared.events.Event.{Event}
use Rattle.game_turns.specs.declared.faults.RuleFault.{RuleFault}
use Rattle.game_corrections.specs.Corrections.{IsCorrection, StopsAt}
use Rattle.deal_cuts.specs.Cutting.{HasNoDeal}
use Rattle.game_deal.specs.Recorded.{steps_of}
use Rattle.game_deal.specs.Verdicts.{IsGame}
use Rattle.gcg_drafts.specs.declared.missing.Missing.{Missing}
use Rattle.draft_numbers.specs.Laws.{is_whole}
use Rattle.repair_changes.specs.declared.slips.Change.{Change}
use Rattle.repair_changes.specs.declared.slips.Slip.{Slip}
use Rattle.repair_changes.specs.declared.slips.Slip.TheVariants as slip
use Rattle.repair_changes.specs.Applied.{applied}
use Rattle.repair_slips.specs.Commonest.{DifferSlightly}
use Rattle.repair_single.specs.Costs.{rank_at, cost_of}
use Rattle.repair_single.specs.Remaining.{wrong_with}
use Rattle.repair_single.specs.Repairs.{IsListed, IsReportedAt, AreAhead, AreFirstRepairs}
use Rattle.repair_single.specs.Trying.{HaveNone, IsWritable}
use Rattle.repair_single.specs.Weighers.{written_with}
use Rattle.repair_single.specs.declared.listed.Listed.{Listed}
use Rattle.repair_single.specs.declared.repair.Repair.{Repair}

-- After the event at which the correction of a record stops no change helps: with it the record has no correction either.
abbrev pub NoneAfterStop : Type 0
NoneAfterStop =
    (rules : Rules) (list : List (List ℕ)) (written right : List Event) (line : ℕ) (why : RuleFault) (stops : StopsAt rules list written right line why) (change : Change)
    → stops.place < change.place → HaveNone rules list (applied change written)

-- If no racks fit the steps of a correction up to a place, that one included, a change helps only if it is at the next place at the
-- latest: there it may still say that the play at the place is taken back.
abbrev pub NoneAfterRacks : Type 0
NoneAfterRacks =
    (rules : Rules) (list : List (List ℕ)) (written right : List Event) (place : ℕ) → IsCorrection rules list written right → HasNoDeal rules (take (place + 1) (steps_of rules right))
    → (change : Change) → place + 1 < change.place → (other : List Event) → IsCorrection rules list (applied change written) other → IsGame rules list other → ⊥

-- a record is the sheet with one of the single changes that are tried
pub record IsTried (rules : Rules) (written : List Event) (plays : List Change) (other : List Event) : Type 0 where
  pub listed : Listed
  pub single : IsListed rules written plays listed
  pub makes : applied listed.change written ≡ other

-- Each record that differs from the sheet in one letter of one play, in one square's shift of one play, in one line that is left out or in two neighbouring
-- lines that are exchanged is tried.
abbrev pub CommonestAreTried : Type 0
CommonestAreTried = (rules : Rules) (written : List Event) (plays : List Change) (place : ℕ) (other : List Event) → DifferSlightly place written other → IsTried rules written plays other

-- a record that is tried is given, it is left open, or `most` others are ahead
pub record IsAnswered (rules : Rules) (list : List (List ℕ)) (written : List Event) (plays : List Change) (most : ℕ) (reported : List Repair) (remaining : List Listed) (other right : List Event) : Type 0 where
  pub tried : IsTried rules written plays other
  pub given : Contains remaining tried.listed ⊎ IsReportedAt reported right (rank_at (cost_of wrong_with rules list tried.listed.change written right) tried.listed)
      ⊎ AreAhead most reported (rank_at (cost_of wrong_with rules list tried.listed.change written right) tried.listed)

-- So if such a record is a game once its numbers are corrected, and the sheet is not, it is among the first repairs, unless its deal is left open or there
-- are enough others that cost less.
abbrev pub CommonestAreAnswered : Type 0
CommonestAreAnswered =
    (rules : Rules) (list : List (List ℕ)) (written : List Event) (plays : List Change) (most : ℕ) (reported : List Repair) (remaining : List Listed)
    → AreFirstRepairs rules list written plays None 0 most reported remaining → (place : ℕ) (other right : List Event) → DifferSlightly place written other
    → IsWritable rules list other right → IsGame rules list right → IsAnswered rules list written plays most reported remaining other right

-- whether a slip is that a line is missing, of which nothing is written
abbrev pub is_missing_line : Slip → Bool
is_missing_line (slip.Missing line) = true
is_missing_line other = false

-- A record is the draft in which nothing is missing: with any other change the same numbers stay wrong.
abbrev pub WholeIsRecord : Type 0
WholeIsRecord =
    (lacks : List Missing) (change : Change) (written right : List Event) → is_whole lacks ≡ true → is_missing_line change.slip ≡ false
    → written_with lacks change written right ≡ wrong_with change written right
