-- What an audit says about a sheet: its correction, as far as it goes, and the numbers that are wrong.
use Rattle.std.specs.Prelude.{◌≡◌, ◌⊎◌, ℕ, List, Some, None}
use Rattle.ref_tiles.specs.declared.rulebook.Rules.{Rules}
use Rattle.gcg_read.specs.declared.events.Event.{Event}
use Rattle.game_turns.specs.declared.faults.RuleFault.{RuleFault}
use Rattle.game_corrections.specs.declared.wrong_numbers.WrongNumber.{WrongNumber}
use Rattle.game_corrections.specs.Corrections.{IsCorrection, HavePoints, StopsAt}
use Rattle.game_corrections.specs.WrongNumbers.{wrong_lines, all_wrong}

-- the sheet has a correction: its wrong scores, sums and last totals
pub record IsCorrected (rules : Rules) (list : List (List ℕ)) (written right : List Event) (wrong : List WrongNumber) : Type 0 where
  pub correction : IsCorrection rules list written right
  pub all : wrong ≡ all_wrong (wrong_lines None written right) written right

-- No numbers that a record can write correct the sheet: the wrong scores as far as the rules allow the events, and the wrong sums. From the line
-- on at which the correction stops a sum is compared with the line before it alone.
pub record HasNoCorrection (rules : Rules) (list : List (List ℕ)) (written right : List Event) (wrong : List WrongNumber) : Type 0 where
  pub line : ℕ
  pub why : RuleFault
  pub stops : StopsAt rules list written right line why
  pub none : (other : List Event) → HavePoints other → IsCorrection rules list written other → ⊥
  pub all : wrong ≡ wrong_lines (Some line) written right

-- the events after an audit, and the numbers that are wrong
abbrev pub IsAudited : Rules → (list : List (List ℕ)) → (written right : List Event) → List WrongNumber → Type 0
IsAudited rules list written right wrong = IsCorrected rules list written right wrong ⊎ HasNoCorrection rules list written right wrong
