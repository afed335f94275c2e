-- Whether two sheets agree.
use Rattle.std.specs.Prelude.{⊤, ◌≡◌, ℕ, ◌-◌, List, length, All, Option, Some, None}
use Rattle.compare_alignments.specs.declared.pairs.Pair.{Pair}
use Rattle.compare_alignments.specs.Merging.{items_of, count_other_racks}
use Rattle.compare_choices.specs.declared.sheets.Sheets.{Sheets}
use Rattle.compare_choices.specs.declared.best.Best.{Best}
use Rattle.compare_choices.specs.Choices.{wrong_on_both, costs}
use Rattle.compare_choices.specs.Results.{HaveOtherRacks}
use Rattle.compare_answers.specs.declared.agreements.Agreement.{Agreement}
use Rattle.compare_answers.specs.declared.agreements.Agreement.TheVariants.{Agree, Differ, Unsettled}

-- the lines of a pair do not state different racks
abbrev pub NoOtherRacks : Sheets → Pair → Type 0
NoOtherRacks s p = HaveOtherRacks s p → ⊥

-- what a choice costs is what is wrong with it
abbrev pub HasItsCost : Sheets → Best → Type 0
HasItsCost s b = b.cost ≡ costs (wrong_on_both s b.choice b.right) b.unlisted (length s.pairs.items - length b.right) (count_other_racks b.choice s.pairs.items)

abbrev pub BestHasItsCost : Sheets → Option Best → Type 0
BestHasItsCost s None = ⊤
BestHasItsCost s (Some b) = HasItsCost s b

-- with a choice no number of either sheet is wrong, no line is left out, and each rack is of the player's own sheet
pub record NothingWrong (s : Sheets) (b : Best) : Type 0 where
  pub numbers : wrong_on_both s b.choice b.right ≡ 0
  pub lines : length s.pairs.items - length b.right ≡ 0
  pub racks : count_other_racks b.choice s.pairs.items ≡ 0

-- two sheets differ in no line and in no rack, and nothing is wrong on either
pub record SheetsAgree (s : Sheets) (b : Best) : Type 0 where
  pub lines : length (items_of s.pairs.items) ≡ 0
  pub racks : All (NoOtherRacks s) s.pairs.items
  pub right : NothingWrong s b

-- Two sheets agree if their best choice says so. If no choice is known to make a game, they differ, unless one is left open.
abbrev pub IsAgreement : Sheets → Option Best → (remaining : List ℕ) → Agreement → Type 0
IsAgreement s (Some b) remaining Agree = SheetsAgree s b
IsAgreement s (Some b) remaining Differ = SheetsAgree s b → ⊥
IsAgreement s (Some b) remaining Unsettled = ⊥
IsAgreement s None remaining Agree = ⊥
IsAgreement s None remaining Differ = length remaining ≡ 0
IsAgreement s None remaining Unsettled = length remaining ≡ 0 → ⊥
