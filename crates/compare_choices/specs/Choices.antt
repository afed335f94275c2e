-- The game that a choice of the lines of two sheets makes, and its cost.
use Rattle.std.specs.Prelude.{ℕ, ◌+◌, ◌-◌, ◌*◌, List, length, map, Option, Some, None}
use Rattle.ref_tiles.specs.declared.rulebook.Rules.{Rules}
use Rattle.gcg_read.specs.declared.events.Event.{Event}
use Rattle.game_corrections.specs.Corrections.{IsCorrection, HavePoints}
use Rattle.game_corrections.specs.WrongNumbers.{wrong_lines}
use Rattle.game_walk.specs.Numbers.{numbers_in}
use Rattle.draft_numbers.specs.Numbers.{wrong_written}
use Rattle.game_case.specs.Archiving.{unlisted_plays}
use Rattle.game_deal.specs.Verdicts.{IsGame}
use Rattle.compare_alignments.specs.declared.lacking.Lacks.{Lacks}
use Rattle.compare_alignments.specs.declared.pairs.Side.{Side}
use Rattle.compare_alignments.specs.declared.pairs.Side.TheVariants.{First, Second}
use Rattle.compare_alignments.specs.declared.merging.NumbersOf.{NumbersOf}
use Rattle.compare_alignments.specs.declared.merging.NumbersOf.TheVariants.{Taken, Sheet}
use Rattle.compare_alignments.specs.Merging.{merged, count_other_racks}
use Rattle.compare_choices.specs.declared.sheets.Sheets.{Sheets}
use Rattle.compare_choices.specs.Lacking.{choice_lacks}

-- the events of a choice
unfoldable pub choice_events : Sheets → NumbersOf → (choice : ℕ) → List Event
choice_events s whose choice = merged s.owner whose choice s.first.events s.second.events s.pairs.items

-- the right numbers of some events, which a record can write
pub record IsRight (rules : Rules) (list : List (List ℕ)) (written right : List Event) : Type 0 where
  pub correction : IsCorrection rules list written right
  pub points : HavePoints right

-- A choice makes a game of these events: they are its own with the numbers that the rules give, and some deal yields every rack.
pub record MakesGame (rules : Rules) (list : List (List ℕ)) (s : Sheets) (choice : ℕ) (right : List Event) : Type 0 where
  pub is : IsRight rules list (choice_events s Taken choice) right
  pub game : IsGame rules list right

-- How many numbers of a sheet are wrong with a choice: scores that are not those of the rules, and totals that are neither the player's last one and
-- the score nor those of the rules. If the sheets are drafts, those count that are written.
abbrev pub wrong_by : Option Lacks → Sheets → (which : Side) → (choice : ℕ) → (right : List Event) → ℕ
wrong_by None s which choice right = length (wrong_lines None (choice_events s (Sheet which) choice) right)
wrong_by (Some l) s which choice right = length (wrong_written (choice_lacks s l which choice) (choice_events s (Sheet which) choice) (map numbers_in right))

abbrev pub wrong_on : Sheets → (which : Side) → (choice : ℕ) → (right : List Event) → ℕ
wrong_on s which choice right = wrong_by s.lacks s which choice right

abbrev pub wrong_on_both : Sheets → (choice : ℕ) → (right : List Event) → ℕ
wrong_on_both s choice right = wrong_on s First choice right + wrong_on s Second choice right

-- what it costs: 5 for each wrong number, 3 for each play that stands with a word that is not in the list, 1 for each line that is left out, and 1 for
-- each rack that is not of the player's own sheet
abbrev pub costs : (wrong unlisted omitted racks : ℕ) → ℕ
costs wrong unlisted omitted racks = 5 * wrong + 3 * unlisted + omitted + racks

-- What a choice costs. The less it costs, the likelier it is.
unfoldable pub cost_of : Rules → (list : List (List ℕ)) → Sheets → (choice : ℕ) → (right : List Event) → ℕ
cost_of rules list s choice right =
    costs (wrong_on_both s choice right) (unlisted_plays rules list right) (length s.pairs.items - length right) (count_other_racks choice s.pairs.items)
