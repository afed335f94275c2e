-- How likely a repair is: the less it costs, the likelier.
use Rattle.std.specs.Prelude.{ℕ, ◌+◌, ◌==◌, ◌&&◌, ◌||◌, nat_lt, Bool, List, length}
use Rattle.ref_tiles.specs.declared.rulebook.Rules.{Rules}
use Rattle.gcg_read.specs.declared.events.Event.{Event}
use Rattle.repair_changes.specs.declared.slips.Change.{Change}
use Rattle.repair_changes.specs.declared.slips.Slip.{Slip}
use Rattle.repair_changes.specs.Weights.{remaining_cost, weight_of}
use Rattle.repair_single.specs.Remaining.{Weighing, unlisted_words}
use Rattle.repair_single.specs.declared.listed.Listed.{Listed}
use Rattle.repair_single.specs.declared.repair.Repair.{Repair}

-- What stays wrong costs 5 for each number and 3 for each word, and the slip what it weighs.
abbrev pub costs : (wrong unlisted : ℕ) → Slip → ℕ
costs wrong unlisted what = remaining_cost wrong unlisted + weight_of what

unfoldable pub cost_of : (weigh : Weighing) → Rules → (list : List (List ℕ)) → Change → (written right : List Event) → ℕ
cost_of weigh rules list change written right = costs (length (weigh change written right)) (length (unlisted_words rules list right)) change.slip

-- What a repair costs, and the position of its change in the list of all: a place of the record, and a number among those of the place.
pub record Rank : Type 0 where
  pub cost : ℕ
  pub place : ℕ
  pub index : ℕ

abbrev pub rank_at : (cost : ℕ) → Listed → Rank
rank_at cost listed = record { cost = cost; place = listed.change.place; index = listed.index }

abbrev pub rank_of : Repair → Rank
rank_of r = rank_at (costs (length r.remains.wrong.items) (length r.remains.unlisted.items) r.listed.change.slip) r.listed

-- whether a change is before another one in the list
abbrev pub is_earlier : Rank → Rank → Bool
is_earlier a b = nat_lt a.place b.place || a.place == b.place && nat_lt a.index b.index

-- The order of repairs: by what they cost, and those of equal cost by the list of changes.
abbrev pub is_ahead : Rank → Rank → Bool
is_ahead a b = nat_lt a.cost b.cost || a.cost == b.cost && is_earlier a b
