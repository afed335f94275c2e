-- How many differences two sheets have.
use Rattle.std.specs.Prelude.{◌≡◌, ℕ, ◌+◌, ◌-◌, List, length}
use Rattle.compare_alignments.specs.declared.pairs.Pair.{Pair}
use Rattle.compare_alignments.specs.Merging.{items_of, rack_items, count_choices}
use Rattle.compare_answers.specs.declared.counts.ItemCounts.{ItemCounts}

-- how many pairs of lines differ, how many state different racks of one player, how many of both are past the twelfth, and how many choices there are
pub record AreCounts (pairs : List Pair) (c : ItemCounts) : Type 0 where
  pub items : c.items ≡ length (items_of pairs)
  pub racks : c.racks ≡ length (rack_items pairs)
  pub not_varied : c.not_varied ≡ length (items_of pairs) + length (rack_items pairs) - 12
  pub choices : c.choices ≡ count_choices pairs
