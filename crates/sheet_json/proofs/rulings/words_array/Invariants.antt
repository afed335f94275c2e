use Rattle.std.proofs.Common.{◌≡◌, map}
use Rattle.std.specs.List.{filter_map, range_with_len}
use Rattle.json_trees.specs.Trees.{view}
use Rattle.sheet_json.specs.Rulings.{word_at}
use Rattle.sheet_json.proofs.rulings.words_array.Given as goal

abbrev pub invariant-loop-place : goal.invariant-loop-place
invariant-loop-place l = map view l.trees.items ≡ filter_map (word_at l.words l.each) (range_with_len 0 l.place)
