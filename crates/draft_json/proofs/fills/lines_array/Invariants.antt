use Rattle.std.proofs.Common.{◌≡◌, map}
use Rattle.std.specs.List.{filter_map, range_with_len}
use Rattle.json_trees.specs.Trees.{view}
use Rattle.draft_json.specs.Fills.{line_at}
use Rattle.draft_json.proofs.fills.lines_array.Given as goal

abbrev pub invariant-loop-place : goal.invariant-loop-place
invariant-loop-place l = map view l.trees.items ≡ filter_map (line_at l.stop l.events l.lacks) (range_with_len 0 l.place)
