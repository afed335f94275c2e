use Rattle.std.proofs.Common.{◌≡◌, map}
use Rattle.std.specs.List.{range_with_len}
use Rattle.json_trees.specs.Trees.{view}
use Rattle.game_json.specs.Events.{event_at}
use Rattle.game_json.proofs.events.events_array.Given as goal

abbrev pub invariant-loop-place : goal.invariant-loop-place
invariant-loop-place l = map view l.trees.items ≡ map (event_at l.players l.events l.answers) (range_with_len 0 l.place)
