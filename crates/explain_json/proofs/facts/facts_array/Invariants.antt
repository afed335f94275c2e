use Rattle.std.proofs.Common.{◌≡◌, map, take}
use Rattle.json_trees.specs.Trees.{view}
use Rattle.explain_json.specs.Facts.{fact_object}
use Rattle.explain_json.proofs.facts.facts_array.Given as goal

abbrev pub invariant-loop-fact : goal.invariant-loop-fact
invariant-loop-fact l = map view l.trees.items ≡ map fact_object (take l.fact-index l.facts)
