use Rattle.std.proofs.Common.{◌≡◌, take}
use Rattle.std.specs.Prelude.{filter}
use Rattle.explain_facts.specs.Elsewhere.{is_listed_at}
use Rattle.explain_facts.proofs.scores.listed_spots.Given as goal

abbrev pub invariant-loop-spot : goal.invariant-loop-spot
invariant-loop-spot l = l.listed.items ≡ filter (is_listed_at l.board l.list l.word) (take l.spot-index l.spots)
