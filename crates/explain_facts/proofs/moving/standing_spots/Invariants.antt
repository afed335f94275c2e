use Rattle.std.proofs.Common.{◌≡◌, take}
use Rattle.std.specs.Prelude.{filter}
use Rattle.explain_facts.specs.Moments.{moment_of}
use Rattle.explain_facts.specs.Elsewhere.{stands_at}
use Rattle.explain_facts.proofs.moving.standing_spots.Given as goal

abbrev pub invariant-loop-spot : goal.invariant-loop-spot
invariant-loop-spot l = l.standing.items ≡ filter (stands_at (moment_of l.scene) l.word) (take l.spot-index l.spots)
