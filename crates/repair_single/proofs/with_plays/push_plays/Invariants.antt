use Rattle.std.proofs.Common.{◌≡◌, ◌++◌, map, take}
use Rattle.repair_slips.specs.Changes.{change_at}
use Rattle.repair_single.specs.Listing.{those_at}
use Rattle.repair_single.proofs.with_plays.push_plays.Given as goal

abbrev pub invariant-loop-play : goal.invariant-loop-play
invariant-loop-play l =
    record { so_far : map (change_at l.place) l.slips.items ≡ map (change_at l.place) l.fn.slips.items ++ those_at (take l.play-index l.plays) l.place }
