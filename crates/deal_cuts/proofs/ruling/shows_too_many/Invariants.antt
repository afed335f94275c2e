use Rattle.std.proofs.Common.{◌≤◌, drop}
use Rattle.deal_cuts.specs.Flowing.{IsShown, IsCut}
use Rattle.deal_cuts.proofs.Walking.{IsReached}
use Rattle.deal_cuts.proofs.ruling.shows_too_many.Given as goal

abbrev pub invariant-loop-place : goal.invariant-loop-place
invariant-loop-place l =
    IsReached l.fn.cut.kinds l.fn.rules l.inside l.fn.steps l.fn.cut.places.items l.place
    × (IsCut l.fn.rules l.fn.steps l.fn.cut.kinds l.fn.cut.places.items → IsShown l.fn.cut.kinds l.fn.rules l.inside (drop l.place l.fn.steps) (drop l.place l.fn.cut.places.items))
    × (l.inside ≤ 4294967296)
