use Rattle.std.proofs.Common.{◌≡◌, take}
use Rattle.ref_play.proofs.texts.shortened.Given as goal

abbrev pub invariant-loop-placed : goal.invariant-loop-placed
invariant-loop-placed l = l.short.items ≡ take l.placed-index l.tiles
