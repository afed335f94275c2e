use Rattle.std.proofs.Common.{rules, w32, to_z-of_z}
use Rattle.std.proofs.lemmas.Int.{ints}
use Rattle.game_notes.proofs.LatestLaws.{same_best}
use Rattle.game_notes.proofs.latest.copy_best.Goals as goal

pub returns-in-Some : goal.returns-in-Some
returns-in-Some c = same_best c.args.best.now c.in-Some.play c.copy.result c.in-Some.score _ c.in-Some.is c.copy.ensures (to_z-of_z {w = w32} (search (rules, ints)))
