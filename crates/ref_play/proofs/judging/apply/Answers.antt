use Rattle.std.proofs.Common.{rules}
use Rattle.ref_play.proofs.LegalLaws.{overlaps-from}
use Rattle.ref_play.proofs.Taking.{laid_has}
use Rattle.ref_play.proofs.judging.apply.Goals as goal

pub laid-requires : goal.laid-requires
laid-requires c = overlaps-from c.args.board.now c.args.play.now.tiles.items c.requires.on_empty

pub returns-clause-board : goal.returns-clause-board
returns-clause-board c = search rules

pub returns-clause-there : goal.returns-clause-there
returns-clause-there c = search (laid_has, rules)
