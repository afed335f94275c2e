use Rattle.lex_check.proofs.Stretches.{part_from}
use Rattle.lex_check.proofs.sorted.part_from.Goals as goal

pub returns-clause-part : goal.returns-clause-part
returns-clause-part c =
    part_from c.args.paths.now c.args.stretch c.args.from c.label_at-label.result c.first_from-low.result c.first_from-high.result c.requires
    c.first_from-low.ensures c.if-low-stretch.false c.label_at-label.ensures c.first_from-high.ensures
