use Rattle.lex_check.proofs.Firsts.{some_label}
use Rattle.lex_check.proofs.least.first_branch.Goals as goal

pub unreachable-requires : goal.unreachable-requires
unreachable-requires g c =
    some_label (g.L.PathLex.tail c.args.lexicon.now c.args.node) (g.met.L.PathLex.nonempty c.args.lexicon.now c.args.node c.requires.node)
    c.in-None.ensures.none c.requires.some
