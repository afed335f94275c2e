use Rattle.lex_file.proofs.Trials.{none_remaining}
use Rattle.lex_file.proofs.lexicons.PathLex.branch_from.Goals as goal

pub returns-clause-none : goal.returns-clause-none
returns-clause-none g c =
    none_remaining (g.Self.PathLex.tail c.args.self.now c.args.node) c.args.from c.loop-label.label c.loop-label-test.false
    (λ string held. g.met.Self.PathLex.labels c.args.self.now c.args.node string c.requires held) c.loop-label.invariant
