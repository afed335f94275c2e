use Rattle.lex_build.proofs.Placing.{placed_before}
use Rattle.lex_build.proofs.writing.Writer.place_node.Goals as goal

pub returns-in-Some-clause-placed : goal.returns-in-Some-clause-placed
returns-in-Some-clause-placed c =
    placed_before c.args.self.now.bytes.items c.args.self.now.nodes.entries c.args.arcs.items c.in-Some.number c.number_of.result c.requires.kept
    c.number_of.ensures c.in-Some.is
