use Rattle.std.proofs.Common.{◌+◌, arith}
use Rattle.lex_build.proofs.Placing.{placed_new, kept_new}
use Rattle.lex_build.proofs.writing.Writer.add_node.Goals as goal

pub returns-clause-kept : goal.returns-clause-kept
returns-clause-kept c =
    kept_new c.args.self.now.bytes.items c.push_arcs.new.bytes.items c.args.self.now.nodes.entries c.insert.new.self.entries c.args.arcs c.as_slice.result.now
    (c.arc_count-before.result + 1) c.requires.kept c.requires.arcs c.requires.some (omega arith) c.as_slice.ensures c.in-Ok.ensures (omega arith) c.requires.new
    c.in-Ok-insert.ensures.entries

pub returns-clause-placed : goal.returns-clause-placed
returns-clause-placed c =
    placed_new c.args.self.now.bytes.items c.push_arcs.new.bytes.items c.args.self.now.nodes.entries c.args.arcs.items c.as_slice.result.now
    (c.arc_count-before.result + 1) c.requires.kept c.requires.arcs c.requires.some c.as_slice.ensures c.in-Ok.ensures (omega arith)
