use Rattle.lex_build.proofs.Headers.{lexicon_file}
use Rattle.lex_build.proofs.building.write_lexicon.Goals as goal

pub returns-in-Ok-write_node : goal.returns-in-Ok-write_node
returns-in-Ok-write_node g c =
    lexicon_file (g.L.PathLex.language c.args.lexicon.now) c.args.words c.finish.result.items c.in-Ok.writer.bytes.items c.write_node.new.writer.bytes.items
    c.write_node.new.writer.nodes.entries (g.L.PathLex.tail c.args.lexicon.now c.root.result) c.in-Ok-write_node.root c.finish.ensures
    c.in-Ok-write_node.ensures.kept c.in-Ok-write_node.ensures.written c.in-Ok.ensures.empty c.root.ensures.tails c.ranges.words.fits
