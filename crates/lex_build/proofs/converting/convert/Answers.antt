use Rattle.lex_file.specs.FileWords.{body_of}
use Rattle.lex_file.specs.Files.{bytes_of}
use Rattle.lex_build.proofs.Renaming.{started}
use Rattle.lex_build.proofs.converting.convert.Goals as goal

pub add_nodes-requires-clause-start : goal.add_nodes-requires-clause-start
add_nodes-requires-clause-start c =
    started c.in-Ok.conversion.format (bytes_of c.args.file.now) (body_of c.in-Ok.conversion.bytes.items) c.in-Ok.conversion.numbers.items c.in-Ok.ensures.empty c.in-Ok.ensures.numbers
