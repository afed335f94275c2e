use Rattle.std.proofs.Common.{refl, ◌∙◌}
use Rattle.lex_file.specs.FileWords.{body_of}
use Rattle.lex_file.specs.Files.{bytes_of}
use Rattle.lex_build.proofs.Converted.{root_number, converted}
use Rattle.lex_build.proofs.converting.Conversion.finish.Goals as goal

pub returns : goal.returns
returns c =
    converted c.args.self.format (bytes_of c.args.file.now) (body_of c.args.self.bytes.items) c.args.self.numbers.items c.args.file.now.shape c.requires.converted
    c.args.self.bytes.items c.with_header.result.items c.word_count-count.result c.index-root.result.now c.word_count.result c.requires.whole refl
    c.word_count-count.ensures
    (root_number c.args.self.format (bytes_of c.args.file.now) (body_of c.args.self.bytes.items) c.args.self.numbers.items c.args.file.now.shape c.requires.converted
    c.place.result c.index-root.result.now (c.place.ensures ∙ c.root.ensures.number) c.index-root.ensures)
    c.word_count.ensures c.word_count.type_inv c.with_header.ensures
