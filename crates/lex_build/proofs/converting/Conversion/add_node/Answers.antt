use Rattle.std.proofs.Common.{ℕ, ◌+◌, ◌∙◌, arith, subst}
use Rattle.lex_file.specs.FileWords.{body_of}
use Rattle.lex_file.specs.Files.{bytes_of, number_of}
use Rattle.lex_build.specs.Conversions.{IsNumbered}
use Rattle.lex_build.proofs.Converted.{storable, stored_next, unstorable}
use Rattle.lex_build.proofs.converting.Conversion.add_node.Goals as goal

pub returns-then-words_for-most_words-clause-fault : goal.returns-then-words_for-most_words-clause-fault
returns-then-words_for-most_words-clause-fault c =
    unstorable c.args.self.now.format (bytes_of c.args.file.now) (body_of c.args.self.now.bytes.items) c.args.self.now.numbers.items (number_of c.args.node)
    c.len.result c.new_arcs-arcs.result.items c.args.file.now.shape c.requires.next c.new_arcs-arcs.ensures c.len.ensures.value
    (omega (arith, c.words_for.ensures, c.most_words.ensures, c.word_count-before.ensures, c.if-words_for-most_words.true))

pub store_node-requires-clause-arcs : goal.store_node-requires-clause-arcs
store_node-requires-clause-arcs c =
    storable c.args.self.now.format (bytes_of c.args.file.now) (body_of c.args.self.now.bytes.items) c.args.self.now.numbers.items (number_of c.args.node)
    c.as_slice.result.now c.args.file.now.shape c.requires.next (c.as_slice.ensures.value ∙ c.new_arcs-arcs.ensures)

pub returns-clause-converted : goal.returns-clause-converted
returns-clause-converted c =
    stored_next c.args.self.now.format (bytes_of c.args.file.now) (body_of c.args.self.now.bytes.items) (body_of c.store_node.new.bytes.items) c.args.self.now.numbers.items
    c.put_number.new.numbers.items (number_of c.args.node) (c.word_count-before.result + 1) c.as_slice.result.now c.args.file.now.shape c.requires.next
    (c.as_slice.ensures.value ∙ c.new_arcs-arcs.ensures) c.in-Ok.ensures.next (omega (arith, c.word_count-before.ensures))
    (subst (λ (place : ℕ). IsNumbered c.args.self.now.numbers.items c.put_number.new.numbers.items place (c.word_count-before.result + 1)) c.place-place.ensures c.in-Ok-put_number.ensures)
