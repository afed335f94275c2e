use Rattle.std.proofs.Common.{ℕ, List, length, ap, arith}
use Rattle.lex_file.specs.FileWords.{words_in}
use Rattle.lex_file.proofs.Views.{none_above}
use Rattle.lex_file.proofs.files.LexFile.next_node.Goals as goal

pub returns-clause-none : goal.returns-clause-none
returns-clause-none c =
    let size = ap (λ (b : List ℕ). length (words_in b)) c.body.ensures in
    none_above c.args.self.now.bytes.now c.args.self.now.format c.args.number c.loop-place.place c.args.self.now.named
    (omega (arith, c.loop-place-test.false, c.word_count-place-end.ensures.count, size)) c.loop-place.invariant
