use Rattle.std.proofs.Common.{ℕ, List, length, ap, ◌∙◌, arith}
use Rattle.lex_file.specs.declared.formats.Format.TheVariants as form
use Rattle.lex_file.specs.FileWords.{words_in}
use Rattle.lex_file.proofs.Views.{arcs_are, few_words, few_labels}
use Rattle.lex_file.proofs.files.LexFile.arc_count.Goals as goal

pub overflow_cast-result-in-Gad2 : goal.overflow_cast-result-in-Gad2
overflow_cast-result-in-Gad2 c =
    let size = ap (λ (b : List ℕ). length (words_in b)) c.body-in-Gad2.ensures in
    let words = few_words c.args.self.now.bytes.now c.args.self.now.shape in
    let few = few_labels (words_in c.body-in-Gad2.result.now) (omega (arith, size, words)) in
    omega (arith, c.count_labels.ensures, few)

pub returns-in-Gad1 : goal.returns-in-Gad1
returns-in-Gad1 c = c.word_count.ensures.count ∙ arcs_are c.args.self.now form.Gad1 c.body.result.now c.in-Gad1.is c.body.ensures

pub returns-in-Gad2 : goal.returns-in-Gad2
returns-in-Gad2 c = c.count_labels.ensures ∙ arcs_are c.args.self.now form.Gad2 c.body-in-Gad2.result.now c.in-Gad2.is c.body-in-Gad2.ensures
