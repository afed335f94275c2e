use Rattle.std.proofs.Common.{◌≡◌, ◌∙◌, sym, ap, subst, arith, false}
use Rattle.std.proofs.lemmas.Bool.{lt-leb}
use Rattle.lex_file.specs.declared.arcs.Arc.{Arc}
use Rattle.lex_file.specs.FileWords.{words_in}
use Rattle.lex_file.specs.Arcs.{arc_of, is_sought, reaches}
use Rattle.lex_file.proofs.Runs.{goes_on, ends_here, remaining_more}
use Rattle.lex_file.proofs.reading.find_arc.Goals as goal

pub returns-then-last-clause-rest : goal.returns-then-last-clause-rest
returns-then-last-clause-rest c = λ above passes less.
    let is = c.of_word-arc.ensures ∙ ap arc_of c.word_at-word.ensures in
    c.loop-place.invariant (reaches above) (λ arc passed. lt-leb above arc.label (passes arc passed))
    ∙ ends_here (words_in c.args.arcs.now) c.loop-place.place (reaches above) (omega arith)
    (subst (λ (a : Arc). reaches above a ≡ false) is (lt-leb above c.of_word-arc.result.label less)) (let w = c.word_at-word.ensures in cc)

pub returns-else-last-clause-rest : goal.returns-else-last-clause-rest
returns-else-last-clause-rest c = λ above passes less.
    let is = c.of_word-arc.ensures ∙ ap arc_of c.word_at-word.ensures in
    c.loop-place.invariant (reaches above) (λ arc passed. lt-leb above arc.label (passes arc passed))
    ∙ remaining_more (words_in c.args.arcs.now) c.loop-place.place (reaches above) (omega arith)
    (subst (λ (a : Arc). reaches above a ≡ false) is (lt-leb above c.of_word-arc.result.label less)) (let w = c.word_at-word.ensures in cc)

pub returns-then-last-2-clause-none : goal.returns-then-last-2-clause-none
returns-then-last-2-clause-none c =
    let is = c.of_word-arc.ensures ∙ ap arc_of c.word_at-word.ensures in
    c.loop-place.invariant (is_sought c.args.sought) (λ arc passed. passed)
    ∙ ends_here (words_in c.args.arcs.now) c.loop-place.place (is_sought c.args.sought) (omega arith)
    (subst (λ (a : Arc). is_sought c.args.sought a ≡ false) is (sym c.is_met_by.ensures ∙ c.if-is_met_by.false)) (let w = c.word_at-word.ensures in cc)

pub loop-place-preserved : goal.loop-place-preserved
loop-place-preserved c = λ wanted passes.
    let is = c.of_word-arc.ensures ∙ ap arc_of c.word_at-word.ensures in
    c.loop-place.invariant wanted passes
    ∙ goes_on (words_in c.args.arcs.now) c.loop-place.place wanted (omega arith)
    (subst (λ (a : Arc). wanted a ≡ false) is (passes c.of_word-arc.result (sym c.is_met_by.ensures ∙ c.if-is_met_by.false))) (let w = c.word_at-word.ensures in cc)
