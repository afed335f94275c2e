use Rattle.std.proofs.Common.{ℕ, ap, sym, ◌∙◌}
use Rattle.std.proofs.lemmas.Result.{err_from_is_err_and}
use Rattle.lex_file.specs.FileWords.{words_in}
use Rattle.lex_file.specs.Masks.{has_bit}
use Rattle.lex_file.proofs.MaskChecks.{labels_passed, label_here}
use Rattle.lex_file.proofs.mask_checks.check_labels.Goals as goal

pub returns-in_err-check_label : goal.returns-in_err-check_label
returns-in_err-check_label c =
    let words = words_in c.args.body.now in
    let label = c.in-Some.label in
    let p = err_from_is_err_and c.from_residual.result c.from_residual.ensures.1 in
    let here = λ (l : ℕ). ap (λ (w : ℕ). has_bit w l) (sym c.word_at-labels.ensures) in
    let before = labels_passed words c.args.place c.loop-label.from label c.loop-label.invariant.passed c.in-Some.ensures.reached
    (λ l low lt. here l ∙ c.in-Some.ensures.passed l low lt) in
    rw (p.1, p.2)
    (label_here words c.args.place label c.in_err-check_label.field-0.0 c.in-Some.ensures.limit before (here label ∙ c.in-Some.ensures.some)
    c.in_err-check_label.ensures)
