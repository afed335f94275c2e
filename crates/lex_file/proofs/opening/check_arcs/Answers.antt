use Rattle.std.proofs.Common.{rules, arith, ◌≤◌, ◌-◌, ◌∙◌}
use Rattle.std.proofs.lemmas.Result.{err_from_is_err_and}
use Rattle.lex_file.specs.FileWords.{words_in}
use Rattle.lex_file.proofs.Checks.{fault_here, fine_none, fine_more, start_none, least_none, next_of_last, next_of_more, low_label}
use Rattle.lex_file.proofs.opening.check_arcs.Goals as goal
use Rattle.lex_file.proofs.opening.check_arcs.Goals.{then-is_last, else-is_last}

pub loop-place-init : goal.loop-place-init
loop-place-init c =
    record {
      fine = fine_none (words_in c.args.arcs.now);
      node = start_none (words_in c.args.arcs.now);
      order = least_none (words_in c.args.arcs.now);
      few = omega arith;
    }

pub loop-place-preserved : goal.loop-place-preserved
loop-place-preserved c =
    elim c.if-is_last.branch [
      | then-is_last w ↦
          let next = next_of_last (words_in c.args.arcs.now) c.loop-place.place (search rules) in
          rw (w.following-is, w.room-is) (record { fine = search (rules, fine_more); node = next.0; order = next.1; few = omega arith })
      | else-is_last w ↦
          let low : w.of_word.result.label ≤ 26 = search (rules, low_label) in
          let next = next_of_more (words_in c.args.arcs.now) c.loop-place.place (26 - w.of_word.result.label) (search rules) (search (rules, arith, low)) in
          rw (w.following-is, w.room-is) (record { fine = search (rules, fine_more); node = c.loop-place.invariant.node ∙ next.0; order = next.1; few = omega arith })
    ]

pub returns-in_err-check_arc : goal.returns-in_err-check_arc
returns-in_err-check_arc c =
    let p = err_from_is_err_and c.from_residual.result c.from_residual.ensures.1 in
    rw (p.1, p.2) (fault_here (words_in c.args.arcs.now) c.loop-place.place c.in_err-check_arc.field-0.0 (omega arith) c.loop-place.invariant.fine c.in_err-check_arc.ensures)
