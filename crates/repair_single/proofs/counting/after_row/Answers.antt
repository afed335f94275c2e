use Rattle.std.proofs.lemmas.Int.{ints}
use Rattle.std.proofs.Common.{ℤ, ◌+◌, ◌∙◌, ap, rules, w32, to_z-of_z}
use Rattle.repair_single.specs.Sums.{count_scores, count_sums}
use Rattle.repair_single.proofs.Leaving.{row_leaves}
use Rattle.repair_single.proofs.counting.after_row.Goals as goal

pub returns : goal.returns
returns c =
    let row = c.args.row.now in
    row_leaves c.args.room c.after_event.result c.args.list.now row c.args.had c.wrong_numbers-numbers.result
    (c.wrong_numbers-numbers.ensures ∙ ap (λ (h : ℤ). count_scores row.written.score row.right.score + count_sums h row.written row.right) (to_z-of_z {w = w32} (search (rules, ints))))
    c.after_event.ensures
