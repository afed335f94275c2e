use Rattle.std.proofs.lemmas.Int.{ints}
use Rattle.std.proofs.Common.{rules, w32, to_z, of_z, to_z-of_z, ◌∙◌}
use Rattle.game_walk.proofs.WrongRows.{both_wrong, totals_more}
use Rattle.game_walk.proofs.wrong_lines.push_wrong.Goals as goal

pub returns-clause-wrong : goal.returns-clause-wrong
returns-clause-wrong c =
    both_wrong c.args.stop c.args.right.now c.args.numbers.now c.args.place c.index-right-place.result c.index-numbers-place.result c.args.totals.now c.args.wrong.now.items c.push_score.new.wrong.items
    c.push_sum.new.wrong.items (to_z w32 (of_z w32 c.had.result)) c.known_total-due.result c.requires.numbers c.requires.right c.index-right-place.is c.index-numbers-place.is c.requires.totals
    c.in_ok-push_score.ensures (to_z-of_z {w = w32} (search (rules, ints)) ∙ c.had.ensures.had) c.known_total-due.ensures c.in_ok-push_sum.ensures

pub returns-clause-totals : goal.returns-clause-totals
returns-clause-totals c =
    totals_more c.args.right.now c.args.numbers.now c.args.place c.index-right-place.result c.index-numbers-place.result c.args.totals.now c.note.new.self
    c.requires.numbers c.requires.right c.index-right-place.is c.index-numbers-place.is c.requires.totals c.note.ensures.first c.note.ensures.second
