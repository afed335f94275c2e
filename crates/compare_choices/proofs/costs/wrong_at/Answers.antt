use Rattle.std.proofs.lemmas.Int.{ints}
use Rattle.std.proofs.Common.{rules, w32, to_z, of_z, to_z-of_z, ◌∙◌}
use Rattle.compare_choices.proofs.Wrong.{wrong_here}
use Rattle.compare_choices.proofs.costs.wrong_at.Goals as goal

pub returns-clause-many : goal.returns-clause-many
returns-clause-many c =
    wrong_here c.args.written.now c.args.right.now c.args.place c.index-written-place.result c.index-right-place.result (to_z w32 (of_z w32 c.had_before.result)) c.score_wrong-score.result
    c.sum_wrong-sum.result c.requires.within c.requires.also c.index-written-place.is c.index-right-place.is (to_z-of_z {w = w32} (search (rules, ints)) ∙ c.had_before.ensures.had)
    c.score_wrong-score.ensures.number c.sum_wrong-sum.ensures.number
