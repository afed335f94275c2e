use Rattle.std.proofs.lemmas.Int.{ints}
use Rattle.std.proofs.Common.{rules, w32, to_z, of_z, to_z-of_z, ◌∙◌}
use Rattle.repair_single.proofs.StayingWrong.{both_wrong}
use Rattle.repair_single.proofs.remaining.push_wrong.Goals as goal

pub returns : goal.returns
returns c =
    both_wrong c.args.sheet.now c.args.right.now c.args.place c.index-sheet-place.result c.index-right-place.result c.args.wrong.now.items c.push_score.new.wrong.items c.push_sum.new.wrong.items
    (to_z w32 (of_z w32 c.had_before.result)) c.requires.sheet c.requires.right c.index-sheet-place.is c.index-right-place.is c.in_ok-push_score.ensures
    (to_z-of_z {w = w32} (search (rules, ints)) ∙ c.had_before.ensures.had) c.in_ok-push_sum.ensures
