use Rattle.std.proofs.lemmas.Int.{ints}
use Rattle.std.proofs.Common.{Some, ap, rules, w32, to_z, of_z, to_z-of_z, ◌∙◌}
use Rattle.draft_numbers.proofs.Numbered.{both_pushed}
use Rattle.draft_numbers.proofs.numbering.push_both.Goals as goal

pub returns : goal.returns
returns c =
    both_pushed c.args.wrong.now.items c.push_score.new.wrong.items c.push_sum.new.wrong.items c.args.had (to_z w32 (of_z w32 c.value.result)) c.args.written.now c.args.right.now
    (Some (to_z w32 (of_z w32 c.value-2.result))) c.in_ok-push_score.ensures c.in_ok-push_sum.ensures (to_z-of_z {w = w32} (search (rules, ints)) ∙ c.value.ensures.value)
    (ap Some (to_z-of_z {w = w32} (search (rules, ints)) ∙ c.value-2.ensures.value))
