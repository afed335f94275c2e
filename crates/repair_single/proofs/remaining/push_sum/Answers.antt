use Rattle.std.proofs.lemmas.Int.{ints}
use Rattle.std.proofs.Common.{◌++◌, ◌∙◌, ap, rules, w32, to_z, of_z, to_z-of_z}
use Rattle.game_corrections.specs.WrongNumbers.{wrong_sum}
use Rattle.game_walk.proofs.WrongRows.{sum_pushed}
use Rattle.repair_single.proofs.remaining.push_sum.Goals as goal

pub returns : goal.returns
returns c =
    sum_pushed c.args.wrong.now.items c.push.new.self.items c.args.event.now c.args.had c.known_total-due.result c.is_right_sum.result (to_z w32 (of_z w32 c.args.had)) _ _
    (to_z-of_z {w = w32} (search (rules, ints))) c.is_right_sum.ensures c.if-is_right_sum.false (search (rules, ints)) (search (rules, ints)) c.in_ok-push.ensures.items
    ∙ ap (λ d. c.args.wrong.now.items ++ wrong_sum c.args.had c.args.event.now d) c.known_total-due.ensures
