use Rattle.std.proofs.lemmas.Int.{ints}
use Rattle.std.proofs.Common.{rules, w32, to_z, of_z, to_z-of_z}
use Rattle.game_walk.proofs.WrongRows.{sum_pushed}
use Rattle.draft_numbers.proofs.numbering.push_sum.Goals as goal

pub returns : goal.returns
returns c =
    sum_pushed c.args.wrong.now.items c.push.new.self.items c.args.written.now c.args.had c.args.right c.is_right_sum.result (to_z w32 (of_z w32 c.args.had)) _ _
    (to_z-of_z {w = w32} (search (rules, ints))) c.is_right_sum.ensures c.if-is_right_sum.false (search (rules, ints)) (search (rules, ints)) c.in_ok-push.ensures.items
