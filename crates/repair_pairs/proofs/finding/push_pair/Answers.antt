use Rattle.std.proofs.Common.{arith}
use Rattle.repair_pairs.proofs.Adding.{pair_put}
use Rattle.repair_pairs.proofs.finding.push_pair.Goals as goal

pub returns : goal.returns
returns c =
    let then = c.args.then in
    let more = c.if-not-is_reported.false in
    let wrong = c.len.ensures in
    let unlisted = c.len-2.ensures in
    let remaining = c.remaining_cost.ensures in
    let weighs = c.weight_of.ensures in
    let wrong_ok = then.remains.wrong.ok in
    let unlisted_ok = then.remains.unlisted.ok in
    pair_put c.args.singles.now c.args.made.now c.args.head c.args.weight _ then c.args.reported.now.items c.push.new.self.items c.in_ok-push.ensures.items (c.is_reported.ensures.lines more)
    (c.is_reported.ensures.numbers more) (c.is_reported.ensures.cheaper more) (c.is_reported.ensures.other more) (omega arith)
