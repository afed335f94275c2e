use Rattle.std.proofs.Common.{◌<◌, ◌^◌, length, arith}
use Rattle.lex_check.specs.Pairs.{list_in}
use Rattle.repair_single.specs.Remaining.{wrong_with}
use Rattle.repair_answers.proofs.Wanted.{reported_so}
use Rattle.repair_answers.proofs.singles.first_repairs.Goals as goal

pub returns-clause-reported : goal.returns-clause-reported
returns-clause-reported c =
    let found = c.in_ok-singles.singles.found in
    let ok = found.reported.ok in
    let small = found.reported.small in
    let few : length found.reported.items < 2 ^ 63 = omega arith in
    reported_so wrong_with c.args.rules.now (list_in c.args.pair.now) c.args.events.now c.args.alone.now c.in_ok-singles.singles.plays.items c.args.below found.from c.args.most found.reported.items
    c.keep_reported.new.repairs.items found.remaining.items c.in_ok-singles.ensures.reported few c.keep_reported.ensures
