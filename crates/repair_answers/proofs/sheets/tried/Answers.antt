use Rattle.std.proofs.Common.{◌≡◌, ◌≤◌, Some, arith, subst}
use Rattle.repair_answers.specs.Sheets.{count_wrong, IsRighted}
use Rattle.repair_answers.proofs.SheetTrials.{none_fewer}
use Rattle.repair_answers.proofs.sheets.tried.Goals as goal

pub returns-then-count_wrong-room : goal.returns-then-count_wrong-room
returns-then-count_wrong-room c =
    let few = c.count_wrong.ensures in
    let over = c.if-count_wrong-room.true in
    let many : c.args.room ≤ count_wrong c.in-Some-2.righted.alone = grind (arith, few, over) in
    none_fewer c.args.rules.now c.args.list.now c.args.text.now c.args.events.now c.in-Some.made c.args.room c.args.number c.args.slip c.in-Some-2.righted
    (cc (c.in-Some.is, c.in_ok-made.ensures)) (subst (IsRighted c.args.rules.now c.args.list.now c.in-Some.made) c.in-Some-2.is c.in_ok-righted.ensures) many
