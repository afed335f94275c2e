use Rattle.repair_single.proofs.StayingWrong.{wrong_is, sheet_long}
use Rattle.repair_single.proofs.remaining.wrong_with.Goals as goal

pub wrong_lines-requires : goal.wrong_lines-requires
wrong_lines-requires c =
    sheet_long c.args.change.now c.args.events.now c.args.right.now c.as_slice.result.now c.as_slice-3.result.now c.in_ok-sheet.sheet c.as_slice-2.result.now c.as_slice.ensures c.as_slice-3.ensures
    c.as_slice-2.ensures c.in_ok-sheet.ensures c.requires

pub returns : goal.returns
returns c =
    wrong_is c.args.change.now c.args.events.now c.args.right.now c.as_slice.result.now c.as_slice-3.result.now c.in_ok-sheet.sheet c.as_slice-2.result.now c.in_ok-wrong.wrong.items c.as_slice.ensures
    c.as_slice-3.ensures c.as_slice-2.ensures c.in_ok-sheet.ensures c.in_ok-wrong.ensures
