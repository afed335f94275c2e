use Rattle.std.proofs.Common.{List, ap, ◌==◌, length}
use Rattle.game_walk.specs.declared.rows.Row.{Row}
use Rattle.sheet_scores.proofs.WalkRows.{row_numbers, later_numbers}
use Rattle.sheet_scores.proofs.rows.right_numbers.Goals as goal

pub returns-in-Some : goal.returns-in-Some
returns-in-Some c = λ rules list written right is stood. row_numbers rules list written right c.args.walk.now c.args.place c.in-Some.row.now is c.in-Some.ensures

pub returns-in-None : goal.returns-in-None
returns-in-None c =
    λ rules list written right is stood.
    later_numbers rules list written right c.args.walk.now c.args.place c.args.event.now (c.args.place == length c.as_slice-rows.result.now) c.numbers_after.result is stood c.in-None.ensures
    (ap (λ (rs : List Row). c.args.place == length rs) c.as_slice-rows.ensures.value) c.numbers_after.ensures
