use Rattle.std.proofs.Common.{◌-◌, arith, rules, sym}
use Rattle.ref_board.specs.Cells.{occupied_on}
use Rattle.ref_play.proofs.Ranges.{list_all_range, list_all_range_false}
use Rattle.ref_play.proofs.legality.is_filled.Goals as goal

pub returns-then-is_none : goal.returns-then-is_none
returns-then-is_none c = sym (list_all_range_false (occupied_on c.args.dir c.args.board.now c.args.line) c.args.start (c.args.end - c.args.start) c.loop-place.place (omega arith) (omega arith) (search rules))

pub returns : goal.returns
returns c = sym (list_all_range (occupied_on c.args.dir c.args.board.now c.args.line) c.args.start (c.args.end - c.args.start) (λ k low high. c.loop-place.invariant k low (omega arith)))
