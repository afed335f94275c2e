use Rattle.std.proofs.Common.{◌≡◌, ◌<◌, length, arith}
use Rattle.repair_answers.proofs.Grouped.{lines_more, enough_lines}
use Rattle.repair_answers.proofs.evidence.lines_of.Goals as goal

pub returns-then-len-most : goal.returns-then-len-most
returns-then-len-most g c =
    let ok = c.loop-index.lines.ok in
    let many : length c.loop-index.lines.items ≡ c.args.most = omega arith in
    enough_lines g.T.Lined.like c.args.items.now c.args.most c.loop-index.index c.loop-index.lines.items c.loop-index.invariant.so_far (omega arith) many

pub loop-index-preserved : goal.loop-index-preserved
loop-index-preserved g c =
    let so_far = c.loop-index.invariant.so_far in
    let few = so_far.few in
    let ok = c.loop-index.lines.ok in
    let room : length c.loop-index.lines.items < c.args.most = omega arith in
    record {
      so_far = lines_more g.T.Lined.like c.args.items.now c.args.most c.loop-index.index c.loop-index.lines.items c.push_line_of_first.new.lines.items so_far room c.in_ok-push_line_of_first.ensures;
    }
