use Rattle.std.proofs.Common.{◌≡◌}
use Rattle.repair_rewrites.specs.EventLines.{event_lines, texts}
use Rattle.repair_rewrites.proofs.Ends.{written}
use Rattle.repair_rewrites.proofs.Places.{count_remaining}
use Rattle.repair_rewrites.proofs.writing.repaired_text.Goals as goal

pub push_lines-requires : goal.push_lines-requires
push_lines-requires c =
    let lines : texts c.as_slice.result.now ≡ event_lines c.args.text.now = cc (c.in_ok-lines.ensures, c.as_slice.ensures.value) in
    count_remaining c.as_slice.result.now c.args.text.now c.without_mark.result.now lines c.without_mark.ensures

pub returns : goal.returns
returns c =
    let lines : texts c.as_slice.result.now ≡ event_lines c.args.text.now = cc (c.in_ok-lines.ensures, c.as_slice.ensures.value) in
    written c.args.change.now c.args.players.now c.args.right.now c.args.text.now c.new-out.result.items c.push_mark.new.out.items c.push_lines.new.out.items c.drop_last_feed.new.out.items
    c.without_mark.result.now (texts c.as_slice.result.now) lines c.without_mark.ensures c.new-out.ensures.items c.in_ok-push_mark.ensures c.in_ok-push_lines.ensures c.drop_last_feed.ensures
