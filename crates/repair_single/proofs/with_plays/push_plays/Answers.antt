use Rattle.std.proofs.Common.{map, sym, append-nil}
use Rattle.repair_slips.specs.Changes.{change_at}
use Rattle.repair_single.proofs.WithPlays.{one_more, all_added}
use Rattle.repair_single.proofs.with_plays.push_plays.Goals as goal

pub loop-play-init : goal.loop-play-init
loop-play-init c = record { so_far = sym (append-nil (map (change_at c.args.place) c.args.slips.now.items)) }

pub loop-play-preserved : goal.loop-play-preserved
loop-play-preserved c =
    let place = c.args.place in
    record {
      so_far = one_more (map (change_at place) c.args.slips.now.items) (map (change_at place) c.loop-play.slips.items) (map (change_at place) c.push_play.new.slips.items) c.args.plays.now place
          c.loop-play.play-index c.play-item.result c.loop-play-test.true c.play-item.is c.loop-play.invariant.so_far c.in_ok-push_play.ensures;
    }

pub returns : goal.returns
returns c =
    let place = c.args.place in
    all_added (map (change_at place) c.args.slips.now.items) (map (change_at place) c.loop-play.slips.items) c.args.plays.now place c.loop-play.play-index c.loop-play-test.false
    c.loop-play.invariant.so_far
