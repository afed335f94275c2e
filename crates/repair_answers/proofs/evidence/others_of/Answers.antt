use Rattle.std.proofs.Common.{◌∙◌, arith}
use Rattle.repair_answers.proofs.Grouped.{none_like, like_more, all_like}
use Rattle.repair_answers.proofs.evidence.others_of.Goals as goal

pub loop-other-init : goal.loop-other-init
loop-other-init g c = record { following = omega arith; so_far = c.new-others.ensures.items ∙ none_like g.T.Lined.like c.args.items.now c.args.first }

pub loop-other-preserved : goal.loop-other-preserved
loop-other-preserved g c =
    let following = c.loop-other.invariant.following in
    record {
      following = omega arith;
      so_far = like_more g.T.Lined.like c.args.items.now c.args.first c.loop-other.other c.loop-other.others.items c.push_like.new.others.items following c.loop-other.invariant.so_far
          c.in_ok-push_like.ensures;
    }

pub returns : goal.returns
returns g c =
    all_like g.T.Lined.like c.args.items.now c.args.first c.loop-other.other c.loop-other.others.items c.loop-other.invariant.so_far (omega arith)
