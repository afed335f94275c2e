use Rattle.std.proofs.Common.{arith}
use Rattle.lex_agree.proofs.Turned.{kept_more}
use Rattle.lex_agree.proofs.Walking.{turns_more}
use Rattle.lex_agree.proofs.turning.turn_over_at.Goals as goal

pub loop-on-preserved : goal.loop-on-preserved
loop-on-preserved c =
    let branch = c.in-Some.on.branch in
    record {
      low = omega arith;
      rest = c.in-Some.ensures.rest;
      kept = kept_more c.args.file.now.bytes.now c.loop-on.kept branch.label c.walk_on-turned.new.kept (omega arith) c.loop-on.invariant.kept c.walk_on-turned.ensures.kept;
      below = turns_more c.args.file.now.bytes.now c.args.front.now c.args.following c.loop-on.from branch.label branch.step.accepts branch.step.next
          c.walk_on-turned.result c.follow-marked.result c.loop-on.invariant.below c.in-Some.ensures.passed c.in-Some.ensures.accepts
          c.in-Some.ensures.next c.walk_on-turned.ensures.step c.follow-marked.ensures.strings c.if-not-is_kept.ensures c.if-not-is_same.ensures;
    }

pub walk_on-turned-requires-clause-kept : goal.walk_on-turned-requires-clause-kept
walk_on-turned-requires-clause-kept c = c.loop-on.invariant.kept.each c.in-Some.on.branch.label (omega arith)
