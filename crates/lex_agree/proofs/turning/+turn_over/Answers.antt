use Rattle.std.proofs.Common.{◌≡◌, ◌+◌, ◌∙◌, length, set, take, arith}
use Rattle.lex_agree.specs.Walks.{AreKept}
use Rattle.lex_agree.proofs.Walking.{TurnsAfter, after_none_there, after_same, front_kept, front_longer, after_mark_there, after_letter_there, so_far_more, so_far_all}
use Rattle.lex_agree.proofs.turning.+turn_over.Goals as goal
use Rattle.lex_agree.proofs.turning.+turn_over.Goals.{in-None, in-Some-next+else-not-turn_over_at, in-Some-2+in_ok-remaining-in-Some-2}

pub loop-on-preserved : goal.loop-on-preserved
loop-on-preserved t c =
    let bytes = c.args.file.now.bytes.now in
    let len = c.args.len in
    let front = take len c.args.front.now in
    let same = c.loop-on.invariant.front in
    let room = c.loop-on.invariant.room in
    let branch = c.in-Some.on.branch in
    let there : TurnsAfter bytes front branch.label branch.step.next = elim c.match-branch.branch [
      | in-None w ↦ after_none_there bytes front c.args.node branch.label branch.step.next c.requires.node w.in-None.is c.in-Some.ensures.next
      | in-Some-next+else-not-turn_over_at w ↦
          after_mark_there bytes front c.args.node w.in-Some-next.following branch.label branch.step.next c.requires.node w.if-branch-eq-MARK.true
          w.in-Some-next.is c.in-Some.ensures.next (after_same bytes (take len c.loop-on.front) front w.in-Some-next.following same w.if-not-turn_over_at.ensures.turned)
      | in-Some-2+in_ok-remaining-in-Some-2 w ↦
          after_letter_there bytes front (take (len + 1) (set c.loop-on.front len branch.label)) branch.label branch.step.next w.in-Some-2.next
          w.if-branch-eq-MARK.false w.in-Some-2.is (front_longer c.loop-on.front c.args.front.now len branch.label (omega arith) same)
          w.in_ok-remaining-in-Some-2.ensures.turned
    ] in
    let labels : length c.match-branch.front ≡ 15 = elim c.match-branch.branch [
      | in-None w ↦ rw w.front-is room
      | in-Some-next+else-not-turn_over_at w ↦ rw w.front-is room
      | in-Some-2+in_ok-remaining-in-Some-2 w ↦ rw w.front-is w.in_ok-remaining-in-Some-2.ensures.room
    ] in
    let still : take len c.match-branch.front ≡ front = elim c.match-branch.branch [
      | in-None w ↦ rw w.front-is same
      | in-Some-next+else-not-turn_over_at w ↦ rw w.front-is same
      | in-Some-2+in_ok-remaining-in-Some-2 w ↦
          rw w.front-is (front_kept c.loop-on.front w.turn_over.new.front len branch.label w.in_ok-remaining-in-Some-2.ensures.front ∙ same)
    ] in
    let kept : AreKept bytes c.match-branch.kept = elim c.match-branch.branch [
      | in-None w ↦ rw w.kept-is c.loop-on.invariant.kept
      | in-Some-next+else-not-turn_over_at w ↦ rw w.kept-is w.if-not-turn_over_at.ensures.kept
      | in-Some-2+in_ok-remaining-in-Some-2 w ↦ rw w.kept-is w.in_ok-remaining-in-Some-2.ensures.kept
    ] in
    record {
      low = omega arith;
      room = labels;
      front = still;
      rest = c.in-Some.ensures.rest;
      kept = kept;
      below = so_far_more bytes front c.args.node c.loop-on.from branch.label branch.step.next c.requires.node c.loop-on.invariant.below
          c.in-Some.ensures.passed c.in-Some.ensures.reached c.in-Some.ensures.next there;
    }

pub returns : goal.returns
returns t c = record {
  room = c.loop-on.invariant.room;
  front = c.loop-on.invariant.front;
  turned = so_far_all c.args.file.now.bytes.now (take c.args.len c.args.front.now) c.args.node c.loop-on.from c.requires.node c.loop-on.invariant.below c.in_default.ensures.none;
  kept = c.loop-on.invariant.kept;
}
