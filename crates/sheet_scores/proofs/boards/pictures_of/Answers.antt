use Rattle.std.proofs.Common.{rules, ◌<◌, ◌∙◌, length, get_or, sym, ap, subst, arith}
use Rattle.std.proofs.lemmas.Option.{slice_get-get_or}
use Rattle.game_board.specs.Laying.{kind_fault}
use Rattle.game_board.proofs.Steps.{first_standing, first_board, none_first, none_more, next_board, next_standing, fault_here}
use Rattle.sheet_scores.proofs.BoardSteps.{AreSoFar, none_so_far, one_board, stopped_at}
use Rattle.sheet_scores.proofs.boards.pictures_of.Goals as goal

pub loop-place-init : goal.loop-place-init
loop-place-init c =
    record {
      standing = c.empty-standing.ensures ∙ first_standing c.args.events.now;
      board = c.empty-standing.ensures ∙ first_board c.args.events.now;
      none = none_first c.args.events.now;
      so_far = subst (AreSoFar c.args.events.now 0) (sym c.new-pictures.ensures.items) (none_so_far c.args.events.now);
    }

pub returns-in_default : goal.returns-in_default
returns-in_default c =
    let events = c.args.events.now in
    let place = c.loop-place.place in
    let event = get_or events place c.index-events-place.result in
    let within : place < length events = omega arith in
    let is = slice_get-get_or events place c.index-events-place.result within in
    stopped_at events place c.loop-place.pictures.items c.in_default.field-0 c.loop-place.invariant.so_far c.loop-place.invariant.none within
    (fault_here events place event _ is (ap (λ b. kind_fault b event.kind) (sym c.loop-place.invariant.standing) ∙ c.in_default.ensures.fault))

pub loop-place-preserved : goal.loop-place-preserved
loop-place-preserved c =
    let events = c.args.events.now in
    let place = c.loop-place.place in
    let event = get_or events place c.index-events-place.result in
    let within : place < length events = omega arith in
    let is = slice_get-get_or events place c.index-events-place.result within in
    let before = c.loop-place.invariant.standing in
    let next = next_board events place event c.loop-place.standing c.in-Ok.laid is before c.in-Ok.ensures.laid in
    record {
      standing = next_standing events place event c.loop-place.standing c.in-Ok.laid c.standing_after-standing.result c.is_taken_back.result is before c.in-Ok.ensures.laid c.is_taken_back.ensures
          c.standing_after-standing.ensures;
      board = next;
      none = none_more events place event c.loop-place.invariant.none is (ap (λ b. kind_fault b event.kind) (sym before) ∙ c.in-Ok.ensures.none);
      so_far = one_board events place c.loop-place.pictures.items c.push.new.self.items c.picture_after.result c.loop-place.board c.in-Ok.laid c.loop-place.invariant.so_far c.loop-place.invariant.board next
          c.picture_after.ensures (search rules);
    }
