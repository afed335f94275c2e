use Rattle.std.proofs.Common.{◌<◌, length, get_or, sym, ap, ◌∙◌, arith}
use Rattle.std.proofs.lemmas.Option.{slice_get-get_or}
use Rattle.game_board.specs.Laying.{kind_fault}
use Rattle.game_board.proofs.Steps.{first_standing, first_board, none_first, none_more, next_board, next_standing, laid_front}
use Rattle.game_board.proofs.laying.lay_plays.Goals as goal

pub loop-end-init : goal.loop-end-init
loop-end-init c =
    record {
      standing = c.empty-standing.ensures ∙ first_standing c.args.events.now;
      board = c.empty-standing.ensures ∙ first_board c.args.events.now;
      none = none_first c.args.events.now;
    }

pub returns-in-Err-clause-laid : goal.returns-in-Err-clause-laid
returns-in-Err-clause-laid c =
    let events = c.args.events.now in
    let end = c.loop-end.end in
    let event = get_or events end c.index-events-end.result in
    let within : end < length events = omega arith in
    let is = slice_get-get_or events end c.index-events-end.result within in
    laid_front events c.args.place end event c.in-Err.why c.loop-end.invariant.none c.loop-end-test.true is
    (ap (λ b. kind_fault b event.kind) (sym c.loop-end.invariant.standing) ∙ c.in-Err.ensures.fault)

pub loop-end-preserved : goal.loop-end-preserved
loop-end-preserved c =
    let events = c.args.events.now in
    let end = c.loop-end.end in
    let event = get_or events end c.index-events-end.result in
    let within : end < length events = omega arith in
    let is = slice_get-get_or events end c.index-events-end.result within in
    let before = c.loop-end.invariant.standing in
    record {
      standing = next_standing events end event c.loop-end.standing c.in-Ok.laid c.kept-standing.result c.is_taken_back.result is before c.in-Ok.ensures.laid c.is_taken_back.ensures c.kept-standing.ensures;
      board = next_board events end event c.loop-end.standing c.in-Ok.laid is before c.in-Ok.ensures.laid;
      none = none_more events end event c.loop-end.invariant.none is (ap (λ b. kind_fault b event.kind) (sym before) ∙ c.in-Ok.ensures.none);
    }
