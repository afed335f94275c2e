use Rattle.std.proofs.Common.{rules, ◌<◌, ◌+◌, length, arith}
use Rattle.std.specs.Option.{option_copied}
use Rattle.game_turns.proofs.PlaceLaws.{copied_get}
use Rattle.sheet_scores.specs.Boards.{CanBeLaid}
use Rattle.sheet_scores.proofs.BoardSteps.{shown_before, cannot_be_laid}
use Rattle.sheet_scores.proofs.boards.shown_at.Goals.{then-place-events+else-is_none, else-place-events}
use Rattle.sheet_scores.proofs.boards.shown_at.Goals as goal

pub returns : goal.returns
returns c =
    let events = c.args.events.now in
    let place = c.args.place in
    let cannot : place < length events → CanBeLaid events (place + 1) → ⊥ =
    elim c.if-place-events.branch [
      | then-place-events+else-is_none w ↦ λ there can. cannot_be_laid events place w.lay_plays-after.result.end w.lay_plays-after.result.fault (search rules) w.lay_plays-after.ensures.laid can
      | else-place-events w ↦ λ there can. absurd (omega (arith, w.if-place-events.false, there))
    ] in
    shown_before events place c.lay_plays-before.result.end c.lay_plays-before.result.fault c.lay_plays-before.result.board (option_copied c.get.result) c.picture_for.result c.lay_plays-before.ensures.laid
    c.lay_plays-before.ensures.board (copied_get events place c.get.result c.get.ensures.lookup.0 c.get.ensures.lookup.1) cannot c.picture_for.ensures
