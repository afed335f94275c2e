use Rattle.std.proofs.lemmas.Int.{ints}
use Rattle.std.proofs.Common.{rules, w32, to_z-of_z, refl, ◌∙◌}
use Rattle.std.specs.Option.{option_copied}
use Rattle.game_answers.proofs.BoardLaws.{is_shown}
use Rattle.game_answers.proofs.boards.board_at.Goals as goal

pub returns : goal.returns
returns c =
    is_shown c.args.rules.now c.args.game c.args.place c.lay_plays-laying.result.end c.as_slice-events.result.now (option_copied c.event_at-event.result) c.lay_plays-laying.result.board _
    c.as_slice-events.ensures c.lay_plays-laying.ensures.laid c.lay_plays-laying.ensures.board c.event_at-event.ensures c.line_of.ensures c.in_ok-rows.ensures refl
    (to_z-of_z {w = w32} (search (rules, ints)) ∙ c.had_before.ensures.had) (to_z-of_z {w = w32} (search (rules, ints)) ∙ c.had_before-2.ensures.had) c.shown_rack.ensures
    c.in_ok-off.ensures c.tiles_off.ensures
