use Rattle.std.proofs.Common.{List, subst}
use Rattle.game_walk.specs.declared.rows.Row.{Row}
use Rattle.repair_single.specs.Counting.{Leaves, count_in_rows}
use Rattle.repair_single.proofs.Skipping.{none_at_place}
use Rattle.repair_single.proofs.candidates.is_past_room.Goals as goal

pub returns : goal.returns
returns c =
    let list = c.args.list.now in
    let written = c.args.events.now in
    let remaining = c.after_rows.result in
    let before = c.saturating_sub-before.result in
    λ rules walked full change at.
    none_at_place c.law_of_changes.ensures rules list change written c.args.walk.now c.args.place before c.args.below remaining walked c.requires.place c.requires.within
    c.saturating_sub-before.ensures at
    (subst (λ (rows : List Row). Leaves c.args.below (count_in_rows list written rows before) remaining) c.as_slice.ensures.value c.after_rows.ensures) (c.is_full.ensures.0 full)
