use Rattle.std.proofs.lemmas.Int.{ints}
use Rattle.std.proofs.Common.{◌≡◌, ◌<◌, ◌∙◌, length, sym, ap, subst, rules, w32, to_z, of_z, to_z-of_z, arith}
use Rattle.gcg_read.specs.declared.events.Event.{Event}
use Rattle.game_corrections.specs.WrongNumbers.{had_before}
use Rattle.repair_single.specs.Counting.{Leaves, count_in_rows}
use Rattle.repair_single.proofs.Leaving.{leaves_itself, rows_leave}
use Rattle.repair_single.proofs.counting.after_rows.Goals as goal

pub loop-place-init : goal.loop-place-init
loop-place-init c = leaves_itself c.args.room

pub loop-place-preserved : goal.loop-place-preserved
loop-place-preserved c =
    let within : c.loop-place.place < length c.args.rows.now = omega arith in
    let in_events : c.loop-place.place < length c.args.events.now = omega arith in
    rows_leave c.args.room c.loop-place.room c.after_row-room.result c.args.list.now c.args.events.now c.args.rows.now c.loop-place.place c.index-events-place.result c.index-rows-place.result
    (to_z w32 (of_z w32 c.had_before-had.result)) in_events within c.index-events-place.is c.index-rows-place.is (to_z-of_z {w = w32} (search (rules, ints)) ∙ c.had_before-had.ensures.had ∙ ap (λ (e : Event). had_before c.args.events.now e.player c.loop-place.place) (sym c.index-events-place.is))
    c.loop-place.invariant c.after_row-room.ensures

pub returns : goal.returns
returns c =
    let last : c.loop-place.place ≡ c.args.start = omega arith in
    subst (λ n. Leaves c.args.room (count_in_rows c.args.list.now c.args.events.now c.args.rows.now n) c.loop-place.room) last c.loop-place.invariant
