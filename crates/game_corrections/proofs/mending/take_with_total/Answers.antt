use Rattle.std.proofs.lemmas.Int.{ints}
use Rattle.std.proofs.Common.{rules, w32, to_z-of_z, ◌≡◌, ℤ, Some, slice_get, refl, sym, ap, subst, ◌∙◌}
use Rattle.gcg_read.specs.Numerals.{IsPoints}
use Rattle.game_turns.specs.Machines.{rules_of, state_of}
use Rattle.game_turns.specs.Places.{fault_of_event}
use Rattle.game_corrections.specs.Corrections.{right_total}
use Rattle.game_corrections.proofs.Mends.{total_set, total_taken, total_points}
use Rattle.game_corrections.proofs.mending.take_with_total.Goals as goal

pub returns-clause-mended : goal.returns-clause-mended
returns-clause-mended c =
    (total_set (rules_of c.args.machine.now) c.args.list.now (state_of c.args.machine.now) c.args.events.now c.set_total.new.self c.args.place c.in-Err.fault c.in-Some.right c.in-Some-new.total
    c.in-Err.ensures.reported (sym c.right_total.ensures ∙ c.in-Some.is) (c.in-Some-new.ensures.value ∙ to_z-of_z {w = w32} (search (rules, ints))) c.set_total.ensures.there).mended

pub returns-clause-remaining : goal.returns-clause-remaining
returns-clause-remaining c =
    total_taken (rules_of c.take.new.machine) c.args.list.now (state_of c.take.new.machine) c.args.events.now c.set_total.new.self c.args.place c.in-Err.fault c.in-Some.right c.in-Some-new.total
    (λ why. (right : ℤ) → right_total why ≡ Some right → IsPoints right → ⊥) c.take-2.result
    (ap (λ m. fault_of_event (rules_of m) c.args.list.now (state_of m) (slice_get c.args.events.now c.args.place)) c.in-Err.ensures.refused ∙ c.in-Err.ensures.reported)
    (sym c.right_total.ensures ∙ c.in-Some.is) (c.in-Some-new.ensures.value ∙ to_z-of_z {w = w32} (search (rules, ints))) c.set_total.ensures.there c.take-2.ensures.reported

pub returns-clause-same : goal.returns-clause-same
returns-clause-same c =
    total_taken (rules_of c.take.new.machine) c.args.list.now (state_of c.take.new.machine) c.args.events.now c.set_total.new.self c.args.place c.in-Err.fault c.in-Some.right c.in-Some-new.total
    (λ why. c.set_total.new.self ≡ c.args.events.now) c.take-2.result
    (ap (λ m. fault_of_event (rules_of m) c.args.list.now (state_of m) (slice_get c.args.events.now c.args.place)) c.in-Err.ensures.refused ∙ c.in-Err.ensures.reported)
    (sym c.right_total.ensures ∙ c.in-Some.is) (c.in-Some-new.ensures.value ∙ to_z-of_z {w = w32} (search (rules, ints))) c.set_total.ensures.there c.take-2.ensures.reported

pub returns-clause-points : goal.returns-clause-points
returns-clause-points c =
    total_points c.args.events.now c.set_total.new.self c.args.place c.in-Some-new.total
    (subst IsPoints (sym c.in-Some-new.ensures.value) (c.in-Some-new.ensures.there.0 refl)) c.set_total.ensures.there c.set_total.ensures.past
