use Rattle.std.proofs.Common.{◌≡◌, ◌<◌, ◌∙◌, length, refl, sym, arith}
use Rattle.game_turns.proofs.PlaceLaws.{start_tally}
use Rattle.repair_single.proofs.Corrections.{stands_first, went_through}
use Rattle.repair_single.proofs.Trials.{begun, refused_by, went_by}
use Rattle.repair_single.proofs.correcting.correct.Goals as goal

pub loop-place-init : goal.loop-place-init
loop-place-init c =
    begun c.args.rules.now c.args.list.now c.args.events.now 0 c.new-machine.result c.new-machine.result
    (stands_first c.args.rules.now c.args.list.now c.args.events.now c.new-machine.result c.new-machine.ensures.rules (c.new-machine.ensures.state ∙ start_tally c.args.rules.now c.args.events.now))
    (omega arith) refl refl

pub loop-place-preserved : goal.loop-place-preserved
loop-place-preserved c =
    let so = c.loop-place.invariant in
    let within : c.loop-place.place < length c.args.events.now = omega arith in
    went_by c.law_of_tallies.ensures c.args.rules.now c.args.list.now c.args.events.now c.loop-place.events c.mend.new.events 0 c.loop-place.place c.loop-place.machine
    c.mend.new.machine c.mend.result so c.mend.ensures.mended (omega arith) within (sym c.is_err.ensures.value ∙ c.if-is_err.false) c.mend.ensures.reported c.mend.ensures.state c.mend.ensures.rules

pub returns-then-is_err-clause-none : goal.returns-then-is_err-clause-none
returns-then-is_err-clause-none c =
    let so = c.loop-place.invariant in
    let within : c.loop-place.place < length c.args.events.now = omega arith in
    λ no.
    refused_by c.args.rules.now c.args.list.now c.args.events.now c.loop-place.events c.mend.new.events 0 c.loop-place.place c.loop-place.machine c.mend.result so
    c.mend.ensures.mended (omega arith) within (sym c.is_err.ensures.value ∙ c.if-is_err.true) c.mend.ensures.reported c.mend.ensures.remaining

pub returns-clause-right : goal.returns-clause-right
returns-clause-right c =
    let last : c.loop-place.place ≡ length c.args.events.now = omega arith in
    λ so. went_through c.args.rules.now c.args.list.now c.args.events.now c.loop-place.events c.loop-place.place c.loop-place.machine c.loop-place.invariant last
