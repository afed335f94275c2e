use Rattle.std.proofs.Common.{rules, ◌≡◌, ◌<◌, length, get_or, refl, sym, subst, arith}
use Rattle.std.proofs.lemmas.Option.{slice_get_read}
use Rattle.std.proofs.lemmas.Option.{slice_get-get_or}
use Rattle.sheet_scores.specs.Positions.{ArePositions}
use Rattle.sheet_scores.proofs.PositionSteps.{no_positions, positions_more}
use Rattle.sheet_scores.proofs.positions.positions_of.Goals as goal

pub loop-place-init : goal.loop-place-init
loop-place-init c =
    subst (ArePositions c.args.rules.now c.args.events.now c.args.pictures.now 0) (sym c.new-positions.ensures.items) (no_positions c.args.rules.now c.args.events.now c.args.pictures.now)

pub loop-place-preserved : goal.loop-place-preserved
loop-place-preserved c =
    let events = c.args.events.now in
    let pictures = c.args.pictures.now in
    let place = c.loop-place.place in
    let shown : place < length pictures = omega arith in
    let within : place < length events = omega (arith, shown, c.requires) in
    let event = get_or events place c.index-events-place.result in
    positions_more c.args.rules.now events pictures place c.loop-place.positions.items c.push.new.self.items c.in_ok-position.position event c.index-pictures-place.result
    c.loop-place.invariant (slice_get-get_or events place c.index-events-place.result within)
    (slice_get_read pictures (length pictures) place c.index-pictures-place.result refl shown c.index-pictures-place.is) c.in_ok-position.ensures (search rules)

pub returns : goal.returns
returns c =
    let last : c.loop-place.place ≡ length c.args.pictures.now = omega (arith, c.loop-place-test.false, c.loop-place.auto.place-end) in
    subst (λ n. ArePositions c.args.rules.now c.args.events.now c.args.pictures.now n c.loop-place.positions.items) last c.loop-place.invariant
