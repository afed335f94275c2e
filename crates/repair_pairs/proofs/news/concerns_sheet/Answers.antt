use Rattle.std.proofs.Common.{◌≡◌, ℕ, ◌+◌, ◌≤◌, take, drop, length, subst, arith}
use Rattle.std.specs.Prelude.{All}
use Rattle.gcg_read.specs.declared.events.Event.{Event}
use Rattle.repair_pairs.proofs.Windows.{window}
use Rattle.repair_pairs.proofs.news.concerns_sheet.Goals as goal

pub returns : goal.returns
returns c =
    λ is.
    let made = c.args.made.now in
    let place = c.args.change.now.place in
    let many = c.wrong_events-many.result in
    let inside : place + many ≤ length made = omega arith in
    let end = c.loop-place-test.false in
    subst (λ (m : ℕ). All (λ (e : Event). e.line ≡ 0 → ⊥) (take m (drop place made))) c.wrong_events-many.ensures.number
    (window (λ (e : Event). e.line ≡ 0 → ⊥) made place many inside (λ k e following below at. c.loop-place.invariant.on_sheet k e following (omega (arith, below, end)) at))
