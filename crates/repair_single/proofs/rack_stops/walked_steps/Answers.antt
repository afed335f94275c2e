use Rattle.std.proofs.Common.{◌≤◌, ◌∙◌, length, refl, arith}
use Rattle.repair_single.proofs.FirstSteps.{noted}
use Rattle.repair_single.proofs.PlaceChanges.{rows_fit}
use Rattle.repair_single.proofs.Starts.{ready_there}
use Rattle.repair_single.proofs.rack_stops.walked_steps.Goals as goal

pub loop-place-preserved : goal.loop-place-preserved
loop-place-preserved c =
    let events = c.args.events.now in
    let place = c.loop-place.place in
    let game = c.in-Some.game.now in
    let many = c.len-many.ensures ∙ c.args.walk.now.rows.ok.0 in
    record {
      so_far = λ rules list walked.
          let fits = rows_fit rules list events c.args.walk.now walked in
          let within : place ≤ length events = omega (arith, many, fits) in
          noted rules list events events place game c.loop-place.first.steps.items c.note.new.self.steps.items
          (ready_there rules list events place game (c.in-Some.ensures.game rules list events walked) within) (λ k following. refl) c.in_ok-note.ensures
          (c.loop-place.invariant.so_far rules list walked);
    }
