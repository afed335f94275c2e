use Rattle.std.proofs.Common.{◌<◌, length, take, reverse, refl, arith}
use Rattle.std.proofs.lemmas.Option.{slice_get_read}
use Rattle.deal_steps.proofs.KnownLaws.{shown_taken}
use Rattle.deal_steps.proofs.bounding.shown_at.Goals as goal

pub returns-clause-shown : goal.returns-clause-shown
returns-clause-shown c =
    let steps = c.args.steps.now in
    let place = c.args.place in
    let step = c.index-steps-place.result in
    let within : place < length steps = omega arith in
    record {
      step = step;
      there = slice_get_read steps (length steps) place step refl within c.index-steps-place.is;
      shown = shown_taken step c.in-Ok.known c.show.new.self (reverse (take place steps)) c.in-Ok.ensures.known c.show.ensures;
    }
