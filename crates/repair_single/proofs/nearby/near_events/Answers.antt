use Rattle.std.proofs.Common.{◌+◌, ◌-◌, take, drop, refl}
use Rattle.repair_single.proofs.GoingWrong.{near_is, if_ok_then}
use Rattle.repair_single.proofs.nearby.near_events.Goals as goal

pub returns : goal.returns
returns c =
    let change = c.args.change.now in
    let written = c.args.events.now in
    let start = c.args.start in
    let end = c.args.end in
    if_ok_then c.apply.result
    (λ near is.
    near_is change (record { place = change.place - start; slip = c.copy_slip.result }) written (take (end + 1 - start) (drop start written)) near start end c.requires.start c.requires.end c.requires.within
    refl c.copy_slip.ensures refl is)
    c.apply.ensures
