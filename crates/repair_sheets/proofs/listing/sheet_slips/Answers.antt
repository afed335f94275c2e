use Rattle.repair_sheets.specs.Listing.{unread_slips}
use Rattle.repair_sheets.proofs.Listed.{place_more}
use Rattle.repair_sheets.proofs.listing.sheet_slips.Goals as goal

pub loop-place-preserved : goal.loop-place-preserved
loop-place-preserved c =
    place_more c.args.events.now c.loop-place.place (unread_slips c.args.text.now) c.loop-place.slips.items c.push_running.new.slips.items c.loop-place.invariant c.in_ok-push_running.ensures
