use Rattle.std.proofs.Common.{length, refl}
use Rattle.std.proofs.lemmas.Option.{slice_get_read}
use Rattle.sheet_notes.proofs.sheets.note_at.Goals as goal

pub returns : goal.returns
returns c =
    λ right is row.
    let events = c.args.events.now in
    record {
      row = c.args.row;
      of_row = row;
      best = refl;
      unlisted = refl;
      own = c.index-events-place.result;
      stood = slice_get_read events (length events) c.args.place c.index-events-place.result refl c.requires c.index-events-place.is;
      next = c.in_ok-next.ensures events right is c.requires;
    }
