use Rattle.std.proofs.Common.{◌≡◌, ◌≤◌, List, length}
use Rattle.gcg_read.specs.declared.events.Event.{Event}
use Rattle.lex_check.specs.Pairs.{list_in}
use Rattle.game_walk.specs.Walks.{IsWalk}
use Rattle.sheet_scores.specs.Rows.{AreSheetRows}
use Rattle.sheet_notes.specs.Notes.{AreNotes}
use Rattle.sheet_notes.proofs.sheets.notes_to.Given as goal

abbrev pub invariant-loop-row : goal.invariant-loop-row
invariant-loop-row l =
    record {
      counted : length l.notes.items ≡ length l.yielded;
      within : length l.notes.items ≤ l.end;
      notes : (right : List Event) → IsWalk l.rules (list_in l.pair) l.events right l.walk → AreSheetRows l.rules (list_in l.pair) l.events right (length l.events) l.fn.rows.items
          → AreNotes l.number l.rules (list_in l.pair) l.events right (length l.notes.items) l.notes.items;
    }
