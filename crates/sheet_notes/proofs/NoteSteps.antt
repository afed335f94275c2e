-- The notes of the events of a record, place by place.
use Rattle.std.proofs.Common.{◌≡◌, ◌∙◌, ℕ, ◌+◌, ◌<◌, List, [], ◌∷◌, ◌++◌, length, get_or, slice_get, Some, refl, sym, ap, subst}
use Rattle.std.proofs.lemmas.Option.{slice_get_read}
use Rattle.ref_tiles.specs.declared.rulebook.Rules.{Rules}
use Rattle.gcg_read.specs.declared.events.Event.{Event}
use Rattle.sheet_scores.specs.declared.rows.SheetRow.{SheetRow}
use Rattle.sheet_scores.specs.Rows.{IsSheetRowAt, AreSheetRows}
use Rattle.sheet_scores.proofs.SheetRows.{none_yet, one_more, one_longer}
use Rattle.sheet_notes.specs.declared.sheets.EventNote.{EventNote}
use Rattle.sheet_notes.specs.Notes.{IsNoteAt, AreNotes}

pub no_notes : (number : ℕ) (rules : Rules) (list : List (List ℕ)) (written right : List Event) → AreNotes number rules list written right 0 []
no_notes number rules list written right = record { as_many = refl; each = none_yet (IsNoteAt number rules list written right) }

-- one more note
pub notes_more : (number : ℕ) (rules : Rules) (list : List (List ℕ)) (written right : List Event) (place : ℕ) (notes more : List EventNote) (note : EventNote)
    → AreNotes number rules list written right place notes → IsNoteAt number rules list written right place note → more ≡ notes ++ note ∷ []
    → AreNotes number rules list written right (place + 1) more
notes_more number rules list written right place notes more note are at pushed =
    subst (λ xs. AreNotes number rules list written right (place + 1) xs) (sym pushed)
    (record {
      as_many = one_longer notes note ∙ ap (λ n. n + 1) are.as_many;
      each = one_more (IsNoteAt number rules list written right) notes note are.each (subst (λ n. IsNoteAt number rules list written right n note) (sym are.as_many) at);
    })

-- the row of a score sheet at a place is that of the event there
pub row_of : (rules : Rules) (list : List (List ℕ)) (written right : List Event) (end place : ℕ) (rows : List SheetRow) (row : SheetRow) → AreSheetRows rules list written right end rows
    → place < length rows → row ≡ get_or rows place row → IsSheetRowAt rules list written right place row
row_of rules list written right end place rows row are within is = are.each place row (slice_get_read rows (length rows) place row refl within is)
