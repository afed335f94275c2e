-- A note brings no LF into a line, the first line stays, and all other lines are those that were given.
use Rattle.std.proofs.Common.{◌≡◌, ℕ, Bool, true, false, eqb, List, [], ◌∷◌, ◌++◌, inl, inr, if◌then◌else◌, refl}
use Rattle.std.specs.List.{ends_with}
use Rattle.text_lines.specs.Lines.{is_feed}
use Rattle.gcg_write.proofs.Each.{Each, each_append}
use Rattle.gcg_write.proofs.Splitting.{Fails}
use Rattle.gcg_numbers.specs.Numbers.{is_event_line}
use Rattle.gcg_numbers.proofs.Feeds.{HasNoFeed}
use Rattle.gcg_notes.specs.Laws.{IsNoteLine, AreNoted}
use Rattle.gcg_notes.specs.Notes.{return_of, note_line, noted, with_notes}

-- ---- no LF

return_by : (b : Bool) → HasNoFeed (if b then 13 ∷ [] else [])
return_by true = (refl, tt)
return_by false = tt

note_no_feed : (line note : List ℕ) → HasNoFeed note → HasNoFeed (note_line line note)
note_no_feed line note h =
    (refl, (refl, (refl, (refl, (refl, (refl, each_append (Fails is_feed) note (return_of line) h (return_by (ends_with eqb line (13 ∷ [])))))))))

noted_no_feed : (line note : List ℕ) (lines : List (List ℕ)) → HasNoFeed line → HasNoFeed note → Each HasNoFeed lines → Each HasNoFeed (noted line note ++ lines)
noted_no_feed line [] lines h k l = (h, l)
noted_no_feed line (byte ∷ note) lines h k l = (h, (note_no_feed line (byte ∷ note) k, l))

by_kind : (note line : List ℕ) (some all : List (List ℕ)) (b : Bool) → HasNoFeed note → HasNoFeed line → Each HasNoFeed some → Each HasNoFeed all
    → Each HasNoFeed (if b then noted line note ++ some else line ∷ all)
by_kind note line some all true n h k l = noted_no_feed line note some h n k
by_kind note line some all false n h k l = (h, l)

pub notes_no_feed : (notes lines : List (List ℕ)) → Each HasNoFeed notes → Each HasNoFeed lines → Each HasNoFeed (with_notes notes lines)
notes_no_feed notes [] n h = tt
notes_no_feed [] (line ∷ lines) n h = h
notes_no_feed (note ∷ notes) (line ∷ lines) n h =
    by_kind note line (with_notes notes lines) (with_notes (note ∷ notes) lines) (is_event_line line) n.0 h.0 (notes_no_feed notes lines n.1 h.1) (notes_no_feed (note ∷ notes) lines n h.1)

-- ---- the first line

pub record Begins (line : List ℕ) (lines : List (List ℕ)) : Type 0 where
  pub rest : List (List ℕ)
  pub whole : lines ≡ line ∷ rest

noted_begins : (line note : List ℕ) (lines : List (List ℕ)) → Begins line (noted line note ++ lines)
noted_begins line [] lines = record { rest = lines; whole = refl }
noted_begins line (byte ∷ note) lines = record { rest = note_line line (byte ∷ note) ∷ lines; whole = refl }

begins_by : (note line : List ℕ) (some all : List (List ℕ)) (b : Bool) → Begins line (if b then noted line note ++ some else line ∷ all)
begins_by note line some all true = noted_begins line note some
begins_by note line some all false = record { rest = all; whole = refl }

pub first_stays : (notes : List (List ℕ)) (line : List ℕ) (lines : List (List ℕ)) → Begins line (with_notes notes (line ∷ lines))
first_stays [] line lines = record { rest = lines; whole = refl }
first_stays (note ∷ notes) line lines = begins_by note line (with_notes notes lines) (with_notes (note ∷ notes) lines) (is_event_line line)

-- ---- the lines that were given

same_lines : (lines : List (List ℕ)) → AreNoted lines lines
same_lines [] = tt
same_lines (line ∷ lines) = inl (refl, same_lines lines)

put_in : (new : List ℕ) (olds news : List (List ℕ)) → IsNoteLine new → AreNoted olds news → AreNoted olds (new ∷ news)
put_in new [] news h k = (h, k)
put_in new (line ∷ olds) news h k = inr (h, k)

noted_lines : (line note : List ℕ) (olds news : List (List ℕ)) → AreNoted olds news → AreNoted (line ∷ olds) (noted line note ++ news)
noted_lines line [] olds news h = inl (refl, h)
noted_lines line (byte ∷ note) olds news h = inl (refl, put_in (note_line line (byte ∷ note)) olds news refl h)

lines_by : (note line : List ℕ) (olds some all : List (List ℕ)) (b : Bool) → AreNoted olds some → AreNoted olds all → AreNoted (line ∷ olds) (if b then noted line note ++ some else line ∷ all)
lines_by note line olds some all true h k = noted_lines line note olds some h
lines_by note line olds some all false h k = inl (refl, k)

pub only_notes : (notes lines : List (List ℕ)) → AreNoted lines (with_notes notes lines)
only_notes notes [] = tt
only_notes [] (line ∷ lines) = same_lines (line ∷ lines)
only_notes (note ∷ notes) (line ∷ lines) =
    lines_by note line lines (with_notes notes lines) (with_notes (note ∷ notes) lines) (is_event_line line) (only_notes notes lines) (only_notes (note ∷ notes) lines)
