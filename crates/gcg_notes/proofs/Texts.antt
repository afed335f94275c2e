-- A sheet with notes: its mark, its lines, and the record that it gives.
use Rattle.std.proofs.Common.{◌≡◌, ℕ, ◌<◌, Bool, true, false, List, [], ◌∷◌, ◌++◌, length, drop, map, Ok, if◌then◌else◌, arith, refl, sym, ap, subst, ◌∙◌}
use Rattle.std.specs.List.{slice_split, join_with_byte}
use Rattle.std.proofs.lemmas.List.Splits.{length-slice_split, join_with_byte-slice_split}
use Rattle.text_lines.specs.Lines.{without_mark, without_return, is_feed, lines_of}
use Rattle.gcg_read.specs.Players.{no_players}
use Rattle.gcg_read.specs.Records.{no_record, record_from}
use Rattle.gcg_numbers.specs.Numbers.{mark_of}
use Rattle.gcg_numbers.proofs.Feeds.{split_no_feed}
use Rattle.gcg_numbers.proofs.Marks.{mark, begins, stays}
use Rattle.gcg_numbers.proofs.Texts.{again, read_lines, short_lines, as_split}
use Rattle.gcg_notes.specs.Laws.{IsReadWithNotes, IsOnlyNoted, AreNoted}
use Rattle.gcg_notes.specs.Notes.{raw_lines, with_notes, text_with_notes}
use Rattle.gcg_notes.proofs.Feeds.{first_stays, notes_no_feed, only_notes}
use Rattle.gcg_notes.proofs.Lines.{walked}

-- ---- the mark

unmarked : (notes lines : List (List ℕ)) → begins (join_with_byte 10 lines) ≡ false → begins (join_with_byte 10 (with_notes notes lines)) ≡ false
unmarked notes [] h = refl
unmarked notes (line ∷ lines) h =
    let f = first_stays notes line lines in
    subst (λ l. begins (join_with_byte 10 l) ≡ false) (sym f.whole) (stays line lines f.rest h)

own : (text : List ℕ) → begins text ≡ false → begins (join_with_byte 10 (slice_split is_feed text)) ≡ false
own text e = ap begins (join_with_byte-slice_split 10 text) ∙ e

after_by : (notes : List (List ℕ)) (text : List ℕ) (b : Bool) → begins text ≡ b
    → without_mark ((if b then mark else []) ++ join_with_byte 10 (with_notes notes (slice_split is_feed (if b then drop 3 text else text))))
    ≡ join_with_byte 10 (with_notes notes (slice_split is_feed (if b then drop 3 text else text)))
after_by notes text true e = refl
after_by notes text false e =
    let out = join_with_byte 10 (with_notes notes (slice_split is_feed text)) in
    ap (λ (x : Bool). if x then drop 3 out else out) (unmarked notes (slice_split is_feed text) (own text e))

after_mark : (notes text : List ℕ) → without_mark (text_with_notes notes text) ≡ join_with_byte 10 (with_notes (raw_lines notes) (raw_lines (without_mark text)))
unfolding text_with_notes
after_mark notes text = after_by (raw_lines notes) text (begins text) refl

mark_by : (notes : List (List ℕ)) (text : List ℕ) (b : Bool) → begins text ≡ b
    → mark_of ((if b then mark else []) ++ join_with_byte 10 (with_notes notes (slice_split is_feed (if b then drop 3 text else text)))) ≡ (if b then mark else [])
mark_by notes text true e = refl
mark_by notes text false e = ap (λ (x : Bool). if x then mark else []) (unmarked notes (slice_split is_feed text) (own text e))

same_mark : (notes text : List ℕ) → mark_of (text_with_notes notes text) ≡ mark_of text
unfolding text_with_notes
same_mark notes text = mark_by (raw_lines notes) text (begins text) refl

-- ---- the lines

some_line : (notes lines : List (List ℕ)) → 0 < length lines → 0 < length (with_notes notes lines)
some_line notes [] some = absurd (omega arith)
some_line notes (line ∷ lines) some =
    let f = first_stays notes line lines in
    omega (arith, ap length f.whole)

parts : (notes text : List ℕ) → raw_lines (without_mark (text_with_notes notes text)) ≡ with_notes (raw_lines notes) (raw_lines (without_mark text))
parts notes text =
    let lines = raw_lines (without_mark text) in
    let f = some_line (raw_lines notes) lines (omega (arith, length-slice_split is_feed (without_mark text))) in
    ap raw_lines (after_mark notes text)
    ∙ again (with_notes (raw_lines notes) lines) f (notes_no_feed (raw_lines notes) lines (split_no_feed notes) (split_no_feed (without_mark text)))

pub only_noted : IsOnlyNoted
only_noted notes text =
    record {
      mark = same_mark notes text;
      lines = subst (AreNoted (raw_lines (without_mark text))) (sym (parts notes text)) (only_notes (raw_lines notes) (raw_lines (without_mark text)));
    }

-- ---- the record

pub read_with_notes : IsReadWithNotes
read_with_notes notes text r read short =
    let lines = raw_lines (without_mark text) in
    let old : record_from no_record 1 (map without_return lines) ≡ Ok r = ap (record_from no_record 1) (sym (as_split text)) ∙ read_lines text r read in
    let new = walked lines 1 r no_players [] [] (raw_lines notes) 1 old tt in
    let same : lines_of (text_with_notes notes text) ≡ map without_return (with_notes (raw_lines notes) lines) =
    as_split (text_with_notes notes text) ∙ ap (map without_return) (parts notes text) in
    record {
      new = new.new;
      reads = short_lines (text_with_notes notes text) new.new short (ap (record_from no_record 1) same ∙ new.read);
      players = new.players;
      events = new.events;
    }
