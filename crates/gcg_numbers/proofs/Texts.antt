-- A sheet with other numbers reads as the record with them.
use Rattle.std.proofs.Common.{◌≡◌, ℕ, ◌<◌, ◌≤◌, Bool, true, false, nat_lt, List, [], ◌∷◌, length, map, Ok, if◌then◌else◌, arith, refl, sym, ap, ◌∙◌}
use Rattle.std.specs.List.{slice_split, join_with_byte}
use Rattle.std.proofs.lemmas.Bool.Decides.{nat_tests}
use Rattle.std.proofs.lemmas.List.Splits.{length-slice_split}
use Rattle.text_lines.specs.Lines.{without_mark, without_return, is_feed, lines_in, lines_of}
use Rattle.gcg_read.specs.declared.faults.Why.TheVariants as why
use Rattle.gcg_read.specs.declared.events.Event.{Event}
use Rattle.gcg_read.specs.declared.records.Record.{Record}
use Rattle.gcg_read.specs.Players.{no_players}
use Rattle.gcg_read.specs.Records.{most_bytes, no_record, record_from, record_of}
use Rattle.gcg_write.proofs.Each.{Each}
use Rattle.gcg_write.proofs.Inversions.{passed}
use Rattle.gcg_numbers.specs.Numbers.{is_event_line, line_with, lines_with, text_with}
use Rattle.gcg_numbers.specs.Laws.{AreOther, IsReadWithNumbers}
use Rattle.gcg_numbers.proofs.Feeds.{HasNoFeed, others_written, lines_no_feed, split_no_feed, joined_again}
use Rattle.gcg_numbers.proofs.Lines.{walked}
use Rattle.gcg_numbers.proofs.Marks.{marked}

number_by : (event : Event) (events : List Event) (line : List ℕ) (lines : List (List ℕ)) (b : Bool) → length (lines_with events lines) ≡ length lines → length (lines_with (event ∷ events) lines) ≡ length lines
    → length (if b then line_with event line ∷ lines_with events lines else line ∷ lines_with (event ∷ events) lines) ≡ length (line ∷ lines)
number_by event events line lines true h k = omega (arith, h)
number_by event events line lines false h k = omega (arith, k)

many : (events : List Event) (lines : List (List ℕ)) → length (lines_with events lines) ≡ length lines
many events [] = refl
many [] (line ∷ lines) = refl
many (event ∷ events) (line ∷ lines) = number_by event events line lines (is_event_line line) (many events lines) (many (event ∷ events) lines)

pub again : (lines : List (List ℕ)) → 0 < length lines → Each HasNoFeed lines → slice_split is_feed (join_with_byte 10 lines) ≡ lines
again [] some h = absurd (omega arith)
again (line ∷ lines) some h = joined_again line lines h

lines_again : (events : List Event) (old : List Event) (text : List ℕ) → AreOther old events → lines_of (text_with events text) ≡ map without_return (lines_with events (slice_split is_feed (without_mark text)))
unfolding text_with lines_in
lines_again events old text other =
    let raws = slice_split is_feed (without_mark text) in
    let some : 0 < length (lines_with events raws) = omega (arith, many events raws, length-slice_split is_feed (without_mark text)) in
    let parts : slice_split is_feed (join_with_byte 10 (lines_with events raws)) ≡ lines_with events raws =
    again (lines_with events raws) some (lines_no_feed events raws (others_written old events other) (split_no_feed (without_mark text))) in
    ap (λ l. map without_return (slice_split is_feed l)) (marked events text) ∙ ap (map without_return) parts

pub read_lines : (text : List ℕ) (r : Record) → record_of text ≡ Ok r → record_from no_record 1 (lines_of text) ≡ Ok r
unfolding record_of
read_lines text r h = (passed (nat_lt most_bytes (length text)) (record { line = 0; why = why.TooLong }) (record_from no_record 1 (lines_of text)) r h).1

pub short_lines : (text : List ℕ) (r : Record) → length text ≤ most_bytes → record_from no_record 1 (lines_of text) ≡ Ok r → record_of text ≡ Ok r
unfolding record_of
short_lines text r short h =
    let few : nat_lt most_bytes (length text) ≡ false = grind (arith, nat_tests) in
    rw few h

pub as_split : (text : List ℕ) → lines_of text ≡ map without_return (slice_split is_feed (without_mark text))
unfolding lines_in
as_split text = refl

pub read_with_numbers : IsReadWithNumbers
read_with_numbers text r events read other short =
    let raws = slice_split is_feed (without_mark text) in
    let old : record_from no_record 1 (map without_return raws) ≡ Ok r = ap (record_from no_record 1) (sym (as_split text)) ∙ read_lines text r read in
    let new = walked raws 1 r no_players [] [] r.events events old refl refl other in
    short_lines (text_with events text) (record r { events = events }) short (ap (record_from no_record 1) (lines_again events r.events text other) ∙ new)
