-- One more byte of a text that is read from a place on.
use Rattle.std.proofs.Common.{◌≡◌, ℕ, ◌+◌, Option, None, Some, option_map, Bool, true, false, ◌||◌, ◌==◌, if◌then◌else◌, List, [], ◌∷◌, ◌++◌, map, length, refl, sym, ap, ◌∙◌, append_assoc, arith}
use Rattle.std.specs.List.{join_with_byte, slice_split, take_while, onto_first}
use Rattle.std.proofs.lemmas.List.Splits.{slice_split-cons_yes, slice_split-cons_no, length-slice_split}
use Rattle.std.proofs.lemmas.Bool.Decides.{nat_tests}
use Rattle.std.proofs.lemmas.List.Sums.{take_while-cons}
use Rattle.text_lines.specs.Fields.{is_blank}
use Rattle.text_lines.specs.Lines.{is_feed}
use Rattle.lex_words.specs.Fields.{is_solid, is_remark, first_field, first_fields}
use Rattle.lex_words.specs.Places.{rest_of, rests_of, fields_from, place_within, place_after, is_field, kept_of, IsKept}
use Rattle.std.specs.Io.KnownBytes.{Consumes, Keeps, IsAtEnd}
use Rattle.lex_words.specs.declared.places.Place.{Place}
use Rattle.lex_words.specs.declared.places.Place.TheVariants.{Beginning, Field, After}

-- from the beginning of a line on, each line is read from its beginning on
pub all_lines : (lines : List (List ℕ)) → rests_of Beginning lines ≡ map first_field lines
unfolding rests_of rest_of
all_lines [] = refl
all_lines (line ∷ lines) = refl

pub from_beginning : (text : List ℕ) → fields_from Beginning text ≡ first_fields text
unfolding fields_from first_fields
from_beginning text = ap (join_with_byte 10) (all_lines (slice_split is_feed text))

-- nothing is kept at the end of a line
rest_none : (place : Place) → rest_of place [] ≡ []
unfolding rest_of first_field is_remark
rest_none Beginning = refl
rest_none Field = refl
rest_none After = refl

-- what is kept of a byte that does not end a line
kept_within : Place → ℕ → List ℕ
kept_within place byte = if is_field (place_within place byte) then byte ∷ [] else []

-- one more byte of a field
field_by : (byte : ℕ) (line : List ℕ) (blank : Bool) → is_blank byte ≡ blank
    → take_while is_solid (byte ∷ line)
    ≡ (if is_field (if blank then After else Field) then byte ∷ [] else []) ++ rest_of (if blank then After else Field) line
unfolding rest_of
field_by byte line true e = rw (take_while-cons is_solid byte line, e) refl
field_by byte line false e = rw (take_while-cons is_solid byte line, e) refl

-- one more byte at the beginning of a line
first_by : (byte : ℕ) (line : List ℕ) (remark blank : Bool) → (byte == 35) ≡ remark → is_blank byte ≡ blank
    → (if byte == 35 then [] else take_while is_solid (byte ∷ line))
    ≡ (if is_field (if remark || blank then After else Field) then byte ∷ [] else []) ++ rest_of (if remark || blank then After else Field) line
unfolding rest_of
first_by byte line true blank e f = rw e refl
first_by byte line false blank e f = rw e (field_by byte line blank f)

-- one more byte of a line
rest_more : (place : Place) (byte : ℕ) (line : List ℕ)
    → rest_of place (byte ∷ line) ≡ kept_within place byte ++ rest_of (place_within place byte) line
unfolding rest_of kept_within first_field place_within is_remark
rest_more Beginning byte line = first_by byte line (byte == 35) (is_blank byte) refl refl
rest_more Field byte line = field_by byte line (is_blank byte) refl
rest_more After byte line = refl

-- what is before the first line of joined lines is before all
joined_more : (front line : List ℕ) (lines : List (List ℕ))
    → join_with_byte 10 ((front ++ line) ∷ lines) ≡ front ++ join_with_byte 10 (line ∷ lines)
joined_more front line [] = refl
joined_more front line (next ∷ lines) = append_assoc front line (10 ∷ join_with_byte 10 (next ∷ lines))

-- lines with one more byte before the first
lines_more : (place : Place) (byte : ℕ) (lines : List (List ℕ))
    → join_with_byte 10 (rests_of place (onto_first byte lines))
    ≡ kept_within place byte ++ join_with_byte 10 (rests_of (place_within place byte) lines)
unfolding rests_of
lines_more place byte [] =
    ap (λ l. join_with_byte 10 (l ∷ [])) (rest_more place byte [] ∙ ap (λ l. kept_within place byte ++ l) (rest_none (place_within place byte)))
lines_more place byte (line ∷ lines) =
    ap (λ l. join_with_byte 10 (l ∷ map first_field lines)) (rest_more place byte line)
    ∙ joined_more (kept_within place byte) (rest_of (place_within place byte) line) (map first_field lines)

-- the end of a line
feed_more : (place : Place) (lines : List (List ℕ)) (n : ℕ) → length lines ≡ n + 1
    → join_with_byte 10 (rests_of place ([] ∷ lines)) ≡ 10 ∷ join_with_byte 10 (rests_of Beginning lines)
unfolding rests_of rest_of
feed_more place [] n some = absurd (omega arith)
feed_more place (line ∷ lines) n some = rw (rest_none place) refl

-- one more byte of a text, which ends a line or not
more_by : (place : Place) (byte : ℕ) (text : List ℕ) (feed : Bool) → (byte == 10) ≡ feed
    → join_with_byte 10 (rests_of place (slice_split is_feed (byte ∷ text)))
    ≡ (if feed || is_field (place_within place byte) then byte ∷ [] else [])
    ++ join_with_byte 10 (rests_of (if feed then Beginning else place_within place byte) (slice_split is_feed text))
unfolding kept_within
more_by place byte text true e =
    let same : byte ≡ 10 = grind (arith, nat_tests) in
    rw (slice_split-cons_yes is_feed byte text e, same) (feed_more place (slice_split is_feed text) _ (length-slice_split is_feed text))
more_by place byte text false e = rw (slice_split-cons_no is_feed byte text e) (lines_more place byte (slice_split is_feed text))

pub more : (place : Place) (byte : ℕ) (text : List ℕ)
    → fields_from place (byte ∷ text) ≡ kept_of place byte ++ fields_from (place_after place byte) text
unfolding fields_from kept_of place_after
more place byte text = more_by place byte text (byte == 10) refl

-- a front of a text with one more byte
pub kept_more : (place next : Place) (front kept : List ℕ) (byte : ℕ) → IsKept place front next kept
    → IsKept place (front ++ byte ∷ []) (place_after next byte) (kept ++ kept_of next byte)
kept_more place next front kept byte h rest =
    ap (fields_from place) (append_assoc front (byte ∷ []) rest) ∙ h (byte ∷ rest) ∙ ap (λ l. kept ++ l) (more next byte rest)
    ∙ sym (append_assoc kept (kept_of next byte) (fields_from (place_after next byte) rest))

-- nothing is kept of an empty text
none_from : (place : Place) → fields_from place [] ≡ []
unfolding fields_from rests_of
none_from place = rest_none place

-- what is kept of the bytes that are left after a front of them was taken
pub fields_taken : (place next : Place) (a b : Option (List ℕ)) (front kept : List ℕ) → Consumes a b front → IsKept place front next kept
    → Consumes (option_map (fields_from place) a) (option_map (fields_from next) b) kept
fields_taken place next None b front kept h k = tt
fields_taken place next (Some x) None front kept h k = absurd h
fields_taken place next (Some x) (Some y) front kept h k = ap (fields_from place) h ∙ k y

pub fields_kept : (place : Place) (a b : Option (List ℕ)) → Keeps a b → Keeps (option_map (fields_from place) a) (option_map (fields_from place) b)
fields_kept place None b h = tt
fields_kept place (Some x) None h = absurd h
fields_kept place (Some x) (Some y) h = ap (fields_from place) h

pub fields_end : (place : Place) (a : Option (List ℕ)) → IsAtEnd a → IsAtEnd (option_map (fields_from place) a)
fields_end place None h = tt
fields_end place (Some x) h = ap (fields_from place) h ∙ none_from place

pub fields_begin : (a : Option (List ℕ)) → option_map (fields_from Beginning) a ≡ option_map first_fields a
fields_begin None = refl
fields_begin (Some x) = ap Some (from_beginning x)
