-- One more byte of a text whose words are kept.
use Rattle.std.proofs.Common.{◌≡◌, ℕ, ◌+◌, ◌-◌, ◌≤◌, Option, None, Some, option_map, Bool, true, false, ◌==◌, ◌&&◌, if◌then◌else◌, List, [], ◌∷◌, ◌++◌, map, length, take, drop, refl, sym, ap, ◌∙◌, append_assoc, append-nil, arith, subst}
use Rattle.std.specs.Prelude.{nat_lt, nat_le, eqb}
use Rattle.std.specs.List.{join_with_byte, slice_split, onto_first, starts_with, ends_with, list_all}
use Rattle.std.specs.Char.{is_ascii_alphabetic}
use Rattle.std.proofs.lemmas.List.{length-take, length-drop, length-append, take-append-drop, drop-drop}
use Rattle.std.proofs.Math.Seq.{take-append_seam}
use Rattle.std.proofs.lemmas.List.Splits.{slice_split-cons_yes, slice_split-cons_no, length-slice_split}
use Rattle.std.proofs.lemmas.Bool.Decides.{nat_tests}
use Rattle.text_lines.specs.Lines.{is_feed, without_mark}
use Rattle.lex_list.specs.Words.{has_word_length}
use Rattle.lex_words.specs.Lines.{bare_line, kept_of, kept_lines, word_lines}
use Rattle.std.specs.Io.KnownBytes.{Consumes, IsAtEnd, Keeps}
use Rattle.lex_words.specs.Reading.{most_held, held_with, kept_by, words_from, remaining_of}

-- ---- long lines

cut_by : (line : List ℕ) (cut : Bool) → length line ≤ length (if cut then take (length line - 1) line else line) + 1
cut_by line true = omega (arith, length-take (length line - 1) line)
cut_by line false = omega arith

mark_by : (line : List ℕ) (cut : Bool) → length line ≤ length (if cut then drop 3 line else line) + 3
mark_by line true = omega (arith, length-drop 3 line)
mark_by line false = omega arith

long_bare : (first : Bool) (line : List ℕ) → length line ≤ length (bare_line first line) + 4
long_bare true line =
    omega (arith, mark_by line (starts_with eqb line (0xef ∷ 0xbb ∷ 0xbf ∷ [])), cut_by (without_mark line) (ends_with eqb (without_mark line) (13 ∷ [])))
long_bare false line = omega (arith, cut_by line (ends_with eqb line (13 ∷ [])))

none_kept : (line : List ℕ) (letters : Bool) (bare : List ℕ) → 16 ≤ length bare → (if letters && has_word_length bare then line else []) ≡ []
none_kept line true bare long = let t : nat_le (length bare) 15 ≡ false = grind (arith, nat_tests) in grind (arith, nat_tests)
none_kept line false bare long = refl

-- a line with that many bytes is not a word
too_long : (first : Bool) (line : List ℕ) → most_held ≤ length line → kept_of first line ≡ []
unfolding kept_of
too_long first line long =
    none_kept line (list_all is_ascii_alphabetic (bare_line first line)) (bare_line first line) (omega (arith, long_bare first line))

-- ---- one more byte of a line

held_by : (first : Bool) (held line : List ℕ) (byte : ℕ) (short : Bool) → nat_lt (length held) most_held ≡ short
    → kept_of first (held ++ byte ∷ line) ≡ kept_of first ((if short then held ++ byte ∷ [] else held) ++ line)
held_by first held line byte true e = ap (kept_of first) (sym (append_assoc held (byte ∷ []) line))
held_by first held line byte false e =
    let long : most_held ≤ length held = grind (arith, nat_tests) in
    too_long first (held ++ byte ∷ line) (omega (arith, length-append held (byte ∷ line)))
    ∙ sym (too_long first (held ++ line) (omega (arith, length-append held line)))

lines_more : (first : Bool) (held : List ℕ) (byte : ℕ) (lines : List (List ℕ)) (n : ℕ) → length lines ≡ n + 1
    → kept_by first held (onto_first byte lines) ≡ kept_by first (held_with held byte) lines
lines_more first held byte [] n some = absurd (omega arith)
lines_more first held byte (line ∷ lines) n some =
    ap (λ (kept : List ℕ). kept ∷ map (kept_of false) lines) (held_by first held line byte (nat_lt (length held) most_held) refl)

more : (first : Bool) (held : List ℕ) (byte : ℕ) (text : List ℕ) → is_feed byte ≡ false → words_from first held (byte ∷ text) ≡ words_from first (held_with held byte) text
unfolding words_from
more first held byte text e =
    ap (λ lines. join_with_byte 10 (kept_by first held lines)) (slice_split-cons_no is_feed byte text e)
    ∙ ap (join_with_byte 10) (lines_more first held byte (slice_split is_feed text) _ (length-slice_split is_feed text))

-- ---- the end of a line

feed_lines : (kept : List ℕ) (lines : List (List ℕ)) (n : ℕ) → length lines ≡ n + 1
    → join_with_byte 10 (kept ∷ map (kept_of false) lines) ≡ (kept ++ 10 ∷ []) ++ join_with_byte 10 (kept_by false [] lines)
feed_lines kept [] n some = absurd (omega arith)
feed_lines kept (line ∷ lines) n some = sym (append_assoc kept (10 ∷ []) (join_with_byte 10 (kept_by false [] (line ∷ lines))))

ended : (first : Bool) (held text : List ℕ) → words_from first held (10 ∷ text) ≡ (kept_of first held ++ 10 ∷ []) ++ words_from false [] text
unfolding words_from
ended first held text =
    ap (λ lines. join_with_byte 10 (kept_by first held lines)) (slice_split-cons_yes is_feed 10 text refl)
    ∙ ap (λ line. join_with_byte 10 (kept_of first line ∷ map (kept_of false) (slice_split is_feed text))) (append-nil held)
    ∙ feed_lines (kept_of first held) (slice_split is_feed text) _ (length-slice_split is_feed text)

-- ---- the end of a text, and its beginning

at_end : (first : Bool) (held : List ℕ) → words_from first held [] ≡ kept_of first held
unfolding words_from
at_end first held = ap (kept_of first) (append-nil held)

nothing : words_from false [] [] ≡ []
unfolding words_from kept_of
nothing = refl

from_lines : (lines : List (List ℕ)) → kept_by true [] lines ≡ kept_lines lines
from_lines [] = refl
from_lines (line ∷ lines) = refl

begun : (text : List ℕ) → words_from true [] text ≡ word_lines text
unfolding words_from word_lines
begun text = ap (join_with_byte 10) (from_lines (slice_split is_feed text))

-- ---- what is left to be given out

-- nothing was read yet
pub remaining_first : (a : Option (List ℕ)) → remaining_of [] true [] [] a ≡ option_map word_lines a
unfolding remaining_of
remaining_first None = refl
remaining_first (Some x) = ap Some (begun x)

-- some of what is ready is given out
remaining_given : (front ready : List ℕ) (first : Bool) (held chunk : List ℕ) (a : Option (List ℕ))
    → Consumes (remaining_of (front ++ ready) first held chunk a) (remaining_of ready first held chunk a) front
unfolding remaining_of
remaining_given front ready first held chunk None = tt
remaining_given front ready first held chunk (Some x) = append_assoc front ready (words_from first held (chunk ++ x))

-- a byte that does not end a line is taken from the chunk
pub remaining_more : (first : Bool) (held chunk : List ℕ) (byte : ℕ) (a : Option (List ℕ)) → is_feed byte ≡ false
    → Keeps (remaining_of [] first held (byte ∷ chunk) a) (remaining_of [] first (held_with held byte) chunk a)
unfolding remaining_of
remaining_more first held chunk byte None e = tt
remaining_more first held chunk byte (Some x) e = sym (more first held byte (chunk ++ x) e)

-- an LF is taken from the chunk
pub remaining_ended : (first : Bool) (held chunk : List ℕ) (a : Option (List ℕ))
    → Keeps (remaining_of [] first held (10 ∷ chunk) a) (remaining_of (kept_of first held ++ 10 ∷ []) false [] chunk a)
unfolding remaining_of
remaining_ended first held chunk None = tt
remaining_ended first held chunk (Some x) = sym (ended first held (chunk ++ x))

-- a chunk is read
pub remaining_read : (first : Bool) (held chunk : List ℕ) (a b : Option (List ℕ)) → Consumes a b chunk
    → Keeps (remaining_of [] first held [] a) (remaining_of [] first held chunk b)
unfolding remaining_of
remaining_read first held chunk None b h = tt
remaining_read first held chunk (Some x) None h = absurd h
remaining_read first held chunk (Some x) (Some y) h = ap (words_from first held) (sym h)

-- a read that failed
pub remaining_kept : (first : Bool) (held : List ℕ) (a b : Option (List ℕ)) → Keeps a b → Keeps (remaining_of [] first held [] a) (remaining_of [] first held [] b)
unfolding remaining_of
remaining_kept first held None b h = tt
remaining_kept first held (Some x) None h = absurd h
remaining_kept first held (Some x) (Some y) h = ap (words_from first held) h

-- the text ends
pub remaining_last : (first : Bool) (held : List ℕ) (a : Option (List ℕ)) → IsAtEnd a → Keeps (remaining_of [] first held [] a) (remaining_of (kept_of first held) false [] [] a)
unfolding remaining_of
remaining_last first held None h = tt
remaining_last first held (Some x) h =
    rw h (ap (λ l. kept_of first held ++ l) nothing ∙ append-nil (kept_of first held) ∙ sym (at_end first held))

-- nothing is left at the end of a text if no line is being read
remaining_none : (a : Option (List ℕ)) → IsAtEnd a → IsAtEnd (remaining_of [] false [] [] a)
unfolding remaining_of
remaining_none None h = tt
remaining_none (Some x) h = rw h nothing

-- a line of no bytes is not a word
pub kept_of_none : (first : Bool) → kept_of first [] ≡ []
unfolding kept_of
kept_of_none true = refl
kept_of_none false = refl

-- nothing is left at the end of a text if no byte of the line that is being read was held back
pub remaining_empty : (ready held : List ℕ) (first : Bool) (a : Option (List ℕ)) → ready ≡ kept_of first held → (length held == 0) ≡ true → IsAtEnd a
    → IsAtEnd (remaining_of ready false [] [] a)
remaining_empty ready [] first a e none h = rw (e, kept_of_none first) (remaining_none a h)
remaining_empty ready (byte ∷ held) first a e none h = absurd (grind (arith, nat_tests))

front_taken : (n : ℕ) (front back : List ℕ) → length front ≡ n → take n (front ++ back) ≡ front
front_taken n front back e = rw (sym e) (take-append_seam front back)

-- n bytes of what is ready are given out, after those that were
pub remaining_handed : (text : List ℕ) (given n : ℕ) (buf : List ℕ) (first : Bool) (held chunk : List ℕ) (a : Option (List ℕ)) → n ≤ length (drop given text)
    → Consumes (remaining_of (drop given text) first held chunk a) (remaining_of (drop (given + n) text) first held chunk a) (take n (take n (drop given text) ++ drop n buf))
remaining_handed text given n buf first held chunk a few =
    rw (front_taken n (take n (drop given text)) (drop n buf) (omega (arith, length-take n (drop given text))), sym (drop-drop n given text))
    (subst (λ l. Consumes (remaining_of l first held chunk a) (remaining_of (drop n (drop given text)) first held chunk a) (take n (drop given text)))
    (take-append-drop n (drop given text)) (remaining_given (take n (drop given text)) (drop n (drop given text)) first held chunk a))
