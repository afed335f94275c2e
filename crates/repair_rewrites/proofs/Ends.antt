-- Lines with an LF after each, and lines with an LF between each two.
use Rattle.std.proofs.Common.{◌≡◌, ℕ, ◌-◌, eqb, Bool, true, false, List, [], ◌∷◌, ◌++◌, length, take, drop, if◌then◌else◌, arith, refl, sym, ap, ◌∙◌}
use Rattle.std.specs.List.{starts_with, ends_with, join_with_byte}
use Rattle.std.specs.Cmp.Lexicographic.{pointwise}
use Rattle.std.proofs.lemmas.List.{append_assoc, append-nil, length-append}
use Rattle.gcg_numbers.specs.Numbers.{mark_of}
use Rattle.gcg_write.specs.Normal.{text_of_lines}
use Rattle.gcg_read.specs.declared.events.Event.{Event}
use Rattle.gcg_read.specs.declared.players.Players.{Players}
use Rattle.text_lines.specs.Lines.{without_mark}
use Rattle.repair_changes.specs.declared.slips.Change.{Change}
use Rattle.repair_rewrites.specs.Ends.{without_last_feed}
use Rattle.repair_rewrites.specs.EventLines.{raw_lines, event_lines}
use Rattle.repair_rewrites.specs.Texts.{repaired_lines, repaired_text}

feeds : (line : List ℕ) (lines : List (List ℕ)) → text_of_lines (line ∷ lines) ≡ join_with_byte 10 (line ∷ lines) ++ 10 ∷ []
feeds line [] = append-nil (line ++ 10 ∷ [])
feeds line (next ∷ lines) =
    append_assoc line (10 ∷ []) (text_of_lines (next ∷ lines)) ∙ ap (λ l. line ++ 10 ∷ l) (feeds next lines)
    ∙ sym (append_assoc line (10 ∷ join_with_byte 10 (next ∷ lines)) (10 ∷ []))

-- ---- the last byte of a text

following : (xs ys : List ℕ) → drop (length xs) (xs ++ ys) ≡ ys
following [] ys = refl
following (x ∷ xs) ys = following xs ys

before : (xs ys : List ℕ) → take (length xs) (xs ++ ys) ≡ xs
before [] ys = refl
before (x ∷ xs) ys = ap (λ l. x ∷ l) (before xs ys)

one_less : (xs : List ℕ) (y : ℕ) → length (xs ++ y ∷ []) - 1 ≡ length xs
one_less xs y = omega (arith, length-append xs (y ∷ []))

last_one : (xs : List ℕ) (y : ℕ) → drop (length (xs ++ y ∷ []) - 1) (xs ++ y ∷ []) ≡ y ∷ []
last_one xs y = ap (λ (n : ℕ). drop n (xs ++ y ∷ [])) (one_less xs y) ∙ following xs (y ∷ [])

all_before : (xs : List ℕ) (y : ℕ) → take (length (xs ++ y ∷ []) - 1) (xs ++ y ∷ []) ≡ xs
all_before xs y = ap (λ (n : ℕ). take n (xs ++ y ∷ [])) (one_less xs y) ∙ before xs (y ∷ [])

ends : (text : List ℕ) → ends_with eqb (text ++ 10 ∷ []) (10 ∷ []) ≡ true
ends text = ap (pointwise eqb (10 ∷ [])) (last_one text 10)

drop_by : (text : List ℕ) (b : Bool) → b ≡ true → (if b then take (length (text ++ 10 ∷ []) - 1) (text ++ 10 ∷ []) else text ++ 10 ∷ []) ≡ text
drop_by text true e = all_before text 10
drop_by text false e = absurd cc

dropped : (text : List ℕ) → without_last_feed (text ++ 10 ∷ []) ≡ text
dropped text = drop_by text (ends_with eqb (text ++ 10 ∷ []) (10 ∷ [])) (ends text)

mark_by : (text : List ℕ) (b : Bool) → starts_with eqb text (0xef ∷ 0xbb ∷ 0xbf ∷ []) ≡ b → without_last_feed (mark_of text) ≡ mark_of text
mark_by text true e = rw e refl
mark_by text false e = rw e refl

-- ---- the whole text

pub whole : (text : List ℕ) (lines : List (List ℕ)) → without_last_feed (mark_of text ++ text_of_lines lines) ≡ mark_of text ++ join_with_byte 10 lines
whole text [] =
    ap without_last_feed (append-nil (mark_of text)) ∙ mark_by text (starts_with eqb text (0xef ∷ 0xbb ∷ 0xbf ∷ [])) refl ∙ sym (append-nil (mark_of text))
whole text (line ∷ lines) =
    ap without_last_feed (ap (λ l. mark_of text ++ l) (feeds line lines) ∙ sym (append_assoc (mark_of text) (join_with_byte 10 (line ∷ lines)) (10 ∷ [])))
    ∙ dropped (mark_of text ++ join_with_byte 10 (line ∷ lines))

pub written : (change : Change) (players : Players) (right : List Event) (text out marked given made unmarked : List ℕ) (events : List (List ℕ)) → events ≡ event_lines text → unmarked ≡ without_mark text
    → out ≡ [] → marked ≡ out ++ mark_of text → given ≡ marked ++ text_of_lines (repaired_lines change players events right 0 (raw_lines unmarked)) → made ≡ without_last_feed given
    → made ≡ repaired_text change players right text
unfolding repaired_text
written change players right text out marked given made unmarked events e u o m g d =
    let lines = repaired_lines change players events right 0 (raw_lines unmarked) in
    d ∙ ap without_last_feed (g ∙ ap (λ (l : List ℕ). l ++ text_of_lines lines) (m ∙ ap (λ (l : List ℕ). l ++ mark_of text) o)) ∙ whole text lines
    ∙ ap (λ (l : List (List ℕ)). mark_of text ++ join_with_byte 10 (repaired_lines change players l right 0 (raw_lines unmarked))) e
    ∙ ap (λ (l : List ℕ). mark_of text ++ join_with_byte 10 (repaired_lines change players (event_lines text) right 0 (raw_lines l))) u
