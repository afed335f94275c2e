-- How many may still be wrong, and how many are in all at some places.
use Rattle.std.proofs.Common.{◌≡◌, ℕ, ℤ, zero, suc, ◌+◌, ◌-◌, ◌<◌, ◌≤◌, Bool, true, false, List, [], ◌∷◌, ◌++◌, length, slice_get, get_or, Option, Some, None, refl, sym, ap, ◌∙◌, subst, arith, if◌then◌else◌}
use Rattle.std.specs.Prelude.{not, cond}
use Rattle.std.specs.List.{flat_map, range_with_len}
use Rattle.std.proofs.lemmas.List.{append_assoc, append-nil, length-append}
use Rattle.std.proofs.lemmas.List.Recursion.{is_count_by}
use Rattle.std.proofs.lemmas.Option.{slice_get_read}
use Rattle.lex_list.specs.Words.{is_listed}
use Rattle.game_turns.specs.LatestEvents.{standing_words}
use Rattle.game_turns.specs.Machines.{state_of}
use Rattle.gcg_read.specs.declared.events.Event.{Event}
use Rattle.game_walk.specs.declared.rows.Row.{Row}
use Rattle.game_corrections.specs.WrongNumbers.{had_before}
use Rattle.game_turns.specs.Unlisted.{unlisted_one, unlisted_of}
use Rattle.repair_single.specs.Remaining.{AreFewer}
use Rattle.repair_single.specs.Sums.{count_scores, count_sums}
use Rattle.repair_single.specs.Counting.{less, Leaves, sum_from, count_unlisted, had_at, count_by_row, count_at_row, count_in_rows}

-- ---- rooms

pub fewer_of : (below : Option ℕ) (one all : ℕ) → one ≤ all → AreFewer below all → AreFewer below one
fewer_of None one all within fewer = tt
fewer_of (Some many) one all within fewer = omega (arith, within, fewer)

pub leaves_less : (room : Option ℕ) (many : ℕ) → Leaves room many (less room many)
leaves_less None many others fewer = tt
leaves_less (Some room) many others fewer = omega (arith, fewer)

pub leaves_by : (room remaining : Option ℕ) (many : ℕ) → remaining ≡ less room many → Leaves room many remaining
leaves_by room remaining many is = subst (Leaves room many) (sym is) (leaves_less room many)

-- if there is no limit, there is none after it
pub leaves_any : (room : Option ℕ) (many : ℕ) → room ≡ None → Leaves room many None
leaves_any room many none others fewer = tt

pub leaves_itself : (room : Option ℕ) → Leaves room 0 room
leaves_itself room others fewer = fewer_of room others (0 + others) (omega arith) fewer

pub leaves_both : (room remaining last : Option ℕ) (one two : ℕ) → Leaves room one remaining → Leaves remaining two last → Leaves room (one + two) last
leaves_both room remaining last one two of_one of_two others fewer =
    of_two others (of_one (two + others) (fewer_of room (one + (two + others)) (one + two + others) (omega arith) fewer))

-- if more are wrong than were counted
pub leaves_more : (room remaining : Option ℕ) (one all : ℕ) → one ≤ all → Leaves room one remaining → Leaves room all remaining
leaves_more room remaining one all within leaves others fewer = leaves others (fewer_of room (one + others) (all + others) (omega (arith, within)) fewer)

pub leaves_to : (room remaining : Option ℕ) (many : ℕ) → Leaves room many remaining → (others all : ℕ) → many + others ≤ all → AreFewer room all → AreFewer remaining others
leaves_to room remaining many leaves others all within fewer = leaves others (fewer_of room (many + others) all within fewer)

none_full : (remaining : Option ℕ) (others : ℕ) → remaining ≡ Some 0 → AreFewer remaining others → ⊥
none_full None others full fewer = cc
none_full (Some room) others full fewer = let is : room ≡ 0 = cc in absurd (omega (arith, fewer, is))

-- if no room is left
pub leaves_none : (room remaining : Option ℕ) (many all : ℕ) → Leaves room many remaining → remaining ≡ Some 0 → many ≤ all → AreFewer room all → ⊥
leaves_none room remaining many all leaves full within fewer = none_full remaining 0 full (leaves_to room remaining many leaves 0 all (omega (arith, within)) fewer)

pub not_false : (b : Bool) → not b ≡ false → b ≡ true
not_false true is = refl
not_false false is = cc

-- ---- what leaves a room

pub words_leave : (room remaining : Option ℕ) (many all : ℕ) → remaining ≡ less room many → many ≡ all → Leaves room all remaining
words_leave room remaining many all is same = subst (λ n. Leaves room n remaining) same (subst (Leaves room many) (sym is) (leaves_less room many))

pub event_leaves : (room first remaining : Option ℕ) (scores words : ℕ) → first ≡ less room scores → Leaves first words remaining → Leaves room (scores + words) remaining
event_leaves room first remaining scores words is leaves =
    leaves_both room first remaining scores words (subst (Leaves room scores) (sym is) (leaves_less room scores)) leaves

pub words_many : (list : List (List ℕ)) (words : List (List ℕ)) → count_unlisted list words ≡ length (unlisted_of list words)
words_many list words = sym (is_count_by (λ (ws : List (List ℕ)). length (unlisted_of list ws)) (λ (w : List ℕ). not (is_listed list w)) refl each words)
  where
    one_more : (word : List ℕ) (rest : List (List ℕ)) (b : Bool) → length (if b then [] else (word ∷ [])) + length rest ≡ cond (not b) (1 + length rest) (length rest)
    one_more word rest true = omega arith
    one_more word rest false = omega arith

    each : (word : List ℕ) (rest : List (List ℕ))
        → length (unlisted_of list (word ∷ rest)) ≡ cond (not (is_listed list word)) (1 + length (unlisted_of list rest)) (length (unlisted_of list rest))
    each word rest = length-append (unlisted_one list word) (unlisted_of list rest) ∙ one_more word (unlisted_of list rest) (is_listed list word)

pub row_leaves : (room remaining : Option ℕ) (list : List (List ℕ)) (row : Row) (had : ℤ) (numbers : ℕ)
    → numbers ≡ count_scores row.written.score row.right.score + count_sums had row.written row.right
    → Leaves room (numbers + count_unlisted list (standing_words (state_of row.following).latest)) remaining → Leaves room (count_by_row list had row) remaining
row_leaves room remaining list row had numbers is leaves =
    let words = words_many list (standing_words (state_of row.following).latest) in
    leaves_more room remaining (numbers + count_unlisted list (standing_words (state_of row.following).latest)) (count_by_row list had row) (omega (arith, is, words)) leaves

pub numbers_leave : (room remaining : Option ℕ) (list : List (List ℕ)) (row : Row) (had : ℤ) (numbers : ℕ)
    → numbers ≡ count_scores row.written.score row.right.score + count_sums had row.written row.right → remaining ≡ less room numbers → Leaves room (count_by_row list had row) remaining
numbers_leave room remaining list row had numbers is made =
    leaves_more room remaining numbers (count_by_row list had row) (omega (arith, is)) (subst (Leaves room numbers) (sym made) (leaves_less room numbers))

-- ---- sums over places

pub sum_within : (f g : ℕ → ℕ) (start many : ℕ) → ((k : ℕ) → start ≤ k → k < start + many → f k ≤ g k) → sum_from f start many ≤ sum_from g start many
sum_within f g start zero each = omega arith
sum_within f g start (suc many) each =
    let rest = sum_within f g start many (λ k from below. each k from (omega (arith, below))) in
    let here = each (start + many) (omega arith) (omega arith) in
    omega (arith, rest, here)

pub sum_joined : (f : ℕ → ℕ) (start one two : ℕ) → sum_from f start (one + two) ≡ sum_from f start one + sum_from f (start + one) two
sum_joined f start one zero =
    let none : one + 0 ≡ one = omega arith in
    let same : sum_from f start (one + 0) ≡ sum_from f start one = ap (sum_from f start) none in
    omega (arith, same)
sum_joined f start one (suc two) =
    let rest = sum_joined f start one two in
    let step : one + suc two ≡ suc (one + two) = omega arith in
    let at : f (start + (one + two)) ≡ f (start + one + two) = ap f (omega arith) in
    ap (sum_from f start) step ∙ omega (arith, rest, at)

-- more places, and no fewer in all
pub sum_more : (f : ℕ → ℕ) (start one two : ℕ) → one ≤ two → sum_from f start one ≤ sum_from f start two
sum_more f start one two within =
    let all = sum_joined f start one (two - one) in
    let same : sum_from f start (one + (two - one)) ≡ sum_from f start two = ap (sum_from f start) (omega (arith, within)) in
    omega (arith, all, same)

-- one more place
pub sum_step : (f : ℕ → ℕ) (start place : ℕ) → start ≤ place → sum_from f start (place + 1 - start) ≡ sum_from f start (place - start) + f place
sum_step f start place following =
    let step : place + 1 - start ≡ suc (place - start) = omega (arith, following) in
    ap (sum_from f start) step ∙ ap (λ k. sum_from f start (place - start) + f k) (omega (arith, following))

pub row_more : (list : List (List ℕ)) (events : List Event) (rows : List Row) (place : ℕ)
    → count_in_rows list events rows (place + 1) ≡ count_in_rows list events rows place + count_at_row list events place (slice_get rows place)
row_more list events rows place =
    let step : place + 1 ≡ suc place = omega arith in
    let here : 0 + place ≡ place = omega arith in
    ap (count_in_rows list events rows) step ∙ ap (λ k. count_in_rows list events rows place + count_at_row list events k (slice_get rows k)) here

row_there : (list : List (List ℕ)) (events : List Event) (rows : List Row) (place : ℕ) (e : Event) (row : Row) → slice_get events place ≡ Some e → slice_get rows place ≡ Some row
    → count_at_row list events place (slice_get rows place) ≡ count_by_row list (had_before events e.player place) row
row_there list events rows place e row of_e at =
    ap (count_at_row list events place) at ∙ ap (λ (o : Option Event). count_by_row list (had_at events place o) row) of_e

-- the rows before a place, and one more
pub rows_leave : (room remaining last : Option ℕ) (list : List (List ℕ)) (events : List Event) (rows : List Row) (place : ℕ) (e : Event) (row : Row) (had : ℤ) → place < length events → place < length rows
    → e ≡ get_or events place e → row ≡ get_or rows place row → had ≡ had_before events e.player place → Leaves room (count_in_rows list events rows place) remaining
    → Leaves remaining (count_by_row list had row) last → Leaves room (count_in_rows list events rows (place + 1)) last
rows_leave room remaining last list events rows place e row had in_events within of_e read is before one =
    let own : slice_get events place ≡ Some e = slice_get_read events (length events) place e refl in_events of_e in
    let at : slice_get rows place ≡ Some row = slice_get_read rows (length rows) place row refl within read in
    let step = row_more list events rows place in
    let here : count_at_row list events place (slice_get rows place) ≡ count_by_row list had row =
    row_there list events rows place e row own at ∙ ap (λ (h : ℤ). count_by_row list h row) (sym is) in
    leaves_more room last (count_in_rows list events rows place + count_by_row list had row) (count_in_rows list events rows (place + 1)) (omega (arith, step, here))
    (leaves_both room remaining last (count_in_rows list events rows place) (count_by_row list had row) before one)

pub range_last : {A : Type 0} (f : ℕ → List A) (a n : ℕ) → flat_map f (range_with_len a (suc n)) ≡ flat_map f (range_with_len a n) ++ f (a + n)
range_last f a zero = append-nil (f a) ∙ ap f (omega arith)
range_last {A} f a (suc n) =
    ap (λ (xs : List A). f a ++ xs) (range_last f (a + 1) n) ∙ sym (append_assoc (f a) (flat_map f (range_with_len (a + 1) n)) (f (a + 1 + n)))
    ∙ ap (λ k. (f a ++ flat_map f (range_with_len (a + 1) n)) ++ f k) (omega arith)

pub sum_lengths : {X : Type 0} (f : ℕ → List X) (many : ℕ) → length (flat_map f (range_with_len 0 many)) ≡ sum_from (λ k. length (f k)) 0 many
sum_lengths f zero = refl
sum_lengths {X} f (suc many) =
    let rest = sum_lengths f many in
    let all = length-append (flat_map f (range_with_len 0 many)) (f (0 + many)) in
    ap (λ (xs : List X). length xs) (range_last f 0 many) ∙ omega (arith, rest, all)

pub sum_two : (f g h : ℕ → ℕ) (many : ℕ) → ((k : ℕ) → h k ≡ f k + g k) → sum_from h 0 many ≡ sum_from f 0 many + sum_from g 0 many
sum_two f g h zero each = refl
sum_two f g h (suc many) each =
    let rest = sum_two f g h many each in
    let here = each (0 + many) in
    omega (arith, rest, here)
