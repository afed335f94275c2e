-- How many numbers and words are wrong with a change, counted while it is tried.
use Rattle.std.specs.Prelude.{ℕ, ℤ, pos, zero, suc, ◌+◌, ◌-◌, not, List, length, slice_get, Option, Some, None}
use Rattle.std.specs.List.{count_by}
use Rattle.ref_tiles.specs.declared.rulebook.Rules.{Rules}
use Rattle.lex_list.specs.Words.{is_listed}
use Rattle.gcg_read.specs.declared.events.Event.{Event}
use Rattle.game_walk.specs.declared.rows.Row.{Row}
use Rattle.game_corrections.specs.WrongNumbers.{had_before, wrong_at}
use Rattle.repair_single.specs.Sums.{count_scores, count_sums}
use Rattle.repair_single.specs.Remaining.{AreFewer, unlisted_at, words_of_row}

-- how many more may be wrong if `many` are
abbrev pub less : (room : Option ℕ) → (many : ℕ) → Option ℕ
less None many = None
less (Some room) many = Some (room - many)

-- If `many` are wrong, and others too, the others are no more than `remaining` has room for.
abbrev pub Leaves : (room : Option ℕ) → (many : ℕ) → (remaining : Option ℕ) → Type 0
Leaves room many remaining = (others : ℕ) → AreFewer room (many + others) → AreFewer remaining others

-- how many numbers and words are wrong at a place of a sheet, compared with the right events
abbrev pub count_at : Rules → (list : List (List ℕ)) → (sheet right : List Event) → (place : ℕ) → ℕ
count_at rules list sheet right place = length (wrong_at None sheet right place) + length (unlisted_at rules list right place)

-- the sum of the numbers at `many` places, from one on
abbrev pub sum_from : (at : ℕ → ℕ) → (start many : ℕ) → ℕ
sum_from at start zero = 0
sum_from at start (suc many) = sum_from at start many + at (start + many)

-- how many of these words are not in the list
abbrev pub count_unlisted : (list : List (List ℕ)) → (words : List (List ℕ)) → ℕ
count_unlisted list words = count_by (λ (word : List ℕ). not (is_listed list word)) words

-- what the player of an event had before it
abbrev pub had_at : List Event → (place : ℕ) → Option Event → ℤ
had_at events place None = pos 0
had_at events place (Some e) = had_before events e.player place

-- how many numbers and words are wrong by a row of a walk, if its player had this
abbrev pub count_by_row : (list : List (List ℕ)) → (had : ℤ) → Row → ℕ
count_by_row list had row = count_scores row.written.score row.right.score + count_sums had row.written row.right + length (words_of_row list row)

-- how many are by the row at a place
abbrev pub count_at_row : (list : List (List ℕ)) → List Event → (place : ℕ) → Option Row → ℕ
count_at_row list events place None = 0
count_at_row list events place (Some row) = count_by_row list (had_at events place (slice_get events place)) row

abbrev pub count_in_rows : (list : List (List ℕ)) → List Event → List Row → (start : ℕ) → ℕ
count_in_rows list events rows start = sum_from (λ place. count_at_row list events place (slice_get rows place)) 0 start
