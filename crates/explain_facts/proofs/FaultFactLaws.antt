-- That a fault has its fact: what each branch of the code needs for it.
use Rattle.std.proofs.Common.{◌≡◌, ◌⊎◌, inl, inr, ℕ, ℤ, pos, negsuc, zero, suc, ◌+◌, ◌-◌, ◌*◌, ◌<◌, ◌==◌, ◌&&◌, ◌||◌, nat_lt, not, Bool, true, false, cond, is_some, List, [], ◌∷◌, ◌++◌, length, map, take, reverse, slice_get, get_or, Option, Some, None, option_map, refl, sym, ap, ◌∙◌, subst, arith, if◌then◌else◌}
use Rattle.std.specs.List.{list_all, list_any, flat_map, zip, range_with_len}
use Rattle.std.specs.Option.{unwrap_or}
use Rattle.std.proofs.lemmas.Bool.{not-true, both_ways, lt-ltb, ltb-true, ltb-false}
use Rattle.std.proofs.lemmas.Option.{same_Some, slice_get_within, slice_get-get_or, unwrap_or-slice_get}
use Rattle.std.specs.Prelude.{count_by}
use Rattle.std.proofs.lemmas.List.Sums.{sum_by-cons}
use Rattle.std.proofs.lemmas.List.{length-reverse, length-append, length-map, reverse-append, reverse-reverse, get_or-reverse}
use Rattle.std.proofs.lemmas.List.Folds.{list_any-append}
use Rattle.first_faults.specs.Checks.{fails, first_fault}
use Rattle.first_faults.proofs.CheckLaws.{some_fault, check-none, none_first, or_none}
use Rattle.ref_tiles.specs.declared.tiles.Tile.{Tile}
use Rattle.ref_tiles.specs.declared.symbols.Symbol.{Symbol}
use Rattle.ref_tiles.specs.declared.symbols.Symbol.TheVariants as symbol
use Rattle.ref_tiles.specs.declared.rulebook.Rules.{Rules}
use Rattle.ref_board.specs.declared.directions.Dir.{Dir}
use Rattle.ref_board.specs.Lines.{place_of}
use Rattle.ref_board.specs.Cells.{tile_at, holds}
use Rattle.ref_play.specs.declared.placed.Placed.{Placed}
use Rattle.ref_play.specs.declared.faults.PlayFault.{PlayFault}
use Rattle.ref_play.specs.declared.faults.PlayFault.TheVariants as play
use Rattle.ref_play.specs.Formed.{along, runs_formed}
use Rattle.ref_play.specs.Words.{letters_of, words_formed}
use Rattle.ref_play.specs.Texts.{symbol_fits, tile_of, placed_on, fits_board, text_cells, new_tiles as tiles_on, placement_of, mismatches, is_open_ended, text_fault}
use Rattle.ref_play.specs.Placements.{with_tiles}
use Rattle.ref_play.specs.Legality.{overlaps, has_gap, misses_centre, is_too_short, is_apart, fault_of}
use Rattle.gcg_read.specs.Players.{other_seat}
use Rattle.gcg_read.specs.declared.events.Seat.{Seat}
use Rattle.gcg_read.specs.declared.events.Seat.TheVariants.{First, Second}
use Rattle.gcg_read.specs.declared.events.Event.{Event}
use Rattle.gcg_read.specs.declared.events.EventKind.{EventKind}
use Rattle.gcg_read.specs.declared.events.EventKind.TheVariants as kind
use Rattle.game_turns.specs.declared.faults.RuleFault.TheVariants as fault
use Rattle.game_turns.specs.Seats.{same_seat, side_of}
use Rattle.game_turns.specs.Standing.{is_withdraw, board_at}
use Rattle.game_turns.specs.Tallies.{State, Latest, is_play, is_time, is_last_rack, has_time, latest_event, latest_at, withdraws, tally}
use Rattle.game_turns.specs.LatestEvents.{latest_words}
use Rattle.game_turns.specs.Places.{AreAllowed, fault_of_event, fault_at}
use Rattle.game_turns.specs.Checks.{is_over, play_fault, text_score, is_bonus, listed_in, check_score, check_total, check_turn, check_play, check_kind, interrupts, fault_in}
use Rattle.lex_list.specs.Words.{is_listed}
use Rattle.explain_clues.specs.Texts.{leaves_board, misfits, FitsTo, new_tiles}
use Rattle.explain_facts.specs.Moments.{last_event}
use Rattle.explain_facts.specs.Kinds.{OfPlay, OfLastRack, is_withdrawal, is_challenge}
use Rattle.explain_facts.specs.Totals.{is_time_of}
use Rattle.explain_facts.specs.Challenges.{where_play, is_amount}
use Rattle.explain_facts.proofs.Because.{because, is_played, IsNotAwaited, IsNoBonus, no_play_fault, SaysOfPlay, none_of_play, fails_of_play, either_of_play}

-- ---- whose turn it is

pub turn_due : (rules : Rules) (list : List (List ℕ)) (s : State) (e : Event) → fault_in rules list s e ≡ Some fault.NotYourTurn → is_last_rack e.kind ≡ true → s.out ≡ None → ⊥
turn_due rules list s e is rack none = (because rules list s e fault.NotYourTurn is).due rack none

pub turns_over : (rules : Rules) (list : List (List ℕ)) (s : State) (e : Event) → fault_in rules list s e ≡ Some fault.GameOver → is_over s ≡ true
turns_over rules list s e is = because rules list s e fault.GameOver is

over_cases : (o : Option Seat) (a b c : Bool) → (is_some o || a || b || c) ≡ true → c ≡ false → o ≡ None → a ≡ false → b ≡ true
over_cases None true b c e not_c none not_a = cc
over_cases None false true c e not_c none not_a = refl
over_cases None false false c e not_c none not_a = absurd (both_ways c not_c e)
over_cases (Some out) a b c e not_c none not_a = cc

over_swapped : (o : Option Seat) (a b c : Bool) → (is_some o || a || b || c) ≡ true → c ≡ false → o ≡ None → b ≡ false → a ≡ true
over_swapped None true b c e not_c none not_b = refl
over_swapped None false true c e not_c none not_b = cc
over_swapped None false false c e not_c none not_b = absurd (both_ways c not_c e)
over_swapped (Some out) a b c e not_c none not_b = cc

-- turns are over for both players, so if none is out and one has lost no points, the other has
pub other_ended : (s : State) (player : Seat) → is_over s ≡ true → s.complete ≡ false → s.out ≡ None → (side_of s.sides player).ended ≡ false
    → (side_of s.sides (other_seat player)).ended ≡ true
other_ended s First over running none not_own = over_cases s.out s.sides.first.ended s.sides.second.ended s.complete over running none not_own
other_ended s Second over running none not_own = over_swapped s.out s.sides.first.ended s.sides.second.ended s.complete over running none not_own

-- ---- the kind of an event

-- what holds of a play holds of no other event
pub play_of : (what : EventKind) (P : ℕ → Dir → List Symbol → Type 0) → OfPlay what P → is_play what ≡ true
play_of (kind.Play at dir word) P holds = refl
play_of kind.Pass P holds = absurd holds
play_of (kind.Exchange tiles) P holds = absurd holds
play_of (kind.ExchangeUnknown n) P holds = absurd holds
play_of kind.Withdraw P holds = absurd holds
play_of kind.Challenge P holds = absurd holds
play_of kind.Time P holds = absurd holds
play_of (kind.LastRack tiles) P holds = absurd holds

-- an event that is no play
pub no_play : (what : EventKind) → ((at : ℕ) (dir : Dir) (word : List Symbol) → what ≡ kind.Play at dir word → ⊥) → is_play what ≡ true → ⊥
no_play (kind.Play at dir word) none is = none at dir word refl
no_play kind.Pass none is = cc
no_play (kind.Exchange tiles) none is = cc
no_play (kind.ExchangeUnknown n) none is = cc
no_play kind.Withdraw none is = cc
no_play kind.Challenge none is = cc
no_play kind.Time none is = cc
no_play (kind.LastRack tiles) none is = cc

pub no_last_rack : (what : EventKind) → ((tiles : List ℕ) → what ≡ kind.LastRack tiles → ⊥) → is_last_rack what ≡ true → ⊥
no_last_rack (kind.Play at dir word) none is = cc
no_last_rack kind.Pass none is = cc
no_last_rack (kind.Exchange tiles) none is = cc
no_last_rack (kind.ExchangeUnknown n) none is = cc
no_last_rack kind.Withdraw none is = cc
no_last_rack kind.Challenge none is = cc
no_last_rack kind.Time none is = cc
no_last_rack (kind.LastRack tiles) none is = none tiles refl

last_rack_of : (what : EventKind) (P : List ℕ → Type 0) → OfLastRack what P → is_last_rack what ≡ true
last_rack_of (kind.Play at dir word) P holds = absurd holds
last_rack_of kind.Pass P holds = absurd holds
last_rack_of (kind.Exchange tiles) P holds = absurd holds
last_rack_of (kind.ExchangeUnknown n) P holds = absurd holds
last_rack_of kind.Withdraw P holds = absurd holds
last_rack_of kind.Challenge P holds = absurd holds
last_rack_of kind.Time P holds = absurd holds
last_rack_of (kind.LastRack tiles) P holds = refl

pub fault_of_play : (rules : Rules) (list : List (List ℕ)) (s : State) (e : Event) (why : PlayFault) → fault_in rules list s e ≡ Some (fault.Play why) → is_play e.kind ≡ true
fault_of_play rules list s e why is =
    play_of e.kind (λ at dir word. play_fault s.board dir at word ≡ Some why) (because rules list s e (fault.Play why) is)

pub play_refused : (rules : Rules) (list : List (List ℕ)) (s : State) (e : Event) (at : ℕ) (dir : Dir) (word : List Symbol) (why : PlayFault)
    → fault_in rules list s e ≡ Some (fault.Play why) → e.kind ≡ kind.Play at dir word → play_fault s.board dir at word ≡ Some why
play_refused rules list s e at dir word why is play =
    subst (λ (k : EventKind). OfPlay k (λ a d w. play_fault s.board d a w ≡ Some why)) play (because rules list s e (fault.Play why) is)

pub used_by_play : (rules : Rules) (list : List (List ℕ)) (s : State) (e : Event) → fault_in rules list s e ≡ Some fault.TooManyUsed → is_play e.kind ≡ true
used_by_play rules list s e is =
    play_of e.kind (λ at dir word. ((side_of s.sides e.player).rack < length (placement_of s.board dir at word)) × (play_fault s.board dir at word ≡ None))
    (because rules list s e fault.TooManyUsed is)

pub size_of_last_rack : (rules : Rules) (list : List (List ℕ)) (s : State) (e : Event) → fault_in rules list s e ≡ Some fault.LastRackSize → is_last_rack e.kind ≡ true
size_of_last_rack rules list s e is = last_rack_of e.kind _ (because rules list s e fault.LastRackSize is)

-- ---- a text on the board

-- the checks of a text after the first
abbrev after_off : (board : List (Option Tile)) → Dir → (at : ℕ) → List Symbol → List (Option PlayFault)
after_off board dir at word =
    fails (mismatches board dir at word) play.Mismatch
    ∷ fails (length (placement_of board dir at word) == 0) play.NoNewTile
    ∷ fails (nat_lt 7 (length (placement_of board dir at word))) play.TooManyTiles
    ∷ fails (is_open_ended board dir at word) play.NotWhole
    ∷ []

legal_on_board : (board : List (Option Tile)) (dir : Dir) (at : ℕ) (word : List Symbol) → play_fault board dir at word ≡ None → leaves_board dir at word ≡ false
unfolding play_fault text_fault
legal_on_board board dir at word none =
    (check-none (leaves_board dir at word) play.OffBoard (after_off board dir at word) (or_none (text_fault board dir at word) (fault_of dir board (placement_of board dir at word)) none).0).0

no_tiles_off : (off : Bool) (many : ℕ) → off ≡ false → (if off then None else Some many) ≡ None → ⊥
no_tiles_off true many on none = cc
no_tiles_off false many on none = cc

pub used_on_board : (rules : Rules) (list : List (List ℕ)) (s : State) (e : Event) (at : ℕ) (dir : Dir) (word : List Symbol) → fault_in rules list s e ≡ Some fault.TooManyUsed
    → e.kind ≡ kind.Play at dir word → new_tiles s.board dir at word ≡ None → ⊥
used_on_board rules list s e at dir word is play none =
    let reported =
    subst (λ (k : EventKind). OfPlay k (λ a d w. ((side_of s.sides e.player).rack < length (placement_of s.board d a w)) × (play_fault s.board d a w ≡ None))) play
    (because rules list s e fault.TooManyUsed is) in
    no_tiles_off (leaves_board dir at word) (length (placement_of s.board dir at word)) (legal_on_board s.board dir at word reported.1) none

-- what the first faults of a text say
abbrev SaysOfText : (board : List (Option Tile)) → Dir → (at : ℕ) → List Symbol → PlayFault → Type 0
SaysOfText board dir at word play.OffBoard = leaves_board dir at word ≡ true
SaysOfText board dir at word play.Mismatch = (leaves_board dir at word ≡ false) × (mismatches board dir at word ≡ true)
SaysOfText board dir at word play.TooManyTiles = leaves_board dir at word ≡ false
SaysOfText board dir at word other = Unit {0}

after_test : (P : PlayFault → Type 0) (test : Bool) (f : PlayFault) (checks : List (Option PlayFault)) → (test ≡ true → P f) → (test ≡ false → SaysOfPlay P (first_fault checks))
    → SaysOfPlay P (first_fault (fails test f ∷ checks))
after_test P true f checks own rest = fails_of_play P true f own
after_test P false f checks own rest = rest refl

-- a symbol puts a tile on an empty square only
free_cell : (board : List (Option Tile)) (square : ℕ) (here : Option Tile) (s : Symbol) → tile_at board square ≡ here
    → list_any (λ (p : Placed). holds board p.square) (placed_on square (tile_of here s)) ≡ false
free_cell board square None symbol.Dot is = refl
free_cell board square None (symbol.Letter l) is = ap (λ (o : Option Tile). is_some o || false) is
free_cell board square None (symbol.Blank l) is = ap (λ (o : Option Tile). is_some o || false) is
free_cell board square (Some tile) s is = refl

both_free : (a b : Bool) → a ≡ false → b ≡ false → (a || b) ≡ false
both_free true b e f = cc
both_free false b e f = f

free_cells : (board : List (Option Tile)) (cells : List (ℕ × Symbol)) → list_any (λ (p : Placed). holds board p.square) (flat_map (tiles_on board) cells) ≡ false
free_cells board [] = refl
free_cells board (cell ∷ cells) =
    let on = λ (p : Placed). holds board p.square in
    list_any-append on (tiles_on board cell) (flat_map (tiles_on board) cells)
    ∙ both_free (list_any on (tiles_on board cell)) (list_any on (flat_map (tiles_on board) cells)) (free_cell board cell.0 (tile_at board cell.0) cell.1 refl) (free_cells board cells)

-- so the tiles of a text lie on no others
free_text : (board : List (Option Tile)) (dir : Dir) (at : ℕ) (word : List Symbol) → overlaps board (placement_of board dir at word) ≡ false
unfolding overlaps placement_of
free_text board dir at word = free_cells board (text_cells dir at word)

of_placed : (board : List (Option Tile)) (dir : Dir) (at : ℕ) (word : List Symbol) → SaysOfPlay (SaysOfText board dir at word) (fault_of dir board (placement_of board dir at word))
unfolding fault_of
of_placed board dir at word =
    let P = SaysOfText board dir at word in
    let ps = placement_of board dir at word in
    let apart = fails (is_apart board ps) play.Apart ∷ [] in
    let short = fails (is_too_short dir (with_tiles board ps) ps) play.TooShort ∷ apart in
    let centre = fails (misses_centre board ps) play.MissesCentre ∷ short in
    let gap = fails (has_gap dir (with_tiles board ps) ps) play.NotWhole ∷ centre in
    after_test P (overlaps board ps) play.Mismatch gap (λ on. absurd (both_ways (overlaps board ps) (free_text board dir at word) on))
    (λ _. after_test P (has_gap dir (with_tiles board ps) ps) play.NotWhole centre (λ _. tt)
    (λ _. after_test P (misses_centre board ps) play.MissesCentre short (λ _. tt)
    (λ _. after_test P (is_too_short dir (with_tiles board ps) ps) play.TooShort apart (λ _. tt)
    (λ _. after_test P (is_apart board ps) play.Apart [] (λ _. tt) (λ _. none_of_play P)))))

of_text : (board : List (Option Tile)) (dir : Dir) (at : ℕ) (word : List Symbol) → SaysOfPlay (SaysOfText board dir at word) (text_fault board dir at word)
unfolding text_fault
of_text board dir at word =
    let P = SaysOfText board dir at word in
    let many = length (placement_of board dir at word) in
    let whole = fails (is_open_ended board dir at word) play.NotWhole ∷ [] in
    let few = fails (nat_lt 7 many) play.TooManyTiles ∷ whole in
    let new = fails (many == 0) play.NoNewTile ∷ few in
    let fit = fails (mismatches board dir at word) play.Mismatch ∷ new in
    after_test P (leaves_board dir at word) play.OffBoard fit (λ off. off)
    (λ on. after_test P (mismatches board dir at word) play.Mismatch new (λ so. (on, so))
    (λ _. after_test P (many == 0) play.NoNewTile few (λ _. tt)
    (λ _. after_test P (nat_lt 7 many) play.TooManyTiles whole (λ _. on)
    (λ _. after_test P (is_open_ended board dir at word) play.NotWhole [] (λ _. tt) (λ _. none_of_play P)))))

says_of_text : (board : List (Option Tile)) (dir : Dir) (at : ℕ) (word : List Symbol) → SaysOfPlay (SaysOfText board dir at word) (play_fault board dir at word)
unfolding play_fault
says_of_text board dir at word =
    either_of_play (SaysOfText board dir at word) (text_fault board dir at word) (fault_of dir board (placement_of board dir at word)) (of_text board dir at word) (of_placed board dir at word)

pub off_the_board : (board : List (Option Tile)) (dir : Dir) (at : ℕ) (word : List Symbol) → play_fault board dir at word ≡ Some play.OffBoard → 15 < place_of dir at + length word
off_the_board board dir at word is = ltb-true 15 (place_of dir at + length word) (says_of_text board dir at word play.OffBoard is)

pub count_on_board : (board shown : List (Option Tile)) (dir : Dir) (at : ℕ) (word : List Symbol) → shown ≡ board → play_fault board dir at word ≡ Some play.TooManyTiles
    → new_tiles shown dir at word ≡ None → ⊥
count_on_board board shown dir at word same is there =
    let none = subst (λ (b : List (Option Tile)). new_tiles b dir at word ≡ None) same there in
    no_tiles_off (leaves_board dir at word) (length (placement_of board dir at word)) (says_of_text board dir at word play.TooManyTiles is) none

-- ---- the first symbol that does not agree with its square

not_false : (b : Bool) → not b ≡ false → b ≡ true
not_false true e = refl
not_false false e = cc

first : (i : ℕ) → i ≡ i + 0
first i = omega arith

next : (i k : ℕ) → i + 1 + k ≡ i + suc k
next i k = omega arith

from_none : (k : ℕ) → 0 + k ≡ k
from_none k = omega arith

fits_there : (cell : Option Tile) (s : Symbol) → misfits cell (Some s) ≡ false → symbol_fits cell s ≡ true
fits_there cell s none = not_false (symbol_fits cell s) none

both_fit : (a b : Bool) → a ≡ true → b ≡ true → (a && b) ≡ true
both_fit true b e f = f
both_fit false b e f = cc

-- if each symbol agrees with its square, all do
fit_from : (board : List (Option Tile)) (dir : Dir) (at i : ℕ) (word : List Symbol)
    → ((k : ℕ) → k < length word → misfits (tile_at board (along dir at (i + k))) (slice_get word k) ≡ false)
    → list_all (fits_board board) (zip (map (along dir at) (range_with_len i (length word))) word) ≡ true
fit_from board dir at i [] each = refl
fit_from board dir at i (s ∷ word) each =
    both_fit (symbol_fits (tile_at board (along dir at i)) s) (list_all (fits_board board) (zip (map (along dir at) (range_with_len (i + 1) (length word))) word))
    (fits_there (tile_at board (along dir at i)) s (ap (λ n. misfits (tile_at board (along dir at n)) (Some s)) (first i) ∙ each 0 (omega arith)))
    (fit_from board dir at (i + 1) word (λ k below. ap (λ n. misfits (tile_at board (along dir at n)) (slice_get word k)) (next i k) ∙ each (suc k) (omega (arith, below))))

pub all_fit : (board shown : List (Option Tile)) (dir : Dir) (at : ℕ) (word : List Symbol) → shown ≡ board → play_fault board dir at word ≡ Some play.Mismatch
    → (leaves_board dir at word ≡ false → FitsTo shown dir at word (length word)) → ⊥
unfolding mismatches text_cells
all_fit board shown dir at word same is there =
    let each = subst (λ (b : List (Option Tile)). leaves_board dir at word ≡ false → FitsTo b dir at word (length word)) same there in
    let reported = says_of_text board dir at word play.Mismatch is in
    both_ways (list_all (fits_board board) (text_cells dir at word)) (not-true (list_all (fits_board board) (text_cells dir at word)) reported.1)
    (fit_from board dir at 0 word (λ k below. ap (λ n. misfits (tile_at board (along dir at n)) (slice_get word k)) (from_none k) ∙ each reported.0 k below))

pub past_text : (k many : ℕ) → k < many → false ≡ nat_lt k many → ⊥
past_text k many below past = both_ways (nat_lt k many) (sym past) (lt-ltb k many below)

pub on_board : (dir : Dir) (at : ℕ) (word : List Symbol) (k : ℕ) → leaves_board dir at word ≡ false → k < length word → place_of dir at + k < 15
on_board dir at word k on below = let fits = ltb-false 15 (place_of dir at + length word) on in omega (arith, fits, below)

-- a symbol that does not agree with an empty square is a dot
pub only_dot : (s : Symbol) → misfits None (Some s) ≡ true → s ≡ symbol.Dot
only_dot symbol.Dot e = refl
only_dot (symbol.Letter l) e = cc
only_dot (symbol.Blank l) e = cc

-- ---- the latest event

-- the last of some events, and those before it with the latest first
pub record EndsWith (past : List Event) (latest : Event) : Type 0 where
  pub rest : List Event
  pub is : reverse past ≡ latest ∷ rest

no_less : (n : ℕ) → n - 0 ≡ n
no_less n = omega arith

ends_by : (past : List Event) (latest : Event) (back : List Event) → reverse past ≡ back → last_event past ≡ Some latest → EndsWith past latest
ends_by past latest [] is last =
    let within = slice_get_within past (length past - 1) latest last in
    let long = length-reverse past in
    let none : length (reverse past) ≡ 0 = ap length is in
    absurd (omega (arith, within, long, none))
ends_by past latest (e ∷ rest) is last =
    let within = slice_get_within past (length past - 1) latest last in
    let there : get_or past (length past - 1) latest ≡ latest = sym (unwrap_or-slice_get past (length past - 1) latest) ∙ ap (λ (o : Option Event). unwrap_or o latest) last in
    let first : get_or (reverse past) 0 latest ≡ get_or past (length past - 1 - 0) latest = get_or-reverse past 0 latest (omega (arith, within)) in
    let one : e ≡ latest = sym (ap (λ (es : List Event). get_or es 0 latest) is) ∙ first ∙ ap (λ n. get_or past n latest) (no_less (length past - 1)) ∙ there in
    record { rest = rest; is = is ∙ ap (λ (x : Event). x ∷ rest) one }

pub ends_with : (past : List Event) (latest : Event) → last_event past ≡ Some latest → EndsWith past latest
ends_with past latest last = ends_by past latest (reverse past) refl last

-- the latest event of the state before an event, by the events before it
latest_is : (rules : Rules) (s : State) (e : Event) (past back : List Event) → s ≡ tally rules (is_withdraw e.kind) (reverse past) → reverse past ≡ back
    → s.latest ≡ latest_at rules (is_withdraw e.kind) back
unfolding tally
latest_is rules s e past back adds is = ap (λ (t : State). t.latest) adds ∙ ap (λ (es : List Event). latest_at rules (is_withdraw e.kind) es) is

none_before : (past : List Event) → last_event past ≡ None → past ≡ []
none_before [] none = refl
none_before (e ∷ past) none =
    absurd (some_fault (get_or (e ∷ past) (length (e ∷ past) - 1) e) (sym (slice_get-get_or (e ∷ past) (length (e ∷ past) - 1) e (omega arith)) ∙ none))

-- before the first event there is none
pub first_of_all : (rules : Rules) (s : State) (e : Event) (past : List Event) → s ≡ tally rules (is_withdraw e.kind) (reverse past) → last_event past ≡ None
    → is_played s.latest ≡ true → ⊥
first_of_all rules s e past adds none is =
    both_ways (is_played s.latest) (ap is_played (latest_is rules s e past [] adds (ap (λ (es : List Event). reverse es) (none_before past none)))) is

-- a play of the player that came right before the event, which is a withdrawal if the play awaits one, can be taken back
never : (taken : Bool) → not taken ≡ taken → ⊥
never true e = cc
never false e = cc

own_awaits : (rules : Rules) (taken : Bool) (player own : Seat) (what : EventKind) (past : List Event) → is_play what ≡ true → same_seat own player ≡ true
    → IsNotAwaited taken player (latest_event rules taken own what past) → ⊥
own_awaits rules taken player own (kind.Play at dir word) past is same (inl others) = both_ways (same_seat own player) others same
own_awaits rules taken player own (kind.Play at dir word) past is same (inr stands) = never taken stands
own_awaits rules taken player own kind.Pass past is same reported = cc
own_awaits rules taken player own (kind.Exchange tiles) past is same reported = cc
own_awaits rules taken player own (kind.ExchangeUnknown n) past is same reported = cc
own_awaits rules taken player own kind.Withdraw past is same reported = cc
own_awaits rules taken player own kind.Challenge past is same reported = cc
own_awaits rules taken player own kind.Time past is same reported = cc
own_awaits rules taken player own (kind.LastRack tiles) past is same reported = cc

play_there : (play : Bool) (e own : Event) → is_play e.kind ≡ play → (if play then Some e else None) ≡ Some own → (Some e ≡ Some own) × (is_play own.kind ≡ true)
play_there true e own play is = (is, ap (λ (x : Event). is_play x.kind) (sym (same_Some e own is)) ∙ play)
play_there false e own play is = cc

last_play : (latest : Option Event) (own : Event) → where_play latest ≡ Some own → (latest ≡ Some own) × (is_play own.kind ≡ true)
last_play None own is = cc
last_play (Some e) own is = play_there (is_play e.kind) e own refl is

pub own_play_before : (rules : Rules) (list : List (List ℕ)) (s : State) (e : Event) (past : List Event) (own : Event) → fault_in rules list s e ≡ Some fault.NothingToWithdraw
    → s ≡ tally rules (is_withdraw e.kind) (reverse past) → where_play (last_event past) ≡ Some own → same_seat own.player e.player ≡ true → ⊥
own_play_before rules list s e past own is adds before same =
    let at = last_play (last_event past) own before in
    let ends = ends_with past own at.0 in
    own_awaits rules (is_withdraw e.kind) e.player own.player own.kind ends.rest at.1 same
    (subst (IsNotAwaited (is_withdraw e.kind) e.player) (latest_is rules s e past (own ∷ ends.rest) adds ends.is) (because rules list s e fault.NothingToWithdraw is).0)

-- an event that is no withdrawal takes the latest play to stand, so it does not interrupt a withdrawal
never_interrupts : (rules : Rules) (back : List Event) (player : Seat) (what : EventKind) → interrupts (latest_at rules false back) player what ≡ false
never_interrupts rules [] player what = refl
never_interrupts rules (own ∷ back) player what = by own.kind
  where
    by : (latest : EventKind) → interrupts (latest_event rules false own.player latest back) player what ≡ false
    by (kind.Play at dir word) = refl
    by kind.Pass = refl
    by (kind.Exchange tiles) = refl
    by (kind.ExchangeUnknown n) = refl
    by kind.Withdraw = refl
    by kind.Challenge = refl
    by kind.Time = refl
    by (kind.LastRack tiles) = refl

same_withdrawal : (what : EventKind) → is_withdraw what ≡ is_withdrawal what
same_withdrawal (kind.Play at dir word) = refl
same_withdrawal kind.Pass = refl
same_withdrawal (kind.Exchange tiles) = refl
same_withdrawal (kind.ExchangeUnknown n) = refl
same_withdrawal kind.Withdraw = refl
same_withdrawal kind.Challenge = refl
same_withdrawal kind.Time = refl
same_withdrawal (kind.LastRack tiles) = refl

-- so where there is nothing to withdraw, the event is a withdrawal
pub takes_back : (rules : Rules) (list : List (List ℕ)) (s : State) (e : Event) (past : List Event) → fault_in rules list s e ≡ Some fault.NothingToWithdraw
    → s ≡ tally rules (is_withdraw e.kind) (reverse past) → is_withdrawal e.kind ≡ false → ⊥
takes_back rules list s e past is adds plain = by (because rules list s e fault.NothingToWithdraw is).1
  where
    latest : s.latest ≡ latest_at rules false (reverse past)
    latest = latest_is rules s e past (reverse past) adds refl ∙ ap (λ b. latest_at rules b (reverse past)) (same_withdrawal e.kind ∙ plain)

    by : (is_withdrawal e.kind ≡ true) ⊎ (interrupts s.latest e.player e.kind ≡ true) → ⊥
    by (inl so) = both_ways (is_withdrawal e.kind) plain so
    by (inr so) =
        both_ways (interrupts (latest_at rules false (reverse past)) e.player e.kind) (never_interrupts rules (reverse past) e.player e.kind)
        (subst (λ (l : Latest). interrupts l e.player e.kind ≡ true) latest so)

-- the latest event of a state is a play only if the event before is one
play_of_latest : (rules : Rules) (taken : Bool) (player : Seat) (what : EventKind) (past : List Event) → is_played (latest_event rules taken player what past) ≡ true → is_play what ≡ true
play_of_latest rules taken player (kind.Play at dir word) past is = refl
play_of_latest rules taken player kind.Pass past is = cc
play_of_latest rules taken player (kind.Exchange tiles) past is = cc
play_of_latest rules taken player (kind.ExchangeUnknown n) past is = cc
play_of_latest rules taken player kind.Withdraw past is = cc
play_of_latest rules taken player kind.Challenge past is = cc
play_of_latest rules taken player kind.Time past is = cc
play_of_latest rules taken player (kind.LastRack tiles) past is = cc

not_there : (b : Bool) (e : Event) → (if b then Some e else None) ≡ None → b ≡ false
not_there true e none = absurd (some_fault e none)
not_there false e none = refl

pub no_play_before : (rules : Rules) (s : State) (e : Event) (past : List Event) → s ≡ tally rules (is_withdraw e.kind) (reverse past) → where_play (last_event past) ≡ None
    → is_played s.latest ≡ true → ⊥
no_play_before rules s e past adds none played = by (last_event past) refl none
  where
    by : (latest : Option Event) → last_event past ≡ latest → where_play latest ≡ None → ⊥
    by None is _ = first_of_all rules s e past adds is played
    by (Some own) is other =
        let ends = ends_with past own is in
        both_ways (is_play own.kind) (not_there (is_play own.kind) own other)
        (play_of_latest rules (is_withdraw e.kind) own.player own.kind ends.rest
        (subst (λ (l : Latest). is_played l ≡ true) (latest_is rules s e past (own ∷ ends.rest) adds ends.is) played))

-- ---- the words of the play before

at_end : (past : List Event) (own : Event) → slice_get (past ++ own ∷ []) (length past) ≡ Some own
at_end [] own = refl
at_end (e ∷ past) own = at_end past own

before_end : (past : List Event) (own : Event) → take (length past) (past ++ own ∷ []) ≡ past
before_end [] own = refl
before_end (e ∷ past) own = ap (λ (es : List Event). e ∷ es) (before_end past own)

-- the last of some events that are allowed
last_allowed : (rules : Rules) (list : List (List ℕ)) (past : List Event) (own : Event) → AreAllowed rules list (past ++ own ∷ [])
    → fault_in rules list (tally rules (is_withdraw own.kind) (reverse past)) own ≡ None
unfolding fault_at
last_allowed rules list past own allowed =
    let all = past ++ own ∷ [] in
    let n = length past in
    let long = length-append past (own ∷ []) in
    let below : n < length all = omega (arith, long) in
    let here = subst (λ (o : Option Event). fault_of_event rules list (tally rules (withdraws o) (reverse (take n all))) o ≡ None) (at_end past own) (allowed n below) in
    subst (λ (es : List Event). fault_in rules list (tally rules (is_withdraw own.kind) (reverse es)) own ≡ None) (before_end past own) here

legal_of_play : (rules : Rules) (s : State) (e : Event) (dir : Dir) (at : ℕ) (word : List Symbol) → check_play rules s e dir at word ≡ None → play_fault s.board dir at word ≡ None
unfolding check_play
legal_of_play rules s e dir at word none =
    let numbers = check_score e.score (text_score rules s.board dir at word) ∷ check_total s e ∷ [] in
    let tiles = fails (nat_lt (side_of s.sides e.player).rack (length (placement_of s.board dir at word))) fault.TooManyUsed ∷ numbers in
    let laid = option_map fault.Play (play_fault s.board dir at word) ∷ tiles in
    no_play_fault (play_fault s.board dir at word)
    (none_first (option_map fault.Play (play_fault s.board dir at word)) tiles
    (none_first (check_turn s e) laid (none_first (fails (is_over s) fault.GameOver) (check_turn s e ∷ laid) none).1).1).0

some_runs : (board : List (Option Tile)) (dir : Dir) (at : ℕ) (word : List Symbol) → play_fault board dir at word ≡ None
    → is_too_short dir (with_tiles board (placement_of board dir at word)) (placement_of board dir at word) ≡ false
unfolding play_fault fault_of
some_runs board dir at word none =
    let ps = placement_of board dir at word in
    let apart = fails (is_apart board ps) play.Apart ∷ [] in
    let short = fails (is_too_short dir (with_tiles board ps) ps) play.TooShort ∷ apart in
    let centre = fails (misses_centre board ps) play.MissesCentre ∷ short in
    let gap = fails (has_gap dir (with_tiles board ps) ps) play.NotWhole ∷ centre in
    let placed = (or_none (text_fault board dir at word) (fault_of dir board ps) none).1 in
    let on = (check-none (overlaps board ps) play.Mismatch gap placed).1 in
    let whole = (check-none (has_gap dir (with_tiles board ps) ps) play.NotWhole centre on).1 in
    let covers = (check-none (misses_centre board ps) play.MissesCentre short whole).1 in
    (check-none (is_too_short dir (with_tiles board ps) ps) play.TooShort apart covers).0

pub not_zero : (n : ℕ) → (n == 0) ≡ false → 0 < n
not_zero zero e = cc
not_zero (suc n) e = omega arith

-- a legal play forms a word
some_formed : (board : List (Option Tile)) (dir : Dir) (at : ℕ) (word : List Symbol) → play_fault board dir at word ≡ None
    → 0 < length (words_formed dir board (placement_of board dir at word))
unfolding is_too_short words_formed
some_formed board dir at word none =
    let ps = placement_of board dir at word in
    let after = with_tiles board ps in
    let some = not_zero (length (runs_formed dir after ps)) (some_runs board dir at word none) in
    subst (λ n. 0 < n) (sym (length-map (runs_formed dir after ps) (letters_of after))) some

formed_by : (rules : Rules) (list : List (List ℕ)) (taken : Bool) (own : Event) (past : List Event) (what : EventKind) → own.kind ≡ what → is_play what ≡ true
    → fault_in rules list (tally rules (is_withdraw own.kind) past) own ≡ None → 0 < length (latest_words (latest_event rules taken own.player what past))
unfolding fault_in tally
formed_by rules list taken own past (kind.Play at dir word) kind_is is none =
    let s = tally rules (is_withdraw own.kind) past in
    let all = check_kind rules list s own own.kind ∷ [] in
    let of_kind = (none_first (check_kind rules list s own own.kind) [] (none_first (fails (interrupts s.latest own.player own.kind) fault.NothingToWithdraw) all none).1).0 in
    let checked = subst (λ (k : EventKind). check_kind rules list (tally rules (is_withdraw k) past) own k ≡ None) kind_is of_kind in
    some_formed (board_at false past) dir at word (legal_of_play rules (tally rules false past) own dir at word checked)
formed_by rules list taken own past kind.Pass kind_is is none = cc
formed_by rules list taken own past (kind.Exchange tiles) kind_is is none = cc
formed_by rules list taken own past (kind.ExchangeUnknown n) kind_is is none = cc
formed_by rules list taken own past kind.Withdraw kind_is is none = cc
formed_by rules list taken own past kind.Challenge kind_is is none = cc
formed_by rules list taken own past kind.Time kind_is is none = cc
formed_by rules list taken own past (kind.LastRack tiles) kind_is is none = cc

-- so the latest play of a state has words, if the rules allow it
pub some_words : (rules : Rules) (list : List (List ℕ)) (s : State) (e : Event) (past : List Event) (own : Event) → s ≡ tally rules (is_withdraw e.kind) (reverse past)
    → AreAllowed rules list past → where_play (last_event past) ≡ Some own → 0 < length (latest_words s.latest)
some_words rules list s e past own adds allowed before =
    let at = last_play (last_event past) own before in
    let ends = ends_with past own at.0 in
    let whole : past ≡ reverse ends.rest ++ own ∷ [] = sym (reverse-reverse past) ∙ ap (λ (es : List Event). reverse es) ends.is ∙ reverse-append (own ∷ []) ends.rest in
    let last = last_allowed rules list (reverse ends.rest) own (subst (AreAllowed rules list) whole allowed) in
    let same = subst (λ (es : List Event). fault_in rules list (tally rules (is_withdraw own.kind) es) own ≡ None) (reverse-reverse ends.rest) last in
    subst (λ (l : Latest). 0 < length (latest_words l)) (sym (latest_is rules s e past (own ∷ ends.rest) adds ends.is))
    (formed_by rules list (is_withdraw e.kind) own ends.rest own.kind refl at.1 same)

-- ---- the bonus of a challenge

one_counted : (b rest : Bool) (n : ℕ) → (b || rest) ≡ true → (rest ≡ true → 0 < n) → 0 < cond b 1 0 + n
one_counted true rest n e more = omega arith
one_counted false rest n e more = let some = more e in omega (arith, some)

some_counted : {X : Type 0} (test : X → Bool) (xs : List X) → list_any test xs ≡ true → 0 < count_by test xs
some_counted test [] e = cc
some_counted test (x ∷ xs) e =
    subst (λ n. 0 < n) (sym (sum_by-cons (λ y. cond (test y) 1 0) x xs)) (one_counted (test x) (list_any test xs) (count_by test xs) e (some_counted test xs))

-- some word of the latest play is listed, and the bonus is none of those that are allowed
abbrev IsOtherBonus : Rules → (list : List (List ℕ)) → Event → Latest → Type 0
IsOtherBonus rules list e latest =
    (list_any (is_listed list) (latest_words latest) ≡ true) × (is_bonus rules.challenge_unit (listed_in list (latest_words latest)) e.score ≡ false)

other_bonus : (rules : Rules) (list : List (List ℕ)) (e : Event) (taken : Bool) (own : Seat) (what : EventKind) (past : List Event) → taken ≡ false → is_play what ≡ true
    → same_seat own e.player ≡ true → IsNoBonus rules list e (latest_event rules taken own what past) → IsOtherBonus rules list e (latest_event rules taken own what past)
other_bonus rules list e taken own (kind.Play at dir word) past off is same (inl waits) = absurd (both_ways (not taken) waits (ap not off))
other_bonus rules list e taken own (kind.Play at dir word) past off is same (inr (inl others)) = absurd (both_ways (same_seat own e.player) others same)
other_bonus rules list e taken own (kind.Play at dir word) past off is same (inr (inr due)) = due
other_bonus rules list e taken own kind.Pass past off is same reported = cc
other_bonus rules list e taken own (kind.Exchange tiles) past off is same reported = cc
other_bonus rules list e taken own (kind.ExchangeUnknown n) past off is same reported = cc
other_bonus rules list e taken own kind.Withdraw past off is same reported = cc
other_bonus rules list e taken own kind.Challenge past off is same reported = cc
other_bonus rules list e taken own kind.Time past off is same reported = cc
other_bonus rules list e taken own (kind.LastRack tiles) past off is same reported = cc

challenge_stays : (what : EventKind) → is_challenge what ≡ true → is_withdraw what ≡ false
challenge_stays (kind.Play at dir word) is = cc
challenge_stays kind.Pass is = cc
challenge_stays (kind.Exchange tiles) is = cc
challenge_stays (kind.ExchangeUnknown n) is = cc
challenge_stays kind.Withdraw is = cc
challenge_stays kind.Challenge is = refl
challenge_stays kind.Time is = cc
challenge_stays (kind.LastRack tiles) is = cc

bonus_is_other : (rules : Rules) (list : List (List ℕ)) (s : State) (e : Event) (past : List Event) (own : Event) → fault_in rules list s e ≡ Some fault.BadBonus
    → s ≡ tally rules (is_withdraw e.kind) (reverse past) → where_play (last_event past) ≡ Some own → same_seat own.player e.player ≡ true → IsOtherBonus rules list e s.latest
bonus_is_other rules list s e past own is adds before same =
    let at = last_play (last_event past) own before in
    let ends = ends_with past own at.0 in
    let latest = latest_is rules s e past (own ∷ ends.rest) adds ends.is in
    let why = because rules list s e fault.BadBonus is in
    subst (IsOtherBonus rules list e) (sym latest)
    (other_bonus rules list e (is_withdraw e.kind) own.player own.kind ends.rest (challenge_stays e.kind why.0) at.1 same (subst (IsNoBonus rules list e) latest why.1))

-- a bonus has an amount
pub some_amount : (rules : Rules) (list : List (List ℕ)) (s : State) (e : Event) (past : List Event) (own : Event) → fault_in rules list s e ≡ Some fault.BadBonus
    → s ≡ tally rules (is_withdraw e.kind) (reverse past) → where_play (last_event past) ≡ Some own → same_seat own.player e.player ≡ true
    → 0 < listed_in list (latest_words s.latest)
some_amount rules list s e past own is adds before same =
    some_counted (is_listed list) (latest_words s.latest) (bonus_is_other rules list s e past own is adds before same).0

any_mapped : {X Y : Type 0} (test : Y → Bool) (f : X → Y) (xs : List X) → list_any test (map f xs) ≡ list_any (λ x. test (f x)) xs
any_mapped test f [] = refl
any_mapped test f (x ∷ xs) = ap (λ b. test (f x) || b) (any_mapped test f xs)

none_among : (unit words : ℕ) (score : ℤ) → is_bonus unit words score ≡ false → list_any (is_amount score) (map (λ n. unit * n) (range_with_len 1 words)) ≡ false
unfolding is_bonus
none_among unit words (pos points) none = any_mapped (is_amount (pos points)) (λ n. unit * n) (range_with_len 1 words) ∙ none
none_among unit words (negsuc k) none = any_mapped (is_amount (negsuc k)) (λ n. unit * n) (range_with_len 1 words) ∙ none_of (range_with_len 1 words)
  where
    none_of : (ns : List ℕ) → list_any (λ n. is_amount (negsuc k) (unit * n)) ns ≡ false
    none_of [] = refl
    none_of (n ∷ ns) = none_of ns

-- and the written one is none of them
pub no_amount : (rules : Rules) (list : List (List ℕ)) (s : State) (e : Event) (past : List Event) (own : Event) → fault_in rules list s e ≡ Some fault.BadBonus
    → s ≡ tally rules (is_withdraw e.kind) (reverse past) → where_play (last_event past) ≡ Some own → same_seat own.player e.player ≡ true
    → list_any (is_amount e.score) (map (λ n. rules.challenge_unit * n) (range_with_len 1 (listed_in list (latest_words s.latest)))) ≡ false
no_amount rules list s e past own is adds before same =
    none_among rules.challenge_unit (listed_in list (latest_words s.latest)) e.score (bonus_is_other rules list s e past own is adds before same).1

pub valid_is_play : (rules : Rules) (list : List (List ℕ)) (s : State) (e : Event) → fault_in rules list s e ≡ Some fault.WithdrawnValid → is_played s.latest ≡ true
valid_is_play rules list s e is = (because rules list s e fault.WithdrawnValid is).2

pub phony_is_play : (rules : Rules) (list : List (List ℕ)) (s : State) (e : Event) → fault_in rules list s e ≡ Some fault.BonusOnPhony → is_played s.latest ≡ true
phony_is_play rules list s e is = (because rules list s e fault.BonusOnPhony is).2

-- ---- penalties for time

and_first : (a b : Bool) → (a && b) ≡ true → a ≡ true
and_first true b e = refl
and_first false b e = cc

and_last : (a b : Bool) → (a && b) ≡ true → b ≡ true
and_last true b e = e
and_last false b e = cc

pub time_kind : (player : Seat) (e : Event) → is_time_of player e ≡ true → is_time e.kind ≡ true
time_kind player e is = and_first (is_time e.kind) (same_seat e.player player) is

pub time_player : (player : Seat) (e : Event) → is_time_of player e ≡ true → same_seat e.player player ≡ true
time_player player e is = and_last (is_time e.kind) (same_seat e.player player) is

has_time_in : (seat : Seat) (events : List Event) → has_time seat events ≡ list_any (is_time_of seat) events
has_time_in seat [] = refl
has_time_in seat (e ∷ events) = ap (λ b. is_time e.kind && same_seat e.player seat || b) (has_time_in seat events)

timed_by : (rules : Rules) (seat : Seat) (taken : Bool) (back : List Event) → (side_of (tally rules taken back).sides seat).timed ≡ has_time seat back
unfolding tally
timed_by rules First taken back = refl
timed_by rules Second taken back = refl

any_swapped : (a b : Bool) → (a || (b || false)) ≡ (b || a)
any_swapped true true = refl
any_swapped true false = refl
any_swapped false true = refl
any_swapped false false = refl

any_reverse : (test : Event → Bool) (events : List Event) → list_any test (reverse events) ≡ list_any test events
any_reverse test [] = refl
any_reverse test (e ∷ events) =
    ap (λ (es : List Event). list_any test es) (reverse-append (e ∷ []) events) ∙ list_any-append test (reverse events) (e ∷ []) ∙ ap (λ b. b || (test e || false)) (any_reverse test events)
    ∙ any_swapped (list_any test events) (test e)

-- a penalty that stands is among the events
pub time_before : (rules : Rules) (s : State) (e : Event) (past : List Event) (player : Seat) → s ≡ tally rules (is_withdraw e.kind) (reverse past)
    → (side_of s.sides player).timed ≡ true → list_any (is_time_of player) past ≡ false → ⊥
time_before rules s e past player adds timed none =
    both_ways (list_any (is_time_of player) past) none
    (sym (any_reverse (is_time_of player) past) ∙ sym (has_time_in player (reverse past)) ∙ sym (timed_by rules player (is_withdraw e.kind) (reverse past))
    ∙ sym (ap (λ (t : State). (side_of t.sides player).timed) adds) ∙ timed)
