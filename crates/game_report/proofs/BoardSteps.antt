-- What an event that the rules allow makes of the board.
use Rattle.std.proofs.Common.{◌≡◌, ℕ, ◌+◌, ◌<◌, ◌≤◌, ◌==◌, Bool, true, false, nat_lt, List, [], ◌∷◌, length, Option, Some, None, refl, sym, ◌∙◌, subst, arith, slice_get}
use Rattle.std.specs.Prelude.{option_map}
use Rattle.std.specs.List.{list_all, flat_map}
use Rattle.std.proofs.lemmas.Bool.{and_parts, eq-eqb, eqb-true, ltb-false}
use Rattle.first_faults.specs.Checks.{fails}
use Rattle.first_faults.proofs.CheckLaws.{none_first, check-none, or_none}
use Rattle.ref_tiles.specs.declared.symbols.Symbol.{Symbol}
use Rattle.ref_tiles.specs.declared.tiles.Tile.{Tile}
use Rattle.ref_tiles.specs.declared.rulebook.Rules.{Rules}
use Rattle.ref_board.specs.declared.directions.Dir.{Dir}
use Rattle.ref_board.specs.declared.directions.Dir.TheVariants.{Across, Down}
use Rattle.ref_board.specs.Lines.{line_of, place_of}
use Rattle.ref_play.specs.declared.placed.Placed.{Placed}
use Rattle.ref_play.specs.Formed.{along}
use Rattle.ref_play.specs.Placements.{is_play, are_in_line, with_tiles, without_tiles}
use Rattle.ref_play.specs.Legality.{IsLegal, fault_of}
use Rattle.ref_play.specs.Texts.{text_cells, new_tiles, text_fault, placement_of}
use Rattle.ref_play.proofs.TextLemmas.{cells_from, each_pass}
use Rattle.ref_play.proofs.Directing.{is_play-turned}
use Rattle.ref_play.proofs.LegalLaws.{no_fault-legal}
use Rattle.ref_play.proofs.Taking.{without-with}
use Rattle.gcg_read.specs.declared.events.Event.{Event}
use Rattle.gcg_read.specs.declared.events.EventKind.{EventKind}
use Rattle.gcg_read.specs.declared.events.EventKind.TheVariants as kind
use Rattle.gcg_read.specs.declared.events.Seat.{Seat}
use Rattle.game_turns.specs.declared.faults.RuleFault.TheVariants as fault
use Rattle.game_turns.specs.Seats.{side_of}
use Rattle.game_turns.specs.Standing.{is_withdraw}
use Rattle.game_turns.specs.Tallies.{State, LatestPlay, Latest, played, taken_back, other, tally_at, withdraws}
use Rattle.game_turns.specs.LatestEvents.{latest_tiles}
use Rattle.game_turns.specs.Checks.{is_over, check_turn, check_score, check_total, text_score, play_fault, check_play, check_withdraw, check_kind}
use Rattle.game_turns.specs.Changes.{after_standing, after_waiting, after_idle, after_idle_pass, after_pass, after_withdraw, after_challenge, after_time, after_last_rack, after_kind, after}
use Rattle.game_turns.specs.Places.{AreAllowed}
use Rattle.game_turns.proofs.Allowed.{no_play_fault, allowed_kind, withdraws_no_tiles, withdraws_nothing}
use Rattle.game_turns.proofs.PlaceLaws.{fault_here, next_tally}

-- ---- a play that the rules allow is legal

along_line : (d : Dir) (at k : ℕ) → place_of d at + k < 15 → line_of d (along d at k) ≡ line_of d at
along_line Across at k h = omega arith
along_line Down at k h = omega arith

on_line : (d : Dir) (line : ℕ) (ps : List Placed) → list_all (λ (p : Placed). line_of d p.square == line) ps ≡ true → are_in_line d ps ≡ true
on_line d line [] h = refl
on_line d line (p ∷ ps) h =
    let parts = and_parts (line_of d p.square == line) (list_all (λ (q : Placed). line_of d q.square == line) ps) h in
    subst (λ (l : ℕ). list_all (λ (q : Placed). line_of d q.square == l) ps ≡ true) (sym (eqb-true (line_of d p.square) line parts.0)) parts.1

-- the new tiles of a text that stays on the board lie on its line
text_in_line : (board : List (Option Tile)) (d : Dir) (at : ℕ) (word : List Symbol) → place_of d at + length word ≤ 15 → are_in_line d (placement_of board d at word) ≡ true
unfolding placement_of text_cells
text_in_line board d at word fits =
    on_line d (line_of d at) (flat_map (new_tiles board) (cells_from d at 0 word))
    (each_pass (λ square. line_of d square == line_of d at) board d at 0 word (λ k low high. eq-eqb (line_of d (along d at k)) (line_of d at) (along_line d at k (omega arith))))

text_fits : (board : List (Option Tile)) (d : Dir) (at : ℕ) (word : List Symbol) → text_fault board d at word ≡ None → place_of d at + length word ≤ 15
unfolding text_fault
text_fits board d at word none = ltb-false 15 (place_of d at + length word) (check-none (nat_lt 15 (place_of d at + length word)) _ _ none).0

faultless_is_legal : (board : List (Option Tile)) (dir : Dir) (at : ℕ) (word : List Symbol) → length board ≡ 225 → play_fault board dir at word ≡ None
    → (d : Dir) → is_play d (placement_of board dir at word) ≡ true → IsLegal board (placement_of board dir at word)
unfolding play_fault
faultless_is_legal board dir at word size none d play =
    let ps = placement_of board dir at word in
    let both = or_none (text_fault board dir at word) (fault_of dir board ps) none in
    let line = text_in_line board dir at word (text_fits board dir at word both.0) in
    (no_fault-legal dir board ps size (is_play-turned d dir ps play line)).0 both.1

no_fault_of_play : (rules : Rules) (s : State) (e : Event) (dir : Dir) (at : ℕ) (word : List Symbol) → check_play rules s e dir at word ≡ None → play_fault s.board dir at word ≡ None
unfolding check_play
no_fault_of_play rules s e dir at word none =
    let ending = check_score e.score (text_score rules s.board dir at word) ∷ check_total s e ∷ [] in
    let used = fails (nat_lt (side_of s.sides e.player).rack (length (placement_of s.board dir at word))) fault.TooManyUsed in
    let whole = option_map fault.Play (play_fault s.board dir at word) in
    let over = none_first (fails (is_over s) fault.GameOver) (check_turn s e ∷ whole ∷ used ∷ ending) none in
    let turn = none_first (check_turn s e) (whole ∷ used ∷ ending) over.1 in
    no_play_fault (play_fault s.board dir at word) (none_first whole (used ∷ ending) turn.1).0

-- ---- what an event makes of the board, by what it was

-- a legal play was put down
abbrev pub PutDown : State → State → List Placed → Type 0
PutDown s t ps = ((d : Dir) → is_play d ps ≡ true → IsLegal s.board ps) × (t.board ≡ with_tiles s.board ps)

-- the latest play was taken off
pub record TookOff (s t : State) (ps : List Placed) : Type 0 where
  pub play : LatestPlay
  pub was : s.latest ≡ played play
  pub tiles : play.tiles ≡ ps
  pub board : t.board ≡ without_tiles s.board ps
  pub latest : t.latest ≡ taken_back ps

-- whether the event is a withdrawal, and the tiles that it laid or took back
abbrev pub Moves : State → State → (withdraw : Bool) → Option (List Placed) → Type 0
Moves s t w None = t.board ≡ s.board
Moves s t true (Some ps) = TookOff s t ps
Moves s t false (Some ps) = PutDown s t ps

play_moves : (rules : Rules) (s : State) (e : Event) (dir : Dir) (at : ℕ) (word : List Symbol) (w : Bool) → length s.board ≡ 225 → check_play rules s e dir at word ≡ None
    → Moves s (after_kind rules s e (kind.Play at dir word) w) false (latest_tiles (after_kind rules s e (kind.Play at dir word) w).latest)
unfolding after_standing after_waiting
play_moves rules s e dir at word true size none = (faultless_is_legal s.board dir at word size (no_fault_of_play rules s e dir at word none), refl)
play_moves rules s e dir at word false size none = (faultless_is_legal s.board dir at word size (no_fault_of_play rules s e dir at word none), refl)

withdraw_moves : (rules : Rules) (list : List (List ℕ)) (s : State) (e : Event) (l : Latest) → s.latest ≡ l → check_withdraw list s e l ≡ None
    → Moves s (after_withdraw rules s e l) true (latest_tiles (after_withdraw rules s e l).latest)
unfolding after_withdraw
withdraw_moves rules list s e (played p) was none = record { play = p; was = was; tiles = refl; board = refl; latest = refl }
withdraw_moves rules list s e (taken_back tiles) was none = absurd (withdraws_no_tiles list s e tiles none)
withdraw_moves rules list s e other was none = absurd (withdraws_nothing list s e none)

pass_moves : (rules : Rules) (s : State) (e : Event) (out : Option Seat) → Moves s (after_pass rules s e out) false (latest_tiles (after_pass rules s e out).latest)
unfolding after_idle after_idle_pass
pass_moves rules s e None = refl
pass_moves rules s e (Some out) = refl

kind_moves : (rules : Rules) (list : List (List ℕ)) (s : State) (e : Event) (what : EventKind) (w : Bool) → length s.board ≡ 225 → check_kind rules list s e what ≡ None
    → Moves s (after_kind rules s e what w) (is_withdraw what) (latest_tiles (after_kind rules s e what w).latest)
unfolding after_idle after_challenge after_time after_last_rack
kind_moves rules list s e (kind.Play at dir word) w size none = play_moves rules s e dir at word w size none
kind_moves rules list s e kind.Pass w size none = pass_moves rules s e s.out
kind_moves rules list s e (kind.Exchange tiles) w size none = refl
kind_moves rules list s e (kind.ExchangeUnknown n) w size none = refl
kind_moves rules list s e kind.Withdraw w size none = withdraw_moves rules list s e s.latest refl none
kind_moves rules list s e kind.Challenge w size none = refl
kind_moves rules list s e kind.Time w size none = refl
kind_moves rules list s e (kind.LastRack tiles) w size none = refl

event_moves : (rules : Rules) (list : List (List ℕ)) (s t : State) (e : Event) (w : Bool) → length s.board ≡ 225 → check_kind rules list s e e.kind ≡ None → after rules s e w ≡ t
    → Moves s t (is_withdraw e.kind) (latest_tiles t.latest)
unfolding after
event_moves rules list s t e w size none is = subst (λ (x : State). Moves s x (is_withdraw e.kind) (latest_tiles x.latest)) is (kind_moves rules list s e e.kind w size none)

-- the event at a place of a record in which all events are allowed
pub moves_at : (rules : Rules) (list : List (List ℕ)) (events : List Event) (place : ℕ) (e : Event) → AreAllowed rules list events → place < length events → slice_get events place ≡ Some e
    → length (tally_at rules events place).board ≡ 225
    → Moves (tally_at rules events place) (tally_at rules events (place + 1)) (is_withdraw e.kind) (latest_tiles (tally_at rules events (place + 1)).latest)
moves_at rules list events place e allowed below at size =
    event_moves rules list (tally_at rules events place) (tally_at rules events (place + 1)) e (withdraws (slice_get events (place + 1))) size
    (allowed_kind rules list (tally_at rules events place) e (sym (fault_here rules list events place e at) ∙ allowed place below))
    (next_tally without-with rules list events place e at (λ k early. allowed k (omega arith)))
