-- Whose turn it is at a place.
use Rattle.std.proofs.Common.{◌≡◌, ℕ, zero, suc, ◌+◌, ◌-◌, ◌<◌, ◌≤◌, Bool, true, false, List, [], ◌∷◌, length, reverse, take, get_or, slice_get, Option, Some, None, Ok, if◌then◌else◌, refl, sym, ap, ◌∙◌, subst, arith}
use Rattle.std.proofs.lemmas.List.{take_more, reverse-append}
use Rattle.std.proofs.lemmas.Option.{slice_get_within, get_or_from_slice_get}
use Rattle.ref_tiles.specs.declared.rulebook.Rules.{Rules}
use Rattle.gcg_read.specs.Players.{other_seat}
use Rattle.gcg_read.specs.declared.events.Event.{Event}
use Rattle.gcg_read.specs.declared.events.Seat.{Seat}
use Rattle.gcg_read.specs.declared.events.Seat.TheVariants.{First, Second}
use Rattle.game_turns.specs.Tallies.{State, is_turn, mover_at, out_at, tally, tally_at, withdraws}
use Rattle.game_turns.specs.Standing.{is_withdraw}
use Rattle.game_turns.specs.Seats.{side_of}
use Rattle.gcg_read.specs.declared.records.Record.{Record}
use Rattle.gcg_read.specs.Records.{record_of}
use Rattle.game_turns.specs.Machines.{state_of}
use Rattle.game_walk.specs.declared.rows.Row.{Row}
use Rattle.game_walk.specs.declared.walking.Walk.{Walk}
use Rattle.game_walk.specs.declared.refusals.Stop.{Stop}
use Rattle.game_walk.specs.Refusals.{refusal_of, EndsAt}
use Rattle.game_walk.specs.Walks.{IsWalk}
use Rattle.game_walk.proofs.Steps.{walk_renumbered, after_row}
use Rattle.gcg_drafts.specs.Texts.{completed_text}
use Rattle.draft_answers.specs.declared.next.DraftNext.{DraftNext}
use Rattle.draft_answers.specs.Filled.{IsRighted}
use Rattle.draft_answers.specs.declared.next.NextLine.{NextLine}
use Rattle.draft_answers.specs.Nexts.{turn_of, IsNextSide, IsNextOf, IsNextPlace, IsNext}
use Rattle.draft_answers.proofs.Rights.{righted}

not_past : (events : List Event) (place : ℕ) → place < length events → slice_get events place ≡ None → ⊥
not_past [] place within none = absurd (omega (arith, within))
not_past (e ∷ events) zero within none = absurd cc
not_past (e ∷ events) (suc place) within none = not_past events place (omega (arith, within)) none

past_more : (events : List Event) (place : ℕ) (e : Event) → slice_get events place ≡ Some e → reverse (take (place + 1) events) ≡ e ∷ reverse (take place events)
past_more events place e is =
    let within = slice_get_within events place e is in
    ap reverse (take_more events place e within) ∙ reverse-append (take place events) (get_or events place e ∷ [])
    ∙ ap (λ x. x ∷ reverse (take place events)) (get_or_from_slice_get events place e e is)

-- the mover at a place, and before the first event
mover_is : (rules : Rules) (events : List Event) (place : ℕ) → (tally_at rules events place).mover ≡ mover_at rules (withdraws (slice_get events place)) (reverse (take place events))
unfolding tally
mover_is rules events place = refl

out_is : (rules : Rules) (events : List Event) (place : ℕ) → (tally_at rules events place).out ≡ out_at rules (withdraws (slice_get events place)) (reverse (take place events))
unfolding tally
out_is rules events place = refl

pub no_mover : (rules : Rules) (events : List Event) → (tally_at rules events 0).mover ≡ None
unfolding tally
no_mover rules events = refl

-- the mover after one more event
mover_more : (rules : Rules) (events : List Event) (place : ℕ) (e : Event) → slice_get events place ≡ Some e
    → (tally_at rules events (place + 1)).mover
    ≡ (if is_turn (withdraws (slice_get events (place + 1))) (tally_at rules events place).out e.kind then Some (other_seat e.player) else (tally_at rules events place).mover)
mover_more rules events place e is =
    let own : withdraws (slice_get events place) ≡ is_withdraw e.kind = ap withdraws is in
    mover_is rules events (place + 1) ∙ ap (mover_at rules (withdraws (slice_get events (place + 1)))) (past_more events place e is)
    ∙ ap (λ w. if is_turn (withdraws (slice_get events (place + 1))) (out_at rules w (reverse (take place events))) e.kind then Some (other_seat e.player) else mover_at rules w (reverse (take place events))) (sym own)
    ∙ ap (λ o. if is_turn (withdraws (slice_get events (place + 1))) o e.kind then Some (other_seat e.player) else mover_at rules (withdraws (slice_get events place)) (reverse (take place events))) (sym (out_is rules events place))
    ∙ ap (λ m. if is_turn (withdraws (slice_get events (place + 1))) (tally_at rules events place).out e.kind then Some (other_seat e.player) else m) (sym (mover_is rules events place))

-- after a turn it is the opponent's
pub after_turn : (rules : Rules) (events : List Event) (place : ℕ) (e : Event) → slice_get events place ≡ Some e
    → is_turn (withdraws (slice_get events (place + 1))) (tally_at rules events place).out e.kind ≡ true → (tally_at rules events (place + 1)).mover ≡ Some (other_seat e.player)
after_turn rules events place e is turn =
    mover_more rules events place e is ∙ ap (λ (b : Bool). if b then Some (other_seat e.player) else (tally_at rules events place).mover) turn

-- otherwise it is as before
pub after_other : (rules : Rules) (events : List Event) (place : ℕ) (e : Event) → slice_get events place ≡ Some e
    → is_turn (withdraws (slice_get events (place + 1))) (tally_at rules events place).out e.kind ≡ false → (tally_at rules events (place + 1)).mover ≡ (tally_at rules events place).mover
after_other rules events place e is turn =
    mover_more rules events place e is ∙ ap (λ (b : Bool). if b then Some (other_seat e.player) else (tally_at rules events place).mover) turn

-- whether the event at a place is a turn
pub turn_is : (rules : Rules) (events : List Event) (place : ℕ) (e : Event) (withdrawn : Bool) (out : Option Seat) (turn : Bool) → slice_get events place ≡ Some e
    → withdrawn ≡ withdraws (slice_get events (place + 1)) → out ≡ (tally_at rules events place).out → turn ≡ is_turn withdrawn out e.kind → turn ≡ turn_of rules events place (slice_get events place)
turn_is rules events place e withdrawn out turn there of_next of_out reported =
    reported ∙ ap (λ (w : Bool). is_turn w out e.kind) of_next ∙ ap (λ (o : Option Seat). is_turn (withdraws (slice_get events (place + 1))) o e.kind) of_out
    ∙ sym (ap (turn_of rules events place) there)

-- the mover at a place, if the event before another one is a turn, and the mover is the same there
pub turn_found : (rules : Rules) (events : List Event) (place end : ℕ) (e : Event) (turn : Bool) (next : Seat) → 0 < end → slice_get events (end - 1) ≡ Some e
    → turn ≡ turn_of rules events (end - 1) (slice_get events (end - 1)) → turn ≡ true → next ≡ other_seat e.player → (tally_at rules events place).mover ≡ (tally_at rules events end).mover
    → Some next ≡ (tally_at rules events place).mover
turn_found rules events place end e turn next some there reported stands of_next so_far =
    let step : end - 1 + 1 ≡ end = omega (arith, some) in
    let one : turn_of rules events (end - 1) (Some e) ≡ true = sym (ap (turn_of rules events (end - 1)) there) ∙ sym reported ∙ stands in
    ap Some of_next ∙ sym (after_turn rules events (end - 1) e there one) ∙ ap (λ (n : ℕ). (tally_at rules events n).mover) step ∙ sym so_far

no_turn_by : (rules : Rules) (events : List Event) (place end : ℕ) (turn : Bool) (o : Option Event) → 0 < end → end - 1 < length events → slice_get events (end - 1) ≡ o
    → turn ≡ turn_of rules events (end - 1) (slice_get events (end - 1)) → turn ≡ false → (tally_at rules events place).mover ≡ (tally_at rules events end).mover
    → (tally_at rules events place).mover ≡ (tally_at rules events (end - 1)).mover
no_turn_by rules events place end turn None some within there reported none so_far = absurd (not_past events (end - 1) within there)
no_turn_by rules events place end turn (Some e) some within there reported none so_far =
    let step : end ≡ end - 1 + 1 = omega (arith, some) in
    let one : turn_of rules events (end - 1) (Some e) ≡ false = sym (ap (turn_of rules events (end - 1)) there) ∙ sym reported ∙ none in
    so_far ∙ ap (λ (n : ℕ). (tally_at rules events n).mover) step ∙ after_other rules events (end - 1) e there one

-- the same if it is not one
pub no_turn : (rules : Rules) (events : List Event) (place end : ℕ) (turn : Bool) → 0 < end → end - 1 < length events → turn ≡ turn_of rules events (end - 1) (slice_get events (end - 1))
    → turn ≡ false → (tally_at rules events place).mover ≡ (tally_at rules events end).mover → (tally_at rules events place).mover ≡ (tally_at rules events (end - 1)).mover
no_turn rules events place end turn some within reported none so_far = no_turn_by rules events place end turn (slice_get events (end - 1)) some within refl reported none so_far

-- what there is in a state, by what a machine has
pub next_by : (s at : State) (n : NextLine) → at ≡ s → n.turn ≡ s.mover → n.out ≡ at.out → n.complete ≡ at.complete → n.bag ≡ at.bag → IsNextSide (side_of at.sides First) n.first
    → IsNextSide (side_of at.sides Second) n.second → IsNextOf s n
next_by s at n same turn out complete bag first second =
    record {
      turn = turn;
      out = out ∙ ap (λ (x : State). x.out) same;
      complete = complete ∙ ap (λ (x : State). x.complete) same;
      bag = bag ∙ ap (λ (x : State). x.bag) same;
      first = subst (λ (x : State). IsNextSide (side_of x.sides First) n.first) same first;
      second = subst (λ (x : State). IsNextSide (side_of x.sides Second) n.second) same second;
    }

-- ---- where the next line is

within_by : (rules : Rules) (list : List (List ℕ)) (written right : List Event) (end : ℕ) (stopped : Option Stop) → length right ≡ length written → EndsAt rules list written right end stopped → end ≤ length right
within_by rules list written right end None many ends = omega (arith, many, ends.0)
within_by rules list written right end (Some stop) many ends =
    let inside = slice_get_within right ends.stops.place ends.stops.event ends.stops.stands in
    omega (arith, inside, ends.there)

pub rows_within : (rules : Rules) (list : List (List ℕ)) (written right : List Event) (walk : Walk) → IsWalk rules list written right walk → length walk.rows.items ≤ length right
rows_within rules list written right walk is =
    let rows = is.rows.as_many in
    let many = (walk_renumbered rules list written right walk is).as_many in
    let within = within_by rules list written right is.end walk.stopped many is.ends in
    omega (arith, rows, within)

place_by : (rules : Rules) (list : List (List ℕ)) (written right : List Event) (end : ℕ) (stopped : Option Stop) → length right ≡ length written → EndsAt rules list written right end stopped
    → IsNextPlace right (refusal_of stopped) end
place_by rules list written right end None many ends = ends.0 ∙ sym many
place_by rules list written right end (Some stop) many ends =
    (ends.stops.event, ap (slice_get right) (sym ends.there) ∙ ends.stops.stands, ends.stops.on_line)

-- what the next line of a draft is about, from the walk over its events
pub is_next : (rules : Rules) (list : List (List ℕ)) (text : List ℕ) (game : Record) (walk : Walk) (d : DraftNext) → record_of (completed_text text) ≡ Ok game
    → d.record.players ≡ game.players → IsWalk rules list game.events d.record.events walk → d.stopped ≡ refusal_of walk.stopped
    → IsNextOf (tally_at rules d.record.events (length walk.rows.items)) d.next → IsNext rules list text d
is_next rules list text game walk d means players is stopped next =
    let many = (walk_renumbered rules list game.events d.record.events walk is).as_many in
    let there : IsNextPlace d.record.events (refusal_of walk.stopped) is.end = place_by rules list game.events d.record.events is.end walk.stopped many is.ends in
    record {
      drafted = game;
      means = means;
      players = players;
      righted = subst (λ o. IsRighted rules list game.events d.record.events o) (sym stopped) (righted rules list game.events d.record.events walk is);
      place = length walk.rows.items;
      at = subst (λ n. IsNextPlace d.record.events d.stopped n) (sym is.rows.as_many) (subst (λ o. IsNextPlace d.record.events o is.end) (sym stopped) there);
      is = next;
    }

-- the game after the last row, or before the first event
pub at_start : (rules : Rules) (list : List (List ℕ)) (written right : List Event) (walk : Walk) → IsWalk rules list written right walk → length walk.rows.items ≡ 0
    → state_of walk.start ≡ tally_at rules right (length walk.rows.items)
at_start rules list written right walk is none = is.start ∙ ap (tally_at rules right) (sym none)

pub after_rows : (rules : Rules) (list : List (List ℕ)) (written right : List Event) (walk : Walk) (last : ℕ) (row : Row) → IsWalk rules list written right walk
    → slice_get walk.rows.items last ≡ Some row → last + 1 ≡ length walk.rows.items → state_of row.following ≡ tally_at rules right (length walk.rows.items)
after_rows rules list written right walk last row is there next = after_row rules list written right walk last row is there ∙ ap (tally_at rules right) next
