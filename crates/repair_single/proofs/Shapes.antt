-- What in a tally does not depend on the numbers of the events: the board, the player who is out, and whether the game is
-- complete.
use Rattle.std.proofs.Common.{◌≡◌, ℕ, pos, suc, ◌&&◌, ◌||◌, Bool, true, false, List, [], ◌∷◌, ◌++◌, map, reverse, take, slice_get, Option, None, is_some, refl, sym, ap, ◌∙◌, arith}
use Rattle.std.proofs.lemmas.List.{map-append, reverse-append, take-map}
use Rattle.ref_tiles.specs.declared.rulebook.Rules.{Rules}
use Rattle.gcg_read.specs.declared.events.Event.{Event}
use Rattle.gcg_read.specs.declared.events.EventKind.{EventKind}
use Rattle.gcg_read.specs.declared.events.Seat.{Seat}
use Rattle.gcg_read.specs.declared.events.Seat.TheVariants.{First, Second}
use Rattle.game_turns.specs.Seats.{same_seat}
use Rattle.game_turns.specs.Standing.{Stood, is_withdraw, board_with, played_on, with_play, standing, waiting, board_at, out_after}
use Rattle.game_turns.specs.Tallies.{tally, tally_at, withdraws, is_last_rack, out_at, has_last_rack, is_complete}
use Rattle.game_corrections.specs.Corrections.{IsRenumbered, AreRenumbered}
use Rattle.game_corrections.proofs.Fronts.{same_withdrawal}

-- an event with only its player and what happened
abbrev pub shaped : Seat → EventKind → Event
shaped player what = record { line = 0; player = player; rack = None; kind = what; score = pos 0; total = pos 0 }

abbrev pub shape : Event → Event
shape e = shaped e.player e.kind

-- ---- lists of the same shape

same_shape : (w r : Event) → IsRenumbered w r → shape r ≡ shape w
same_shape w r is = ap (λ (p : Seat). shaped p r.kind) is.player ∙ ap (shaped w.player) is.kind

pub same_shapes : (written right : List Event) → AreRenumbered written right → map shape right ≡ map shape written
same_shapes [] [] are = refl
same_shapes [] (r ∷ rs) are = let long = are.as_many in absurd (omega (arith, long))
same_shapes (w ∷ ws) [] are = let long = are.as_many in absurd (omega (arith, long))
same_shapes (w ∷ ws) (r ∷ rs) are =
    let long = are.as_many in
    let rest : AreRenumbered ws rs = record { as_many = omega (arith, long); each = λ place a b of_a of_b. are.each (suc place) a b of_a of_b } in
    ap (λ (e : Event). e ∷ map shape rs) (same_shape w r (are.each 0 w r refl refl)) ∙ ap (λ (es : List Event). shape w ∷ es) (same_shapes ws rs rest)

map_reverse : {X Y : Type 0} (f : X → Y) (xs : List X) → map f (reverse xs) ≡ reverse (map f xs)
map_reverse f [] = refl
map_reverse {X} {Y} f (x ∷ xs) =
    ap (map f) (reverse-append (x ∷ []) xs) ∙ map-append f (reverse xs) (x ∷ []) ∙ ap (λ (ys : List Y). ys ++ f x ∷ []) (map_reverse f xs)
    ∙ sym (reverse-append (f x ∷ []) (map f xs))

past_shape : (events : List Event) (place : ℕ) → map shape (reverse (take place events)) ≡ reverse (take place (map shape events))
past_shape events place = map_reverse shape (take place events) ∙ ap (λ (es : List Event). reverse es) (sym (take-map shape place events))

-- ---- what depends only on shapes

standing_shape : (w : Bool) (past : List Event) → standing w (map shape past) ≡ standing w past
standing_shape w [] = refl
standing_shape true (e ∷ past) = standing_shape (is_withdraw e.kind) past
standing_shape false (e ∷ past) = ap (with_play e.player e.kind) (standing_shape (is_withdraw e.kind) past)

waiting_shape : (w : Bool) (past : List Event) → waiting w (map shape past) ≡ waiting w past
waiting_shape false past = refl
waiting_shape true [] = refl
waiting_shape true (e ∷ past) = ap (λ (plays : List Stood). played_on (board_with plays) e.player e.kind) (standing_shape (is_withdraw e.kind) past)

board_shape : (w : Bool) (past : List Event) → board_at w (map shape past) ≡ board_at w past
board_shape w past =
    ap (λ (plays : List Stood). board_with (plays ++ standing w (map shape past))) (waiting_shape w past)
    ∙ ap (λ (plays : List Stood). board_with (waiting w past ++ plays)) (standing_shape w past)

out_shape : (rules : Rules) (w : Bool) (past : List Event) → out_at rules w (map shape past) ≡ out_at rules w past
out_shape rules w past = ap (out_after rules) (standing_shape w past)

racks_shape : (seat : Seat) (past : List Event) → has_last_rack seat (map shape past) ≡ has_last_rack seat past
racks_shape seat [] = refl
racks_shape seat (e ∷ past) = ap (λ (b : Bool). is_last_rack e.kind && same_seat e.player seat || b) (racks_shape seat past)

complete_shape : (rules : Rules) (past : List Event) → is_complete rules (map shape past) ≡ is_complete rules past
complete_shape rules [] = refl
complete_shape rules (e ∷ past) =
    let others = map shape past in
    let what = is_last_rack e.kind in
    ap (λ (o : Option Seat). what && (is_some o || has_last_rack First others || has_last_rack Second others) || is_complete rules others) (out_shape rules (is_withdraw e.kind) past)
    ∙ ap (λ (b : Bool). what && (is_some (out_at rules (is_withdraw e.kind) past) || b || has_last_rack Second others) || is_complete rules others) (racks_shape First past)
    ∙ ap (λ (b : Bool). what && (is_some (out_at rules (is_withdraw e.kind) past) || has_last_rack First past || b) || is_complete rules others) (racks_shape Second past)
    ∙ ap (λ (b : Bool). what && (is_some (out_at rules (is_withdraw e.kind) past) || has_last_rack First past || has_last_rack Second past) || b) (complete_shape rules past)

-- ---- the tally at a place of renumbered events

-- what is read from the shapes of a past is the same for both
by_shape : {X : Type 0} (f : List Event → X) → ((past : List Event) → f (map shape past) ≡ f past) → (written right : List Event) (place : ℕ) → AreRenumbered written right
    → f (reverse (take place right)) ≡ f (reverse (take place written))
by_shape {X} f alone written right place are =
    sym (alone (reverse (take place right))) ∙ ap f (past_shape right place) ∙ ap (λ (es : List Event). f (reverse (take place es))) (same_shapes written right are)
    ∙ sym (ap f (past_shape written place)) ∙ alone (reverse (take place written))

pub same_board : (rules : Rules) (written right : List Event) (place : ℕ) → AreRenumbered written right → (tally_at rules right place).board ≡ (tally_at rules written place).board
unfolding tally
same_board rules written right place are =
    ap (λ (w : Bool). board_at w (reverse (take place right))) (same_withdrawal written right place are)
    ∙ by_shape (board_at (withdraws (slice_get written place))) (board_shape (withdraws (slice_get written place))) written right place are

pub same_out : (rules : Rules) (written right : List Event) (place : ℕ) → AreRenumbered written right → (tally_at rules right place).out ≡ (tally_at rules written place).out
unfolding tally
same_out rules written right place are =
    ap (λ (w : Bool). out_at rules w (reverse (take place right))) (same_withdrawal written right place are)
    ∙ by_shape (out_at rules (withdraws (slice_get written place))) (out_shape rules (withdraws (slice_get written place))) written right place are

pub same_complete : (rules : Rules) (written right : List Event) (place : ℕ) → AreRenumbered written right → (tally_at rules right place).complete ≡ (tally_at rules written place).complete
unfolding tally
same_complete rules written right place are = by_shape (is_complete rules) (complete_shape rules) written right place are
