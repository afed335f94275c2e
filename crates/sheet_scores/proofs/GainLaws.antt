-- The sum of what best plays would have given more, event by event.
use Rattle.std.proofs.Common.{◌≡◌, ℕ, zero, suc, ◌+◌, ◌-◌, ◌^◌, ◌<◌, ◌≤◌, List, slice_get, Option, refl, ap, subst, arith}
use Rattle.gcg_read.specs.declared.events.Event.{Event}
use Rattle.gcg_read.specs.declared.events.Seat.{Seat}
use Rattle.game_bests.specs.declared.bests.TurnBest.{TurnBest}
use Rattle.sheet_scores.specs.Gains.{gain_of, gains_to}

pub gains_none : (player : Seat) (events : List Event) (best_at : ℕ → Option TurnBest) → 0 ≡ gains_to player events best_at 0
unfolding gains_to
gains_none player events best_at = refl

pub gains_more : (player : Seat) (events : List Event) (best_at : ℕ → Option TurnBest) (place : ℕ)
    → gains_to player events best_at (place + 1) ≡ gains_to player events best_at place + gain_of player (slice_get events place) (best_at place)
unfolding gains_to
gains_more player events best_at place =
    let next : place + 1 ≡ suc place = omega arith in
    ap (gains_to player events best_at) next

-- a sum only grows
grown_by : (player : Seat) (events : List Event) (best_at : ℕ → Option TurnBest) (place many end : ℕ) → many + place ≡ end
    → gains_to player events best_at place ≤ gains_to player events best_at end
grown_by player events best_at place zero end apart =
    let same : place ≡ end = omega arith in
    subst (λ n. gains_to player events best_at place ≤ gains_to player events best_at n) same (omega arith)
grown_by player events best_at place (suc many) end apart =
    let before = grown_by player events best_at place many (many + place) refl in
    let next = gains_more player events best_at (many + place) in
    let same : many + place + 1 ≡ end = omega arith in
    subst (λ n. gains_to player events best_at place ≤ gains_to player events best_at n) same (omega (arith, before, next))

pub gains_grow : (player : Seat) (events : List Event) (best_at : ℕ → Option TurnBest) (place end : ℕ) → place ≤ end → gains_to player events best_at place ≤ gains_to player events best_at end
gains_grow player events best_at place end within = grown_by player events best_at place (end - place) end (omega arith)

-- a partial sum of 2^64 or more makes the whole sum one
pub too_many : (player : Seat) (events : List Event) (best_at : ℕ → Option TurnBest) (place end gains more : ℕ) → gains ≡ gains_to player events best_at place
    → more ≡ gain_of player (slice_get events place) (best_at place) → place < end → (gains + more < 2 ^ 64 → ⊥) → 2 ^ 64 ≤ gains_to player events best_at end
too_many player events best_at place end gains more so_far here below full =
    let next = gains_more player events best_at place in
    let grown = gains_grow player events best_at (place + 1) end (omega arith) in
    omega (arith, next, grown)
