-- The next best plays of an event.
use Rattle.std.proofs.Common.{◌≡◌, ℕ, zero, suc, ◌<◌, ◌≤◌, ◌==◌, Bool, true, false, min, nat_lt, List, [], ◌∷◌, length, drop, remove, slice_get, Option, Some, None, refl, sym, subst, arith}
use Rattle.std.proofs.lemmas.Bool.{eqb-true}
use Rattle.std.proofs.lemmas.Option.{slice_get_past}
use Rattle.ref_tiles.specs.declared.rulebook.Rules.{Rules}
use Rattle.gcg_read.specs.declared.events.Event.{Event}
use Rattle.game_turns.specs.Places.{AreAllowedTo}
use Rattle.game_turns.specs.Tallies.{State, tally_at}
use Rattle.game_answers.specs.declared.plays.ScoredPlay.{ScoredPlay}
use Rattle.game_walk.specs.declared.walking.Walk.{Walk}
use Rattle.game_walk.specs.declared.rows.Row.{Row}
use Rattle.game_walk.specs.Walks.{IsWalk}
use Rattle.sheet_scores.proofs.WalkRows.{past_last}
use Rattle.sheet_notes.specs.Notes.{AreNextPlays, AreNextAt}

-- ---- all plays but the first

pub none_dropped : (plays : List ScoredPlay) → (length plays == 0) ≡ true → plays ≡ drop 1 plays
none_dropped [] none = refl
none_dropped (play ∷ plays) none =
    let empty : length (play ∷ plays) ≡ 0 = eqb-true (length (play ∷ plays)) 0 none in
    absurd (omega (arith, empty))

pub first_removed : (plays : List ScoredPlay) → remove plays 0 ≡ drop 1 plays
first_removed [] = refl
first_removed (play ∷ plays) = refl

-- ---- the event at a place

pub next_alone : (number : ℕ) (rules : Rules) (list : List (List ℕ)) (right : List Event) (place : ℕ) (e : Event) (plays : List ScoredPlay) → number < 2 → plays ≡ []
    → AreNextAt number rules list right place e plays
next_alone number rules list right place e plays few none =
    record {
      known = λ many allowed. absurd (omega (arith, few, many));
      unknown = λ not. none;
      alone = λ below. none;
    }

no_row : (rows : List Row) → slice_get rows (length rows) ≡ None
no_row rows = slice_get_past rows (length rows) (omega arith)

pub next_unknown : (number : ℕ) (rules : Rules) (list : List (List ℕ)) (written right : List Event) (walk : Walk) (place : ℕ) (e : Event) (plays : List ScoredPlay) → IsWalk rules list written right walk
    → length walk.rows.items < place → place < length written → plays ≡ [] → AreNextAt number rules list right place e plays
next_unknown number rules list written right walk place e plays is past within none =
    record {
      known = λ many allowed. absurd (past_last rules list written right walk (length walk.rows.items) place is (sym (no_row walk.rows.items)) past (omega (arith, within)) allowed);
      unknown = λ not. none;
      alone = λ below. none;
    }

-- the rules allow the events for which a walk has rows
rows_allowed : (rules : Rules) (list : List (List ℕ)) (written right : List Event) (walk : Walk) (place : ℕ) → IsWalk rules list written right walk → place ≤ length walk.rows.items
    → AreAllowedTo rules list right place
rows_allowed rules list written right walk place is within =
    let many = is.rows.as_many in
    λ k below. is.allowed k (omega (arith, below, within, many))

pub next_known : (number : ℕ) (rules : Rules) (list : List (List ℕ)) (written right : List Event) (walk : Walk) (place : ℕ) (e : Event) (s : State) (plays : List ScoredPlay)
    → IsWalk rules list written right walk → place ≤ length walk.rows.items → 2 ≤ number → s ≡ tally_at rules right place → AreNextPlays (min number 100) rules list s e plays
    → AreNextAt number rules list right place e plays
next_known number rules list written right walk place e s plays is within many same next =
    record {
      known = λ more allowed. subst (λ (t : State). AreNextPlays (min number 100) rules list t e plays) same next;
      unknown = λ not. absurd (not (rows_allowed rules list written right walk place is within));
      alone = λ below. absurd (omega (arith, below, many));
    }
