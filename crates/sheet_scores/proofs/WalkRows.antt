-- What the rows of a walk say of the events at their places, and after the last row.
use Rattle.std.proofs.Common.{Bor, ◌≡◌, ℕ, zero, suc, ◌+◌, ◌-◌, ◌<◌, ◌≤◌, ◌==◌, Bool, true, false, nat_lt, List, [], ◌∷◌, length, get_or, slice_get, Option, Some, None, is_some, IfSome, refl, sym, ap, ◌∙◌, subst, arith}
use Rattle.std.specs.Option.{option_copied}
use Rattle.std.proofs.lemmas.Bool.{ltb-false, ltb-true, eqb-true, eqb-false}
use Rattle.std.proofs.lemmas.Option.{slice_get_past, slice_get_read, slice_get_within}
use Rattle.ref_tiles.specs.declared.rulebook.Rules.{Rules}
use Rattle.gcg_read.specs.declared.events.Event.{Event}
use Rattle.game_turns.specs.Machines.{state_of}
use Rattle.game_turns.specs.Places.{AreAllowedTo}
use Rattle.game_turns.specs.LatestEvents.{standing_words}
use Rattle.game_turns.specs.Tallies.{State, tally_at}
use Rattle.game_walk.specs.declared.numbers.Numbers.{Numbers}
use Rattle.game_walk.specs.declared.refusals.Stop.{Stop}
use Rattle.game_walk.specs.declared.rows.Row.{Row}
use Rattle.game_walk.specs.declared.walking.Walk.{Walk}
use Rattle.game_walk.specs.Refusals.{EndsAt}
use Rattle.game_walk.specs.Walks.{IsWalk}
use Rattle.game_turns.specs.declared.unlisted.SpelledWord.{SpelledWord}
use Rattle.game_turns.specs.Unlisted.{letters_in, unlisted_of}
use Rattle.sheet_scores.specs.Rows.{numbers_after, HasNumbersAt, IsBeforeAt, IsNotedAt}

pub copied_row : (rows : List Row) (place : ℕ) (o : Option (Bor Row)) → is_some o ≡ nat_lt place (length rows) → IfSome o (λ x. x.now ≡ get_or rows place x.now)
    → option_copied o ≡ slice_get rows place
copied_row rows place None there item = sym (slice_get_past rows place (ltb-false place (length rows) (sym there)))
copied_row rows place (Some x) there item = sym (slice_get_read rows (length rows) place x.now refl (ltb-true place (length rows) (sym there)) item)

-- there is no item after the last
past_rows : (rows : List Row) (place : ℕ) → slice_get rows place ≡ None → length rows ≤ place
past_rows [] place none = omega arith
past_rows (row ∷ rows) zero none = cc
past_rows (row ∷ rows) (suc place) none = let rest = past_rows rows place none in omega (arith, rest)

-- ---- numbers

pub row_numbers : (rules : Rules) (list : List (List ℕ)) (written right : List Event) (walk : Walk) (place : ℕ) (row : Row) → IsWalk rules list written right walk
    → Some row ≡ slice_get walk.rows.items place → HasNumbersAt right place row.right
row_numbers rules list written right walk place row is there =
    let at = is.rows.each place row (sym there) in
    record { event = at.event; stands = at.stands; own = at.right_numbers }

by_stop : (rules : Rules) (list : List (List ℕ)) (written right : List Event) (end place : ℕ) (e : Event) (stopped : Option Stop) (next : Bool) → EndsAt rules list written right end stopped
    → slice_get written place ≡ Some e → end ≤ place → (place == end) ≡ next → HasNumbersAt right place (numbers_after stopped next e)
by_stop rules list written right end place e None next ends stood following same =
    let last = ends.0 in
    let within = slice_get_within written place e stood in
    absurd (omega (arith, last, within))
by_stop rules list written right end place e (Some stop) true ends stood following same =
    let here : ends.stops.place ≡ place = ends.there ∙ sym (eqb-true place end same) in
    record {
      event = ends.stops.event;
      stands = ap (slice_get right) (sym here) ∙ ends.stops.stands;
      own = ends.numbers;
    }
by_stop rules list written right end place e (Some stop) false ends stood following same =
    let there = ends.there in
    let other : place ≡ end → ⊥ = eqb-false place end same in
    record {
      event = e;
      stands = ends.stops.before.following place (omega (arith, there, following, other)) ∙ stood;
      own = refl;
    }

pub later_numbers : (rules : Rules) (list : List (List ℕ)) (written right : List Event) (walk : Walk) (place : ℕ) (e : Event) (next : Bool) (numbers : Numbers) → IsWalk rules list written right walk
    → slice_get written place ≡ Some e → None ≡ slice_get walk.rows.items place → next ≡ (place == length walk.rows.items) → numbers ≡ numbers_after walk.stopped next e
    → HasNumbersAt right place numbers
later_numbers rules list written right walk place e next numbers is stood none same known =
    let many = is.rows.as_many in
    let following = past_rows walk.rows.items place (sym none) in
    subst (HasNumbersAt right place) (sym known)
    (by_stop rules list written right is.end place e walk.stopped next is.ends stood (omega (arith, many, following)) (ap (λ n. place == n) (sym many) ∙ sym same))

-- ---- the game before and after an event

-- not each event is allowed before a place after the last row
past_end : (rules : Rules) (list : List (List ℕ)) (written right : List Event) (end many : ℕ) (stopped : Option Stop) → EndsAt rules list written right end stopped → end < many
    → many ≤ length written → AreAllowedTo rules list right many → ⊥
past_end rules list written right end many None ends further within allowed =
    let last = ends.0 in
    omega (arith, last, further, within)
past_end rules list written right end many (Some stop) ends further within allowed =
    let there = ends.there in
    let none = allowed ends.stops.place (omega (arith, there, further)) in
    let both : Some stop.refusal.why ≡ None = sym ends.stops.fails ∙ none in
    cc

pub past_last : (rules : Rules) (list : List (List ℕ)) (written right : List Event) (walk : Walk) (place many : ℕ) → IsWalk rules list written right walk → None ≡ slice_get walk.rows.items place
    → place < many → many ≤ length written → AreAllowedTo rules list right many → ⊥
past_last rules list written right walk place many is none further within =
    let rows = is.rows.as_many in
    let following = past_rows walk.rows.items place (sym none) in
    past_end rules list written right is.end many walk.stopped is.ends (omega (arith, rows, following, further)) within

pub before_row : (rules : Rules) (list : List (List ℕ)) (written right : List Event) (walk : Walk) (place : ℕ) (row : Row) → IsWalk rules list written right walk
    → (place ≡ 0 → ⊥) → Some row ≡ slice_get walk.rows.items (place - 1) → AreAllowedTo rules list right place × (state_of row.following ≡ tally_at rules right place)
before_row rules list written right walk place row is later there =
    let at = is.rows.each (place - 1) row (sym there) in
    let within = slice_get_within walk.rows.items (place - 1) row (sym there) in
    let many = is.rows.as_many in
    let next : place - 1 + 1 ≡ place = omega (arith, later) in
    (λ k below. is.allowed k (omega (arith, below, within, many, later)), at.following ∙ ap (tally_at rules right) next)

pub before_none : (rules : Rules) (list : List (List ℕ)) (written right : List Event) (walk : Walk) (place : ℕ) → IsWalk rules list written right walk → (place ≡ 0 → ⊥)
    → None ≡ slice_get walk.rows.items (place - 1) → place < length written → IsBeforeAt rules list right place None
before_none rules list written right walk place is later none within =
    past_last rules list written right walk (place - 1) place is none (omega (arith, later)) (omega (arith, within))

-- ---- what is noted after an event

pub noted_row : (rules : Rules) (list : List (List ℕ)) (written right : List Event) (walk : Walk) (place : ℕ) (row : Row) (unlisted : List SpelledWord) → IsWalk rules list written right walk
    → Some row ≡ slice_get walk.rows.items place → letters_in unlisted ≡ unlisted_of list (standing_words (state_of row.following).latest) → IsNotedAt rules list right place true unlisted
noted_row rules list written right walk place row unlisted is there words =
    let at = is.rows.each place row (sym there) in
    let within = slice_get_within walk.rows.items place row (sym there) in
    let many = is.rows.as_many in
    (λ k below. is.allowed k (omega (arith, below, within, many)), words ∙ ap (λ (s : State). unlisted_of list (standing_words s.latest)) at.following)

pub noted_none : (rules : Rules) (list : List (List ℕ)) (written right : List Event) (walk : Walk) (place : ℕ) (unlisted : List SpelledWord) → IsWalk rules list written right walk
    → None ≡ slice_get walk.rows.items place → place < length written → unlisted ≡ [] → IsNotedAt rules list right place false unlisted
noted_none rules list written right walk place unlisted is none within empty =
    (past_last rules list written right walk place (place + 1) is none (omega arith) (omega (arith, within)), empty)
