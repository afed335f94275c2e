-- Where a text has the written score.
use Rattle.std.proofs.Common.{◌≡◌, ℕ, ℤ, Bool, true, false, List, [], ◌∷◌, All, ◌<◌, arith, length, take, zero, suc, Option, Some, None, is_none, Decides, refl, sym, ◌∙◌, subst}
use Rattle.std.specs.Prelude.{filter}
use Rattle.std.proofs.lemmas.List.Elements.{All-append, All-cons, All-nil, All-head, All-tail}
use Rattle.ref_tiles.specs.declared.tiles.Tile.{Tile}
use Rattle.ref_tiles.specs.declared.symbols.Symbol.{Symbol}
use Rattle.ref_tiles.specs.declared.rulebook.Rules.{Rules}
use Rattle.ref_board.specs.declared.directions.Dir.TheVariants.{Across, Down}
use Rattle.explain_clues.specs.declared.spots.Spot.{Spot}
use Rattle.explain_clues.specs.Spots.{scores_at, spots_along, scoring_along, scoring_spots}
use Rattle.gcg_read.specs.declared.events.Event.{Event}
use Rattle.std.proofs.lemmas.Bool.Decides.{Decides-below_and}
use Rattle.first_faults.proofs.CheckLaws.{some_fault}
use Rattle.game_turns.specs.declared.faults.RuleFault.{RuleFault}
use Rattle.game_turns.specs.Places.{fault_at, AreAllowedTo, IsRefusedBefore}
use Rattle.explain_facts.specs.Moments.{Moment}
use Rattle.explain_facts.specs.Elsewhere.{is_listed_at, allows_to, stands_at, standing, those_or, places}

-- an element of a filtered list passes the test
passed_one : {X : Type 0} (f : X → Bool) (x : X) (xs : List X) (b : Bool) → f x ≡ b → All (λ y. f y ≡ true) (filter f xs) → All (λ y. f y ≡ true) (filter f (x ∷ xs))
passed_one f x xs true is rest = rw is (All-cons (λ y. f y ≡ true) x (filter f xs) is rest)
passed_one f x xs false is rest = rw is rest

all_passed : {X : Type 0} (f : X → Bool) (xs : List X) → All (λ y. f y ≡ true) (filter f xs)
all_passed f [] = All-nil (λ y. f y ≡ true)
all_passed f (x ∷ xs) = passed_one f x xs (f x) refl (all_passed f xs)

-- what holds for all holds for those that pass a test, and for the first of them
kept_one : {X : Type 0} (P : X → Type 0) (f : X → Bool) (x : X) (xs : List X) (b : Bool) → f x ≡ b → P x → All P (filter f xs) → All P (filter f (x ∷ xs))
kept_one P f x xs true is here rest = rw is (All-cons P x (filter f xs) here rest)
kept_one P f x xs false is here rest = rw is rest

all_kept : {X : Type 0} (P : X → Type 0) (f : X → Bool) (xs : List X) → All P xs → All P (filter f xs)
all_kept P f [] all = All-nil P
all_kept P f (x ∷ xs) all = kept_one P f x xs (f x) refl (All-head P x xs all) (all_kept P f xs (All-tail P x xs all))

first_of : {X : Type 0} (P : X → Type 0) (many : ℕ) (xs : List X) → All P xs → All P (take many xs)
first_of P zero [] all = All-nil P
first_of P zero (x ∷ xs) all = All-nil P
first_of P (suc many) [] all = All-nil P
first_of P (suc many) (x ∷ xs) all = All-cons P x (take many xs) (All-head P x xs all) (first_of P many xs (All-tail P x xs all))

of_either : (P : Spot → Type 0) (all some : List Spot) → All P all → All P some → All P (those_or all some)
of_either P all [] first second = first
of_either P all (spot ∷ spots) first second = second

all_scoring : (rules : Rules) (board : List (Option Tile)) (word : List Symbol) (score : ℤ) → All (λ spot. scores_at rules board word score spot ≡ true) (scoring_spots rules board word score)
unfolding scoring_along
all_scoring rules board word score =
    All-append (λ spot. scores_at rules board word score spot ≡ true) (scoring_along rules board word score Across 225) (scoring_along rules board word score Down 225)
    (all_passed (scores_at rules board word score) (spots_along Across 225)) (all_passed (scores_at rules board word score) (spots_along Down 225))

standing_score : (m : Moment) (word : List Symbol) → All (λ spot. scores_at m.rules m.before.board word m.event.score spot ≡ true) (standing m word)
unfolding standing
standing_score m word =
    all_kept (λ spot. scores_at m.rules m.before.board word m.event.score spot ≡ true) (stands_at m word) (scoring_spots m.rules m.before.board word m.event.score)
    (all_scoring m.rules m.before.board word m.event.score)

all_standing : (m : Moment) (word : List Symbol) → All (λ spot. stands_at m word spot ≡ true) (standing m word)
unfolding standing
all_standing m word = all_passed (stands_at m word) (scoring_spots m.rules m.before.board word m.event.score)

-- what holds for the spots at which the text stands holds for those that are chosen
all_places : (P : Spot → Type 0) (m : Moment) (word : List Symbol) → All P (standing m word) → All P (places m word)
unfolding places
all_places P m word all =
    of_either P (standing m word) (filter (is_listed_at m.before.board m.list word) (standing m word)) all
    (all_kept P (is_listed_at m.before.board m.list word) (standing m word) all)

-- each place that is named has the written score
pub all_score : (m : Moment) (word : List Symbol) (written : ℤ) (named : List Spot) → written ≡ m.event.score → named ≡ take 3 (places m word)
    → All (λ spot. scores_at m.rules m.before.board word written spot ≡ true) named
all_score m word written named is_written is_named =
    subst (λ (w : ℤ). All (λ spot. scores_at m.rules m.before.board word w spot ≡ true) named) (sym is_written)
    (subst (λ (spots : List Spot). All (λ spot. scores_at m.rules m.before.board word m.event.score spot ≡ true) spots) (sym is_named)
    (first_of (λ spot. scores_at m.rules m.before.board word m.event.score spot ≡ true) 3 (places m word)
    (all_places (λ spot. scores_at m.rules m.before.board word m.event.score spot ≡ true) m word (standing_score m word))))

-- and with each the rules allow the record to its end
pub all_stand : (m : Moment) (word : List Symbol) (named : List Spot) → named ≡ take 3 (places m word) → All (λ spot. stands_at m word spot ≡ true) named
all_stand m word named is_named =
    subst (λ (spots : List Spot). All (λ spot. stands_at m word spot ≡ true) spots) (sym is_named)
    (first_of (λ spot. stands_at m word spot ≡ true) 3 (places m word) (all_places (λ spot. stands_at m word spot ≡ true) m word (all_standing m word)))

-- if a list has an element, the first three of it have one
pub some_named : (all named : List Spot) → 0 < length all → named ≡ take 3 all → 0 < length named
some_named [] named some is = absurd (omega (arith, some))
some_named (spot ∷ spots) named some is = subst (λ (these : List Spot). 0 < length these) (sym is) (omega arith)

-- ---- whether the rules allow every event

decides_none : {X : Type 0} (o : Option X) → Decides (is_none o) (o ≡ None)
decides_none None = (λ _. refl, λ _. refl)
decides_none (Some x) = (λ e. cc, λ e. cc)

decides_all : (rules : Rules) (list : List (List ℕ)) (events : List Event) (many : ℕ) → Decides (allows_to rules list events many) (AreAllowedTo rules list events many)
decides_all rules list events many =
    Decides-below_and (λ k. is_none (fault_at rules list events k)) (λ k. fault_at rules list events k ≡ None) (allows_to rules list events)
    (λ k. decides_none (fault_at rules list events k)) refl (λ n. refl) many

is_false : (b : Bool) → (b ≡ true → ⊥) → false ≡ b
is_false true never = absurd (never refl)
is_false false never = refl

pub all_allowed : (rules : Rules) (list : List (List ℕ)) (events : List Event) (many : ℕ) → AreAllowedTo rules list events many → true ≡ allows_to rules list events many
all_allowed rules list events many allowed = sym ((decides_all rules list events many).1 allowed)

pub one_refused : (rules : Rules) (list : List (List ℕ)) (events : List Event) (many line : ℕ) (why : RuleFault) → IsRefusedBefore rules list events many line why
    → false ≡ allows_to rules list events many
one_refused rules list events many line why refused =
    is_false (allows_to rules list events many)
    (λ so. some_fault why (sym refused.first.fails ∙ (decides_all rules list events many).0 so refused.first.place refused.before))
