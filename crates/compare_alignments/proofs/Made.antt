-- Each event of a merged record is an event of one of the sheets.
use Rattle.std.proofs.Common.{◌≡◌, ◌⊎◌, inl, inr, ℕ, List, [], ◌∷◌, length, slice_get, Some, Option, None, refl, sym, subst, arith, rules}
use Rattle.std.specs.Prelude.{Bool, true, false, All, Contains}
use Rattle.std.specs.Option.{option_or}
use Rattle.std.proofs.lemmas.Option.{slice_get_within, get_or_from_slice_get}
use Rattle.std.proofs.lemmas.List.Elements.{All-append, Contains-get_or}
use Rattle.gcg_read.specs.Players.{same_seat}
use Rattle.gcg_read.specs.declared.events.Event.{Event}
use Rattle.gcg_read.specs.declared.events.Seat.{Seat}
use Rattle.gcg_read.specs.declared.events.Seat.TheVariants.{First, Second}
use Rattle.compare_alignments.specs.declared.pairs.Pair.{Pair}
use Rattle.compare_alignments.specs.declared.pairs.Side.{Side}
use Rattle.compare_alignments.specs.declared.pairs.Side.TheVariants as side
use Rattle.compare_alignments.specs.declared.merging.NumbersOf.TheVariants as numbers
use Rattle.compare_alignments.specs.Laws.{IsLineOf, IsOfSheets}
use Rattle.compare_alignments.specs.Merging.{of_side, own_side, rack_of, taken, events_of, side_of, line_at, next_item, next_rack, keeper, taken_of, merged_from, merged, items_of, with_rack}

there_at : (events : List Event) (k : ℕ) (e : Event) → slice_get events k ≡ Some e → Contains events e
there_at events k e at = subst (Contains events) (get_or_from_slice_get events k e e at) (Contains-get_or events k e (slice_get_within events k e at))

there_of : (events : List Event) (o : Option ℕ) (e : Event) → line_at events o ≡ Some e → Contains events e
there_of events None e at = cc
there_of events (Some k) e at = there_at events k e at

or_either : {X : Type 0} (a b : Option X) → (option_or a b ≡ a) ⊎ (option_or a b ≡ b)
or_either None b = inr refl
or_either (Some x) b = inl refl

swapped : {P Q : Type 0} → P ⊎ Q → Q ⊎ P
swapped (inl p) = inr p
swapped (inr q) = inl q

side_either : {X : Type 0} (which : Side) (a b : Option X) → (of_side which (option_or a b) (option_or b a) ≡ a) ⊎ (of_side which (option_or a b) (option_or b a) ≡ b)
side_either side.First a b = or_either a b
side_either side.Second a b = swapped (or_either b a)

one_player : (p q : Seat) → same_seat p q ≡ true → p ≡ q
one_player First First is = refl
one_player First Second is = cc
one_player Second First is = cc
one_player Second Second is = refl

-- where the rack comes from, if both lines are of one player and if they are not
rack_by : (owner : Seat) (a b e : Event) (is_same : Bool) → same_seat a.player b.player ≡ is_same
    → (rack_of owner a b e ≡ e.rack) ⊎ ((a.player ≡ b.player) × ((rack_of owner a b e ≡ a.rack) ⊎ (rack_of owner a b e ≡ b.rack)))
rack_by owner a b e true is = rw is (inr (one_player a.player b.player is, side_either (own_side owner e.player) a.rack b.rack))
rack_by owner a b e false is = rw is (inl refl)

first_made : (owner : Seat) (first second : List Event) (a b : Event) → Contains first a → Contains second b
    → (rack_of owner a b a ≡ a.rack) ⊎ ((a.player ≡ b.player) × ((rack_of owner a b a ≡ a.rack) ⊎ (rack_of owner a b a ≡ b.rack))) → IsLineOf first second (with_rack a (rack_of owner a b a))
first_made owner first second a b in_first in_second (inl own) = record { line = a; there = in_first; same = refl; rack = inl own }
first_made owner first second a b in_first in_second (inr (same, inl own)) = record { line = a; there = in_first; same = refl; rack = inl own }
first_made owner first second a b in_first in_second (inr (same, inr other)) =
    record { line = a; there = in_first; same = refl; rack = inr (record { line = b; there = in_second; player = sym same; rack = other }) }

second_made : (owner : Seat) (first second : List Event) (a b : Event) → Contains first a → Contains second b
    → (rack_of owner a b b ≡ b.rack) ⊎ ((a.player ≡ b.player) × ((rack_of owner a b b ≡ a.rack) ⊎ (rack_of owner a b b ≡ b.rack))) → IsLineOf second first (with_rack b (rack_of owner a b b))
second_made owner first second a b in_first in_second (inl own) = record { line = b; there = in_second; same = refl; rack = inl own }
second_made owner first second a b in_first in_second (inr (same, inr own)) = record { line = b; there = in_second; same = refl; rack = inl own }
second_made owner first second a b in_first in_second (inr (same, inl other)) =
    record { line = b; there = in_second; same = refl; rack = inr (record { line = a; there = in_first; player = same; rack = other }) }

taken_made : (owner : Seat) (which : Side) (first second : List Event) (a b : Event) → Contains first a → Contains second b → IsOfSheets first second (taken owner numbers.Taken which a b)
taken_made owner side.First first second a b in_first in_second = inl (first_made owner first second a b in_first in_second (rack_by owner a b a (same_seat a.player b.player) refl))
taken_made owner side.Second first second a b in_first in_second = inr (second_made owner first second a b in_first in_second (rack_by owner a b b (same_seat a.player b.player) refl))

one_all : {X : Type 0} (P : X → Type 0) (x : X) → P x → All P (x ∷ [])
one_all P x is = grind (arith, is)

none_all : {X : Type 0} (P : X → Type 0) → All P []
none_all P = search rules

alone : (first second : List Event) (e : Event) → Contains first e → IsLineOf first second e
alone first second e there = record { line = e; there = there; same = refl; rack = inl refl }

events_made : (owner : Seat) (which : Side) (first second : List Event) (o q : Option Event) → ((e : Event) → o ≡ Some e → Contains first e) → ((e : Event) → q ≡ Some e → Contains second e)
    → All (IsOfSheets first second) (events_of owner numbers.Taken which o q)
events_made owner which first second (Some a) (Some b) in_first in_second =
    one_all (IsOfSheets first second) (taken owner numbers.Taken which a b) (taken_made owner which first second a b (in_first a refl) (in_second b refl))
events_made owner side.First first second (Some a) None in_first in_second = one_all (IsOfSheets first second) a (inl (alone first second a (in_first a refl)))
events_made owner side.Second first second (Some a) None in_first in_second = none_all (IsOfSheets first second)
events_made owner side.First first second None (Some b) in_first in_second = none_all (IsOfSheets first second)
events_made owner side.Second first second None (Some b) in_first in_second = one_all (IsOfSheets first second) b (inr (alone second first b (in_second b refl)))
events_made owner which first second None None in_first in_second = none_all (IsOfSheets first second)

made_from : (owner : Seat) (choice number rack : ℕ) (first second : List Event) (pairs : List Pair) → All (IsOfSheets first second) (merged_from owner numbers.Taken choice number rack first second pairs)
unfolding merged_from
made_from owner choice number rack first second [] = none_all (IsOfSheets first second)
made_from owner choice number rack first second (p ∷ pairs) =
    All-append (IsOfSheets first second) (taken_of owner numbers.Taken choice number rack first second p)
    (merged_from owner numbers.Taken choice (next_item number p) (next_rack rack p) first second pairs)
    (events_made (keeper owner choice rack p) (side_of choice number p (line_at first p.first) (line_at second p.second)) first second (line_at first p.first) (line_at second p.second)
    (λ e. there_of first p.first e) (λ e. there_of second p.second e))
    (made_from owner choice (next_item number p) (next_rack rack p) first second pairs)

pub all_made : (owner : Seat) (choice : ℕ) (first second : List Event) (pairs : List Pair) → All (IsOfSheets first second) (merged owner numbers.Taken choice first second pairs)
all_made owner choice first second pairs = made_from owner choice 0 (length (items_of pairs)) first second pairs
