-- A merged record with one more pair, how many items there are and are chosen, and the record of a sheet and itself.
use Rattle.std.proofs.Common.{◌≡◌, ℕ, zero, suc, ◌+◌, ◌-◌, ◌<◌, ◌≤◌, List, [], ◌∷◌, ◌++◌, map, length, drop, get_or, slice_get, Some, Option, None, refl, sym, ap, ◌∙◌, subst, arith, append_assoc, append-nil}
use Rattle.std.specs.Prelude.{Bool, true, false, not, ◌&&◌, filter, if◌then◌else◌}
use Rattle.std.specs.List.{range_with_len}
use Rattle.std.specs.Option.{option_or}
use Rattle.gcg_read.specs.Players.{same_seat}
use Rattle.gcg_read.specs.declared.events.Event.{Event}
use Rattle.gcg_read.specs.declared.events.Seat.{Seat}
use Rattle.gcg_read.specs.declared.events.Seat.TheVariants.{First, Second}
use Rattle.compare_alignments.specs.declared.pairs.Pair.{Pair}
use Rattle.compare_alignments.specs.declared.pairs.Side.{Side}
use Rattle.compare_alignments.specs.declared.pairs.Side.TheVariants as side
use Rattle.compare_alignments.specs.declared.merging.NumbersOf.{NumbersOf}
use Rattle.compare_alignments.specs.declared.merging.NumbersOf.TheVariants as numbers
use Rattle.compare_alignments.specs.Alignments.{own_pair, own_pairs}
use Rattle.compare_alignments.specs.Merging.{of_side, own_side, rack_of, taken, events_of, fuller_side, gives_tiles, next_item, next_rack, is_chosen, taken_of, merged_from, merged, items_of, rack_items, with_rack}

dropped_next : {X : Type 0} (xs : List X) (i : ℕ) (d : X) → i < length xs → drop i xs ≡ get_or xs i d ∷ drop (suc i) xs
dropped_next [] i d within = absurd (omega (arith, within))
dropped_next (y ∷ xs) zero d within = refl
dropped_next (y ∷ xs) (suc i) d within = dropped_next xs i d (omega (arith, within))

next_is : (i : ℕ) → suc i ≡ i + 1
next_is i = omega arith

pub dropped : {X : Type 0} (xs : List X) (i : ℕ) (d : X) → i < length xs → drop i xs ≡ get_or xs i d ∷ drop (i + 1) xs
dropped xs i d within = dropped_next xs i d within ∙ ap (λ k. get_or xs i d ∷ drop k xs) (next_is i)

-- one more pair is taken
pub pair_more : (owner : Seat) (whose : NumbersOf) (choice number next rack following : ℕ) (first second : List Event) (pairs : List Pair) (i : ℕ) (d : Pair) (events new all : List Event)
    → i < length pairs → next ≡ next_item number (get_or pairs i d) → following ≡ next_rack rack (get_or pairs i d)
    → new ≡ events ++ taken_of owner whose choice number rack first second (get_or pairs i d)
    → events ++ merged_from owner whose choice number rack first second (drop i pairs) ≡ all
    → new ++ merged_from owner whose choice next following first second (drop (i + 1) pairs) ≡ all
unfolding merged_from
pair_more owner whose choice number next rack following first second pairs i d events new all within is_next is_after added so_far =
    let p = get_or pairs i d in
    ap (λ (xs : List Event). xs ++ merged_from owner whose choice next following first second (drop (i + 1) pairs)) added
    ∙ ap (λ n. (events ++ taken_of owner whose choice number rack first second p) ++ merged_from owner whose choice n following first second (drop (i + 1) pairs)) is_next
    ∙ ap (λ n. (events ++ taken_of owner whose choice number rack first second p) ++ merged_from owner whose choice (next_item number p) n first second (drop (i + 1) pairs)) is_after
    ∙ append_assoc events (taken_of owner whose choice number rack first second p) (merged_from owner whose choice (next_item number p) (next_rack rack p) first second (drop (i + 1) pairs))
    ∙ ap (λ (xs : List Pair). events ++ merged_from owner whose choice number rack first second xs) (sym (dropped pairs i d within))
    ∙ so_far

pub past_all : {X : Type 0} (xs : List X) (i : ℕ) → length xs ≤ i → drop i xs ≡ []
past_all [] zero all = refl
past_all [] (suc i) all = refl
past_all (x ∷ xs) zero all = absurd (omega (arith, all))
past_all (x ∷ xs) (suc i) all = past_all xs i (omega (arith, all))

pub pairs_all : (owner : Seat) (whose : NumbersOf) (choice number rack : ℕ) (first second : List Event) (pairs : List Pair) (i : ℕ) (events all : List Event)
    → length pairs ≤ i → events ++ merged_from owner whose choice number rack first second (drop i pairs) ≡ all → events ≡ all
unfolding merged_from
pairs_all owner whose choice number rack first second pairs i events all past so_far =
    sym (append-nil events) ∙ ap (λ (xs : List Pair). events ++ merged_from owner whose choice number rack first second xs) (sym (past_all pairs i past)) ∙ so_far

-- ---- the number of pairs that differ

item_by : (number : ℕ) (p : Pair) (rest : List Pair) (b : Bool) → p.agrees ≡ b → next_item number p + length (items_of rest) ≡ number + length (items_of (p ∷ rest))
item_by number p rest true is = rw is refl
item_by number p rest false is = rw is (omega arith)

pub item_more : (number next : ℕ) (pairs : List Pair) (i : ℕ) (d : Pair) (all : ℕ) → i < length pairs → next ≡ next_item number (get_or pairs i d)
    → number + length (items_of (drop i pairs)) ≡ all → next + length (items_of (drop (i + 1) pairs)) ≡ all
item_more number next pairs i d all within following so_far =
    let p = get_or pairs i d in
    ap (λ n. n + length (items_of (drop (i + 1) pairs))) following ∙ item_by number p (drop (i + 1) pairs) p.agrees refl
    ∙ ap (λ (xs : List Pair). number + length (items_of xs)) (sym (dropped pairs i d within)) ∙ so_far

few_by : (number i : ℕ) (p : Pair) (b : Bool) → p.agrees ≡ b → number ≤ i → next_item number p ≤ i + 1
few_by number i p true is few = rw is (omega (arith, few))
few_by number i p false is few = rw is (omega (arith, few))

pub item_few : (number next i : ℕ) (p : Pair) → next ≡ next_item number p → number ≤ i → next ≤ i + 1
item_few number next i p following few = subst (λ n. n ≤ i + 1) (sym following) (few_by number i p p.agrees refl few)

pub items_all : (number : ℕ) (pairs : List Pair) (i : ℕ) (all : ℕ) → length pairs ≤ i → number + length (items_of (drop i pairs)) ≡ all → number ≡ all
items_all number pairs i all past so_far =
    let none = ap (λ (xs : List Pair). length (items_of xs)) (past_all pairs i past) in
    omega (arith, none, so_far)

-- ---- the number of pairs with other racks

rack_by : (rack : ℕ) (p : Pair) (rest : List Pair) (b : Bool) → p.other_racks ≡ b → next_rack rack p + length (rack_items rest) ≡ rack + length (rack_items (p ∷ rest))
rack_by rack p rest true is = rw is (omega arith)
rack_by rack p rest false is = rw is refl

pub rack_more : (rack next : ℕ) (pairs : List Pair) (i : ℕ) (d : Pair) (all : ℕ) → i < length pairs → next ≡ next_rack rack (get_or pairs i d)
    → rack + length (rack_items (drop i pairs)) ≡ all → next + length (rack_items (drop (i + 1) pairs)) ≡ all
rack_more rack next pairs i d all within following so_far =
    let p = get_or pairs i d in
    ap (λ n. n + length (rack_items (drop (i + 1) pairs))) following ∙ rack_by rack p (drop (i + 1) pairs) p.other_racks refl
    ∙ ap (λ (xs : List Pair). rack + length (rack_items xs)) (sym (dropped pairs i d within)) ∙ so_far

few_racks_by : (rack i : ℕ) (p : Pair) (b : Bool) → p.other_racks ≡ b → rack ≤ i → next_rack rack p ≤ i + 1
few_racks_by rack i p true is few = rw is (omega (arith, few))
few_racks_by rack i p false is few = rw is (omega (arith, few))

pub rack_few : (rack next i : ℕ) (p : Pair) → next ≡ next_rack rack p → rack ≤ i → next ≤ i + 1
rack_few rack next i p following few = subst (λ n. n ≤ i + 1) (sym following) (few_racks_by rack i p p.other_racks refl few)

pub racks_few : (rack next items i : ℕ) (p : Pair) → next ≡ next_rack rack p → rack ≤ items + i → next ≤ items + (i + 1)
racks_few rack next items i p following few = let more = rack_few rack next (items + i) p following few in omega (arith, more)

pub racks_all : (rack : ℕ) (pairs : List Pair) (i : ℕ) (all : ℕ) → length pairs ≤ i → rack + length (rack_items (drop i pairs)) ≡ all → rack ≡ all
racks_all rack pairs i all past so_far =
    let none = ap (λ (xs : List Pair). length (rack_items xs)) (past_all pairs i past) in
    omega (arith, none, so_far)

-- ---- how many racks are not of the player's own sheet

-- of this many items from a number, how many are chosen
abbrev pub chosen_from : (choice number many : ℕ) → ℕ
chosen_from choice number many = length (filter (is_chosen choice) (range_with_len number many))

chosen_by : (choice many number rest : ℕ) (b : Bool) → is_chosen choice number ≡ b
    → (if is_chosen choice number then many + 1 else many) + chosen_from choice (number + 1) rest ≡ many + chosen_from choice number (suc rest)
chosen_by choice many number rest true is = rw is (omega arith)
chosen_by choice many number rest false is = rw is refl

pub chosen_more : (choice many next number end all : ℕ) → number < end → next ≡ (if is_chosen choice number then many + 1 else many)
    → many + chosen_from choice number (end - number) ≡ all → next + chosen_from choice (number + 1) (end - (number + 1)) ≡ all
chosen_more choice many next number end all within is_next so_far =
    let remaining : suc (end - (number + 1)) ≡ end - number = omega (arith, within) in
    ap (λ n. n + chosen_from choice (number + 1) (end - (number + 1))) is_next ∙ chosen_by choice many number (end - (number + 1)) (is_chosen choice number) refl
    ∙ ap (λ k. many + chosen_from choice number k) remaining ∙ so_far

few_chosen_by : (many number : ℕ) (b : Bool) → many ≤ number → (if b then many + 1 else many) ≤ number + 1
few_chosen_by many number true few = omega (arith, few)
few_chosen_by many number false few = omega (arith, few)

pub chosen_few : (choice many next number : ℕ) → next ≡ (if is_chosen choice number then many + 1 else many) → many ≤ number → next ≤ number + 1
chosen_few choice many next number is_next few = subst (λ n. n ≤ number + 1) (sym is_next) (few_chosen_by many number (is_chosen choice number) few)

pub chosen_all : (choice many number end items racks : ℕ) → end ≡ items + racks → end ≤ number → many + chosen_from choice number (end - number) ≡ chosen_from choice items (end - items)
    → many ≡ chosen_from choice items racks
chosen_all choice many number end items racks is past so_far =
    let none : end - number ≡ 0 = omega (arith, past) in
    let remaining : end - items ≡ racks = omega (arith, is) in
    let last = ap (λ k. chosen_from choice number k) none in
    let all = so_far ∙ ap (chosen_from choice items) remaining in
    omega (arith, last, all)

-- ---- a sheet and itself

or_itself : {X : Type 0} (o : Option X) → option_or o o ≡ o
or_itself None = refl
or_itself (Some x) = refl

either_way : {X : Type 0} (which : Side) (x : X) → of_side which x x ≡ x
either_way side.First x = refl
either_way side.Second x = refl

seat_itself : (p : Seat) → same_seat p p ≡ true
seat_itself First = refl
seat_itself Second = refl

fuller_by : (b : Bool) → (if not b && b then side.Second else side.First) ≡ side.First
fuller_by true = refl
fuller_by false = refl

rack_itself : (owner : Seat) (e : Event) → rack_of owner e e e ≡ e.rack
rack_itself owner e = rw (seat_itself e.player) (either_way (own_side owner e.player) (option_or e.rack e.rack) ∙ or_itself e.rack)

taken_itself : (owner : Seat) (which : Side) (e : Event) → which ≡ side.First → taken owner numbers.Taken which e e ≡ e
taken_itself owner which e is = rw is (ap (with_rack e) (rack_itself owner e))

own_taken : (owner : Seat) (choice number rack : ℕ) (events : List Event) (k : ℕ) (e : Event) → slice_get events k ≡ Some e
    → taken_of owner numbers.Taken choice number rack events events (own_pair k) ≡ e ∷ []
own_taken owner choice number rack events k e at =
    ap (λ (o : Option Event). events_of owner numbers.Taken (fuller_side o o) o o) at
    ∙ ap (λ (x : Event). x ∷ []) (taken_itself owner (fuller_side (Some e) (Some e)) e (fuller_by (gives_tiles (Some e))))

own_by : (owner : Seat) (choice number rack : ℕ) (events : List Event) (a : ℕ) (e : Event) (rest : List Event) (o : List Pair) → slice_get events a ≡ Some e → drop a events ≡ e ∷ drop (a + 1) events
    → merged_from owner numbers.Taken choice number rack events events o ≡ drop (a + 1) events
    → merged_from owner numbers.Taken choice number rack events events (own_pair a ∷ o) ≡ drop a events
unfolding merged_from
own_by owner choice number rack events a e rest o at following so_far =
    ap (λ (xs : List Event). xs ++ merged_from owner numbers.Taken choice number rack events events o) (own_taken owner choice number rack events a e at)
    ∙ ap (λ (xs : List Event). e ∷ xs) so_far ∙ sym following

cut_next : (events : List Event) (a : ℕ) → a < length events → (e : Event) × (slice_get events a ≡ Some e) × (drop a events ≡ e ∷ drop (suc a) events)
cut_next [] a within = absurd (omega (arith, within))
cut_next (e ∷ events) zero within = (e, refl, refl)
cut_next (e ∷ events) (suc a) within = cut_next events a (omega (arith, within))

cut : (events : List Event) (a : ℕ) → a < length events → (e : Event) × (slice_get events a ≡ Some e) × (drop a events ≡ e ∷ drop (a + 1) events)
cut events a within =
    let it = cut_next events a within in
    (it.0, it.1, it.2 ∙ ap (λ k. it.0 ∷ drop k events) (next_is a))

own_from : (owner : Seat) (choice number rack : ℕ) (events : List Event) (n a : ℕ) → a + n ≡ length events
    → merged_from owner numbers.Taken choice number rack events events (map own_pair (range_with_len a n)) ≡ drop a events
unfolding merged_from
own_from owner choice number rack events zero a all = sym (past_all events a (omega (arith, all)))
own_from owner choice number rack events (suc n) a all =
    let it = cut events a (omega (arith, all)) in
    own_by owner choice number rack events a it.0 [] (map own_pair (range_with_len (a + 1) n)) it.1 it.2 (own_from owner choice number rack events n (a + 1) (omega (arith, all)))

pub own_record : (owner : Seat) (choice : ℕ) (events : List Event) → merged owner numbers.Taken choice events events (own_pairs (length events)) ≡ events
unfolding own_pairs
own_record owner choice events = own_from owner choice 0 (length (items_of (own_pairs (length events)))) events (length events) 0 (omega arith)
