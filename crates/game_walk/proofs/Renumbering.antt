-- Events with the numbers of others.
use Rattle.std.proofs.Common.{◌≡◌, ℕ, zero, suc, ◌+◌, ◌<◌, List, [], ◌∷◌, length, take, map, set, slice_get, get_or, Option, Some, None, refl, sym, ap, ◌∙◌, arith}
use Rattle.std.proofs.lemmas.Option.{slice_get_read, same_Some}
use Rattle.gcg_read.specs.declared.events.Event.{Event}
use Rattle.game_corrections.specs.Corrections.{IsRenumbered, AreRenumbered}
use Rattle.game_corrections.proofs.Mends.{set_there}
use Rattle.game_corrections.proofs.Numbers.{same_event}
use Rattle.game_walk.specs.declared.numbers.Numbers.{Numbers}
use Rattle.game_walk.specs.Numbers.{numbers_in, with_numbers, renumbered}

pub no_numbers : (events : List Event) → renumbered events [] ≡ events
no_numbers [] = refl
no_numbers (e ∷ events) = refl

set_twice : (events : List Event) (place : ℕ) (x y : Event) → set (set events place x) place y ≡ set events place y
set_twice [] place x y = refl
set_twice (e ∷ events) zero x y = refl
set_twice (e ∷ events) (suc place) x y = ap (λ (rest : List Event). e ∷ rest) (set_twice events place x y)

-- one more event has its number
one_more : (events : List Event) (numbers : List Numbers) (place : ℕ) (n : Numbers) (e : Event) → slice_get numbers place ≡ Some n
    → slice_get (renumbered events (take place numbers)) place ≡ Some e
    → renumbered events (take (suc place) numbers) ≡ set (renumbered events (take place numbers)) place (with_numbers e n)
one_more [] numbers place n e of_n of_e = cc
one_more (d ∷ rest) [] place n e of_n of_e = cc
one_more (d ∷ rest) (m ∷ numbers) zero n e of_n of_e =
    let same : m ≡ n = same_Some m n of_n in
    let own : d ≡ e = same_Some d e of_e in
    ap (λ (others : List Event). with_numbers d m ∷ others) (no_numbers rest)
    ∙ ap (λ (k : Numbers). with_numbers d k ∷ rest) same ∙ ap (λ (x : Event). with_numbers x n ∷ rest) own
one_more (d ∷ rest) (m ∷ numbers) (suc place) n e of_n of_e =
    ap (λ (others : List Event). with_numbers d m ∷ others) (one_more rest numbers place n e of_n of_e)

take_none : {X : Type 0} (place : ℕ) → take {A = X} place [] ≡ []
take_none zero = refl
take_none (suc place) = refl

-- after the last event nothing is changed
none_more : (events : List Event) (numbers : List Numbers) (place : ℕ) → slice_get (renumbered events (take place numbers)) place ≡ None
    → renumbered events (take (suc place) numbers) ≡ renumbered events (take place numbers)
none_more [] numbers place none = refl
none_more (d ∷ rest) [] place none = sym (ap (renumbered (d ∷ rest)) (take_none place))
none_more (d ∷ rest) (m ∷ numbers) zero none = cc
none_more (d ∷ rest) (m ∷ numbers) (suc place) none =
    ap (λ (others : List Event). with_numbers d m ∷ others) (none_more rest numbers place none)

-- an event that gets a score and then a total has both
both_set : (events scored totalled : List Event) (place : ℕ) (n : Numbers) (o : Option Event) → slice_get events place ≡ o
    → ((e : Event) → slice_get events place ≡ Some e → scored ≡ set events place (record e { score = n.score }))
    → (slice_get events place ≡ None → scored ≡ events)
    → ((e : Event) → slice_get scored place ≡ Some e → totalled ≡ set scored place (record e { total = n.total }))
    → (slice_get scored place ≡ None → totalled ≡ scored)
    → (next : List Event)
    → ((e : Event) → slice_get events place ≡ Some e → next ≡ set events place (with_numbers e n))
    → (slice_get events place ≡ None → next ≡ events)
    → totalled ≡ next
both_set events scored totalled place n None is of_score past_score of_total past_total next some none =
    let same = past_score is in
    past_total (ap (λ es. slice_get es place) same ∙ is) ∙ same ∙ sym (none is)
both_set events scored totalled place n (Some e) is of_score past_score of_total past_total next some none =
    let x : Event = record e { score = n.score } in
    let made = of_score e is in
    let there : slice_get scored place ≡ Some x = ap (λ es. slice_get es place) made ∙ set_there events place e x is in
    of_total x there ∙ ap (λ es. set es place (with_numbers e n)) made ∙ set_twice events place x (with_numbers e n) ∙ sym (some e is)

-- one more place
pub renumbered_more : (initial : List Event) (numbers : List Numbers) (place : ℕ) (n : Numbers) (events scored totalled : List Event)
    → place < length numbers → n ≡ get_or numbers place n → events ≡ renumbered initial (take place numbers)
    → ((e : Event) → slice_get events place ≡ Some e → scored ≡ set events place (record e { score = n.score }))
    → (slice_get events place ≡ None → scored ≡ events)
    → ((e : Event) → slice_get scored place ≡ Some e → totalled ≡ set scored place (record e { total = n.total }))
    → (slice_get scored place ≡ None → totalled ≡ scored)
    → totalled ≡ renumbered initial (take (place + 1) numbers)
renumbered_more initial numbers place n events scored totalled within read so_far of_score past_score of_total past_total =
    let of_n = slice_get_read numbers (length numbers) place n refl within read in
    let step : suc place ≡ place + 1 = omega arith in
    both_set events scored totalled place n (slice_get events place) refl of_score past_score of_total past_total (renumbered initial (take (suc place) numbers))
    (λ e is.
    one_more initial numbers place n e of_n (ap (λ es. slice_get es place) (sym so_far) ∙ is)
    ∙ ap (λ es. set es place (with_numbers e n)) (sym so_far))
    (λ none. none_more initial numbers place (ap (λ es. slice_get es place) (sym so_far) ∙ none) ∙ sym so_far)
    ∙ ap (λ k. renumbered initial (take k numbers)) step

-- ---- the numbers of the events themselves

own_again : (w r : Event) → IsRenumbered w r → with_numbers r (numbers_in w) ≡ w
own_again w r is =
    same_event w (with_numbers r (numbers_in w)) (record { line = is.line; player = is.player; rack = is.rack; kind = is.kind; given = λ given. refl }) refl refl

first_like : (w r : Event) (ws rs : List Event) → AreRenumbered (w ∷ ws) (r ∷ rs) → IsRenumbered w r
first_like w r ws rs are = are.each 0 w r refl refl

others_like : (w r : Event) (ws rs : List Event) → AreRenumbered (w ∷ ws) (r ∷ rs) → AreRenumbered ws rs
others_like w r ws rs are =
    let long = are.as_many in
    record { as_many = omega (arith, long); each = λ place a b of_a of_b. are.each (suc place) a b of_a of_b }

-- with their own numbers again, events are as they are written
pub back_again : (written right : List Event) → AreRenumbered written right → renumbered right (map numbers_in written) ≡ written
back_again [] [] are = refl
back_again [] (r ∷ rs) are = let long = are.as_many in absurd (omega (arith, long))
back_again (w ∷ ws) [] are = let long = are.as_many in absurd (omega (arith, long))
back_again (w ∷ ws) (r ∷ rs) are =
    ap (λ (e : Event). e ∷ renumbered rs (map numbers_in ws)) (own_again w r (first_like w r ws rs are))
    ∙ ap (λ (events : List Event). w ∷ events) (back_again ws rs (others_like w r ws rs are))
