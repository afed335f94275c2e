-- Numbers in the place of those that are missing.
use Rattle.std.proofs.Common.{◌≡◌, ℕ, zero, suc, ◌+◌, ◌≤◌, List, [], ◌∷◌, ◌++◌, length, drop, map, slice_get, Some, refl, sym, ap, ◌∙◌, arith}
use Rattle.std.proofs.lemmas.List.{append-nil, append_assoc, drop_all}
use Rattle.std.proofs.lemmas.Option.{same_Some}
use Rattle.gcg_read.specs.declared.events.Event.{Event}
use Rattle.gcg_numbers.specs.Laws.{IsOther, AreOther}
use Rattle.game_corrections.proofs.Numbers.{same_event}
use Rattle.game_corrections.specs.Corrections.{is_given, IsRenumbered, AreRenumbered, HasPoints, HavePoints}
use Rattle.game_walk.specs.declared.numbers.Numbers.{Numbers}
use Rattle.game_walk.specs.Numbers.{numbers_in, with_numbers, renumbered}
use Rattle.gcg_drafts.specs.declared.missing.Missing.{Missing}
use Rattle.gcg_drafts.specs.declared.missing.Missing.TheVariants as missing
use Rattle.draft_answers.specs.Filling.{filled_by, said, filled, filled_events}

-- ---- one place more

drop_none : {X : Type 0} (place : ℕ) → drop {A = X} place [] ≡ []
drop_none zero = refl
drop_none (suc place) = refl

plain : (place : ℕ) (written right : List Numbers) (w r : Numbers) → slice_get written place ≡ Some w → slice_get right place ≡ Some r
    → filled [] (drop place written) (drop place right) ≡ w ∷ filled [] (drop (suc place) written) (drop (suc place) right)
plain zero [] right w r of_w of_r = absurd cc
plain zero (x ∷ written) [] w r of_w of_r = absurd cc
plain zero (x ∷ written) (y ∷ right) w r of_w of_r = ap (λ n. n ∷ filled [] written right) (same_Some x w of_w)
plain (suc place) [] right w r of_w of_r = absurd cc
plain (suc place) (x ∷ written) [] w r of_w of_r = absurd cc
plain (suc place) (x ∷ written) (y ∷ right) w r of_w of_r = plain place written right w r of_w of_r

next_filled : (place : ℕ) (lacks : List Missing) (written right : List Numbers) (w r : Numbers) → slice_get written place ≡ Some w → slice_get right place ≡ Some r
    → filled (drop place lacks) (drop place written) (drop place right) ≡ filled_by (said (slice_get lacks place)) w r ∷ filled (drop (suc place) lacks) (drop (suc place) written) (drop (suc place) right)
next_filled zero [] written right w r of_w of_r = plain zero written right w r of_w of_r
next_filled (suc place) [] written right w r of_w of_r = plain (suc place) written right w r of_w of_r
next_filled zero (m ∷ lacks) [] right w r of_w of_r = absurd cc
next_filled zero (m ∷ lacks) (x ∷ written) [] w r of_w of_r = absurd cc
next_filled zero (m ∷ lacks) (x ∷ written) (y ∷ right) w r of_w of_r =
    ap (λ n. filled_by m n y ∷ filled lacks written right) (same_Some x w of_w) ∙ ap (λ n. filled_by m w n ∷ filled lacks written right) (same_Some y r of_r)
next_filled (suc place) (m ∷ lacks) [] right w r of_w of_r = absurd cc
next_filled (suc place) (m ∷ lacks) (x ∷ written) [] w r of_w of_r = absurd cc
next_filled (suc place) (m ∷ lacks) (x ∷ written) (y ∷ right) w r of_w of_r = next_filled place lacks written right w r of_w of_r

-- what is still to come, one place further
pub one_more_filled : (out next : List Numbers) (place : ℕ) (lacks : List Missing) (written right whole : List Numbers) (m : Missing) (w r n : Numbers)
    → slice_get written place ≡ Some w → slice_get right place ≡ Some r → m ≡ said (slice_get lacks place) → n ≡ filled_by m w r → next ≡ out ++ n ∷ []
    → out ++ filled (drop place lacks) (drop place written) (drop place right) ≡ whole
    → next ++ filled (drop (place + 1) lacks) (drop (place + 1) written) (drop (place + 1) right) ≡ whole
one_more_filled out next place lacks written right whole m w r n of_w of_r of_m of_n pushed so_far =
    let step : place + 1 ≡ suc place = omega arith in
    ap (λ k. next ++ filled (drop k lacks) (drop k written) (drop k right)) step
    ∙ ap (λ l. l ++ filled (drop (suc place) lacks) (drop (suc place) written) (drop (suc place) right)) pushed
    ∙ append_assoc out (n ∷ []) (filled (drop (suc place) lacks) (drop (suc place) written) (drop (suc place) right))
    ∙ ap (λ x. out ++ x ∷ filled (drop (suc place) lacks) (drop (suc place) written) (drop (suc place) right)) (of_n ∙ ap (λ k. filled_by k w r) of_m)
    ∙ ap (λ l. out ++ l) (sym (next_filled place lacks written right w r of_w of_r)) ∙ so_far

-- nothing is still to come
pub all_filled : (out : List Numbers) (place : ℕ) (lacks : List Missing) (written right whole : List Numbers) → length written ≤ place
    → out ++ filled (drop place lacks) (drop place written) (drop place right) ≡ whole → out ≡ whole
all_filled out place lacks written right whole past so_far =
    sym (append-nil out) ∙ ap (λ l. out ++ filled (drop place lacks) l (drop place right)) (sym (drop_all place written past)) ∙ so_far

-- ---- the events

first_like : (w r : Event) (ws rs : List Event) → AreRenumbered (w ∷ ws) (r ∷ rs) → IsRenumbered w r
first_like w r ws rs are = are.each 0 w r refl refl

others_like : (w r : Event) (ws rs : List Event) → AreRenumbered (w ∷ ws) (r ∷ rs) → AreRenumbered ws rs
others_like w r ws rs are =
    let long = are.as_many in
    record { as_many = omega (arith, long); each = λ place a b of_a of_b. are.each (suc place) a b of_a of_b }

each_of : (w x : Event) (ws xs : List Event) → IsRenumbered w x → AreRenumbered ws xs → (place : ℕ) (a b : Event) → slice_get (w ∷ ws) place ≡ Some a → slice_get (x ∷ xs) place ≡ Some b → IsRenumbered a b
each_of w x ws xs is are zero a b of_a of_b =
    rw (sym (same_Some w a of_a), sym (same_Some x b of_b)) is
each_of w x ws xs is are (suc place) a b of_a of_b = are.each place a b of_a of_b

one_more : (w x : Event) (ws xs : List Event) → IsRenumbered w x → AreRenumbered ws xs → AreRenumbered (w ∷ ws) (x ∷ xs)
one_more w x ws xs is are =
    let long = are.as_many in
    record { as_many = omega (arith, long); each = each_of w x ws xs is are }

none_more : AreRenumbered [] []
none_more = record { as_many = refl; each = λ place a b of_a of_b. absurd cc }

abbrev filled_event : Missing → Event → Event → Event
filled_event m w r = with_numbers r (filled_by m (numbers_in w) (numbers_in r))

from_written : (m : Missing) (w r : Event) → IsRenumbered w r → IsRenumbered w (filled_event m w r)
from_written missing.Nothing w r is = record { line = is.line; player = is.player; rack = is.rack; kind = is.kind; given = λ given. refl }
from_written missing.Total w r is = record { line = is.line; player = is.player; rack = is.rack; kind = is.kind; given = λ given. refl }
from_written missing.Both w r is = record { line = is.line; player = is.player; rack = is.rack; kind = is.kind; given = is.given }

to_right : (m : Missing) (w r : Event) → IsRenumbered w r → IsRenumbered (filled_event m w r) r
to_right missing.Nothing w r is = record { line = refl; player = refl; rack = refl; kind = refl; given = λ given. is.given (ap is_given (sym is.kind) ∙ given) }
to_right missing.Total w r is = record { line = refl; player = refl; rack = refl; kind = refl; given = λ given. is.given (ap is_given (sym is.kind) ∙ given) }
to_right missing.Both w r is = record { line = refl; player = refl; rack = refl; kind = refl; given = λ given. refl }

has_points : (m : Missing) (w r : Event) → HasPoints w → HasPoints r → HasPoints (filled_event m w r)
has_points missing.Nothing w r h k = record { score = h.score; total = h.total }
has_points missing.Total w r h k = record { score = h.score; total = k.total }
has_points missing.Both w r h k = record { score = k.score; total = k.total }

-- an event with other numbers that a record can write
other : (w r : Event) → IsRenumbered w r → HasPoints r → IsOther w r
other w r is points =
    record {
      same =
          same_event (record w { score = r.score; total = r.total }) r
          (record { line = is.line; player = is.player; rack = is.rack; kind = is.kind; given = λ given. refl }) refl refl;
      score = points.score;
      total = points.total;
    }

pub others : (written right : List Event) → AreRenumbered written right → HavePoints right → AreOther written right
others [] [] are points = tt
others [] (r ∷ rs) are points = let long = are.as_many in absurd (omega (arith, long))
others (w ∷ ws) [] are points = let long = are.as_many in absurd (omega (arith, long))
others (w ∷ ws) (r ∷ rs) are points =
    (other w r (first_like w r ws rs are) (points 0 r refl), others ws rs (others_like w r ws rs are) (λ place e is. points (suc place) e is))

-- what is shown of the events that are filled
pub record AreBetween (written right new : List Event) : Type 0 where
  pub from : AreRenumbered written new
  pub to : AreRenumbered new right
  pub points : HavePoints written → HavePoints right → HavePoints new

points_of : (x : Event) (xs : List Event) → HasPoints x → HavePoints xs → HavePoints (x ∷ xs)
points_of x xs h all zero e is = rw (sym (same_Some x e is)) h
points_of x xs h all (suc place) e is = all place e is

between_more : (m : Missing) (w r : Event) (ws rs news : List Event) → AreRenumbered (w ∷ ws) (r ∷ rs) → AreBetween ws rs news → AreBetween (w ∷ ws) (r ∷ rs) (filled_event m w r ∷ news)
between_more m w r ws rs news are b =
    let is = first_like w r ws rs are in
    record {
      from = one_more w (filled_event m w r) ws news (from_written m w r is) b.from;
      to = one_more (filled_event m w r) r news rs (to_right m w r is) b.to;
      points = λ h k. points_of (filled_event m w r) news (has_points m w r (h 0 w refl) (k 0 r refl)) (b.points (λ place e is. h (suc place) e is) (λ place e is. k (suc place) e is));
    }

between : (lacks : List Missing) (written right : List Event) → AreRenumbered written right
    → AreBetween written right (renumbered right (filled lacks (map numbers_in written) (map numbers_in right)))
between lacks [] [] are = record { from = none_more; to = none_more; points = λ h k. h }
between lacks [] (r ∷ rs) are = let long = are.as_many in absurd (omega (arith, long))
between lacks (w ∷ ws) [] are = let long = are.as_many in absurd (omega (arith, long))
between [] (w ∷ ws) (r ∷ rs) are = between_more missing.Nothing w r ws rs _ are (between [] ws rs (others_like w r ws rs are))
between (m ∷ lacks) (w ∷ ws) (r ∷ rs) are = between_more m w r ws rs _ are (between lacks ws rs (others_like w r ws rs are))

pub are_between : (lacks : List Missing) (written right : List Event) → AreRenumbered written right → AreBetween written right (filled_events lacks written right)
unfolding filled_events
are_between lacks written right are = between lacks written right are
