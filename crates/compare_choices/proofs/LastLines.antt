-- The total of a player's last line, one line after the other.
use Rattle.std.proofs.Common.{◌≡◌, ℕ, ℤ, zero, suc, ◌+◌, ◌≤◌, List, [], ◌∷◌, length, drop, slice_get, Option, Some, refl, sym, ap, ◌∙◌, arith}
use Rattle.std.proofs.lemmas.List.{drop_all}
use Rattle.std.proofs.lemmas.Option.{same_Some}
use Rattle.gcg_read.specs.declared.events.Event.{Event}
use Rattle.gcg_read.specs.declared.events.Seat.{Seat}
use Rattle.gcg_drafts.specs.declared.missing.Missing.{Missing}
use Rattle.compare_alignments.specs.Lacking.{said}
use Rattle.compare_choices.specs.Known.{with_line, last_with}

-- nothing is left of nothing
none_of : (place : ℕ) → drop {A = Missing} place [] ≡ []
none_of zero = refl
none_of (suc place) = refl

-- what the first of the others says
rest_of : (last : Option (Option ℤ)) (player : Seat) (place : ℕ) (lacks : List Missing) (events : List Event) (e : Event) → slice_get events place ≡ Some e
    → last_with last player (drop place lacks) (drop place events)
    ≡ last_with (with_line last player (said (slice_get lacks place)) e) player (drop (suc place) lacks) (drop (suc place) events)
rest_of last player zero lacks [] e at = absurd cc
rest_of last player zero [] (x ∷ events) e at = rw (same_Some x e at) refl
rest_of last player zero (m ∷ lacks) (x ∷ events) e at = rw (same_Some x e at) refl
rest_of last player (suc place) lacks [] e at = absurd cc
rest_of last player (suc place) [] (x ∷ events) e at =
    ap (λ (l : List Missing). last_with last player l (drop place events)) (sym (none_of place)) ∙ rest_of last player place [] events e at
rest_of last player (suc place) (m ∷ lacks) (x ∷ events) e at = rest_of last player place lacks events e at

-- one line more
pub one_more_line : (last next whole : Option (Option ℤ)) (player : Seat) (place : ℕ) (lacks : List Missing) (events : List Event) (e : Event) → slice_get events place ≡ Some e
    → next ≡ with_line last player (said (slice_get lacks place)) e → last_with last player (drop place lacks) (drop place events) ≡ whole
    → last_with next player (drop (place + 1) lacks) (drop (place + 1) events) ≡ whole
one_more_line last next whole player place lacks events e at noted so_far =
    let step : place + 1 ≡ suc place = omega arith in
    ap (λ k. last_with next player (drop k lacks) (drop k events)) step
    ∙ ap (λ (l : Option (Option ℤ)). last_with l player (drop (suc place) lacks) (drop (suc place) events)) noted
    ∙ sym (rest_of last player place lacks events e at) ∙ so_far

-- no line more
pub all_lines : (last whole : Option (Option ℤ)) (player : Seat) (place : ℕ) (lacks : List Missing) (events : List Event) → length events ≤ place
    → last_with last player (drop place lacks) (drop place events) ≡ whole → last ≡ whole
all_lines last whole player place lacks events past so_far = ap (λ (l : List Event). last_with last player (drop place lacks) l) (sym (drop_all place events past)) ∙ so_far
