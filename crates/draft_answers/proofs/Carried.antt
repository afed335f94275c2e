-- Events that are given the last totals that are known, one place after the other.
use Rattle.std.proofs.Common.{◌≡◌, ℕ, ℤ, ◌+◌, ◌<◌, ◌≤◌, zero, suc, inl, inr, ◌⊎◌, Bool, true, false, List, [], ◌∷◌, length, set, slice_get, Option, Some, refl, sym, ap, ◌∙◌, arith}
use Rattle.std.proofs.lemmas.List.{length-set, take-set-le}
use Rattle.std.proofs.lemmas.Option.{same_Some, slice_get_within}
use Rattle.gcg_read.specs.declared.events.Event.{Event}
use Rattle.game_corrections.proofs.Mends.{set_there, set_elsewhere}
use Rattle.game_corrections.specs.WrongNumbers.{had_before}
use Rattle.gcg_drafts.specs.declared.missing.Missing.{Missing}
use Rattle.draft_answers.specs.KnownTotals.{is_unknown, known_by, IsKnownAt, AreKnownTo, HaveKnownTotals}

pub none_carried : (stop : Option ℕ) (lacks : List Missing) (old : List Event) → AreKnownTo stop lacks old old 0
none_carried stop lacks old = record { as_many = refl; each = λ place before. absurd (omega (arith, before)); rest = λ place past. refl }

-- what a player had before a place does not depend on the events from there on
same_had : (events : List Event) (end place : ℕ) (x y : Event) → place ≤ end → had_before (set events end x) y.player place ≡ had_before events y.player place
same_had events end place x y before = rw (take-set-le place events end x before) refl

before_or_at : (place end : ℕ) → place < end + 1 → (place < end) ⊎ (place ≡ end)
before_or_at place end is = grind (arith, is)

-- ---- one place more

known_more : (stop : Option ℕ) (lacks : List Missing) (old new : List Event) (end place : ℕ) → AreKnownTo stop lacks old new end → is_unknown stop lacks end ≡ false
    → (place < end) ⊎ (place ≡ end) → IsKnownAt stop lacks old new place
known_more stop lacks old new end place are known (inl before) = are.each place before
known_more stop lacks old new end place are known (inr here) =
    λ e at.
    are.rest place (omega (arith, here)) ∙ at
    ∙ ap (λ (b : Bool). Some (known_by b (had_before new e.player place) e)) (sym (ap (is_unknown stop lacks) here ∙ known))

pub one_known : (stop : Option ℕ) (lacks : List Missing) (old new : List Event) (end : ℕ) → AreKnownTo stop lacks old new end → is_unknown stop lacks end ≡ false
    → AreKnownTo stop lacks old new (end + 1)
one_known stop lacks old new end are known =
    record {
      as_many = are.as_many;
      each = λ place before. known_more stop lacks old new end place are known (before_or_at place end before);
      rest = λ place past. are.rest place (omega (arith, past));
    }

-- the event that is given what its player had
carried_more : (stop : Option ℕ) (lacks : List Missing) (old new next : List Event) (end place : ℕ) (own : Event) → AreKnownTo stop lacks old new end
    → is_unknown stop lacks end ≡ true → slice_get new end ≡ Some own → next ≡ set new end (record own { total = had_before new own.player end })
    → (place < end) ⊎ (place ≡ end) → IsKnownAt stop lacks old next place
carried_more stop lacks old new next end place own are unknown at is (inl before) =
    λ e there.
    let x : Event = record own { total = had_before new own.player end } in
    let other : place ≡ end → ⊥ = λ same. absurd (omega (arith, before, same)) in
    ap (λ es. slice_get es place) is ∙ set_elsewhere new end place x other ∙ are.each place before e there
    ∙ ap (λ (h : ℤ). Some (known_by (is_unknown stop lacks place) h e))
    (sym (ap (λ es. had_before es e.player place) is ∙ same_had new end place x e (omega (arith, before))))
carried_more stop lacks old new next end place own are unknown at is (inr here) =
    λ e there.
    let x : Event = record own { total = had_before new own.player end } in
    let same : own ≡ e = same_Some own e (sym at ∙ ap (slice_get new) (sym here) ∙ are.rest place (omega (arith, here)) ∙ there) in
    let had : had_before next e.player end ≡ had_before new e.player end = ap (λ es. had_before es e.player end) is ∙ same_had new end end x e (omega arith) in
    ap (slice_get next) here ∙ ap (λ es. slice_get es end) is ∙ set_there new end own x at
    ∙ ap (λ (o : Event). Some (record o { total = had_before new o.player end })) same
    ∙ ap (λ (h : ℤ). Some (record e { total = h })) (sym had)
    ∙ ap (λ (p : ℕ). Some (record e { total = had_before next e.player p })) (sym here)
    ∙ ap (λ (b : Bool). Some (known_by b (had_before next e.player place) e)) (sym (ap (is_unknown stop lacks) here ∙ unknown))

pub one_carried : (stop : Option ℕ) (lacks : List Missing) (old new next : List Event) (end : ℕ) (own : Event) → AreKnownTo stop lacks old new end
    → is_unknown stop lacks end ≡ true → slice_get new end ≡ Some own → next ≡ set new end (record own { total = had_before new own.player end })
    → AreKnownTo stop lacks old next (end + 1)
one_carried stop lacks old new next end own are unknown at is =
    let x : Event = record own { total = had_before new own.player end } in
    record {
      as_many = ap length is ∙ length-set new end x ∙ are.as_many;
      each = λ place before. carried_more stop lacks old new next end place own are unknown at is (before_or_at place end before);
      rest = λ place past. ap (λ es. slice_get es place) is ∙ set_elsewhere new end place x (λ same. absurd (omega (arith, past, same))) ∙ are.rest place (omega (arith, past));
    }

some_there : (events : List Event) (place : ℕ) → place < length events → (e : Event) × (slice_get events place ≡ Some e)
some_there [] place within = absurd (omega (arith, within))
some_there (e ∷ events) zero within = (e, refl)
some_there (e ∷ events) (suc place) within = some_there events place (omega (arith, within))

pub carried_by : (stop : Option ℕ) (lacks : List Missing) (old new next : List Event) (end : ℕ) → end < length new → is_unknown stop lacks end ≡ true
    → ((e : Event) → slice_get new end ≡ Some e → next ≡ set new end (record e { total = had_before new e.player end })) → AreKnownTo stop lacks old new end
    → AreKnownTo stop lacks old next (end + 1)
carried_by stop lacks old new next end within unknown changed are =
    let there = some_there new end within in one_carried stop lacks old new next end there.0 are unknown there.1 (changed there.0 there.1)

-- ---- all of them

pub all_carried : (stop : Option ℕ) (lacks : List Missing) (old new : List Event) (end : ℕ) → AreKnownTo stop lacks old new end → length old ≤ end
    → HaveKnownTotals stop lacks old new
all_carried stop lacks old new end are past =
    record {
      as_many = are.as_many;
      each = λ place e at. let within : place < length old = slice_get_within old place e at in are.each place (omega (arith, within, past)) e at;
    }
