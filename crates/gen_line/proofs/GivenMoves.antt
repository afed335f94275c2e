-- The walk over a line gives its moves, each once.
use Rattle.std.proofs.Common.{◌≡◌, ◌≢◌, ℕ, zero, suc, ◌<◌, ◌≤◌, Bool, true, false, List, [], ◌∷◌, length, get_or, refl, sym, ap, ◌∙◌, subst, arith, ⊎_elim}
use Rattle.std.specs.Prelude.{◌↔◌, Contains}
use Rattle.std.specs.List.{AllPairs}
use Rattle.std.proofs.lemmas.List.Elements.{Contains-get_or}
use Rattle.std.proofs.lemmas.List.Kept.{AllPairs-cons}
use Rattle.std.proofs.lemmas.Bool.{cases_Bool}
use Rattle.ref_tiles.proofs.Tallies.{tally, once}
use Rattle.gen_line.specs.declared.cells.Cell.{Cell}
use Rattle.gen_line.specs.Moves.{IsMove, Labelled, AreSplits}
use Rattle.gen_line.specs.Model.{line_moves}
use Rattle.gen_line.proofs.Tests.{same, owes}
use Rattle.gen_line.proofs.Counts.{same-true}
use Rattle.gen_line.proofs.Joins.{same-self, any_of, any_of-some, any_of-from}
use Rattle.gen_line.proofs.Owing.{owed, owes_from, move_owed}
use Rattle.gen_line.proofs.Reaching.{owed_reach}
use Rattle.gen_line.proofs.Lines.{each-line}

-- ---- an element is counted

counted : (xs : List (List ℕ)) (y : List ℕ) → Contains xs y → 0 < tally (same y) xs
counted xs y c = by xs c.0 c.1 c.2
  where
    by : (xs : List (List ℕ)) (k : ℕ) → k < length xs → get_or xs k y ≡ y → 0 < tally (same y) xs
    by [] k below is = absurd (omega arith)
    by (x ∷ xs) zero below is = rw (ap (same y) is ∙ same-self y) (omega arith)
    by (x ∷ xs) (suc k) below is = let rest = by xs k (omega arith) is in omega arith

found : (xs : List (List ℕ)) (y : List ℕ) → 0 < tally (same y) xs → Contains xs y
found [] y some = absurd (omega arith)
found (x ∷ xs) y some =
    ⊎_elim
    (λ (here : same y x ≡ true). (0, omega arith, sym (same-true y x here)))
    (λ (not_here : same y x ≡ false).
    let count = rw not_here at some in
    let rest = found xs y (omega arith) in
    let below = rest.1 in (suc rest.0, omega arith, rest.2))
    (cases_Bool (same y x))

apart : (xs : List (List ℕ)) → ((y : List ℕ) → tally (same y) xs ≤ 1) → AllPairs (λ a b. a ≢ b) xs
apart [] h = λ i j d less below. absurd (omega arith)
apart (x ∷ xs) h =
    AllPairs-cons (λ a b. a ≢ b) x xs
    (λ k d below is.
    let again = counted xs x (subst (λ (z : List ℕ). Contains xs z) (sym is) (Contains-get_or xs k d below)) in
    let both = rw (same-self x) at (h x) in
    absurd (omega arith))
    (apart xs (λ y. let both = h y in omega arith))

at_most_once : (b : Bool) → once b ≤ 1
at_most_once true = omega arith
at_most_once false = omega arith

-- ---- the laws

pub gives_the_moves : (g listed : List ℕ → Bool) → AreSplits g listed → (line : List Cell) (rack y : List ℕ) → Labelled line
    → Contains (line_moves g line rack) y ↔ ((first : ℕ) × (len : ℕ) × IsMove listed line rack y first len)
gives_the_moves g listed splits line rack y labelled = (
  λ c.
      let some = counted (line_moves g line rack) y c in
      let owing = any_of-some (λ h. owes g line rack h y) 0 15 (is_some (any_of (λ h. owes g line rack h y) 0 15) some each) in
      let below = owing.2 in
      let reach = owed_reach g listed splits line rack y owing.0 labelled (omega arith) (owed g line rack owing.0 y owing.3) in
      (reach.0, reach.1, reach.2),
  λ m.
      let owing = move_owed g listed splits line rack y m.0 m.1 labelled m.2 in
      let some = any_of-from (λ h. owes g line rack h y) 0 15 owing.0 (omega arith) owing.1 (owes_from g line rack owing.0 y owing.2) in
      let one = each ∙ ap once some in
      found (line_moves g line rack) y (omega arith),
)
  where
    each : tally (same y) (line_moves g line rack) ≡ once (any_of (λ h. owes g line rack h y) 0 15)
    each = each-line g line rack labelled.size y

    is_some : (b : Bool) → 0 < tally (same y) (line_moves g line rack) → tally (same y) (line_moves g line rack) ≡ once b → b ≡ true
    is_some true some e = refl
    is_some false some e = absurd (omega arith)

pub gives_none_twice : (g : List ℕ → Bool) (line : List Cell) (rack : List ℕ) → length line ≡ 15 → AllPairs (λ a b. a ≢ b) (line_moves g line rack)
gives_none_twice g line rack size =
    apart (line_moves g line rack)
    (λ y. let each = each-line g line rack size y in
    let one = at_most_once (any_of (λ h. owes g line rack h y) 0 15) in omega arith)
