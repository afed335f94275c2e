-- The node of an arc, and the targets that end before it.
use Rattle.std.proofs.Common.{◌≡◌, ℕ, zero, suc, ◌+◌, ◌-◌, ◌<◌, ◌≤◌, Bool, true, false, cond, ◌||◌, ◌&&◌, eqb, ltb, List, [], ◌∷◌, length, get_or, drop, drop-cons, inl, inr, ◌⊎◌, refl, sym, subst, ◌∙◌, add-one, arith}
use Rattle.std.specs.Prelude.{IsTrue, ◌↔◌}
use Rattle.std.proofs.lemmas.Bool.{ltb-true, lt-ltb, false≢true, and_parts, and_from}
use Rattle.lex_file.specs.Arcs.{arc_of, is_last}
use Rattle.lex_file.specs.Nodes.{run_of, node_at, begins, is_first, start_at}
use Rattle.lex_file.specs.Shapes.{leads_back}
use Rattle.lex_file.specs.laws.Nodes.{start_of_first, leads_where, run_filled}
use Rattle.lex_file.specs.laws.{EndsBefore, HoldsArc}
use Rattle.lex_file.proofs.Checks.{start_last, start_same}

-- a run begins with the arc at its place
run_size : (words : List ℕ) (place : ℕ) → place < length words
    → length (run_of (drop place words)) ≡ cond (is_last (get_or words place 0)) 1 (length (run_of (drop (suc place) words)) + 1)
unfolding run_of
run_size words place lt = rw (drop-cons words place 0) (by (is_last (get_or words place 0)))
  where
    by : (last : Bool) → length (arc_of (get_or words place 0) ∷ cond last [] (run_of (drop (suc place) words))) ≡ cond last 1 (length (run_of (drop (suc place) words)) + 1)
    by true = refl
    by false = omega arith

-- a run ends at the next last arc, or before it
run_ends : (words : List ℕ) (remaining place last : ℕ) → place + remaining ≡ last → last < length words → is_last (get_or words last 0) ≡ true
    → length (run_of (drop place words)) ≤ remaining + 1
run_ends words zero place last at lt is =
    let same : place ≡ last = omega arith in
    let here : is_last (get_or words place 0) ≡ true = rw same is in
    rw (run_size words place (omega arith), here) (omega arith)
run_ends words (suc remaining) place last at lt is =
    let rest = run_ends words remaining (suc place) last (omega arith) lt is in
    rw (run_size words place (omega arith)) (by (is_last (get_or words place 0)) rest)
  where
    by : (here : Bool) → length (run_of (drop (suc place) words)) ≤ remaining + 1 → cond here 1 (length (run_of (drop (suc place) words)) + 1) ≤ suc remaining + 1
    by true rest = omega arith
    by false rest = omega arith

ends_before : (words : List ℕ) (start target : ℕ) → is_first words start ≡ true → target < start → is_first words target ≡ true → target + length (node_at words target) ≤ start
ends_before words zero target is lt first = absurd (omega arith)
ends_before words (suc zero) zero is lt first = absurd (false≢true first)
ends_before words (suc zero) (suc place) is lt first = absurd (omega arith)
ends_before words (suc (suc last)) zero is lt first = absurd (false≢true first)
ends_before words (suc (suc last)) (suc place) is lt first =
    let parts = and_parts (ltb (suc last) (length words)) (is_last (get_or words last 0)) is in
    let inside = ltb-true (suc last) (length words) parts.0 in
    let size = run_ends words (last - place) place last (omega arith) (omega arith) parts.1 in
    omega arith

starts_after : (words : List ℕ) (start target : ℕ) → is_first words target ≡ true → target + length (node_at words target) ≤ start → target < start
starts_after words start zero first le = absurd (false≢true first)
starts_after words start (suc place) first le =
    let inside = ltb-true place (length words) (and_parts (ltb place (length words)) (begins words place) first).0 in
    let filled = run_filled words place inside in
    omega arith

or_right : (a b : Bool) → b ≡ true → (a || b) ≡ true
or_right true b e = refl
or_right false b e = e

pub targets : (words : List ℕ) (start target : ℕ) → IsTrue (is_first words start) → IsTrue (leads_back words start target) ↔ ((target ≡ 0) ⊎ EndsBefore words target start)
targets words start target is = (there, back)
  where
    there : IsTrue (leads_back words start target) → (target ≡ 0) ⊎ EndsBefore words target start
    there e = elim (leads_where words start target e) [
      | inl none ↦ inl none
      | inr some ↦ inr (record { first = some.1; ends = ends_before words start target is some.0 some.1 })
    ]

    back : (target ≡ 0) ⊎ EndsBefore words target start → IsTrue (leads_back words start target)
    back (inl none) = rw none refl
    back (inr e) = or_right (eqb target 0) (ltb target start && is_first words target)
        (and_from (ltb target start) (is_first words target) (lt-ltb target start (starts_after words start target e.first e.ends)) e.first)

-- ---- the node of an arc

start_low : (words : List ℕ) (place : ℕ) → start_at words place ≤ place + 1
unfolding start_at
start_low words zero = omega arith
start_low words (suc place) = by (is_last (get_or words place 0)) (start_low words place)
  where
    by : (last : Bool) → start_at words place ≤ place + 1 → cond last (place + 2) (start_at words place) ≤ suc place + 1
    by true h = omega arith
    by false h = omega arith

start_rises : (words : List ℕ) (remaining place : ℕ) → start_at words place ≤ start_at words (place + remaining)
unfolding start_at
start_rises words zero place = let same : place + 0 ≡ place = omega arith in rw same (omega arith)
start_rises words (suc remaining) place =
    let step : place + suc remaining ≡ suc (place + remaining) = omega arith in
    rw step (by (is_last (get_or words (place + remaining) 0)) (start_rises words remaining place) (start_low words (place + remaining)))
  where
    by : (last : Bool) → start_at words place ≤ start_at words (place + remaining) → start_at words (place + remaining) ≤ place + remaining + 1
        → start_at words place ≤ cond last (place + remaining + 2) (start_at words (place + remaining))
    by true h low = omega arith
    by false h low = h

start_is_first : (words : List ℕ) (place : ℕ) → place < length words → is_first words (start_at words place) ≡ true
unfolding start_at
start_is_first words zero lt = and_from (ltb 0 (length words)) true (lt-ltb 0 (length words) lt) refl
start_is_first words (suc place) lt = by (is_last (get_or words place 0)) refl (start_is_first words place (omega arith))
  where
    by : (last : Bool) → is_last (get_or words place 0) ≡ last → is_first words (start_at words place) ≡ true → is_first words (cond last (place + 2) (start_at words place)) ≡ true
    by true is h =
        let same : suc (suc place) ≡ place + 2 = omega arith in
        subst (λ (n : ℕ). is_first words n ≡ true) same (and_from (ltb (suc place) (length words)) (is_last (get_or words place 0)) (lt-ltb (suc place) (length words) lt) is)
    by false is h = h

-- an arc whose node begins no later than that of an arc before is in the run from there
in_run : (words : List ℕ) (remaining place : ℕ) → start_at words (place + remaining) ≡ start_at words place → place + remaining < length words → remaining < length (run_of (drop place words))
in_run words zero place same lt = run_filled words place (omega arith)
in_run words (suc remaining) place same lt = by (is_last (get_or words place 0)) refl (in_run words remaining (suc place))
  where
    by : (last : Bool) → is_last (get_or words place 0) ≡ last
        → (start_at words (suc place + remaining) ≡ start_at words (suc place) → suc place + remaining < length words → remaining < length (run_of (drop (suc place) words)))
        → suc remaining < length (run_of (drop place words))
    by true is f =
        let next = start_last words place is in
        let rises = start_rises words remaining (place + 1) in
        let low = start_low words place in
        let e : place + 1 + remaining ≡ place + suc remaining = omega arith in
        let there = subst (λ (n : ℕ). start_at words (place + 1) ≤ start_at words n) e rises in
        absurd (omega (arith, next, there, low, same))
    by false is f =
        let next : start_at words (suc place) ≡ start_at words place = subst (λ (n : ℕ). start_at words n ≡ start_at words place) (add-one place) (start_same words place is) in
        let e : place + suc remaining ≡ suc place + remaining = omega arith in
        let stays = subst (λ (n : ℕ). start_at words n ≡ start_at words place) e same in
        let rest = f (stays ∙ sym next) (omega arith) in
        rw (run_size words place (omega arith), is) (omega arith)

held : (words : List ℕ) (start place : ℕ) → place < length words → start_at words place ≡ start → is_first words start ≡ true → start ≤ place + 1
    → place + 1 < start + length (node_at words start)
held words zero place lt at first low = absurd (false≢true first)
held words (suc from) place lt at first low =
    let own = start_of_first words from first in
    let e : from + (place - from) ≡ place = omega arith in
    let same : start_at words (from + (place - from)) ≡ start_at words from = rw e (at ∙ sym own) in
    let size = in_run words (place - from) from same (omega arith) in
    omega arith

pub holds_arc : (words : List ℕ) (place : ℕ) → place < length words → HoldsArc words (start_at words place) place
holds_arc words place lt =
    let first = start_is_first words place lt in
    let low = start_low words place in
    record { first = first; after = low; before = held words (start_at words place) place lt refl first low }
