-- The arcs of a node, label by label.
use Rattle.std.proofs.Common.{◌≡◌, ℕ, zero, suc, ◌+◌, ◌<◌, ◌≤◌, Bool, true, false, cond, leb, ltb, List, [], ◌∷◌, ◌++◌, length, map, get_or, Some, None, refl, sym, ap, inl, inr, ◌∙◌, arith}
use Rattle.std.specs.Prelude.{IsTrue, is_none, slice_index}
use Rattle.std.specs.List.{Contains}
use Rattle.std.proofs.lemmas.List.{map-append, length-append}
use Rattle.std.proofs.lemmas.Bool.{ltb-true, lt-ltb, leb-true, leb-false}
use Rattle.std.proofs.lemmas.Bool.Decides.{nat_tests}
use Rattle.lex_file.specs.declared.arcs.Arc.{Arc}
use Rattle.lex_file.specs.declared.formats.Format.{Format}
use Rattle.lex_file.specs.Arcs.{reaches, arc_from}
use Rattle.lex_file.specs.Graphs.{AreRising}
use Rattle.lex_file.specs.laws.Graphs.{found_there, found_passes}
use Rattle.lex_file.specs.Shapes.{fault_of, file_node}
use Rattle.lex_file.specs.laws.Files.{sound}
use Rattle.lex_build.specs.Converts.{renamed}
use Rattle.lex_build.specs.Conversions.{IsNumbered, IsConvertedBefore}
use Rattle.lex_build.proofs.Renaming.{renamed_length, target_before}

-- the arcs before the first one whose label is not below a number
unfoldable pub arcs_below : ℕ → List Arc → List Arc
arcs_below from [] = []
arcs_below from (arc ∷ arcs) = cond (ltb arc.label from) (arc ∷ arcs_below from arcs) []

pub not_less : (n m : ℕ) → m ≤ n → ltb n m ≡ false
not_less n m le = grind (arith, nat_tests)

pub below_none : (arcs : List Arc) → arcs_below 0 arcs ≡ []
unfolding arcs_below
below_none [] = refl
below_none (arc ∷ arcs) = rw (not_less arc.label 0 (omega arith)) refl

pub below_all : (from : ℕ) (arcs : List Arc) → arc_from from arcs ≡ None → arcs_below from arcs ≡ arcs
unfolding arcs_below
below_all from [] none = refl
below_all from (arc ∷ arcs) none = by (leb from arc.label) refl none (below_all from arcs)
  where
    by : (reaches : Bool) → leb from arc.label ≡ reaches → cond reaches (Some arc) (arc_from from arcs) ≡ None → (arc_from from arcs ≡ None → arcs_below from arcs ≡ arcs)
        → cond (ltb arc.label from) (arc ∷ arcs_below from arcs) [] ≡ arc ∷ arcs
    by true is h more = absurd cc
    by false is h more = rw (lt-ltb arc.label from (leb-false from arc.label is)) (ap (λ (xs : List Arc). arc ∷ xs) (more h))

below_first : (from : ℕ) (arcs : List Arc) → ((arc : Arc) → Contains arcs arc → from ≤ arc.label) → arcs_below from arcs ≡ []
unfolding arcs_below
below_first from [] above = refl
below_first from (arc ∷ arcs) above = rw (not_less arc.label from (above arc (0, omega arith, refl))) refl

-- the first arc that reaches a label comes next
pub below_more : (from : ℕ) (arcs : List Arc) (found : Arc) → AreRising arcs → arc_from from arcs ≡ Some found
    → arcs_below (found.label + 1) arcs ≡ arcs_below from arcs ++ found ∷ []
unfolding arcs_below
below_more from [] found rising e = absurd cc
below_more from (arc ∷ arcs) found rising e = by (leb from arc.label) refl e (below_more from arcs found rising.1)
  where
    by : (reaching : Bool) → leb from arc.label ≡ reaching → cond reaching (Some arc) (arc_from from arcs) ≡ Some found
        → (arc_from from arcs ≡ Some found → arcs_below (found.label + 1) arcs ≡ arcs_below from arcs ++ found ∷ [])
        → cond (ltb arc.label (found.label + 1)) (arc ∷ arcs_below (found.label + 1) arcs) [] ≡ cond (ltb arc.label from) (arc ∷ arcs_below from arcs) [] ++ found ∷ []
    by true is h more =
        let same : arc ≡ found = cc in
        let low = leb-true from arc.label is in
        let label : arc.label ≡ found.label = ap (λ (x : Arc). x.label) same in
        rw (lt-ltb arc.label (found.label + 1) (omega arith), not_less arc.label from low)
        (ap (λ (xs : List Arc). arc ∷ xs) (below_first (found.label + 1) arcs (λ after there. let above = rising.0 after there in omega (arith, above, label)))
        ∙ ap (λ (x : Arc). x ∷ []) same)
    by false is h more =
        let low = leb-false from arc.label is in
        let reached = leb-true from found.label (found_passes (reaches from) arcs found h) in
        rw (lt-ltb arc.label (found.label + 1) (omega arith), lt-ltb arc.label from low) (ap (λ (xs : List Arc). arc ∷ xs) (more h))

-- there are at most as many of them as labels
few_from : (low from : ℕ) (arcs : List Arc) → AreRising arcs → ((arc : Arc) → Contains arcs arc → low ≤ arc.label) → low ≤ from → low + length (arcs_below from arcs) ≤ from
unfolding arcs_below
few_from low from [] rising above le = omega arith
few_from low from (arc ∷ arcs) rising above le =
    by (ltb arc.label from) refl (few_from (arc.label + 1) from arcs rising.1 (λ after there. let more = rising.0 after there in omega (arith, more)))
  where
    by : (less : Bool) → ltb arc.label from ≡ less → (arc.label + 1 ≤ from → arc.label + 1 + length (arcs_below from arcs) ≤ from)
        → low + length (cond less (arc ∷ arcs_below from arcs) []) ≤ from
    by true is more =
        let lt = ltb-true arc.label from is in
        let first = above arc (0, omega arith, refl) in
        let rest = more (omega arith) in
        omega arith
    by false is more = omega arith

pub below_few : (from : ℕ) (arcs : List Arc) → AreRising arcs → length (arcs_below from arcs) ≤ from
below_few from arcs rising = let few = few_from 0 from arcs rising (λ arc there. omega arith) (omega arith) in omega (arith, few)

-- ---- with new targets

pub renamed_none : (name : ℕ → ℕ) (arcs : List Arc) → [] ≡ map (renamed name) (arcs_below 0 arcs)
renamed_none name arcs = rw (below_none arcs) refl

pub renamed_more : (name : ℕ → ℕ) (from : ℕ) (arcs taken : List Arc) (found : Arc) → AreRising arcs → arc_from from arcs ≡ Some found
    → taken ≡ map (renamed name) (arcs_below from arcs) → taken ++ renamed name found ∷ [] ≡ map (renamed name) (arcs_below (found.label + 1) arcs)
renamed_more name from arcs taken found rising e is =
    rw (below_more from arcs found rising e) (ap (λ (xs : List Arc). xs ++ renamed name found ∷ []) is ∙ sym (map-append (renamed name) (arcs_below from arcs) (found ∷ [])))

pub renamed_all : (name : ℕ → ℕ) (from : ℕ) (arcs taken : List Arc) → arc_from from arcs ≡ None → taken ≡ map (renamed name) (arcs_below from arcs)
    → taken ≡ map (renamed name) arcs
renamed_all name from arcs taken none is = is ∙ ap (map (renamed name)) (below_all from arcs none)

pub renamed_few : (name : ℕ → ℕ) (from : ℕ) (arcs taken : List Arc) → AreRising arcs → taken ≡ map (renamed name) (arcs_below from arcs) → length taken ≤ from
renamed_few name from arcs taken rising is = let few = below_few from arcs rising in omega (arith, few, ap length is, renamed_length name (arcs_below from arcs))

-- The first arc of the next node from a label on: its label, and where its target's new number is.
pub record IsKnownArc (numbers : List ℕ) (from : ℕ) (arc : Arc) : Type 0 where
  pub reached : from ≤ arc.label
  pub label : arc.label ≤ 26
  pub numbered : arc.target < length numbers

pub known_arc : (format : Format) (bytes words numbers : List ℕ) (n from : ℕ) (arc : Arc) → IsTrue (is_none (fault_of bytes)) → IsConvertedBefore format bytes words numbers n
    → arc_from from (file_node bytes n) ≡ Some arc → IsKnownArc numbers from arc
known_arc format bytes words numbers n from arc shape ready e =
    let there = found_there (reaches from) (file_node bytes n) arc e in
    let known = (sound bytes shape).graph.arcs n arc ready.next.node there in
    let covers = ready.before.covers in
    record {
      reached = leb-true from arc.label (found_passes (reaches from) (file_node bytes n) arc e);
      label = known.label;
      numbered = elim (target_before format bytes words numbers ready.last n arc.target ready.before ready.next known.target) [
        | inl none ↦ omega (arith, none, covers)
        | inr node ↦ omega (arith, node.within, covers)
      ];
    }

pub rising_next : (format : Format) (bytes words numbers : List ℕ) (n : ℕ) → IsTrue (is_none (fault_of bytes)) → IsConvertedBefore format bytes words numbers n
    → AreRising (file_node bytes n)
rising_next format bytes words numbers n shape ready = (sound bytes shape).graph.rising n ready.next.node

-- one more arc is taken
pub taken_more : (format : Format) (bytes words numbers : List ℕ) (n from : ℕ) (arc : Arc) (taken more : List Arc) (new : Arc) → IsTrue (is_none (fault_of bytes))
    → IsConvertedBefore format bytes words numbers n → arc_from from (file_node bytes n) ≡ Some arc
    → taken ≡ map (renamed (slice_index numbers)) (arcs_below from (file_node bytes n)) → new ≡ renamed (slice_index numbers) arc → more ≡ taken ++ new ∷ []
    → more ≡ map (renamed (slice_index numbers)) (arcs_below (arc.label + 1) (file_node bytes n))
taken_more format bytes words numbers n from arc taken more new shape ready e is named pushed =
    pushed
    ∙ ap (λ (x : Arc). taken ++ x ∷ []) named
    ∙ renamed_more (slice_index numbers) from (file_node bytes n) taken arc (rising_next format bytes words numbers n shape ready) e is

-- ---- the list of numbers

-- a 0 at the end counts as nothing there
pub same_padded : (numbers : List ℕ) (n : ℕ) → get_or (numbers ++ 0 ∷ []) n 0 ≡ get_or numbers n 0
same_padded [] zero = refl
same_padded [] (suc n) = refl
same_padded (x ∷ numbers) zero = refl
same_padded (x ∷ numbers) (suc n) = same_padded numbers n

same_elsewhere : (numbers : List ℕ) (number n : ℕ) → (n ≡ length numbers → ⊥) → get_or (numbers ++ number ∷ []) n 0 ≡ get_or numbers n 0
same_elsewhere [] number zero other = absurd (other refl)
same_elsewhere [] number (suc n) other = refl
same_elsewhere (x ∷ numbers) number zero other = refl
same_elsewhere (x ∷ numbers) number (suc n) other = same_elsewhere numbers number n (λ e. other (ap suc e))

at_end : (numbers : List ℕ) (number : ℕ) → get_or (numbers ++ number ∷ []) (length numbers) 0 ≡ number
at_end [] number = refl
at_end (x ∷ numbers) number = at_end numbers number

pub numbered : (old numbers : List ℕ) (place number : ℕ) → length numbers ≡ place → ((n : ℕ) → get_or numbers n 0 ≡ get_or old n 0)
    → IsNumbered old (numbers ++ number ∷ []) place number
numbered old numbers place number size same = record {
  size = omega (arith, size, length-append numbers (number ∷ []));
  here = ap (λ (n : ℕ). get_or (numbers ++ number ∷ []) n 0) (sym size) ∙ at_end numbers number;
  same = λ n other. same_elsewhere numbers number n (λ e. other (e ∙ size)) ∙ same n;
}
