-- A lexicon that stands for rotated paths has each split of a word.
use Rattle.std.proofs.Common.{◌≡◌, ℕ, ◌+◌, ◌<◌, Bool, true, false, eqb, ltb, List, [], ◌∷◌, ◌++◌, length, map, All, refl, sym, ap, ◌∙◌, arith, append_assoc, append-nil}
use Rattle.std.specs.Prelude.{reverse}
use Rattle.std.proofs.lemmas.Bool.{eqb-true, lt-ltb}
use Rattle.std.proofs.lemmas.List.{reverse-append, map-append}
use Rattle.std.proofs.lemmas.List.Elements.{All-head, All-tail}
use Rattle.lex_list.specs.RotatedPaths.{letter_of, after_mark, is_path_after, StandsFor}
use Rattle.lex_list.specs.Words.{is_listed}

no_mark : (label : ℕ) → 0 < label → eqb label 0 ≡ false
no_mark label above = by (eqb label 0) refl
  where
    by : (b : Bool) → eqb label 0 ≡ b → b ≡ false
    by true e = let zero = eqb-true label 0 e in absurd (omega arith)
    by false e = refl

-- a letter that is read goes before the front
turned : (label : ℕ) (labels front : List ℕ) → map letter_of (reverse (label ∷ labels)) ++ front ≡ map letter_of (reverse labels) ++ (letter_of label ∷ front)
turned label labels front =
    ap (λ (x : List ℕ). map letter_of x ++ front) (reverse-append (label ∷ []) labels) ∙ ap (λ (x : List ℕ). x ++ front) (map-append letter_of (reverse labels) (label ∷ []))
    ∙ append_assoc (map letter_of (reverse labels)) (letter_of label ∷ []) front

-- the test, after a front
read : (words : List (List ℕ)) (front labels rest : List ℕ) → 0 < length front + length labels → All (λ label. 0 < label) labels
    → is_path_after words front (labels ++ after_mark rest) ≡ is_listed words (map letter_of (reverse labels) ++ front ++ map letter_of rest)
unfolding is_path_after
read words front [] [] some above =
    let here : ltb 0 (length front) ≡ true = lt-ltb 0 (length front) (omega arith) in
    rw (here, append-nil) refl
read words front [] (next ∷ rest) some above =
    let here : ltb 0 (length front) ≡ true = lt-ltb 0 (length front) (omega arith) in
    let there : ltb 0 (length (next ∷ rest)) ≡ true = lt-ltb 0 (length (next ∷ rest)) (omega arith) in
    rw (here, there) refl
read words front (label ∷ labels) rest some above =
    let here = no_mark label (All-head (λ x. 0 < x) label labels above) in
    let more = read words (letter_of label ∷ front) labels rest (omega arith) (All-tail (λ x. 0 < x) label labels above) in
    rw here (more ∙ ap (λ (x : List ℕ). is_listed words (x ++ map letter_of rest)) (sym (turned label labels front)))

-- the law
pub split : (words : List (List ℕ)) (language : List ℕ → Bool) → StandsFor language words → (labels rest : List ℕ) → 0 < length labels → All (λ label. 0 < label) labels
    → language (labels ++ after_mark rest) ≡ is_listed words (map letter_of (reverse labels ++ rest))
split words language same labels rest some above =
    same (labels ++ after_mark rest) ∙ read words [] labels rest (omega arith) above
    ∙ ap (λ (x : List ℕ). is_listed words (x ++ map letter_of rest)) (append-nil (map letter_of (reverse labels)))
    ∙ ap (is_listed words) (sym (map-append letter_of (reverse labels) rest))
