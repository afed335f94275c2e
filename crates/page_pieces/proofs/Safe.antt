-- The written form of a text has no markup.
use Rattle.std.proofs.Common.{◌≡◌, ℕ, Bool, true, false, not, ◌==◌, List, [], ◌∷◌, ◌++◌, refl}
use Rattle.std.specs.Prelude.{codes}
use Rattle.std.specs.List.{list_all}
use Rattle.page_pieces.specs.Escaping.{written, html_text}
use Rattle.page_pieces.specs.Laws.{is_mark, has_names, HasNoMark, HasOnlyNames}

-- no mark
abbrev pub is_safe : List ℕ → Bool
is_safe text = list_all (λ byte. not (is_mark byte)) text

-- a byte that stands for itself
plain_safe : (byte : ℕ) (text : List ℕ) → (byte == 60) ≡ false → (byte == 62) ≡ false → (byte == 34) ≡ false → (byte == 39) ≡ false
    → is_safe text ≡ true → is_safe (byte ∷ text) ≡ true
plain_safe byte text b c d e h = rw (b, c, d, e) h

plain_named : (byte : ℕ) (text : List ℕ) → (byte == 38) ≡ false → has_names text ≡ true → has_names (byte ∷ text) ≡ true
plain_named byte text a h = rw a h

-- one more byte, by what it is: what holds for the text after each of the five names, and after a byte that stands for itself
written_by : (holds : List ℕ → Bool) (byte : ℕ) (text : List ℕ) (amp lt gt quot apos : Bool)
    → (byte == 38) ≡ amp → (byte == 60) ≡ lt → (byte == 62) ≡ gt → (byte == 34) ≡ quot → (byte == 39) ≡ apos
    → holds (codes "&amp;" ++ text) ≡ true → holds (codes "&lt;" ++ text) ≡ true → holds (codes "&gt;" ++ text) ≡ true
    → holds (codes "&quot;" ++ text) ≡ true → holds (codes "&#39;" ++ text) ≡ true
    → ((byte == 38) ≡ false → (byte == 60) ≡ false → (byte == 62) ≡ false → (byte == 34) ≡ false → (byte == 39) ≡ false → holds (byte ∷ text) ≡ true)
    → holds (written byte ++ text) ≡ true
unfolding written
written_by holds byte text true lt gt quot apos a b c d e amps lts gts quots apostrophes plain = rw a amps
written_by holds byte text false true gt quot apos a b c d e amps lts gts quots apostrophes plain = rw (a, b) lts
written_by holds byte text false false true quot apos a b c d e amps lts gts quots apostrophes plain = rw (a, b, c) gts
written_by holds byte text false false false true apos a b c d e amps lts gts quots apostrophes plain = rw (a, b, c, d) quots
written_by holds byte text false false false false true a b c d e amps lts gts quots apostrophes plain = rw (a, b, c, d, e) apostrophes
written_by holds byte text false false false false false a b c d e amps lts gts quots apostrophes plain = rw (a, b, c, d, e) (plain a b c d e)

pub safe : HasNoMark
safe [] = refl
safe (byte ∷ text) =
    let h : is_safe (html_text text) ≡ true = safe text in
    written_by is_safe byte (html_text text) _ _ _ _ _ refl refl refl refl refl h h h h h (λ a b c d e. plain_safe byte (html_text text) b c d e h)

pub named : HasOnlyNames
named [] = refl
named (byte ∷ text) =
    let h : has_names (html_text text) ≡ true = named text in
    written_by has_names byte (html_text text) _ _ _ _ _ refl refl refl refl refl h h h h h (λ a b c d e. plain_named byte (html_text text) a h)
