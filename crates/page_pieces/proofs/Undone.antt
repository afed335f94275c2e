-- A reader has the text again.
use Rattle.std.proofs.Common.{◌≡◌, ℕ, Bool, true, false, ◌==◌, List, [], ◌∷◌, ◌++◌, refl, ap, ◌∙◌, arith}
use Rattle.std.proofs.lemmas.Bool.Decides.{nat_tests}
use Rattle.page_pieces.specs.Escaping.{written, html_text}
use Rattle.page_pieces.specs.Laws.{undone_after, IsUndone}

-- a byte that stands for itself
plain : (byte : ℕ) (text : List ℕ) → (byte == 38) ≡ false → undone_after 0 (byte ∷ text) ≡ byte ∷ undone_after 0 text
unfolding undone_after
plain byte text a = rw a refl

-- one more byte, by what it is
undone_by : (byte : ℕ) (text : List ℕ) (amp lt gt quot apos : Bool)
    → (byte == 38) ≡ amp → (byte == 60) ≡ lt → (byte == 62) ≡ gt → (byte == 34) ≡ quot → (byte == 39) ≡ apos
    → undone_after 0 (written byte ++ text) ≡ byte ∷ undone_after 0 text
unfolding written undone_after
undone_by byte text true lt gt quot apos a b c d e = let same : byte ≡ 38 = grind (arith, nat_tests) in rw same refl
undone_by byte text false true gt quot apos a b c d e = let same : byte ≡ 60 = grind (arith, nat_tests) in rw same refl
undone_by byte text false false true quot apos a b c d e = let same : byte ≡ 62 = grind (arith, nat_tests) in rw same refl
undone_by byte text false false false true apos a b c d e = let same : byte ≡ 34 = grind (arith, nat_tests) in rw same refl
undone_by byte text false false false false true a b c d e = let same : byte ≡ 39 = grind (arith, nat_tests) in rw same refl
undone_by byte text false false false false false a b c d e = rw (a, b, c, d, e) (plain byte text a)

pub undone_text : (text : List ℕ) → undone_after 0 (html_text text) ≡ text
unfolding undone_after
undone_text [] = refl
undone_text (byte ∷ text) = undone_by byte (html_text text) _ _ _ _ _ refl refl refl refl refl ∙ ap (λ l. byte ∷ l) (undone_text text)

pub undone_again : IsUndone
undone_again text = undone_text text
