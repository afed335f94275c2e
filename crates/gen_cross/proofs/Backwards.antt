-- Labels read backwards: a stretch by its parts, and the word that it spells.
use Rattle.std.proofs.Common.{◌≡◌, ℕ, zero, suc, ◌+◌, ◌<◌, ◌≤◌, Bool, List, [], ◌∷◌, ◌++◌, length, map, All, refl, sym, ap, ◌∙◌, arith, append-nil}
use Rattle.std.specs.Prelude.{reverse}
use Rattle.std.specs.List.{range_with_len}
use Rattle.std.proofs.lemmas.List.{reverse-append, map_push}
use Rattle.lex_list.specs.RotatedPaths.{letter_of, StandsFor}
use Rattle.lex_list.specs.Words.{is_listed}
use Rattle.lex_list.proofs.Splitting.{split}
use Rattle.ref_play.proofs.Ranges.{range_push}
use Rattle.gen_cross.specs.Paths.{down}

pub length-down : (f : ℕ → ℕ) (first n : ℕ) → length (down f first n) ≡ n
length-down f first zero = refl
length-down f first (suc n) = ap suc (length-down f first n)

-- what holds for each place holds for each label
pub All-down : (P : ℕ → Type 0) (f : ℕ → ℕ) (first n : ℕ) → ((i : ℕ) → first ≤ i → i < first + n → P (f i)) → All P (down f first n)
All-down P f first zero h = λ k d below. absurd (omega arith)
All-down P f first (suc n) h = cons (P) (f (first + n)) (down f first n) (h (first + n) (omega arith) (omega arith)) (All-down P f first n (λ i low high. h i low (omega arith)))
  where
    cons : (Q : ℕ → Type 0) (x : ℕ) (xs : List ℕ) → Q x → All Q xs → All Q (x ∷ xs)
    cons Q x xs here there zero d below = here
    cons Q x xs here there (suc k) d below = there k d (omega arith)

-- two functions that agree on the places
pub down_agree : (f g : ℕ → ℕ) (first n : ℕ) → ((i : ℕ) → first ≤ i → i < first + n → f i ≡ g i) → down f first n ≡ down g first n
down_agree f g first zero h = refl
down_agree f g first (suc n) h =
    let here = h (first + n) (omega arith) (omega arith) in
    let rest = down_agree f g first n (λ i low high. h i low (omega arith)) in
    cc

-- a stretch, by its parts
pub down_parts : (f : ℕ → ℕ) (first n m : ℕ) → down f (first + n + 1) m ++ (f (first + n) ∷ down f first n) ≡ down f first (n + 1 + m)
down_parts f first n zero =
    let next : n + 1 + 0 ≡ suc n = omega arith in
    ap (down f first) (sym next)
down_parts f first n (suc m) =
    let next : n + 1 + suc m ≡ suc (n + 1 + m) = omega arith in
    let same : first + n + 1 + m ≡ first + (n + 1 + m) = omega arith in
    let rest = down_parts f first n m in
    let here : f (first + n + 1 + m) ≡ f (first + (n + 1 + m)) = ap f same in
    let whole : f (first + n + 1 + m) ∷ (down f (first + n + 1) m ++ (f (first + n) ∷ down f first n)) ≡ f (first + (n + 1 + m)) ∷ down f first (n + 1 + m) = cc in
    whole ∙ ap (down f first) (sym next)

-- and forwards again
pub reverse_down : (f : ℕ → ℕ) (first n : ℕ) → reverse (down f first n) ≡ map f (range_with_len first n)
reverse_down f first zero = refl
reverse_down f first (suc n) =
    reverse-append (f (first + n) ∷ []) (down f first n) ∙ ap (λ (x : List ℕ). x ++ f (first + n) ∷ []) (reverse_down f first n)
    ∙ sym (map_push f (range_with_len first n) (first + n)) ∙ ap (map f) (sym (range_push first n))

-- the labels of a stretch, backwards, are a string of a language that stands for words exactly when their letters are a word
pub down_listed : (words : List (List ℕ)) (language : List ℕ → Bool) → StandsFor language words → (f : ℕ → ℕ) (first n : ℕ) → 0 < n
    → ((i : ℕ) → first ≤ i → i < first + n → 0 < f i) → language (down f first n) ≡ is_listed words (map letter_of (map f (range_with_len first n)))
down_listed words language stands f first n some above =
    let size = length-down f first n in
    ap language (sym (append-nil (down f first n)))
    ∙ split words language stands (down f first n) [] (omega arith) (All-down (λ label. 0 < label) f first n above)
    ∙ ap (λ (x : List ℕ). is_listed words (map letter_of x)) (append-nil (reverse (down f first n)) ∙ reverse_down f first n)
