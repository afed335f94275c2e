-- Words of a file as the code reads them.
use Rattle.std.proofs.Common.{◌≡◌, ℕ, zero, suc, ◌+◌, ◌*◌, ◌-◌, ◌/◌, ◌<◌, ◌≤◌, arith, Bool, List, [], ◌∷◌, length, get_or, drop, drop-cons, ◌≢◌, add-one, refl, sym, ap, ◌∙◌, true, false, eqb, Some, None}
use Rattle.std.proofs.Common.{inl, inr}
use Rattle.std.specs.List.{find}
use Rattle.std.proofs.Math.ListN.{drop_of_length-le}
use Rattle.std.proofs.lemmas.Bool.Decides.{eqb_tells}
use Rattle.byteorder.specs.Endian.{little_number}
use Rattle.lex_file.specs.declared.arcs.Arc.{Arc}
use Rattle.lex_file.specs.FileWords.{words_in}
pub use Rattle.lex_file.specs.laws.Files.{sizes}
use Rattle.lex_file.specs.Arcs.{arc_of, is_last}
use Rattle.lex_file.specs.Nodes.{run_of, node_at}

pub count : (bytes : List ℕ) → length bytes / 4 ≡ length (words_in bytes)
count bytes = let s = sizes bytes in omega arith

pub shorter : (bytes : List ℕ) → length (words_in bytes) ≤ length bytes
shorter bytes = let s = sizes bytes in omega arith

pub inside : (bytes : List ℕ) (place : ℕ) → place < length (words_in bytes) → 4 * place + 4 ≤ length bytes
inside bytes place lt = let s = sizes bytes in omega arith

drop_four : (a b c d : ℕ) (rest : List ℕ) (place : ℕ) → drop (4 * suc place) (a ∷ b ∷ c ∷ d ∷ rest) ≡ drop (4 * place) rest
drop_four a b c d rest place =
    let e : 4 * suc place ≡ suc (suc (suc (suc (4 * place)))) = omega arith in
    rw e refl

pub word : (bytes : List ℕ) (place : ℕ) → place < length (words_in bytes) → little_number 4 (drop (4 * place) bytes) ≡ get_or (words_in bytes) place 0
unfolding words_in
word [] place lt = absurd (omega arith)
word (a ∷ []) place lt = absurd (omega arith)
word (a ∷ b ∷ []) place lt = absurd (omega arith)
word (a ∷ b ∷ c ∷ []) place lt = absurd (omega arith)
word (a ∷ b ∷ c ∷ d ∷ rest) zero lt = refl
word (a ∷ b ∷ c ∷ d ∷ rest) (suc place) lt = ap (little_number 4) (drop_four a b c d rest place) ∙ word rest place (omega arith)

-- ---- the arcs of a node, one by one

pub not_equal : (a b : ℕ) → a ≢ b → eqb a b ≡ false
not_equal a b apart = elim (eqb_tells a b) [ inl same ↦ absurd (apart same.1) | inr other ↦ other.0 ]

pub starts_at : (words : List ℕ) (number : ℕ) (wanted : Arc → Bool) → 0 < number → find wanted (node_at words number) ≡ find wanted (run_of (drop (number - 1) words))
starts_at words zero wanted lt = absurd (omega arith)
starts_at words (suc place) wanted lt = let e : suc place - 1 ≡ place = omega arith in rw e refl

pub found_here : (words : List ℕ) (place : ℕ) (wanted : Arc → Bool) → place < length words → wanted (arc_of (get_or words place 0)) ≡ true
    → find wanted (run_of (drop place words)) ≡ Some (arc_of (get_or words place 0))
unfolding run_of
found_here words place wanted lt is = rw (drop-cons words place 0) (rw is refl)

pub goes_on : (words : List ℕ) (place : ℕ) (wanted : Arc → Bool) → place < length words → wanted (arc_of (get_or words place 0)) ≡ false
    → is_last (get_or words place 0) ≡ false → find wanted (run_of (drop place words)) ≡ find wanted (run_of (drop (place + 1) words))
unfolding run_of
goes_on words place wanted lt apart last = rw (drop-cons words place 0) (rw (apart, last, add-one) refl)

pub ends_here : (words : List ℕ) (place : ℕ) (wanted : Arc → Bool) → place < length words → wanted (arc_of (get_or words place 0)) ≡ false
    → is_last (get_or words place 0) ≡ true → find wanted (run_of (drop place words)) ≡ None
unfolding run_of
ends_here words place wanted lt apart last = rw (drop-cons words place 0) (rw (apart, last) refl)

pub past_all : (words : List ℕ) (place : ℕ) (wanted : Arc → Bool) → length words ≤ place → find wanted (run_of (drop place words)) ≡ None
unfolding run_of
past_all words place wanted le = rw (drop_of_length-le words le) refl

-- what is left of a node after an arc
pub remaining_more : (words : List ℕ) (place : ℕ) (wanted : Arc → Bool) → place < length words → wanted (arc_of (get_or words place 0)) ≡ false
    → is_last (get_or words place 0) ≡ false → find wanted (run_of (drop place words)) ≡ find wanted (node_at words (place + 2))
remaining_more words place wanted lt apart last =
    let e : place + 2 ≡ suc (place + 1) = omega arith in
    goes_on words place wanted lt apart last ∙ ap (λ (n : ℕ). find wanted (node_at words n)) (sym e)

-- a header has four words
pub header_words : (bytes : List ℕ) → 16 ≤ length bytes → 4 ≤ length (words_in bytes)
header_words bytes le = let s = sizes bytes in omega arith
