-- The rotated paths of a word, if letters turn over and the set has the path of the first letter.
use Rattle.std.proofs.Common.{◌≡◌, ℕ, zero, suc, ◌<◌, ◌≤◌, Bool, true, List, [], ◌∷◌, ◌++◌, length, get_or, take, drop, map, drop-cons, length-append, refl, sym, ap, subst, ◌∙◌, arith}
use Rattle.std.specs.Prelude.{reverse}
use Rattle.std.specs.Char.{is_ascii_uppercase}
use Rattle.std.specs.List.{list_all}
use Rattle.std.proofs.Math.Seq.{take-suc, take-append_seam, drop-append_seam}
use Rattle.std.proofs.lemmas.Bool.{and_parts}
use Rattle.std.proofs.lemmas.List.{reverse-append, get_or_default}
use Rattle.lex_list.specs.RotatedPaths.{label_of, after_mark, marked, path_of}
use Rattle.lex_list.specs.Words.{is_word}
use Rattle.lex_list.proofs.RotatedPaths.{letter_above}
use Rattle.lex_agree.specs.Chains.{AreLetters, TurnsOverFrom, first_path}
use Rattle.lex_agree.proofs.Paths.{HoldsPaths, all_reversed, front_capitals, word_sizes}

-- every split of a word is a path of the set
abbrev pub HasSplits : (List ℕ → Bool) → List ℕ → Type 0
HasSplits has word = (split : ℕ) → 0 < split → split ≤ length word → has (path_of (take split word) (drop split word)) ≡ true

letters_of_capitals : (word : List ℕ) → list_all is_ascii_uppercase word ≡ true → AreLetters (map label_of word)
letters_of_capitals [] capitals = tt
letters_of_capitals (letter ∷ word) capitals =
    let parts = and_parts (is_ascii_uppercase letter) (list_all is_ascii_uppercase word) capitals in
    let above = letter_above letter parts.0 in
    (omega arith, letters_of_capitals word parts.1)

marked_is : (back : List ℕ) → after_mark (map label_of back) ≡ marked back
marked_is [] = refl
marked_is (letter ∷ back) = refl

first_is : (word : List ℕ) → 2 ≤ length word → first_path word ≡ path_of (take 1 word) (drop 1 word)
first_is [] long = absurd (omega arith)
first_is (letter ∷ []) long = absurd (omega arith)
first_is (letter ∷ other ∷ word) long = refl

-- one more letter
turned : (word : List ℕ) (split : ℕ) → split < length word → path_of (take (suc split) word) (drop (suc split) word)
    ≡ label_of (get_or word split 0) ∷ map label_of (reverse (take split word)) ++ after_mark (map label_of (drop (suc split) word))
turned word split inside =
    let front : take (suc split) word ≡ take split word ++ get_or word split 0 ∷ [] = take-suc word split 0 inside in
    let back = reverse-append (take split word) (get_or word split 0 ∷ []) in
    rw (marked_is (drop (suc split) word), front, back) refl

pub splits : (has : List ℕ → Bool) (word : List ℕ) → is_word word ≡ true → TurnsOverFrom has [] → has (first_path word) ≡ true → HasSplits has word
splits has word is turns first zero some le = absurd (omega arith)
splits has word is turns first (suc zero) some le = subst (λ (string : List ℕ). has string ≡ true) (first_is word (word_sizes word is).0) first
splits has word is turns first (suc (suc split)) some le =
    let before = splits has word is turns first (suc split) (omega arith) (omega arith) in
    let front = map label_of (reverse (take (suc split) word)) in
    let clear = letters_of_capitals (reverse (take (suc split) word)) (all_reversed (take (suc split) word) (front_capitals word (suc split) is)) in
    let here = rw (drop-cons word (suc split) 0 (omega arith)) at before in
    let there = turns front clear (label_of (get_or word (suc split) 0)) (map label_of (drop (suc (suc split)) word)) here in
    rw (turned word (suc split) (omega arith)) there

pub holds : (words : List (List ℕ)) (has : List ℕ → Bool) → list_all is_word words ≡ true → TurnsOverFrom has []
    → ((place : ℕ) → place < length words → has (first_path (get_or words place [])) ≡ true) → HoldsPaths has words
holds words has each turns all string path =
    let at = path.listed in
    let word = path.front ++ path.back in
    let here : get_or words at.0 [] ≡ word = sym (get_or_default words at.0 word [] at.1) ∙ at.2 in
    let size = length-append path.front path.back in
    let is : is_word word ≡ true = subst (λ (w : List ℕ). is_word w ≡ true) here (word_at words each at.0 at.1) in
    let first = subst (λ (w : List ℕ). has (first_path w) ≡ true) here (all at.0 at.1) in
    let split = splits has word is turns first (length path.front) path.some (omega arith) in
    let front : take (length path.front) word ≡ path.front = take-append_seam path.front path.back in
    let back : drop (length path.front) word ≡ path.back = drop-append_seam path.front path.back in
    ap has path.path ∙ rw (front, back) at split
  where
    word_at : (words : List (List ℕ)) → list_all is_word words ≡ true → (place : ℕ) → place < length words → is_word (get_or words place []) ≡ true
    word_at [] all place lt = absurd (omega arith)
    word_at (word ∷ words) all zero lt = (and_parts (is_word word) (list_all is_word words) all).0
    word_at (word ∷ words) all (suc place) lt = word_at words (and_parts (is_word word) (list_all is_word words) all).1 place (omega arith)
