-- The test of a rotated path accepts exactly the rotated paths.
use Rattle.std.proofs.Common.{◌≡◌, ℕ, ◌+◌, ◌-◌, ◌<◌, Bool, true, false, cond, ◌&&◌, eqb, ltb, leb, List, [], ◌∷◌, ◌++◌, length, map, refl, sym, ap, subst, ◌∙◌, arith, append_assoc, append-nil}
use Rattle.std.specs.Prelude.{IsTrue, ◌↔◌, reverse}
use Rattle.std.specs.Char.{is_ascii_uppercase}
use Rattle.std.specs.List.{Contains, list_all}
use Rattle.std.proofs.lemmas.Bool.{and_parts, and_from, ltb-true, lt-ltb, leb-true, eqb-true}
use Rattle.std.proofs.lemmas.List.{reverse-append, reverse-reverse}
use Rattle.std.proofs.lemmas.List.Folds.{list_all-append}
use Rattle.std.proofs.lemmas.List.Sums.{AllPass-from_list_all}
use Rattle.lex_list.specs.RotatedPaths.{label_of, letter_of, marked, IsPath, is_path_after, is_path, StandsFor}
use Rattle.lex_list.specs.Words.{is_listed, is_word, has_word_length, has_capitals_alone, IsWordList}
use Rattle.lex_list.proofs.Orders.{listed_from_member, member_from_listed}

pub not_equal : (n m : ℕ) → (n ≡ m → ⊥) → eqb n m ≡ false
not_equal n m h = by (eqb n m) refl
  where
    by : (b : Bool) → eqb n m ≡ b → b ≡ false
    by true e = absurd (h (eqb-true n m e))
    by false e = refl

-- ---- labels and letters

label_again : (labels : List ℕ) → map label_of (map letter_of labels) ≡ labels
label_again [] = refl
label_again (label ∷ labels) =
    let here : label + 64 - 64 ≡ label = omega arith in
    let rest = label_again labels in
    cc

pub letter_above : (letter : ℕ) → is_ascii_uppercase letter ≡ true → 64 < letter
letter_above letter e = let low = leb-true 65 letter (and_parts (leb 65 letter) (leb letter 90) e).0 in omega arith

pub letter_again : (letters : List ℕ) → list_all is_ascii_uppercase letters ≡ true → map letter_of (map label_of letters) ≡ letters
letter_again [] all = refl
letter_again (letter ∷ letters) all =
    let parts = and_parts (is_ascii_uppercase letter) (list_all is_ascii_uppercase letters) all in
    let above = letter_above letter parts.0 in
    let here : letter - 64 + 64 ≡ letter = omega arith in
    let rest = letter_again letters parts.1 in
    cc

-- ---- what the test says, after a front

-- what is read after a front: more letters of the front, in the order of reading, and the back
record After (words : List (List ℕ)) (front string : List ℕ) : Type 0 where
  more : List ℕ
  back : List ℕ
  listed : Contains words (reverse more ++ front ++ back)
  some : 0 < length (reverse more ++ front)
  read : string ≡ map label_of more ++ marked back

-- a letter that is read goes before the front
turned : (letter : ℕ) (more front : List ℕ) → reverse (letter ∷ more) ++ front ≡ reverse more ++ (letter ∷ front)
turned letter more front = ap (λ (x : List ℕ). x ++ front) (reverse-append (letter ∷ []) more) ∙ append_assoc (reverse more) (letter ∷ []) front

after_more : (words : List (List ℕ)) (front rest : List ℕ) (label : ℕ) → After words (letter_of label ∷ front) rest → After words front (label ∷ rest)
after_more words front rest label b =
    let again : label + 64 - 64 ≡ label = omega arith in
    record {
      more = letter_of label ∷ b.more;
      back = b.back;
      listed = subst (λ (x : List ℕ). Contains words (x ++ b.back)) (sym (turned (letter_of label) b.more front)) b.listed;
      some = subst (λ (x : List ℕ). 0 < length x) (sym (turned (letter_of label) b.more front)) b.some;
      read = let read = b.read in cc;
    }

past_mark : (words : List (List ℕ)) (front rest : List ℕ) (label : ℕ) → label ≡ 0 → 0 < length front → 0 < length rest
    → Contains words (front ++ map letter_of rest) → After words front (label ∷ rest)
past_mark words front [] label zero some filled listed = absurd (omega arith)
past_mark words front (first ∷ rest) label zero some filled listed =
    let again = label_again (first ∷ rest) in
    record { more = []; back = map letter_of (first ∷ rest); listed = listed; some = some; read = cc }

after_from_test : (words : List (List ℕ)) (front string : List ℕ) → is_path_after words front string ≡ true → After words front string
unfolding is_path_after
after_from_test words front [] t =
    let parts = and_parts (ltb 0 (length front)) (is_listed words front) t in
    record {
      more = [];
      back = [];
      listed = rw append-nil (member_from_listed words front parts.1);
      some = ltb-true 0 (length front) parts.0;
      read = refl;
    }
after_from_test words front (label ∷ rest) t = by (eqb label 0) refl t (after_from_test words (letter_of label ∷ front) rest)
  where
    by : (is_mark : Bool) → eqb label 0 ≡ is_mark
        → cond is_mark (ltb 0 (length front) && ltb 0 (length rest) && is_listed words (front ++ map letter_of rest)) (is_path_after words (letter_of label ∷ front) rest) ≡ true
        → (is_path_after words (letter_of label ∷ front) rest ≡ true → After words (letter_of label ∷ front) rest) → After words front (label ∷ rest)
    by true is h f =
        let parts = and_parts (ltb 0 (length front) && ltb 0 (length rest)) (is_listed words (front ++ map letter_of rest)) h in
        let sizes = and_parts (ltb 0 (length front)) (ltb 0 (length rest)) parts.0 in
        past_mark words front rest label (eqb-true label 0 is) (ltb-true 0 (length front) sizes.0) (ltb-true 0 (length rest) sizes.1)
        (member_from_listed words (front ++ map letter_of rest) parts.1)
    by false is h f = after_more words front rest label (f h)

-- ---- the converse

test_from_split : (words : List (List ℕ)) (front more back : List ℕ) → list_all is_ascii_uppercase (reverse more ++ front ++ back) ≡ true
    → Contains words (reverse more ++ front ++ back) → 0 < length (reverse more ++ front) → is_path_after words front (map label_of more ++ marked back) ≡ true
unfolding is_path_after
test_from_split words front [] [] capitals listed some =
    let there = listed_from_member words front (rw append-nil at listed) in
    rw (lt-ltb 0 (length front) some, there) refl
test_from_split words front [] (letter ∷ back) capitals listed some =
    let parts = and_parts (list_all is_ascii_uppercase front) (list_all is_ascii_uppercase (letter ∷ back)) (sym (list_all-append is_ascii_uppercase front (letter ∷ back)) ∙ capitals) in
    let filled : ltb 0 (length (map label_of (letter ∷ back))) ≡ true = lt-ltb 0 (length (map label_of (letter ∷ back))) (omega arith) in
    let there : is_listed words (front ++ map letter_of (map label_of (letter ∷ back))) ≡ true = rw (letter_again (letter ∷ back) parts.1) (listed_from_member words (front ++ (letter ∷ back)) listed) in
    and_from (ltb 0 (length front) && ltb 0 (length (map label_of (letter ∷ back)))) (is_listed words (front ++ map letter_of (map label_of (letter ∷ back))))
    (and_from (ltb 0 (length front)) (ltb 0 (length (map label_of (letter ∷ back)))) (lt-ltb 0 (length front) some) filled) there
test_from_split words front (letter ∷ more) back capitals listed some =
    let turn = turned letter more front in
    let word = subst (λ (x : List ℕ). list_all is_ascii_uppercase (x ++ back) ≡ true) turn capitals in
    let front_part = and_parts (list_all is_ascii_uppercase (reverse more ++ (letter ∷ front))) (list_all is_ascii_uppercase back)
    (sym (list_all-append is_ascii_uppercase (reverse more ++ (letter ∷ front)) back) ∙ word) in
    let from_letter = and_parts (list_all is_ascii_uppercase (reverse more)) (list_all is_ascii_uppercase (letter ∷ front))
    (sym (list_all-append is_ascii_uppercase (reverse more) (letter ∷ front)) ∙ front_part.0) in
    let above = letter_above letter (and_parts (is_ascii_uppercase letter) (list_all is_ascii_uppercase front) from_letter.1).0 in
    let again : letter - 64 + 64 ≡ letter = omega arith in
    let no_mark : eqb (letter - 64) 0 ≡ false = not_equal (letter - 64) 0 (λ e. absurd (omega arith)) in
    let rest = test_from_split words (letter ∷ front) more back word
    (subst (λ (x : List ℕ). Contains words (x ++ back)) turn listed)
    (subst (λ (x : List ℕ). 0 < length x) turn some) in
    rw (no_mark, again) rest

-- ---- the law

path_from_after : (words : List (List ℕ)) (string : List ℕ) → After words [] string → IsPath words string
path_from_after words string b =
    let same : reverse b.more ++ [] ≡ reverse b.more = append-nil (reverse b.more) in
    record {
      front = reverse b.more;
      back = b.back;
      listed = subst (λ (x : List ℕ). Contains words (x ++ b.back)) same b.listed;
      some = subst (λ (x : List ℕ). 0 < length x) same b.some;
      path = b.read ∙ ap (λ (x : List ℕ). map label_of x ++ marked b.back) (sym (reverse-reverse b.more));
    }

pub capitals_of : (words : List (List ℕ)) (word : List ℕ) → IsTrue (has_capitals_alone words) → Contains words word → list_all is_ascii_uppercase word ≡ true
capitals_of words word capitals h = rw h.2 at (AllPass-from_list_all (list_all is_ascii_uppercase) words capitals h.0 word h.1)

test_from_path : (words : List (List ℕ)) (string : List ℕ) → IsTrue (has_capitals_alone words) → IsPath words string → is_path words string ≡ true
test_from_path words string capitals p =
    let same : reverse (reverse p.front) ++ [] ≡ p.front = append-nil (reverse (reverse p.front)) ∙ reverse-reverse p.front in
    let listed = subst (λ (x : List ℕ). Contains words (x ++ p.back)) (sym same) p.listed in
    let some = subst (λ (x : List ℕ). 0 < length x) (sym same) p.some in
    let letters = capitals_of words (reverse (reverse p.front) ++ [] ++ p.back) capitals listed in
    subst (λ (x : List ℕ). is_path words x ≡ true) (sym p.path) (test_from_split words [] (reverse p.front) p.back letters listed some)

pub tested : (words : List (List ℕ)) → IsTrue (has_capitals_alone words) → (string : List ℕ) → IsTrue (is_path words string) ↔ IsPath words string
tested words capitals string = (
  (λ t. path_from_after words string (after_from_test words [] string t)),
  (λ p. test_from_path words string capitals p),
)

-- ---- lexicons that stand for the paths of a list

pub capitals_in : (words : List (List ℕ)) → list_all is_word words ≡ true → has_capitals_alone words ≡ true
capitals_in [] all = refl
capitals_in (word ∷ words) all =
    let parts = and_parts (is_word word) (list_all is_word words) all in
    and_from (list_all is_ascii_uppercase word) (has_capitals_alone words) (and_parts (list_all is_ascii_uppercase word) (has_word_length word) parts.0).0
    (capitals_in words parts.1)

pub list_capitals : (words : List (List ℕ)) → IsWordList words → IsTrue (has_capitals_alone words)
list_capitals words is = capitals_in words is.each

pub standing : (words : List (List ℕ)) → IsTrue (has_capitals_alone words) → (language : List ℕ → Bool) → StandsFor language words
    → (string : List ℕ) → IsTrue (language string) ↔ IsPath words string
standing words capitals language same string = (
  (λ t. (tested words capitals string).0 (sym (same string) ∙ t)),
  (λ p. same string ∙ (tested words capitals string).1 p),
)
