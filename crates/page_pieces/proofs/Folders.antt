-- The names of folders differ.
use Rattle.std.proofs.Common.{◌≡◌, ℕ, ◌==◌, ◌&&◌, Bool, true, false, not, List, [], ◌∷◌, ◌++◌, refl, sym, ap, ◌∙◌, if◌then◌else◌}
use Rattle.page_pieces.specs.Names.{is_step, escaped_byte, escaped, folder_text}
use Rattle.page_pieces.proofs.Escapes.{same_byte, unescaped_after, unescaped, begins_two, is_whole, escaped_whole}

-- the name that a folder of the pages has its own from
abbrev pub unfolded : List ℕ → List ℕ
unfolded [] = []
unfolded (byte ∷ text) = if byte == 37 && not (begins_two text) then text else unescaped_after 0 (byte ∷ text)

plain_by : (byte : ℕ) (text : List ℕ) (is : Bool) → (byte == 37) ≡ is → unfolded (escaped_byte byte ++ escaped text) ≡ unescaped_after 0 (escaped_byte byte ++ escaped text)
plain_by byte text true e = rw e refl
plain_by byte text false e = rw (e, e) refl

plain : (byte : ℕ) (text : List ℕ) → unfolded (escaped (byte ∷ text)) ≡ byte ∷ text
unfolding escaped
plain byte text = plain_by byte text (byte == 37) refl ∙ unescaped (byte ∷ text)

one_by : (a : ℕ) (is : Bool) → (a == 46) ≡ is → unfolded (if is then 37 ∷ a ∷ [] else escaped (a ∷ [])) ≡ a ∷ []
one_by a true e = rw (same_byte a 46 e) refl
one_by a false e = plain a []

two_by : (a b : ℕ) (is also : Bool) → (a == 46) ≡ is → (b == 46) ≡ also → unfolded (if is && also then 37 ∷ a ∷ b ∷ [] else escaped (a ∷ b ∷ [])) ≡ a ∷ b ∷ []
two_by a b true true e f = rw (same_byte a 46 e, same_byte b 46 f) refl
two_by a b true false e f = plain a (b ∷ [])
two_by a b false also e f = plain a (b ∷ [])

unfolded_again : (part : List ℕ) → unfolded (folder_text part) ≡ part
unfolding folder_text
unfolded_again [] = refl
unfolded_again (a ∷ []) = one_by a (a == 46) refl
unfolded_again (a ∷ b ∷ []) = two_by a b (a == 46) (b == 46) refl refl
unfolded_again (a ∷ b ∷ c ∷ rest) = plain a (b ∷ c ∷ rest)

pub same_folder : (one other : List ℕ) → folder_text one ≡ folder_text other → one ≡ other
same_folder one other e = sym (unfolded_again one) ∙ ap unfolded e ∙ unfolded_again other

-- ---- no slash comes in

whole_by : (part : List ℕ) (is : Bool) → is_whole part ≡ true → is_whole (if is then 37 ∷ part else escaped part) ≡ true
whole_by part true h = h
whole_by part false h = escaped_whole part h

pub folder_whole : (part : List ℕ) → is_whole part ≡ true → is_whole (folder_text part) ≡ true
unfolding folder_text
folder_whole part h = whole_by part (is_step part) h

-- ---- it is a folder of its own

escaped_one : (a : ℕ) (is : Bool) → (a == 37) ≡ is → (a == 46) ≡ false → is_step (escaped_byte a ++ []) ≡ false
escaped_one a true e f = rw e refl
escaped_one a false e f = rw (e, f) refl

escaped_two : (a b : ℕ) (is also : Bool) → (a == 37) ≡ is → (b == 37) ≡ also → (a == 46 && b == 46) ≡ false → is_step (escaped_byte a ++ (escaped_byte b ++ [])) ≡ false
escaped_two a b true also e f h = rw e refl
escaped_two a b false true e f h = rw (e, f) refl
escaped_two a b false false e f h = rw (e, f, h) refl

escaped_more : (a b c : ℕ) (rest : List ℕ) (is also too : Bool) → (a == 37) ≡ is → (b == 37) ≡ also → (c == 37) ≡ too
    → is_step (escaped_byte a ++ (escaped_byte b ++ (escaped_byte c ++ rest))) ≡ false
escaped_more a b c rest true also too e f g = rw e refl
escaped_more a b c rest false true too e f g = rw (e, f) refl
escaped_more a b c rest false false true e f g = rw (e, f, g) refl
escaped_more a b c rest false false false e f g = rw (e, f, g) refl

one_own : (a : ℕ) (is : Bool) → (a == 46) ≡ is → is_step (if is then 37 ∷ a ∷ [] else escaped (a ∷ [])) ≡ false
unfolding escaped
one_own a true e = refl
one_own a false e = escaped_one a (a == 37) refl e

two_own : (a b : ℕ) (is : Bool) → (a == 46 && b == 46) ≡ is → is_step (if is then 37 ∷ a ∷ b ∷ [] else escaped (a ∷ b ∷ [])) ≡ false
unfolding escaped
two_own a b true e = refl
two_own a b false e = escaped_two a b (a == 37) (b == 37) refl refl e

more_own : (a b c : ℕ) (rest : List ℕ) → is_step (escaped (a ∷ b ∷ c ∷ rest)) ≡ false
unfolding escaped
more_own a b c rest = escaped_more a b c (escaped rest) (a == 37) (b == 37) (c == 37) refl refl refl

pub folder_own : (part : List ℕ) → is_step (folder_text part) ≡ false
unfolding folder_text
folder_own [] = refl
folder_own (a ∷ []) = one_own a (a == 46) refl
folder_own (a ∷ b ∷ []) = two_own a b (a == 46 && b == 46) refl
folder_own (a ∷ b ∷ c ∷ rest) = more_own a b c rest
