-- Escapes are undone.
use Rattle.std.proofs.Common.{◌≡◌, ℕ, zero, suc, ◌==◌, ◌&&◌, ◌||◌, Bool, true, false, not, List, [], ◌∷◌, ◌++◌, refl, sym, ap, ◌∙◌, if◌then◌else◌, arith}
use Rattle.std.specs.List.{list_all}
use Rattle.std.proofs.lemmas.List.Folds.{list_all-append}
use Rattle.std.proofs.lemmas.Bool.Decides.{nat_tests}
use Rattle.page_pieces.specs.Names.{is_slash, escaped_byte, escaped}

pub same_byte : (a b : ℕ) → (a == b) ≡ true → a ≡ b
same_byte a b e = grind (arith, nat_tests)

-- a text with % in place of each %25; the first bytes, as many as `following` says, are those of an escape that was taken
abbrev pub unescaped_after : (following : ℕ) → List ℕ → List ℕ
unescaped_after following [] = []
unescaped_after (suc following) (byte ∷ text) = unescaped_after following text
unescaped_after zero (byte ∷ text) = byte ∷ unescaped_after (if byte == 37 then 2 else 0) text

unescape_byte : (byte : ℕ) (text : List ℕ) (is : Bool) → (byte == 37) ≡ is → unescaped_after 0 (escaped text) ≡ text
    → unescaped_after 0 (escaped_byte byte ++ escaped text) ≡ byte ∷ text
unescape_byte byte text true e h = rw (e, same_byte byte 37 e, h) refl
unescape_byte byte text false e h = rw (e, e, h) refl

pub unescaped : (text : List ℕ) → unescaped_after 0 (escaped text) ≡ text
unfolding escaped
unescaped [] = refl
unescaped (byte ∷ text) = unescape_byte byte text (byte == 37) refl (unescaped text)

pub same_text : (one other : List ℕ) → escaped one ≡ escaped other → one ≡ other
same_text one other e = sym (unescaped one) ∙ ap (unescaped_after 0) e ∙ unescaped other

-- ---- no slash comes in

-- no slash
abbrev pub is_whole : List ℕ → Bool
is_whole text = list_all (λ byte. not (is_slash byte)) text

whole_byte : (byte : ℕ) (is : Bool) → (byte == 37) ≡ is → (byte == 47) ≡ false → is_whole (escaped_byte byte) ≡ true
whole_byte byte true e f = rw e refl
whole_byte byte false e f = rw (e, f) refl

whole_more : (byte : ℕ) (text : List ℕ) (slash : Bool) → (byte == 47) ≡ slash → (not slash && is_whole text) ≡ true → (is_whole text ≡ true → is_whole (escaped text) ≡ true)
    → is_whole (escaped_byte byte ++ escaped text) ≡ true
whole_more byte text true e h more = absurd cc
whole_more byte text false e h more =
    list_all-append (λ b. not (is_slash b)) (escaped_byte byte) (escaped text) ∙ rw (whole_byte byte (byte == 37) refl e, more h) refl

pub escaped_whole : (text : List ℕ) → is_whole text ≡ true → is_whole (escaped text) ≡ true
unfolding escaped
escaped_whole [] h = refl
escaped_whole (byte ∷ text) h = whole_more byte text (byte == 47) refl h (escaped_whole text)

-- ---- each % is followed by 2 (50)

abbrev pub begins_two : List ℕ → Bool
begins_two [] = false
begins_two (byte ∷ text) = byte == 50

abbrev pub has_twos : List ℕ → Bool
has_twos [] = true
has_twos (byte ∷ text) = (not (byte == 37) || begins_two text) && has_twos text

twos_byte : (byte : ℕ) (text : List ℕ) (is : Bool) → (byte == 37) ≡ is → has_twos (escaped text) ≡ true → has_twos (escaped_byte byte ++ escaped text) ≡ true
twos_byte byte text true e h = rw (e, h) refl
twos_byte byte text false e h = rw (e, e, h) refl

pub escaped_twos : (text : List ℕ) → has_twos (escaped text) ≡ true
unfolding escaped
escaped_twos [] = refl
escaped_twos (byte ∷ text) = twos_byte byte text (byte == 37) refl (escaped_twos text)

and_false : (b : Bool) → (b && false) ≡ false
and_false true = refl
and_false false = refl

-- a % at the end is followed by none
pub open_end : (text : List ℕ) → has_twos (text ++ 37 ∷ []) ≡ false
open_end [] = refl
open_end (byte ∷ text) = rw (open_end text) (and_false (not (byte == 37) || begins_two (text ++ 37 ∷ [])))
