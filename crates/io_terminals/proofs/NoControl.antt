-- No byte that is shown is a control character.
use Rattle.std.proofs.Common.{◌≡◌, ℕ, zero, suc, ◌+◌, ◌<◌, ◌==◌, Bool, true, false, List, [], ◌∷◌, get_or, length, nat_lt, if◌then◌else◌, refl, sym, ◌∙◌, arith}
use Rattle.std.specs.Prelude.{All}
use Rattle.std.proofs.lemmas.Bool.{and_parts, false≢true}
use Rattle.std.proofs.lemmas.Bool.Decides.{nat_tests}
use Rattle.std.proofs.lemmas.List.Elements.{All-append, All-cons, All-nil}
use Rattle.io_terminals.specs.Showing.{is_control, is_second, byte_before, begins_at, ends_at, before, shown_byte, shown_at, shown_to, NoneIsControl}

abbrev IsPlain : ℕ → Type 0
IsPlain byte = is_control byte ≡ false

-- the signs from the blank to the tilde
plain_by : (byte : ℕ) → nat_lt byte 9 ≡ false → nat_lt byte 32 ≡ false → (byte == 127) ≡ false → IsPlain byte
plain_by byte a b c = rw (a, b, c) refl

plain : (byte : ℕ) → 31 < byte → byte < 127 → IsPlain byte
plain byte above below = plain_by byte (grind (arith, nat_tests)) (grind (arith, nat_tests)) (grind (arith, nat_tests))

-- a control character other than DEL is below 32
low : (byte : ℕ) (x y : Bool) → nat_lt byte 9 ≡ x → nat_lt byte 32 ≡ y → (byte == 127) ≡ false → is_control byte ≡ true → byte < 32
low byte x true a b c is = grind (arith, nat_tests)
low byte true false a b c is = grind (arith, nat_tests)
low byte false false a b c is = absurd (false≢true (sym (plain_by byte a b c) ∙ is))

-- the sign of a control character
sign : (byte : ℕ) (last : Bool) → (byte == 127) ≡ last → is_control byte ≡ true → IsPlain (if last then 63 else byte + 64)
sign byte true e is = refl
sign byte false e is = let below = low byte (nat_lt byte 9) (nat_lt byte 32) refl refl e is in plain (byte + 64) (omega arith) (omega (arith, below))

of_byte : (byte : ℕ) (b : Bool) → is_control byte ≡ b → All IsPlain (if b then 94 ∷ (if byte == 127 then 63 else byte + 64) ∷ [] else byte ∷ [])
of_byte byte true is =
    let letter : ℕ = if byte == 127 then 63 else byte + 64 in
    All-cons IsPlain 94 (letter ∷ []) refl (All-cons IsPlain letter [] (sign byte (byte == 127) refl is) (All-nil IsPlain))
of_byte byte false is = All-cons IsPlain byte [] is (All-nil IsPlain)

of_second : (byte : ℕ) → is_second byte ≡ true → All IsPlain (94 ∷ 91 ∷ before byte ∷ [])
of_second byte is =
    let parts = and_parts (nat_lt byte 160) (nat_lt 127 byte) is in
    let below : byte < 160 = let e = parts.0 in grind (arith, nat_tests) in
    let above : 127 < byte = let e = parts.1 in grind (arith, nat_tests) in
    All-cons IsPlain 94 (91 ∷ before byte ∷ []) refl
    (All-cons IsPlain 91 (before byte ∷ []) refl (All-cons IsPlain (before byte) [] (plain (before byte) (omega (arith, below, above)) (omega (arith, below, above))) (All-nil IsPlain)))

at_place : (bytes : List ℕ) (place : ℕ) (begins ends : Bool) → ends_at bytes place ≡ ends
    → All IsPlain (if begins then [] else (if ends then 94 ∷ 91 ∷ before (get_or bytes place 0) ∷ [] else shown_byte (get_or bytes place 0)))
at_place bytes place true ends is = All-nil IsPlain
at_place bytes place false true is = of_second (get_or bytes place 0) (and_parts (byte_before bytes place == 194) (is_second (get_or bytes place 0)) is).1
at_place bytes place false false is = of_byte (get_or bytes place 0) (is_control (get_or bytes place 0)) refl

each : (bytes : List ℕ) (end : ℕ) → All IsPlain (shown_to bytes end)
unfolding shown_to
each bytes zero = All-nil IsPlain
each bytes (suc place) =
    All-append IsPlain (shown_to bytes place) (shown_at bytes place) (each bytes place) (at_place bytes place (begins_at bytes place) (ends_at bytes place) refl)

pub none_is_control : NoneIsControl
none_is_control bytes = each bytes (length bytes)
