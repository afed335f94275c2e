-- Codes as they are written, read again.
use Rattle.std.proofs.Common.{◌≡◌, ℕ, ◌+◌, ◌-◌, ◌≤◌, Bool, false, ◌&&◌, ◌==◌, eqb, List, [], ◌∷◌, ◌++◌, length, take, nat_le, Some, None, if◌then◌else◌, arith, subst, refl, ◌∙◌, inl, inr}
use Rattle.std.specs.Prelude.{decimal, codes}
use Rattle.std.specs.List.{ends_with}
use Rattle.std.specs.Option.{option_or, option_map}
use Rattle.std.specs.Str.{bytes_eq}
use Rattle.std.proofs.lemmas.Fmt.{decimal_digit}
use Rattle.std.proofs.lemmas.List.{length-append}
use Rattle.std.proofs.lemmas.Bool.Decides.{nat_tests}
use Rattle.ref_tiles.specs.Counting.{counted}
use Rattle.ref_tiles.specs.Letters.{letter_at}
use Rattle.gcg_read.specs.declared.events.EventKind.{EventKind}
use Rattle.gcg_read.specs.declared.events.EventKind.TheVariants as kind
use Rattle.gcg_read.specs.Numerals.{numeral}
use Rattle.gcg_read.specs.Racks.{is_tile, rack_of}
use Rattle.gcg_read.specs.Codes.{unknown_of, dashed_of, bracketed_of, opened_of, code_of}
use Rattle.gcg_write.specs.Fields.{kind_text, tiles_text}
use Rattle.gcg_write.proofs.Parts.{take_front, drop_front}
use Rattle.gcg_write.proofs.Digits.{numeral_decimal, le_true}
use Rattle.gcg_write.proofs.Inversions.{both, le_from, chosen, chosen_or, one_of, first_or, mapped, chained}
use Rattle.gcg_write.proofs.Tiles.{IsRack, rack_again, rack_read}

-- what a code may say
abbrev pub IsCode : EventKind → Type 0
IsCode (kind.Play at dir word) = ⊥
IsCode kind.Pass = Unit {0}
IsCode (kind.Exchange tiles) = IsRack tiles
IsCode (kind.ExchangeUnknown number) = (1 ≤ number) × (number ≤ 7)
IsCode kind.Withdraw = Unit {0}
IsCode kind.Challenge = Unit {0}
IsCode kind.Time = Unit {0}
IsCode (kind.LastRack tiles) = IsRack tiles

-- ---- written and read

no_rack : (n : ℕ) → n ≤ 7 → rack_of ((48 + n) ∷ []) ≡ None
no_rack n h =
    let none : is_tile (48 + n) ≡ false = grind (arith, nat_tests) in
    rw none refl

unknown_again : (n : ℕ) → 1 ≤ n → n ≤ 7 → unknown_of (decimal n) ≡ Some n
unknown_again n some few =
    let read = numeral_decimal 1 n (omega arith) (omega arith) (omega arith) in
    rw (read, le_true 1 n some, le_true n 7 few) refl

front_len : (xs : List ℕ) (y : ℕ) → length (xs ++ y ∷ []) - 1 ≡ length xs
front_len xs y = omega (arith, length-append xs (y ∷ []))

opened_again : (bytes : List ℕ) → opened_of (bytes ++ 41 ∷ []) ≡ bracketed_of bytes
opened_again bytes = rw (front_len bytes 41, drop_front bytes (41 ∷ []), take_front bytes (41 ∷ [])) refl

pub code_again : (what : EventKind) → IsCode what → code_of (kind_text what) ≡ Some what
unfolding kind_text dashed_of bracketed_of counted letter_at
code_again (kind.Play at dir word) h = absurd h
code_again kind.Pass h = refl
code_again (kind.Exchange tiles) h = rw (rack_again tiles h) refl
code_again (kind.ExchangeUnknown number) h =
    let digit = decimal_digit number (omega (arith, h.1)) in
    let none : rack_of (decimal number) ≡ None = rw digit (no_rack number h.1) in
    rw (none, unknown_again number h.0 h.1) refl
code_again kind.Withdraw h = refl
code_again kind.Challenge h = refl
code_again kind.Time h = refl
code_again (kind.LastRack tiles) h = opened_again (tiles_text tiles) ∙ rw (rack_again tiles h) refl

-- ---- what is read as a code

unknown_read : (digit : List ℕ) (n : ℕ) → unknown_of digit ≡ Some n → (1 ≤ n) × (n ≤ 7)
unknown_read digit n e =
    let read = chained (λ m. if nat_le 1 m && nat_le m 7 then Some m else None) (numeral 1 digit) n e in
    let taken = chosen (nat_le 1 read.0 && nat_le read.0 7) read.0 n read.1.1 in
    let parts = both (nat_le 1 read.0) (nat_le read.0 7) taken.0 in
    (omega (arith, le_from 1 read.0 parts.0, taken.1), omega (arith, le_from read.0 7 parts.1, taken.1))

exchange_read : (bytes : List ℕ) (what : EventKind) → option_map kind.Exchange (rack_of bytes) ≡ Some what → IsCode what
exchange_read bytes what e = let read = mapped kind.Exchange (rack_of bytes) what e in subst IsCode read.1.1 (rack_read bytes read.0 read.1.0)

number_read : (bytes : List ℕ) (what : EventKind) → option_map kind.ExchangeUnknown (unknown_of bytes) ≡ Some what → IsCode what
number_read bytes what e =
    let read = mapped kind.ExchangeUnknown (unknown_of bytes) what e in subst IsCode read.1.1 (unknown_read bytes read.0 read.1.0)

last_read : (bytes : List ℕ) (what : EventKind) → option_map kind.LastRack (rack_of bytes) ≡ Some what → IsCode what
last_read bytes what e = let read = mapped kind.LastRack (rack_of bytes) what e in subst IsCode read.1.1 (rack_read bytes read.0 read.1.0)

word_read : (a b : Bool) (one two what : EventKind) → IsCode one → IsCode two → (if a then Some one else (if b then Some two else None)) ≡ Some what → IsCode what
word_read a b one two what first second e =
    elim (chosen_or a one what (if b then Some two else None) e) [
      | inl taken ↦ subst IsCode taken.1 first
      | inr other ↦ let taken = chosen b two what other in subst IsCode taken.1 second
    ]

dashed_read : (bytes : List ℕ) (what : EventKind) → dashed_of bytes ≡ Some what → IsCode what
unfolding dashed_of
dashed_read bytes what e =
    let words = if bytes_eq bytes [] then Some kind.Pass else (if bytes_eq bytes (codes "-") then Some kind.Withdraw else None) in
    elim (first_or (option_map kind.Exchange (rack_of bytes)) (option_or (option_map kind.ExchangeUnknown (unknown_of bytes)) words) what e) [
      | inl known ↦ exchange_read bytes what known
      | inr other ↦ elim (first_or (option_map kind.ExchangeUnknown (unknown_of bytes)) words what other) [
        | inl unknown ↦ number_read bytes what unknown
        | inr word ↦ word_read (bytes_eq bytes []) (bytes_eq bytes (codes "-")) kind.Pass kind.Withdraw what tt tt word
      ]
    ]

bracketed_read : (bytes : List ℕ) (what : EventKind) → bracketed_of bytes ≡ Some what → IsCode what
unfolding bracketed_of
bracketed_read bytes what e =
    let words = if bytes_eq bytes (codes "challenge") then Some kind.Challenge else (if bytes_eq bytes (codes "time") then Some kind.Time else None) in
    elim (first_or (option_map kind.LastRack (rack_of bytes)) words what e) [
      | inl tiles ↦ last_read bytes what tiles
      | inr word ↦ word_read (bytes_eq bytes (codes "challenge")) (bytes_eq bytes (codes "time")) kind.Challenge kind.Time what tt tt word
    ]

opened_read : (bytes : List ℕ) (what : EventKind) → opened_of bytes ≡ Some what → IsCode what
opened_read bytes what e =
    elim (one_of (ends_with eqb bytes (41 ∷ [])) (bracketed_of (take (length bytes - 1) bytes)) None what e) [
      | inl inside ↦ bracketed_read (take (length bytes - 1) bytes) what inside
      | inr none ↦ absurd cc
    ]

pub code_read : (bytes : List ℕ) (what : EventKind) → code_of bytes ≡ Some what → IsCode what
code_read [] what e = absurd cc
code_read (byte ∷ bytes) what e =
    elim (one_of (byte == 45) (dashed_of bytes) (if byte == 40 then opened_of bytes else None) what e) [
      | inl dashed ↦ dashed_read bytes what dashed
      | inr other ↦ elim (one_of (byte == 40) (opened_of bytes) None what other) [
        | inl opened ↦ opened_read bytes what opened
        | inr none ↦ absurd cc
      ]
    ]
