-- What is shown of bytes on a terminal.
use Rattle.std.specs.Prelude.{◌≡◌, ℕ, zero, suc, ◌+◌, ◌-◌, ◌==◌, nat_lt, ◌&&◌, ◌||◌, Bool, false, List, [], ◌∷◌, ◌++◌, get_or, length, All, if◌then◌else◌}

-- a byte that is a control character other than the tab and the line feed
abbrev pub is_control : ℕ → Bool
is_control byte = (nat_lt byte 9 || (nat_lt byte 32 && nat_lt 10 byte)) || byte == 127

-- a byte that comes second in a control character of two bytes, as UTF-8 writes those from U+0080 to U+009F; the first is C2
abbrev pub is_second : ℕ → Bool
is_second byte = nat_lt byte 160 && nat_lt 127 byte

-- the byte before a place, counted from 0; and 0 at the beginning
abbrev pub byte_before : List ℕ → (place : ℕ) → ℕ
byte_before bytes zero = 0
byte_before bytes (suc place) = get_or bytes place 0

-- whether a control character of two bytes begins at a place, or ends there
abbrev pub begins_at : List ℕ → (place : ℕ) → Bool
begins_at bytes place = get_or bytes place 0 == 194 && is_second (get_or bytes (place + 1) 0)

abbrev pub ends_at : List ℕ → (place : ℕ) → Bool
ends_at bytes place = byte_before bytes place == 194 && is_second (get_or bytes place 0)

-- a byte as it is shown: a control character in caret notation, `^` and the sign 64 after it, or `?` for DEL
abbrev pub shown_byte : ℕ → List ℕ
shown_byte byte = if is_control byte then 94 ∷ (if byte == 127 then 63 else byte + 64) ∷ [] else byte ∷ []

-- the byte 64 before another one
abbrev pub before : ℕ → ℕ
before byte = byte - 64

-- What is shown of the byte at a place. A control character of two bytes means the same as ESC and the byte 64 before its second one, and is shown as
-- these are: `^[`, and then that byte.
abbrev pub shown_at : List ℕ → (place : ℕ) → List ℕ
shown_at bytes place = if begins_at bytes place then [] else (if ends_at bytes place then 94 ∷ 91 ∷ before (get_or bytes place 0) ∷ [] else shown_byte (get_or bytes place 0))

-- what is shown of the bytes before a place
unfoldable pub shown_to : List ℕ → (end : ℕ) → List ℕ
shown_to bytes zero = []
shown_to bytes (suc place) = shown_to bytes place ++ shown_at bytes place

-- what is shown of bytes
abbrev pub shown : List ℕ → List ℕ
shown bytes = shown_to bytes (length bytes)

-- ---- laws

-- No byte that is shown is a control character other than the tab and the line feed.
abbrev pub NoneIsControl : Type 0
NoneIsControl = (bytes : List ℕ) → All (λ byte. is_control byte ≡ false) (shown bytes)
