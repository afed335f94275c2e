-- The last field of a text.
use Rattle.std.proofs.Common.{◌≡◌, ℕ, ◌<◌, Bool, true, false, List, [], ◌∷◌, ◌++◌, length, Option, Some, None, arith, refl, ap, ◌∙◌}
use Rattle.text_lines.specs.Fields.{is_blank, fields_of}
use Rattle.gcg_write.proofs.Each.{Each}
use Rattle.gcg_write.proofs.Splitting.{Fails}
use Rattle.gcg_numbers.specs.Numbers.{Last, longer, last_from, last_field}
use Rattle.gcg_numbers.proofs.Fields.{IsBlank, EndsBlank, fields_after, field_back}

pub record IsCut (text : List ℕ) (l : Last) : Type 0 where
  pub whole : text ≡ l.front ++ (l.field ++ l.back)
  pub some : 0 < length l.field
  pub ink : Each (Fails is_blank) l.field
  pub front : EndsBlank l.front
  pub back : Each IsBlank l.back

abbrev pub IsLastOf : List ℕ → Option Last → Type 0
IsLastOf text None = Each IsBlank text
IsLastOf text (Some l) = IsCut text l

longer_is : (byte : ℕ) (text front field back : List ℕ) (b : Bool) → is_blank byte ≡ b → IsCut text (record { front = front; field = field; back = back })
    → IsCut (byte ∷ text) (longer byte front field back)
longer_is byte text [] field back true e h =
    rw e (record { whole = ap (λ l. byte ∷ l) h.whole; some = h.some; ink = h.ink; front = e; back = h.back })
longer_is byte text [] field back false e h =
    rw e (record { whole = ap (λ l. byte ∷ l) h.whole; some = omega arith; ink = (e, h.ink); front = tt; back = h.back })
longer_is byte text (next ∷ front) field back b e h = record { whole = ap (λ l. byte ∷ l) h.whole; some = h.some; ink = h.ink; front = h.front; back = h.back }

from_is : (byte : ℕ) (text : List ℕ) (last : Option Last) (b : Bool) → is_blank byte ≡ b → IsLastOf text last → IsLastOf (byte ∷ text) (last_from byte text last)
from_is byte text None true e h = rw e (e, h)
from_is byte text None false e h = rw e (record { whole = refl; some = omega arith; ink = (e, tt); front = tt; back = h })
from_is byte text (Some l) b e h = longer_is byte text l.front l.field l.back b e h

pub last_is : (text : List ℕ) → IsLastOf text (last_field text)
last_is [] = tt
last_is (byte ∷ text) = from_is byte text (last_field text) (is_blank byte) refl (last_is text)

-- a text with another field in the place of the last one
pub fields_with : (front field back : List ℕ) → EndsBlank front → 0 < length field → Each (Fails is_blank) field → Each IsBlank back
    → fields_of (front ++ (field ++ back)) ≡ fields_of front ++ field ∷ []
fields_with front field back h some ink k = fields_after front (field ++ back) h ∙ ap (λ l. fields_of front ++ l) (field_back field back some ink k)

pub fields_cut : (text : List ℕ) (l : Last) → IsCut text l → fields_of text ≡ fields_of l.front ++ l.field ∷ []
fields_cut text l h = ap fields_of h.whole ∙ fields_with l.front l.field l.back h.front h.some h.ink h.back
