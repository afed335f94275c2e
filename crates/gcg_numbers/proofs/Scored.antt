-- The fields of a text with other numbers.
use Rattle.std.proofs.Common.{◌≡◌, ℕ, ℤ, ◌<◌, Bool, true, false, List, [], ◌∷◌, ◌++◌, length, Option, Some, None, if◌then◌else◌, arith, refl, ap, subst, ◌∙◌}
use Rattle.std.specs.Fmt.{signed_decimal}
use Rattle.std.proofs.lemmas.List.{append-nil, length-append}
use Rattle.std.proofs.lemmas.Bool.Decides.{Decides-int_eq}
use Rattle.text_lines.specs.Fields.{is_blank, fields_of}
use Rattle.gcg_read.specs.declared.events.Event.{Event}
use Rattle.gcg_read.specs.Numerals.{IsPoints, points_of}
use Rattle.gcg_write.specs.Fields.{score_text}
use Rattle.gcg_write.proofs.Each.{Each}
use Rattle.gcg_write.proofs.Splitting.{Fails}
use Rattle.gcg_write.proofs.Entries.{ink_no_blank, ink_score, some_score, ink_total, some_total}
use Rattle.gcg_numbers.specs.Numbers.{Last, last_field, says, number_text, with_numbers}
use Rattle.gcg_numbers.proofs.Fields.{EndsBlank, ends_front, ends_each, not_ends}
use Rattle.gcg_numbers.proofs.Lasts.{IsCut, IsLastOf, last_is, fields_with, fields_cut}

-- ---- a number, as it is or as it is written anew

number_by : (P : List ℕ → Type 0) (field text : List ℕ) (b : Bool) → P field → P text → P (if b then field else text)
number_by P field text true h k = h
number_by P field text false h k = k

-- what holds for both holds for the number
pub number_has : (P : List ℕ → Type 0) (field : List ℕ) (right : ℤ) (text : List ℕ) → P field → P text → P (number_text field right text)
number_has P field right text h k = number_by P field text (says (points_of field) right) h k

said : (o : Option ℤ) (right : ℤ) → says o right ≡ true → o ≡ Some right
said None right e = absurd cc
said (Some z) right e = ap (λ n. Some n) ((Decides-int_eq z right).0 e)

says_by : (field text : List ℕ) (right : ℤ) (b : Bool) → says (points_of field) right ≡ b → points_of text ≡ Some right → points_of (if b then field else text) ≡ Some right
says_by field text right true e p = said (points_of field) right e
says_by field text right false e p = p

pub number_says : (field : List ℕ) (right : ℤ) (text : List ℕ) → points_of text ≡ Some right → points_of (number_text field right text) ≡ Some right
number_says field right text p = says_by field text right (says (points_of field) right) refl p

-- ---- the fields

-- after a score there is a blank if the text goes on
back_some : (front field back : List ℕ) → 0 < length field → Each (Fails is_blank) field → EndsBlank (front ++ (field ++ back)) → 0 < length back
back_some front field [] some ink h = absurd (not_ends front field some ink (subst EndsBlank (ap (λ l. front ++ l) (append-nil field)) h))
back_some front field (b ∷ back) some ink h = omega arith

-- the two numbers of an event as its line then has them
abbrev pub score_of : Last → Event → List ℕ
score_of s event = number_text s.field event.score (score_text event.score)

abbrev pub total_of : Last → Event → List ℕ
total_of t event = number_text t.field event.total (signed_decimal event.total)

parts_with : (event : Event) (t s : Last) → IsPoints event.score → IsPoints event.total → EndsBlank t.front → 0 < length t.field → Each (Fails is_blank) t.field
    → Each (λ byte. is_blank byte ≡ true) t.back → IsCut t.front s
    → fields_of ((s.front ++ (score_of s event ++ s.back)) ++ (total_of t event ++ t.back)) ≡ (fields_of s.front ++ score_of s event ∷ []) ++ total_of t event ∷ []
parts_with event t s score total ends some ink back cut =
    let s_some : 0 < length (score_of s event) = number_has (λ l. 0 < length l) s.field event.score (score_text event.score) cut.some (some_score event.score) in
    let s_ink : Each (Fails is_blank) (score_of s event) = number_has (λ l. Each (Fails is_blank) l) s.field event.score (score_text event.score) cut.ink (ink_no_blank (score_text event.score) (ink_score event.score score)) in
    let t_some : 0 < length (total_of t event) = number_has (λ l. 0 < length l) t.field event.total (signed_decimal event.total) some (some_total event.total total) in
    let t_ink : Each (Fails is_blank) (total_of t event) = number_has (λ l. Each (Fails is_blank) l) t.field event.total (signed_decimal event.total) ink (ink_no_blank (signed_decimal event.total) (ink_total event.total total)) in
    let more : 0 < length s.back = back_some s.front s.field s.back cut.some cut.ink (subst EndsBlank cut.whole ends) in
    let front : EndsBlank (s.front ++ (score_of s event ++ s.back)) =
    ends_front s.front (score_of s event ++ s.back) (omega (arith, length-append (score_of s event) s.back)) (ends_front (score_of s event) s.back more (ends_each s.back cut.back)) in
    fields_with (s.front ++ (score_of s event ++ s.back)) (total_of t event) t.back front t_some t_ink back
    ∙ ap (λ l. l ++ total_of t event ∷ []) (fields_with s.front (score_of s event) s.back cut.front s_some s_ink cut.back)

-- a text of at least two fields, the last two of which are these
pub record HasTwo (text : List ℕ) (t s : Last) : Type 0 where
  pub last : last_field text ≡ Some t
  pub before : last_field t.front ≡ Some s

pub fields_two : (text : List ℕ) (t s : Last) → HasTwo text t s → fields_of text ≡ (fields_of s.front ++ s.field ∷ []) ++ t.field ∷ []
fields_two text t s h =
    let cut : IsCut text t = subst (IsLastOf text) h.last (last_is text) in
    let front : IsCut t.front s = subst (IsLastOf t.front) h.before (last_is t.front) in
    fields_cut text t cut ∙ ap (λ l. l ++ t.field ∷ []) (fields_cut t.front s front)

pub fields_numbers : (event : Event) (text : List ℕ) (t s : Last) → HasTwo text t s → IsPoints event.score → IsPoints event.total
    → fields_of (with_numbers event text) ≡ (fields_of s.front ++ score_of s event ∷ []) ++ total_of t event ∷ []
unfolding with_numbers
fields_numbers event text t s h score total =
    let cut : IsCut text t = subst (IsLastOf text) h.last (last_is text) in
    let front : IsCut t.front s = subst (IsLastOf t.front) h.before (last_is t.front) in
    rw (h.last, h.before) (parts_with event t s score total cut.front cut.some cut.ink cut.back front)
