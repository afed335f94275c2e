-- A line with other numbers ends as it did.
use Rattle.std.proofs.Common.{◌≡◌, ℕ, ℤ, ◌-◌, ◌<◌, Bool, true, false, List, [], ◌∷◌, ◌++◌, length, take, if◌then◌else◌, arith, refl, sym, ap, subst, ◌∙◌}
use Rattle.std.specs.Fmt.{signed_decimal}
use Rattle.std.proofs.lemmas.List.{append-nil, append_assoc, length-append}
use Rattle.text_lines.specs.Lines.{without_return}
use Rattle.gcg_read.specs.declared.events.Event.{Event}
use Rattle.gcg_read.specs.Cutting.{is_colon}
use Rattle.gcg_read.specs.Numerals.{IsPoints}
use Rattle.gcg_write.proofs.Each.{Each}
use Rattle.gcg_write.proofs.Entries.{ink_total, some_total}
use Rattle.gcg_write.proofs.LineCuts.{returns, ends_after, ends_in_ink}
use Rattle.gcg_write.proofs.Parts.{take_front}
use Rattle.gcg_write.proofs.Splitting.{Fails}
use Rattle.gcg_numbers.specs.Numbers.{Last, last_field, with_score, with_numbers, after_colon, line_with}
use Rattle.gcg_numbers.proofs.Lasts.{IsCut, IsLastOf, last_is}
use Rattle.gcg_numbers.proofs.Scored.{HasTwo, number_has, total_of}
use Rattle.gcg_numbers.proofs.Heads.{changed_cut}

-- a line whose text after its first colon has at least two fields
pub record IsNumbered (line : List ℕ) : Type 0 where
  pub before : List ℕ
  pub after : List ℕ
  pub t : Last
  pub s : Last
  pub whole : line ≡ before ++ 58 ∷ after
  pub first : Each (Fails is_colon) before
  pub two : HasTwo after t s

-- ---- what follows another number

some_back : (xs ys : List ℕ) → 0 < length xs → 0 < length (xs ++ ys)
some_back [] ys some = absurd (omega arith)
some_back (x ∷ xs) ys some = omega arith

-- a number that is written anew, and what follows it
anew : (z : ℤ) (back : List ℕ) → IsPoints z → (field : List ℕ) → returns (field ++ back) ≡ false → returns (signed_decimal z ++ back) ≡ false
anew z [] points field e = ap returns (append-nil (signed_decimal z)) ∙ ends_in_ink (signed_decimal z) (ink_total z points)
anew z (b ∷ back) points field e = ends_after (signed_decimal z) (b ∷ back) (omega arith) ∙ sym (ends_after field (b ∷ back) (omega arith)) ∙ e

numbers_end : (event : Event) (text : List ℕ) (t s : Last) → HasTwo text t s → IsPoints event.total → returns text ≡ false → returns (with_numbers event text) ≡ false
unfolding with_numbers
numbers_end event text t s two points e =
    let cut : IsCut text t = subst (IsLastOf text) two.last (last_is text) in
    let old : returns (t.field ++ t.back) ≡ false = sym (ends_after t.front (t.field ++ t.back) (some_back t.field t.back cut.some)) ∙ ap returns (sym cut.whole) ∙ e in
    let new : returns (total_of t event ++ t.back) ≡ false =
    number_has (λ l. returns (l ++ t.back) ≡ false) t.field event.total (signed_decimal event.total) old (anew event.total t.back points t.field old) in
    let some : 0 < length (total_of t event) = number_has (λ l. 0 < length l) t.field event.total (signed_decimal event.total) cut.some (some_total event.total points) in
    rw two.last (ends_after (with_score t.front event.score (last_field t.front)) (total_of t event ++ t.back) (some_back (total_of t event) t.back some) ∙ new)

some_text : (event : Event) (text : List ℕ) (t s : Last) → HasTwo text t s → IsPoints event.total → 0 < length (with_numbers event text)
unfolding with_numbers
some_text event text t s two points =
    let cut : IsCut text t = subst (IsLastOf text) two.last (last_is text) in
    let some : 0 < length (total_of t event) = number_has (λ l. 0 < length l) t.field event.total (signed_decimal event.total) cut.some (some_total event.total points) in
    rw two.last (omega (arith, length-append (with_score t.front event.score (last_field t.front)) (total_of t event ++ t.back), length-append (total_of t event) t.back))

some_after : (text : List ℕ) (t s : Last) → HasTwo text t s → 0 < length text
some_after text t s two =
    let cut : IsCut text t = subst (IsLastOf text) two.last (last_is text) in
    let many = length-append t.front (t.field ++ t.back) in
    let more = length-append t.field t.back in
    let same : length text ≡ length (t.front ++ (t.field ++ t.back)) = ap length cut.whole in
    let some = cut.some in
    omega arith

after_end : (event : Event) (line : List ℕ) → IsNumbered line → IsPoints event.total → returns line ≡ false → returns (after_colon (with_numbers event) line) ≡ false
after_end event line n points e =
    let after : returns n.after ≡ false =
    sym (ends_after (n.before ++ 58 ∷ []) n.after (some_after n.after n.t n.s n.two)) ∙ ap returns (append_assoc n.before (58 ∷ []) n.after) ∙ ap returns (sym n.whole) ∙ e in
    ap (λ l. returns (after_colon (with_numbers event) l)) n.whole ∙ ap returns (changed_cut (with_numbers event) n.before n.after n.first)
    ∙ ap returns (sym (append_assoc n.before (58 ∷ []) (with_numbers event n.after)))
    ∙ ends_after (n.before ++ 58 ∷ []) (with_numbers event n.after) (some_text event n.after n.t n.s n.two points)
    ∙ numbers_end event n.after n.t n.s n.two points after

-- ---- without its CR

keep : (line : List ℕ) → returns line ≡ false → without_return line ≡ line
keep line e = ap (λ (b : Bool). if b then take (length line - 1) line else line) e

cut_return : (line : List ℕ) → without_return (line ++ 13 ∷ []) ≡ line
cut_return line =
    let ends : returns (line ++ 13 ∷ []) ≡ true = ends_after line (13 ∷ []) (omega arith) in
    let many : length (line ++ 13 ∷ []) - 1 ≡ length line = omega (arith, length-append line (13 ∷ [])) in
    ap (λ (b : Bool). if b then take (length (line ++ 13 ∷ []) - 1) (line ++ 13 ∷ []) else line ++ 13 ∷ []) ends
    ∙ ap (λ k. take k (line ++ 13 ∷ [])) many ∙ take_front line (13 ∷ [])

return_by : (event : Event) (line : List ℕ) (b : Bool) → returns line ≡ b → IsNumbered (if b then take (length line - 1) line else line) → IsPoints event.total
    → without_return (if b then after_colon (with_numbers event) (take (length line - 1) line) ++ 13 ∷ [] else after_colon (with_numbers event) line)
    ≡ after_colon (with_numbers event) (if b then take (length line - 1) line else line)
return_by event line true e n points = cut_return (after_colon (with_numbers event) (take (length line - 1) line))
return_by event line false e n points = keep (after_colon (with_numbers event) line) (after_end event line n points e)

pub return_other : (event : Event) (line : List ℕ) → IsNumbered (without_return line) → IsPoints event.total
    → without_return (line_with event line) ≡ after_colon (with_numbers event) (without_return line)
unfolding line_with
return_other event line n points = return_by event line (returns line) refl n points
