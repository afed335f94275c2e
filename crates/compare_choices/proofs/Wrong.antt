-- How many numbers are wrong.
use Rattle.std.proofs.Common.{◌≡◌, ℕ, ℤ, zero, suc, ◌+◌, ◌<◌, Bool, true, false, List, [], ◌∷◌, ◌++◌, length, get_or, slice_get, Option, Some, None, refl, sym, ap, ◌∙◌, arith, if◌then◌else◌}
use Rattle.std.specs.Prelude.{◌+ℤ◌}
use Rattle.std.specs.Ordering.{int_eq}
use Rattle.std.specs.List.{flat_map, range_with_len}
use Rattle.std.proofs.lemmas.List.{append_assoc, append-nil, length-append}
use Rattle.std.proofs.lemmas.Option.{slice_get_read}
use Rattle.gcg_read.specs.declared.events.Event.{Event}
use Rattle.game_corrections.specs.declared.wrong_numbers.WrongNumber.{WrongNumber}
use Rattle.game_corrections.specs.WrongNumbers.{had_before, is_right_sum, wrong_score, wrong_sum, wrong_of, wrong_at}

one_or_none : {X : Type 0} (b : Bool) (x : X) → length (if b then [] else (x ∷ [])) ≡ (if b then 0 else 1)
one_or_none true x = refl
one_or_none false x = refl

here_wrong : (written right : List Event) (place : ℕ) (e r : Event) → place < length written → place < length right → e ≡ get_or written place e → r ≡ get_or right place r
    → length (wrong_at None written right place) ≡ length (wrong_of None written place (Some e) (Some r))
here_wrong written right place e r within also of_e of_r =
    ap (λ (o : Option Event). length (wrong_of None written place o (slice_get right place))) (slice_get_read written (length written) place e refl within of_e)
    ∙ ap (λ (o : Option Event). length (wrong_of None written place (Some e) o)) (slice_get_read right (length right) place r refl also of_r)

pub wrong_here : (written right : List Event) (place : ℕ) (e r : Event) (had : ℤ) (score sum : ℕ) → place < length written → place < length right → e ≡ get_or written place e → r ≡ get_or right place r
    → had ≡ had_before written e.player place → score ≡ (if int_eq e.score r.score then 0 else 1) → sum ≡ (if is_right_sum e.total (had +ℤ e.score) (Some r.total) then 0 else 1)
    → score + sum ≡ length (wrong_at None written right place)
wrong_here written right place e r had score sum within also of_e of_r is_had is_score is_sum =
    let known : Option ℤ = Some r.total in
    let all = length-append (wrong_score e r) (wrong_sum (had_before written e.player place) e known) in
    let first : length (wrong_score e r) ≡ score = one_or_none (int_eq e.score r.score) _ ∙ sym is_score in
    let second : length (wrong_sum (had_before written e.player place) e known) ≡ sum =
    one_or_none (is_right_sum e.total (had_before written e.player place +ℤ e.score) known) _
    ∙ ap (λ h. if is_right_sum e.total (h +ℤ e.score) known then 0 else 1) (sym is_had) ∙ sym is_sum in
    let here = here_wrong written right place e r within also of_e of_r in
    omega (arith, all, first, second, here)

range_last : {A : Type 0} (f : ℕ → List A) (a n : ℕ) → flat_map f (range_with_len a (suc n)) ≡ flat_map f (range_with_len a n) ++ f (a + n)
range_last f a zero = append-nil (f a) ∙ ap f (omega arith)
range_last {A} f a (suc n) =
    ap (λ (xs : List A). f a ++ xs) (range_last f (a + 1) n) ∙ sym (append_assoc (f a) (flat_map f (range_with_len (a + 1) n)) (f (a + 1 + n)))
    ∙ ap (λ k. (f a ++ flat_map f (range_with_len (a + 1) n)) ++ f k) (omega arith)

-- how many are wrong before a place
abbrev pub wrong_to : (written right : List Event) → (place : ℕ) → ℕ
wrong_to written right place = length (flat_map (wrong_at None written right) (range_with_len 0 place))

pub wrong_more : (written right : List Event) (place many here : ℕ) → many ≡ wrong_to written right place → here ≡ length (wrong_at None written right place) → many + here ≡ wrong_to written right (place + 1)
wrong_more written right place many here so_far is =
    let next : suc place ≡ place + 1 = omega arith in
    let start : 0 + place ≡ place = omega arith in
    let all = length-append (flat_map (wrong_at None written right) (range_with_len 0 place)) (wrong_at None written right place) in
    let last : wrong_to written right (suc place) ≡ length (flat_map (wrong_at None written right) (range_with_len 0 place) ++ wrong_at None written right place) =
    ap (λ (xs : List WrongNumber). length xs) (range_last (wrong_at None written right) 0 place ∙ ap (λ k. flat_map (wrong_at None written right) (range_with_len 0 place) ++ wrong_at None written right k) start) in
    let more : many + here ≡ wrong_to written right (suc place) = omega (arith, all, last, so_far, is) in
    more ∙ ap (wrong_to written right) next
