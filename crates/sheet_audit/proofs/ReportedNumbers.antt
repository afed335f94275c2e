-- The numbers of the answer are the wrong ones, each with the event on its line.
use Rattle.std.proofs.Common.{◌≡◌, inl, inr, ℕ, ℤ, ◌<◌, ◌+ℤ◌, ◌||◌, nat_lt, Bool, true, false, List, [], ◌∷◌, ◌++◌, length, get_or, slice_get, Option, Some, None, if◌then◌else◌, refl, sym, ap, ◌∙◌, subst, append-nil, arith, AllPairs}
use Rattle.std.specs.Prelude.{min}
use Rattle.std.specs.List.{flat_map, range_with_len, position_or_len, position}
use Rattle.std.specs.Ordering.{int_eq}
use Rattle.std.proofs.lemmas.Bool.Decides.{nat_tests}
use Rattle.std.proofs.lemmas.Grind.{flat_map-append}
use Rattle.std.proofs.lemmas.List.Sums.{position_or_len_is}
use Rattle.std.proofs.lemmas.Option.{slice_get_within, get_or_from_slice_get, slice_get-get_or}
use Rattle.ref_tiles.specs.declared.rulebook.Rules.{Rules}
use Rattle.gcg_read.specs.declared.events.Event.{Event}
use Rattle.gcg_read.specs.declared.events.Seat.{Seat}
use Rattle.gcg_read.specs.declared.events.Seat.TheVariants.{First, Second}
use Rattle.game_board.specs.Places.{is_from, place_of_line}
use Rattle.game_corrections.specs.declared.wrong_numbers.WrongNumber.{WrongNumber}
use Rattle.game_corrections.specs.declared.wrong_numbers.WrongNumber.TheVariants as wrong
use Rattle.game_corrections.specs.Auditing.{IsAudited}
use Rattle.game_corrections.specs.Corrections.{AreRenumbered}
use Rattle.game_corrections.specs.LastTotals.{last_total}
use Rattle.game_corrections.specs.WrongNumbers.{had_before, known_total, is_right_sum, wrong_score, wrong_sum, wrong_of, wrong_at, wrong_lines, is_reported, wrong_total_of, wrong_total, wrong_totals}
use Rattle.sheet_audit.specs.declared.reported.ReportedNumber.{ReportedNumber}
use Rattle.sheet_audit.specs.declared.reported.ReportedNumber.TheVariants as reported
use Rattle.sheet_audit.specs.Reported.{reported_score, reported_sum, reported_of, reported_at, reported_lines, reported_total_of, reported_total, reported_totals, AreReported}
use Rattle.sheet_audit.specs.Numbers.{score_of, score_on, sum_of, sum_on, reported_number}

-- ---- the event on a line

abbrev pub Rise : List Event → Type 0
Rise events = AllPairs (λ a b. a.line < b.line) events

first_is : (p : Event → Bool) (events : List Event) (place : ℕ) → position_or_len p events ≡ place → place < length events → position p events ≡ Some place
first_is p events place e within =
    let t : nat_lt (position_or_len p events) (length events) ≡ true = grind (arith, nat_tests) in
    rw (t, e) refl

-- the lines rise, so the event at a place is the first on its line or after it
pub place_there : (events : List Event) (place : ℕ) (e : Event) → Rise events → slice_get events place ≡ Some e → place_of_line events e.line ≡ Some place
place_there events place e rise there =
    let within = slice_get_within events place e there in
    let read : get_or events place e ≡ e = get_or_from_slice_get events place e e there in
    let before : (k : ℕ) → k < place → is_from e.line (get_or events k e) ≡ false =
    λ k earlier.
    let above = rise k place e earlier within in
    let small : (get_or events k e).line < e.line = subst (λ (x : Event). (get_or events k e).line < x.line) read above in
    grind (arith, nat_tests) in
    let here : place < length events → is_from e.line (get_or events place e) ≡ true =
    λ inside. subst (λ (x : Event). is_from e.line x ≡ true) (sym read) (grind (arith, nat_tests)) in
    first_is (is_from e.line) events place (position_or_len_is (is_from e.line) events place e (omega (arith, within)) before here) within

-- the lines of the same events rise too
line_same : (written right : List Event) (place : ℕ) (d : Event) → AreRenumbered written right → place < length right → (get_or right place d).line ≡ (get_or written place d).line
line_same written right place d same within =
    let long = same.as_many in
    (same.each place (get_or written place d) (get_or right place d) (slice_get-get_or written place d (omega (arith, within, long))) (slice_get-get_or right place d within)).line

pub rise_too : (written right : List Event) → AreRenumbered written right → Rise written → Rise right
rise_too written right same rise i j d earlier within =
    let long = same.as_many in
    let first = line_same written right i d same (omega (arith, earlier, within)) in
    let second = line_same written right j d same within in
    let above = rise i j d earlier (omega (arith, within, long)) in
    omega (arith, first, second, above)

-- ---- the numbers at a place

score_there : (right : List Event) (place : ℕ) (e r : Event) → place_of_line right e.line ≡ Some place → slice_get right place ≡ Some r → r.player ≡ e.player
    → (written other : ℤ) → score_on right e.line written other (place_of_line right e.line) ≡ reported.Score place e.line e.player written other ∷ []
score_there right place e r there of_r player written other =
    ap (score_on right e.line written other) there ∙ ap (score_of place e.line written other) of_r ∙ ap (λ (p : Seat). reported.Score place e.line p written other ∷ []) player

sum_there : (right : List Event) (place : ℕ) (e r : Event) → place_of_line right e.line ≡ Some place → slice_get right place ≡ Some r → r.player ≡ e.player
    → (written sum : ℤ) (due : Option ℤ) → sum_on right e.line written sum due (place_of_line right e.line) ≡ reported.Sum place e.line e.player written sum due ∷ []
sum_there right place e r there of_r player written sum due =
    ap (sum_on right e.line written sum due) there ∙ ap (sum_of place e.line written sum due) of_r ∙ ap (λ (p : Seat). reported.Sum place e.line p written sum due ∷ []) player

-- one number or none
one_or_none : (reported_as : WrongNumber → List ReportedNumber) (good : Bool) (number : WrongNumber) (reported : ReportedNumber) → reported_as number ≡ reported ∷ []
    → flat_map reported_as (if good then [] else (number ∷ [])) ≡ (if good then [] else (reported ∷ []))
one_or_none reported_as true number reported is = refl
one_or_none reported_as false number reported is = append-nil (reported_as number) ∙ is

both_there : (right : List Event) (place : ℕ) (e r : Event) (had : ℤ) (due : Option ℤ) → place_of_line right e.line ≡ Some place → slice_get right place ≡ Some r
    → r.player ≡ e.player → flat_map (reported_number right) (wrong_score e r ++ wrong_sum had e due) ≡ reported_score place e r ++ reported_sum place had e due
both_there right place e r had due there of_r player =
    let as_reported = reported_number right in
    let sum = had +ℤ e.score in
    flat_map-append as_reported (wrong_score e r) (wrong_sum had e due)
    ∙ ap (λ (l : List ReportedNumber). l ++ flat_map as_reported (wrong_sum had e due))
    (one_or_none as_reported (int_eq e.score r.score) (wrong.Score e.line e.score r.score) (reported.Score place e.line e.player e.score r.score) (score_there right place e r there of_r player e.score r.score))
    ∙ ap (λ (l : List ReportedNumber). reported_score place e r ++ l)
    (one_or_none as_reported (is_right_sum e.total sum due) (wrong.Sum e.line e.total sum due) (reported.Sum place e.line e.player e.total sum due) (sum_there right place e r there of_r player e.total sum due))

reported_here : (stop : Option ℕ) (written right : List Event) → AreRenumbered written right → Rise right → (place : ℕ) (a b : Option Event) → slice_get written place ≡ a
    → slice_get right place ≡ b → flat_map (reported_number right) (wrong_of stop written place a b) ≡ reported_of stop written place a b
reported_here stop written right same rise place None b of_a of_b = refl
reported_here stop written right same rise place (Some e) None of_a of_b = refl
reported_here stop written right same rise place (Some e) (Some r) of_a of_b =
    let like = same.each place e r of_a of_b in
    let there = subst (λ (line : ℕ). place_of_line right line ≡ Some place) like.line (place_there right place r rise of_b) in
    both_there right place e r (had_before written e.player place) (known_total stop r) there of_b like.player

-- ---- all lines, and the totals

-- what is said of several lists, if it is known of each
each_list : {A B : Type 0} (f : ℕ → List A) (g : A → List B) (h : ℕ → List B) → ((k : ℕ) → flat_map g (f k) ≡ h k) → (ks : List ℕ) → flat_map g (flat_map f ks) ≡ flat_map h ks
each_list f g h each [] = refl
each_list f g h each (k ∷ ks) = flat_map-append g (f k) (flat_map f ks) ∙ ap (λ l. l ++ flat_map g (flat_map f ks)) (each k) ∙ ap (λ l. h k ++ l) (each_list f g h each ks)

pub lines_reported : (stop : Option ℕ) (written right : List Event) → AreRenumbered written right → Rise right
    → flat_map (reported_number right) (wrong_lines stop written right) ≡ reported_lines stop written right
unfolding wrong_lines
lines_reported stop written right same rise =
    each_list (wrong_at stop written right) (reported_number right) (reported_at stop written right)
    (λ place. reported_here stop written right same rise place (slice_get written place) (slice_get right place) refl refl)
    (range_with_len 0 (min (length written) (length right)))

total_reported : (right : List Event) (player : Seat) (there : Bool) (a b : Option ℤ) → flat_map (reported_number right) (wrong_total_of player there a b) ≡ reported_total_of player there a b
total_reported right player there None b = refl
total_reported right player there (Some a) None = refl
total_reported right player there (Some a) (Some b) = one_or_none (reported_number right) (there || int_eq a b) (wrong.Total player a b) (reported.Total player a b) refl

pub totals_reported : (written right : List Event) → flat_map (reported_number right) (wrong_totals (wrong_lines None written right) written right) ≡ reported_totals written right
totals_reported written right =
    let lines : List WrongNumber = wrong_lines None written right in
    flat_map-append (reported_number right) (wrong_total First lines written right) (wrong_total Second lines written right)
    ∙ ap (λ (l : List ReportedNumber). l ++ flat_map (reported_number right) (wrong_total Second lines written right))
    (total_reported right First (is_reported First right lines) (last_total First written) (last_total First right))
    ∙ ap (λ (l : List ReportedNumber). reported_total First written right ++ l) (total_reported right Second (is_reported Second right lines) (last_total Second written) (last_total Second right))

-- ---- the numbers of an audit

same_events : (rules : Rules) (list : List (List ℕ)) (written right : List Event) (wrong : List WrongNumber) → IsAudited rules list written right wrong → AreRenumbered written right
same_events rules list written right wrong (inl whole) = whole.correction.renumbered
same_events rules list written right wrong (inr part) = part.stops.before.renumbered

by_audit : (rules : Rules) (list : List (List ℕ)) (written right : List Event) (wrong : List WrongNumber) → Rise right → IsAudited rules list written right wrong
    → AreReported rules list written right (flat_map (reported_number right) wrong)
by_audit rules list written right wrong rise (inl whole) =
    let reported = reported_number right in
    inl (record {
      correction = whole.correction;
      all = ap (flat_map reported) whole.all ∙ flat_map-append reported (wrong_lines None written right) (wrong_totals (wrong_lines None written right) written right)
          ∙ ap (λ (l : List ReportedNumber). l ++ flat_map reported (wrong_totals (wrong_lines None written right) written right)) (lines_reported None written right whole.correction.renumbered rise)
          ∙ ap (λ (l : List ReportedNumber). reported_lines None written right ++ l) (totals_reported written right);
    })
by_audit rules list written right wrong rise (inr part) =
    inr (
    record {
      line = part.line;
      why = part.why;
      stops = part.stops;
      none = part.none;
      all = ap (flat_map (reported_number right)) part.all ∙ lines_reported (Some part.line) written right part.stops.before.renumbered rise;
    })

pub audit_reported : (rules : Rules) (list : List (List ℕ)) (written right : List Event) (wrong : List WrongNumber) → Rise written → IsAudited rules list written right wrong
    → AreReported rules list written right (flat_map (reported_number right) wrong)
audit_reported rules list written right wrong rise audited =
    by_audit rules list written right wrong (rise_too written right (same_events rules list written right wrong audited) rise) audited
