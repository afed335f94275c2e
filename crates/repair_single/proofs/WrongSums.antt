-- How many numbers of a line are wrong, as far as that is known, and all that stays wrong, place by place.
use Rattle.std.proofs.Common.{◌≡◌, ◌⊎◌, inl, inr, ℕ, ℤ, ◌+◌, ◌<◌, ◌≤◌, Bool, true, false, List, [], ◌∷◌, ◌++◌, map, length, min, set, take, get_or, slice_get, Option, Some, None, refl, sym, ap, ◌∙◌, subst, arith, if◌then◌else◌}
use Rattle.std.specs.Prelude.{pos, ◌+ℤ◌}
use Rattle.std.specs.Ordering.{int_eq}
use Rattle.std.specs.List.{flat_map, range_with_len}
use Rattle.std.specs.Option.{unwrap_or}
use Rattle.std.proofs.lemmas.Bool.{cases_eq}
use Rattle.std.proofs.lemmas.List.{length-append, length-set}
use Rattle.std.proofs.lemmas.Option.{same_Some, slice_get-get_or, get_or_from_slice_get}
use Rattle.ref_tiles.specs.declared.rulebook.Rules.{Rules}
use Rattle.gcg_read.specs.Players.{same_seat}
use Rattle.gcg_read.specs.declared.events.Event.{Event}
use Rattle.gcg_read.specs.declared.events.Seat.{Seat}
use Rattle.gcg_read.specs.declared.events.Seat.TheVariants.{First, Second}
use Rattle.game_walk.specs.declared.numbers.Numbers.{Numbers}
use Rattle.game_walk.specs.Numbers.{numbers_in}
use Rattle.game_corrections.specs.Corrections.{AreRenumbered}
use Rattle.game_corrections.specs.LastTotals.{later, last_total}
use Rattle.game_corrections.specs.WrongNumbers.{had_before, is_right_sum, wrong_score, wrong_sum, wrong_of, wrong_at, wrong_lines}
use Rattle.game_corrections.proofs.Mends.{set_there, set_elsewhere}
use Rattle.game_corrections.proofs.Totals.{total_more}
use Rattle.repair_changes.specs.Splices.{spliced}
use Rattle.repair_changes.specs.Applied.{applied}
use Rattle.repair_changes.specs.declared.slips.Change.{Change}
use Rattle.repair_changes.specs.declared.slips.Slip.{Slip}
use Rattle.repair_changes.specs.declared.slips.Slip.TheVariants as slip
use Rattle.repair_single.specs.OnSheet.{line_on_sheet, sheet_by, on_sheet}
use Rattle.repair_single.specs.Remaining.{count_remaining, wrong_with, unlisted_at, unlisted_words}
use Rattle.repair_single.specs.Counting.{count_at, sum_from}
use Rattle.repair_single.specs.Sums.{IsSheetBut, place_by, missing_place, Knows, next_had, had_of, count_scores, count_sums, known_sums, count_numbers}
use Rattle.repair_single.proofs.Leaving.{sum_lengths, sum_two}
use Rattle.repair_single.proofs.Lists.{same_take}
use Rattle.repair_single.proofs.SheetLines.{one_spliced, none_spliced}

-- ---- the numbers of a line

one_or_none : {X : Type 0} (b : Bool) (x : X) → length (if b then [] else (x ∷ [])) ≡ (if b then 0 else 1)
one_or_none true x = refl
one_or_none false x = refl

pub scores_many : (e r : Event) → length (wrong_score e r) ≡ count_scores e.score r.score
scores_many e r = one_or_none (int_eq e.score r.score) _

pub sums_many : (had : ℤ) (e r : Event) → length (wrong_sum had e (Some r.total)) ≡ count_sums had (numbers_in e) (numbers_in r)
sums_many had e r = one_or_none (is_right_sum e.total (had +ℤ e.score) (Some r.total)) _

-- all numbers of a line that are wrong
pub both_many : (sheet right : List Event) (place : ℕ) (e r : Event) → slice_get sheet place ≡ Some e → slice_get right place ≡ Some r
    → length (wrong_at None sheet right place) ≡ count_scores e.score r.score + count_sums (had_before sheet e.player place) (numbers_in e) (numbers_in r)
both_many sheet right place e r at there =
    let had = had_before sheet e.player place in
    let here : length (wrong_at None sheet right place) ≡ length (wrong_score e r ++ wrong_sum had e (Some r.total)) =
    ap (λ (o : Option Event). length (wrong_of None sheet place o (slice_get right place))) at ∙ ap (λ (o : Option Event). length (wrong_of None sheet place (Some e) o)) there in
    let all = length-append (wrong_score e r) (wrong_sum had e (Some r.total)) in
    let scores = scores_many e r in
    let sums = sums_many had e r in
    omega (arith, here, all, scores, sums)

known_few : (sheet : List Event) (player : Seat) (place : ℕ) (e r : Numbers) (had : Option ℤ) → Knows player sheet place had
    → known_sums had e r ≤ count_sums (had_before sheet player place) e r
known_few sheet player place e r None knows = omega arith
known_few sheet player place e r (Some h) knows =
    let same : count_sums (had_before sheet player place) e r ≡ count_sums h e r = ap (λ (n : ℤ). count_sums n e r) (knows h refl) in
    omega (arith, same)

-- no more are counted than are wrong, whatever numbers the missing line has
pub numbers_few : (old sheet right : List Event) (missing : Option ℕ) (place : ℕ) (o e : Event) (had : Option ℤ) (gone : Bool) → IsSheetBut old missing sheet
    → slice_get old place ≡ Some o → slice_get right place ≡ Some e → (missing ≡ Some place → gone ≡ true) → Knows o.player sheet place had
    → count_numbers gone had (numbers_in o) (numbers_in e) ≤ length (wrong_at None sheet right place)
numbers_few old sheet right missing place o e had true but stood there reported knows = omega arith
numbers_few old sheet right missing place o e had false but stood there reported knows =
    let on : slice_get sheet place ≡ Some o = but.same place (λ here. let gone = reported here in cc) ∙ stood in
    let all = both_many sheet right place o e on there in
    let few = known_few sheet o.player place (numbers_in o) (numbers_in e) had knows in
    omega (arith, all, few)

-- ---- what the player had

had_other : (player : Seat) (x : Event) (total : Option ℤ) → same_seat x.player player ≡ false → later (last_total player (x ∷ [])) total ≡ total
had_other player x total other = ap (λ (b : Bool). later (later None (if b then Some x.total else None)) total) other

had_own : (player : Seat) (x : Event) (total : Option ℤ) → same_seat x.player player ≡ true → later (last_total player (x ∷ [])) total ≡ Some x.total
had_own player x total own = ap (λ (b : Bool). later (later None (if b then Some x.total else None)) total) own

knows_by : (player : Seat) (events sheet : List Event) (missing : Option ℕ) (place : ℕ) (e x : Event) (had : Option ℤ) (own gone : Bool) (h : ℤ) → IsSheetBut events missing sheet
    → slice_get events place ≡ Some e → slice_get sheet place ≡ Some x → (missing ≡ Some place → gone ≡ true) → Knows player sheet place had → same_seat x.player player ≡ own
    → last_total player (take (place + 1) sheet) ≡ later (last_total player (x ∷ [])) (last_total player (take place sheet))
    → (if own then (if gone then None else Some e.total) else had) ≡ Some h → had_before sheet player (place + 1) ≡ h
knows_by player events sheet missing place e x had false gone h is at there reported knows seat step next =
    ap (λ o. unwrap_or o (pos 0)) (step ∙ had_other player x (last_total player (take place sheet)) seat) ∙ knows h next
knows_by player events sheet missing place e x had true true h is at there reported knows seat step next = cc
knows_by player events sheet missing place e x had true false h is at there reported knows seat step next =
    let same : x ≡ e = same_Some x e (sym there ∙ is.same place (λ here. let gone = reported here in cc) ∙ at) in
    ap (λ o. unwrap_or o (pos 0)) (step ∙ had_own player x (last_total player (take place sheet)) seat) ∙ ap (λ (y : Event). y.total) same ∙ same_Some e.total h next

pub knows_more : (player : Seat) (events sheet : List Event) (missing : Option ℕ) (place : ℕ) (e : Event) (had next : Option ℤ) (gone : Bool) → IsSheetBut events missing sheet
    → place < length events → slice_get events place ≡ Some e → (missing ≡ Some place → gone ≡ true) → Knows player sheet place had → next ≡ next_had had e.player e.total player gone
    → Knows player sheet (place + 1) next
knows_more player events sheet missing place e had next gone is within at reported knows made h of_h =
    let x : Event = get_or sheet place e in
    let long : place < length sheet = subst (λ n. place < n) (sym is.as_many) within in
    let there : slice_get sheet place ≡ Some x = slice_get-get_or sheet place e long in
    let seat : x.player ≡ e.player = is.players place e x at there in
    let back : x ≡ get_or sheet place x = sym (get_or_from_slice_get sheet place x x there) in
    let step = sym (total_more player sheet place x (last_total player (take place sheet)) long back refl) in
    knows_by player events sheet missing place e x had (same_seat e.player player) gone h is at there reported knows (ap (λ (p : Seat). same_seat p player) seat) step (sym made ∙ of_h)

-- what both players had, if it is known
pub record KnowsBoth (sheet : List Event) (place : ℕ) (first second : Option ℤ) : Type 0 where
  pub of_first : Knows First sheet place first
  pub of_second : Knows Second sheet place second

pub knows_own : (sheet : List Event) (place : ℕ) (first second : Option ℤ) (player : Seat) → KnowsBoth sheet place first second → Knows player sheet place (had_of first second player)
knows_own sheet place first second First both = both.of_first
knows_own sheet place first second Second both = both.of_second

-- after one more line
pub both_next : (events sheet : List Event) (missing : Option ℕ) (place : ℕ) (e : Event) (first second next_first next_second : Option ℤ) (owner : Seat) (numbers : Numbers) (gone : Bool)
    → IsSheetBut events missing sheet → place < length events → slice_get events place ≡ Some e → (missing ≡ Some place → gone ≡ true) → owner ≡ e.player → numbers ≡ numbers_in e
    → KnowsBoth sheet place first second → next_first ≡ next_had first owner numbers.total First gone → next_second ≡ next_had second owner numbers.total Second gone
    → KnowsBoth sheet (place + 1) next_first next_second
both_next events sheet missing place e first second next_first next_second owner numbers gone is within at reported same_owner same_numbers both is_first is_second =
    record {
      of_first = knows_more First events sheet missing place e first next_first gone is within at reported both.of_first
          (is_first ∙ ap (λ (p : Seat). next_had first p numbers.total First gone) same_owner ∙ ap (λ (n : Numbers). next_had first e.player n.total First gone) same_numbers);
      of_second = knows_more Second events sheet missing place e second next_second gone is within at reported both.of_second
          (is_second ∙ ap (λ (p : Seat). next_had second p numbers.total Second gone) same_owner ∙ ap (λ (n : Numbers). next_had second e.player n.total Second gone) same_numbers);
    }

-- the numbers that were counted are those of the line
pub counted_there : (e r : Event) (first second : Option ℤ) (owner : Seat) (written right : Numbers) (gone : Bool) (many : ℕ) → owner ≡ e.player → written ≡ numbers_in e → right ≡ numbers_in r
    → many ≡ count_numbers gone (had_of first second owner) written right → many ≡ count_numbers gone (had_of first second e.player) (numbers_in e) (numbers_in r)
counted_there e r first second owner written right gone many same_owner of_written of_right is =
    is ∙ ap (λ (p : Seat). count_numbers gone (had_of first second p) written right) same_owner
    ∙ ap (λ (n : Numbers). count_numbers gone (had_of first second e.player) n right) of_written
    ∙ ap (λ (n : Numbers). count_numbers gone (had_of first second e.player) (numbers_in e) n) of_right

-- at a start before which no line is missing
pub knows_start : (player : Seat) (events sheet : List Event) (missing : Option ℕ) (start : ℕ) (had : Option ℤ) → IsSheetBut events missing sheet → ((k : ℕ) → missing ≡ Some k → start ≤ k)
    → had ≡ Some (unwrap_or (last_total player (take start events)) (pos 0)) → Knows player sheet start had
knows_start player events sheet missing start had is none made h of_h =
    let front : take start sheet ≡ take start events =
    same_take sheet events start (λ j below. is.same j (λ here. let far = none j here in absurd (omega (arith, far, below)))) in
    ap (λ (es : List Event). unwrap_or (last_total player es) (pos 0)) front ∙ same_Some (unwrap_or (last_total player (take start events)) (pos 0)) h (sym made ∙ of_h)

pub both_start : (events shown sheet : List Event) (missing : Option ℕ) (start : ℕ) (first second : Option ℤ) → shown ≡ take start events → IsSheetBut events missing sheet
    → ((k : ℕ) → missing ≡ Some k → start ≤ k) → first ≡ Some (unwrap_or (last_total First shown) (pos 0)) → second ≡ Some (unwrap_or (last_total Second shown) (pos 0))
    → KnowsBoth sheet start first second
both_start events shown sheet missing start first second shows is none is_first is_second =
    record {
      of_first = knows_start First events sheet missing start first is none (is_first ∙ ap (λ (es : List Event). Some (unwrap_or (last_total First es) (pos 0))) shows);
      of_second = knows_start Second events sheet missing start second is none (is_second ∙ ap (λ (es : List Event). Some (unwrap_or (last_total Second es) (pos 0))) shows);
    }

-- ---- the sheet with a change

changed_but : (changed right : List Event) (place : ℕ) (e : Event) → slice_get changed place ≡ Some e → IsSheetBut changed (Some place) (set changed place (line_on_sheet changed right place e))
changed_but changed right place e at =
    let x : Event = line_on_sheet changed right place e in
    record {
      as_many = length-set changed place x;
      same = λ k other. set_elsewhere changed place k x (λ same. other (ap (λ n. Some n) (sym same)));
      players = λ k a b of_a of_b. player_by changed right place k e a b at of_a of_b (cases_eq k place);
    }
  where
    player_by : (changed right : List Event) (place k : ℕ) (e a b : Event) → slice_get changed place ≡ Some e → slice_get changed k ≡ Some a
        → slice_get (set changed place (line_on_sheet changed right place e)) k ≡ Some b → (k ≡ place) ⊎ (k ≡ place → ⊥) → b.player ≡ a.player
    player_by changed right place k e a b at of_a of_b (inl same) =
        let x : Event = line_on_sheet changed right place e in
        let is_b : x ≡ b = same_Some x b (sym (set_there changed place e x at) ∙ ap (slice_get (set changed place x)) (sym same) ∙ of_b) in
        let is_a : e ≡ a = same_Some e a (sym at ∙ ap (slice_get changed) (sym same) ∙ of_a) in
        sym (ap (λ (y : Event). y.player) is_b) ∙ ap (λ (y : Event). y.player) is_a
    player_by changed right place k e a b at of_a of_b (inr other) =
        ap (λ (y : Event). y.player) (same_Some b a (sym of_b ∙ set_elsewhere changed place k (line_on_sheet changed right place e) other ∙ of_a))

pub itself_but : (changed : List Event) (missing : Option ℕ) → IsSheetBut changed missing changed
itself_but changed missing = record { as_many = refl; same = λ k other. refl; players = λ k a b of_a of_b. ap (λ (y : Event). y.player) (same_Some b a (sym of_b ∙ of_a)) }

missing_but : (changed right : List Event) (place : ℕ) (o : Option Event) → slice_get changed place ≡ o
    → IsSheetBut changed (Some place) (spliced place 1 (map (line_on_sheet changed right place)) changed)
missing_but changed right place None at =
    subst (λ (es : List Event). IsSheetBut changed (Some place) es) (sym (none_spliced (line_on_sheet changed right place) changed place at)) (itself_but changed (Some place))
missing_but changed right place (Some e) at =
    subst (λ (es : List Event). IsSheetBut changed (Some place) es) (sym (one_spliced (line_on_sheet changed right place) changed place e at)) (changed_but changed right place e at)

sheet_but : (what : Slip) (place : ℕ) (changed right : List Event) → IsSheetBut changed (place_by what place) (sheet_by what place changed right)
sheet_but (slip.Missing line) place changed right = missing_but changed right place (slice_get changed place) refl
sheet_but (slip.Position s) place changed right = itself_but changed None
sheet_but (slip.Spelling s) place changed right = itself_but changed None
sheet_but (slip.Replayed play) place changed right = itself_but changed None
sheet_but (slip.Tile of s) place changed right = itself_but changed None
sheet_but (slip.Misread m) place changed right = itself_but changed None
sheet_but slip.NoRack place changed right = itself_but changed None
sheet_but (slip.Number n) place changed right = itself_but changed None
sheet_but (slip.Code s) place changed right = itself_but changed None
sheet_but (slip.Rest counts) place changed right = itself_but changed None
sheet_but (slip.Amount score) place changed right = itself_but changed None
sheet_but slip.OtherPlayer place changed right = itself_but changed None
sheet_but slip.Repeated place changed right = itself_but changed None
sheet_but slip.ExtraPass place changed right = itself_but changed None
sheet_but slip.Extra place changed right = itself_but changed None
sheet_but slip.Swapped place changed right = itself_but changed None
sheet_but slip.SwappedOver place changed right = itself_but changed None

-- the sheet with a change, compared with the right events
pub sheet_with : (change : Change) (written changed right : List Event) → changed ≡ applied change written → IsSheetBut changed (missing_place change) (on_sheet change (applied change written) right)
sheet_with change written changed right is =
    subst (λ (es : List Event). IsSheetBut es (missing_place change) (on_sheet change (applied change written) right)) (sym is) (sheet_but change.slip change.place (applied change written) right)

-- What stays wrong with a change is what is wrong at its places.
pub all_few : (rules : Rules) (list : List (List ℕ)) (change : Change) (written changed right : List Event) → changed ≡ applied change written → AreRenumbered (applied change written) right
    → sum_from (count_at rules list (on_sheet change (applied change written) right) right) 0 (length changed) ≡ count_remaining rules list change written right
unfolding wrong_with unlisted_words wrong_lines
all_few rules list change written changed right is are =
    let own = applied change written in
    let sheet : List Event = on_sheet change own right in
    let but : IsSheetBut changed (missing_place change) sheet = sheet_with change written changed right is in
    let many : length own ≡ length changed = ap (λ (es : List Event). length es) (sym is) in
    let sheet_many = but.as_many in
    let long : length right ≡ length changed = are.as_many ∙ many in
    let both : min (length sheet) (length right) ≡ length changed = omega (arith, sheet_many, long) in
    let numbers = sum_lengths (wrong_at None sheet right) (length changed) in
    let words = sum_lengths (unlisted_at rules list right) (length changed) in
    let all = sum_two (λ k. length (wrong_at None sheet right k)) (λ k. length (unlisted_at rules list right k)) (count_at rules list sheet right) (length changed) (λ k. refl) in
    let end_numbers : length (flat_map (wrong_at None sheet right) (range_with_len 0 (min (length sheet) (length right)))) ≡ length (flat_map (wrong_at None sheet right) (range_with_len 0 (length changed))) =
    ap (λ n. length (flat_map (wrong_at None sheet right) (range_with_len 0 n))) both in
    let end_words : length (flat_map (unlisted_at rules list right) (range_with_len 0 (length right))) ≡ length (flat_map (unlisted_at rules list right) (range_with_len 0 (length changed))) =
    ap (λ n. length (flat_map (unlisted_at rules list right) (range_with_len 0 n))) long in
    omega (arith, numbers, words, all, end_numbers, end_words)
