-- The numbers and words that a trial of a change counts are wrong compared with each correction.
use Rattle.std.proofs.Common.{◌≡◌, ◌⊎◌, inl, inr, ℕ, ℤ, ◌+◌, ◌-◌, ◌<◌, ◌≤◌, Bool, true, List, length, take, drop, slice_get, Option, Some, None, refl, sym, ap, ◌∙◌, subst, arith}
use Rattle.std.specs.Prelude.{pos}
use Rattle.std.specs.Option.{unwrap_or}
use Rattle.std.proofs.lemmas.Bool.{cases_lt}
use Rattle.std.proofs.lemmas.Option.{same_Some}
use Rattle.ref_tiles.specs.declared.rulebook.Rules.{Rules}
use Rattle.gcg_read.specs.declared.events.Event.{Event}
use Rattle.gcg_read.specs.declared.events.Seat.{Seat}
use Rattle.game_turns.specs.declared.machine.Machine.{Machine}
use Rattle.game_turns.specs.LatestEvents.{standing_words}
use Rattle.game_turns.specs.Machines.{state_of}
use Rattle.game_turns.specs.Places.{AreAllowedTo}
use Rattle.game_turns.specs.Tallies.{State, tally_at, withdraws}
use Rattle.game_walk.specs.declared.numbers.Numbers.{Numbers}
use Rattle.game_walk.specs.declared.rows.Row.{Row}
use Rattle.game_walk.specs.declared.walking.Walk.{Walk}
use Rattle.game_walk.specs.Numbers.{numbers_in}
use Rattle.game_walk.specs.Rows.{AreRowsTo}
use Rattle.game_walk.specs.Walks.{IsWalkOf}
use Rattle.game_corrections.specs.Corrections.{AreRenumbered}
use Rattle.game_corrections.specs.LastTotals.{last_total}
use Rattle.game_corrections.specs.WrongNumbers.{had_before}
use Rattle.game_corrections.proofs.Fronts.{both_renumbered, fronts_agree, same_tally}
use Rattle.game_turns.specs.Unlisted.{unlisted_of}
use Rattle.repair_changes.specs.Applied.{applied}
use Rattle.repair_changes.specs.declared.slips.Change.{Change}
use Rattle.repair_changes.specs.declared.slips.Slip.{Slip}
use Rattle.repair_changes.specs.declared.slips.Slip.TheVariants as slip
use Rattle.repair_single.specs.OnSheet.{on_sheet}
use Rattle.repair_single.specs.Remaining.{count_remaining, unlisted_at}
use Rattle.repair_single.specs.Sums.{IsSheetBut, place_by, missing_place, had_of, count_scores, count_sums, count_numbers}
use Rattle.repair_single.specs.Counting.{Leaves, count_at, sum_from, count_unlisted, had_at, count_at_row, count_in_rows}
use Rattle.repair_single.specs.Trying.{IsStart, IsWritable, HaveNone, NoneFrom, NoneFewer}
use Rattle.repair_single.proofs.Lists.{get_take, get_front, take_less, take_front, same_take}
use Rattle.repair_single.proofs.Fronts.{same_tally as tally_of_front}
use Rattle.repair_single.proofs.Leaving.{leaves_none, leaves_itself, leaves_both, leaves_more, leaves_to, sum_more, sum_step, sum_joined, sum_within, words_many}
use Rattle.repair_single.proofs.Starts.{joined_at, front_like, front_allowed, tally_joined}
use Rattle.repair_single.proofs.Trials.{GoesTo}
use Rattle.repair_single.proofs.Walked.{renumbered_by}
use Rattle.repair_single.proofs.WrongSums.{KnowsBoth, knows_own, both_many, numbers_few, sheet_with, all_few}

-- ---- one event

words_by : (rules : Rules) (list : List (List ℕ)) (right : List Event) (place : ℕ) (s : State) → tally_at rules right (place + 1) ≡ s
    → length (unlisted_at rules list right place) ≡ length (unlisted_of list (standing_words s.latest))
words_by rules list right place s same = ap (λ (t : State). length (unlisted_of list (standing_words t.latest))) same

-- the event that was there before
pub old_there : (rules : Rules) (list : List (List ℕ)) (old now : List Event) (start place : ℕ) (machine : Machine) (o : Event) → GoesTo rules list old now start place machine → start ≤ place
    → slice_get now place ≡ Some o → slice_get old place ≡ Some o
old_there rules list old now start place machine o before near of_o = sym (before.up.untouched place (omega arith)) ∙ before.there place near ∙ of_o

-- An event that was given its right numbers counts no more than what is wrong there compared with a correction.
pub event_counted : (rules : Rules) (list : List (List ℕ)) (old now new : List Event) (start place : ℕ) (machine next : Machine) (missing : Option ℕ) (right sheet : List Event) (o e : Event)
    (first second : Option ℤ) (gone : Bool)
    → GoesTo rules list old now start place machine → GoesTo rules list old new start (place + 1) next → start ≤ place → place < length old → IsWritable rules list old right
    → IsSheetBut old missing sheet → slice_get now place ≡ Some o → slice_get new place ≡ Some e → (missing ≡ Some place → gone ≡ true) → KnowsBoth sheet place first second
    → count_numbers gone (had_of first second o.player) (numbers_in o) (numbers_in e) + count_unlisted list (standing_words (state_of next).latest) ≤ count_at rules list sheet right place
event_counted rules list old now new start place machine next missing right sheet o e first second gone before at near within is but of_o of_e reported knows =
    let front = at.front in
    let many = at.up.renumbered.as_many in
    let like : AreRenumbered front right = both_renumbered old front right at.up.renumbered is.correction.renumbered in
    let long = like.as_many in
    let agree : take (place + 1) right ≡ take (place + 1) front =
    fronts_agree rules list front right (place + 1) like (omega (arith, many, within)) at.up.allowed (λ k below. is.correction.allowed k (omega (arith, below, long, many, within))) in
    let there : slice_get right place ≡ Some e =
    sym (get_take right (place + 1) place (omega arith)) ∙ ap (λ (es : List Event). slice_get es place) agree ∙ get_take front (place + 1) place (omega arith) ∙ at.there place near ∙ of_e in
    let stood = old_there rules list old now start place machine o before near of_o in
    let words = words_by rules list right place (state_of next) (same_tally rules front right (place + 1) like agree ∙ sym at.state) in
    let counted = words_many list (standing_words (state_of next).latest) in
    let numbers = numbers_few old sheet right missing place o e (had_of first second o.player) gone but stood there reported (knows_own sheet place first second o.player knows) in
    omega (arith, words, counted, numbers)

-- ---- the events from a start up to a place

abbrev pub Counts : Rules → (list : List (List ℕ)) → (old : List Event) → (start place : ℕ) → (missing room remaining : Option ℕ) → Type 0
Counts rules list old start place missing room remaining =
    (right sheet : List Event) → IsWritable rules list old right → IsSheetBut old missing sheet → Leaves room (sum_from (count_at rules list sheet right) start (place - start)) remaining

pub counts_none : (rules : Rules) (list : List (List ℕ)) (old : List Event) (start : ℕ) (missing room : Option ℕ) → Counts rules list old start start missing room room
counts_none rules list old start missing room right sheet is but =
    leaves_more room room 0 (sum_from (count_at rules list sheet right) start (start - start)) (omega arith) (leaves_itself room)

pub counts_more : (rules : Rules) (list : List (List ℕ)) (old now new : List Event) (start place : ℕ) (machine next : Machine) (missing room remaining last : Option ℕ) (o e : Event) (first second : Option ℤ)
    (gone : Bool) (numbers : ℕ) → GoesTo rules list old now start place machine → GoesTo rules list old new start (place + 1) next → start ≤ place → place < length old
    → slice_get now place ≡ Some o → slice_get new place ≡ Some e → (missing ≡ Some place → gone ≡ true)
    → ((sheet : List Event) → IsSheetBut old missing sheet → KnowsBoth sheet place first second)
    → numbers ≡ count_numbers gone (had_of first second o.player) (numbers_in o) (numbers_in e)
    → Leaves remaining (numbers + count_unlisted list (standing_words (state_of next).latest)) last
    → Counts rules list old start place missing room remaining → Counts rules list old start (place + 1) missing room last
counts_more rules list old now new start place machine next missing room remaining last o e first second gone numbers before at near within of_o of_e reported knows made leaves counts right sheet is but =
    let at_place : ℕ → ℕ = count_at rules list sheet right in
    let more = numbers + count_unlisted list (standing_words (state_of next).latest) in
    let step = sum_step at_place start place near in
    let here = event_counted rules list old now new start place machine next missing right sheet o e first second gone before at near within is but of_o of_e reported (knows sheet but) in
    leaves_more room last (sum_from at_place start (place - start) + more) (sum_from at_place start (place + 1 - start)) (omega (arith, step, here, made))
    (leaves_both room remaining last (sum_from at_place start (place - start)) more (counts right sheet is but) leaves)

pub counts_full : (rules : Rules) (list : List (List ℕ)) (old : List Event) (start place : ℕ) (missing room remaining : Option ℕ) → Counts rules list old start place missing room remaining → remaining ≡ Some 0
    → place ≤ length old → NoneFrom rules list old start missing room
counts_full rules list old start place missing room remaining counts full within right sheet is but fewer =
    let at_place : ℕ → ℕ = count_at rules list sheet right in
    leaves_none room remaining (sum_from at_place start (place - start)) (sum_from at_place start (length old - start)) (counts right sheet is but) full
    (sum_more at_place start (place - start) (length old - start) (omega (arith, within))) fewer

pub refused_from : (rules : Rules) (list : List (List ℕ)) (old : List Event) (start : ℕ) (missing room : Option ℕ) → HaveNone rules list old → NoneFrom rules list old start missing room
refused_from rules list old start missing room none right sheet is but fewer = none right is

-- ---- the rows before a start

-- right events agree with those of a walk up to a start
record Agree (rules : Rules) (right front : List Event) (start : ℕ) : Type 0 where
  events : (k : ℕ) → k < start → slice_get right k ≡ slice_get front k
  tallies : (k : ℕ) → k < start → tally_at rules right (k + 1) ≡ tally_at rules front (k + 1)

tally_up_to : (rules : Rules) (written changed front : List Event) (start k : ℕ) → AreRenumbered written front → start ≤ length front
    → (start ≡ 0) ⊎ (withdraws (slice_get changed start) ≡ withdraws (slice_get written start)) → k < start → (k + 1 < start) ⊎ (start ≤ k + 1)
    → tally_at rules (joined_at start front changed) (k + 1) ≡ tally_at rules front (k + 1)
tally_up_to rules written changed front start k like enough same below (inl less) =
    tally_of_front rules front (joined_at start front changed) (k + 1) (take_front front (drop start changed) start (k + 1 + 1) (omega (arith, less)) enough)
tally_up_to rules written changed front start k like enough same below (inr not_less) =
    let last : start ≡ k + 1 = omega (arith, below, not_less) in
    subst (λ n. tally_at rules (joined_at start front changed) n ≡ tally_at rules front n) last (tally_joined rules written changed front start like enough same)

rows_agree : (rules : Rules) (list : List (List ℕ)) (written changed right front : List Event) (place start : ℕ) → AreRenumbered written front → AreAllowedTo rules list front start
    → IsStart written changed place start → start ≤ length written → start ≤ length changed → ((j : ℕ) → j < place → slice_get changed j ≡ slice_get written j)
    → IsWritable rules list changed right → Agree rules right front start
rows_agree rules list written changed right front place start like allowed is within long same writable =
    let f : List Event = joined_at start front changed in
    let enough : start ≤ length front = subst (λ n. start ≤ n) (sym like.as_many) within in
    let own = front_like written changed front place start like is within long same in
    let both : AreRenumbered f right = both_renumbered changed f right own writable.correction.renumbered in
    let of_f = own.as_many in
    let of_right = both.as_many in
    let agree : take start right ≡ take start f =
    fronts_agree rules list f right start both (omega (arith, of_f, long)) (front_allowed rules list changed front start enough allowed)
    (λ k below. writable.correction.allowed k (omega (arith, below, of_right, of_f, long))) in
    record {
      events = λ k below.
          sym (get_take right start k below) ∙ ap (λ (es : List Event). slice_get es k) agree ∙ get_take f start k below ∙ get_front front (drop start changed) start k below enough;
      tallies = λ k below.
          same_tally rules f right (k + 1) both
          (sym (take_less right start (k + 1) (omega (arith, below))) ∙ ap (λ (es : List Event). take (k + 1) es) agree ∙ take_less f start (k + 1) (omega (arith, below)))
          ∙ tally_up_to rules written changed front start k like enough is.same below (cases_lt (k + 1) start);
    }

-- what a player had before a place of a front
had_front : (sheet written : List Event) (start k : ℕ) (player : Seat) → ((j : ℕ) → j < start → slice_get sheet j ≡ slice_get written j) → k < start → had_before sheet player k ≡ had_before written player k
had_front sheet written start k player same below =
    ap (λ (es : List Event). unwrap_or (last_total player es) (pos 0)) (same_take sheet written k (λ j less. same j (omega (arith, less, below))))

row_counted : (rules : Rules) (list : List (List ℕ)) (written right front sheet : List Event) (rows : List Row) (start end k : ℕ) (o : Option Row) → AreRowsTo rules list written front end rows
    → Agree rules right front start → k < start → ((j : ℕ) → j < start → slice_get sheet j ≡ slice_get written j) → slice_get rows k ≡ o
    → count_at_row list written k o ≤ count_at rules list sheet right k
row_counted rules list written right front sheet rows start end k None are agree below same at = omega arith
row_counted rules list written right front sheet rows start end k (Some row) are agree below same at =
    let here = are.each k row at in
    let own : Event = here.own in
    let on : slice_get sheet k ≡ Some own = same k below ∙ here.stood in
    let there : slice_get right k ≡ Some here.event = agree.events k below ∙ here.stands in
    let all = both_many sheet right k own here.event on there in
    let had : had_at written k (slice_get written k) ≡ had_before sheet own.player k =
    ap (λ (x : Option Event). had_at written k x) here.stood ∙ sym (had_front sheet written start k own.player same below) in
    let scores : count_scores row.written.score row.right.score ≡ count_scores own.score here.event.score =
    ap (λ (n : Numbers). count_scores n.score row.right.score) here.own_numbers ∙ ap (λ (n : Numbers). count_scores own.score n.score) here.right_numbers in
    let sums : count_sums (had_at written k (slice_get written k)) row.written row.right ≡ count_sums (had_before sheet own.player k) (numbers_in own) (numbers_in here.event) =
    ap (λ (h : ℤ). count_sums h row.written row.right) had ∙ ap (λ (n : Numbers). count_sums (had_before sheet own.player k) n row.right) here.own_numbers
    ∙ ap (λ (n : Numbers). count_sums (had_before sheet own.player k) (numbers_in own) n) here.right_numbers in
    let words = words_by rules list right k (state_of row.following) (agree.tallies k below ∙ sym here.following) in
    omega (arith, all, scores, sums, words)

-- The rows before a start count no more than what is wrong there compared with a correction of the changed record.
pub rows_counted : (rules : Rules) (list : List (List ℕ)) (written changed right sheet : List Event) (walk : Walk) (missing : Option ℕ) (place start : ℕ) → IsWalkOf rules list written walk
    → IsStart written changed place start → start ≤ length written → start ≤ length changed → start ≤ length walk.rows.items
    → ((j : ℕ) → j < place → slice_get changed j ≡ slice_get written j) → IsWritable rules list changed right → IsSheetBut changed missing sheet → ((k : ℕ) → missing ≡ Some k → place ≤ k)
    → count_in_rows list written walk.rows.items start ≤ sum_from (count_at rules list sheet right) 0 start
rows_counted rules list written changed right sheet walk missing place start walked is within long rows same writable but none =
    let at = walked.is in
    let many = at.rows.as_many in
    let near = is.before in
    let agree = rows_agree rules list written changed right walked.right place start (renumbered_by rules list written walked.right at.end walk.stopped at.ends)
    (λ k below. at.allowed k (omega (arith, below, rows, many))) is within long same writable in
    let front : (j : ℕ) → j < start → slice_get sheet j ≡ slice_get written j =
    λ j below.
    let apart : missing ≡ Some j → ⊥ = λ here. let far = none j here in omega (arith, far, below, near) in
    but.same j apart ∙ same j (omega (arith, below, near)) in
    sum_within (λ k. count_at_row list written k (slice_get walk.rows.items k)) (count_at rules list sheet right) 0 start
    (λ k from below. row_counted rules list written right walked.right sheet walk.rows.items start at.end k (slice_get walk.rows.items k) at.rows agree (omega (arith, below)) front refl)

-- ---- a change

pub missing_at : (what : Slip) (place k : ℕ) → place_by what place ≡ Some k → place ≤ k
missing_at (slip.Missing line) place k is = let same = same_Some place k is in omega (arith, same)
missing_at (slip.Position s) place k is = cc
missing_at (slip.Spelling s) place k is = cc
missing_at (slip.Replayed play) place k is = cc
missing_at (slip.Tile of s) place k is = cc
missing_at (slip.Misread m) place k is = cc
missing_at slip.NoRack place k is = cc
missing_at (slip.Number n) place k is = cc
missing_at (slip.Code s) place k is = cc
missing_at (slip.Rest counts) place k is = cc
missing_at (slip.Amount score) place k is = cc
missing_at slip.OtherPlayer place k is = cc
missing_at slip.Repeated place k is = cc
missing_at slip.ExtraPass place k is = cc
missing_at slip.Extra place k is = cc
missing_at slip.Swapped place k is = cc
missing_at slip.SwappedOver place k is = cc

-- If the rows before a start and the events from there on leave no room, too many numbers and words stay wrong.
pub none_by : (rules : Rules) (list : List (List ℕ)) (change : Change) (written changed : List Event) (walk : Walk) (start : ℕ) (missing below remaining : Option ℕ) → changed ≡ applied change written
    → IsWalkOf rules list written walk → IsStart written changed change.place start → start ≤ length written → start ≤ length changed → start ≤ length walk.rows.items
    → ((j : ℕ) → j < change.place → slice_get changed j ≡ slice_get written j) → missing ≡ missing_place change
    → Leaves below (count_in_rows list written walk.rows.items start) remaining → NoneFrom rules list changed start missing remaining → NoneFewer rules list written below change
none_by rules list change written changed walk start missing below remaining is walked starts within long rows same where_missing of_rows none right writable fewer =
    let sheet : List Event = on_sheet change (applied change written) right in
    let own : IsWritable rules list changed right = subst (λ (es : List Event). IsWritable rules list es right) (sym is) writable in
    let but : IsSheetBut changed missing sheet = subst (λ m. IsSheetBut changed m sheet) (sym where_missing) (sheet_with change written changed right is) in
    let at_place : ℕ → ℕ = count_at rules list sheet right in
    let all = all_few rules list change written changed right is writable.correction.renumbered in
    let before = rows_counted rules list written changed right sheet walk missing change.place start walked starts within long rows same own but
    (λ k here. missing_at change.slip change.place k (sym where_missing ∙ here)) in
    let split = sum_joined at_place 0 start (length changed - start) in
    let whole : sum_from at_place 0 (start + (length changed - start)) ≡ sum_from at_place 0 (length changed) = ap (sum_from at_place 0) (omega (arith, long)) in
    let following : sum_from at_place (0 + start) (length changed - start) ≡ sum_from at_place start (length changed - start) = ap (λ n. sum_from at_place n (length changed - start)) (omega arith) in
    none right sheet own but
    (leaves_to below remaining (count_in_rows list written walk.rows.items start) of_rows (sum_from at_place start (length changed - start)) (count_remaining rules list change written right)
    (omega (arith, all, before, split, whole, following)) fewer)

-- the missing line is not before a start
pub missing_following : (change : Change) (missing : Option ℕ) (start : ℕ) → missing ≡ missing_place change → start ≤ change.place → (k : ℕ) → missing ≡ Some k → start ≤ k
missing_following change missing start is before k here =
    let far = missing_at change.slip change.place k (sym is ∙ here) in
    omega (arith, far, before)

pub from_by_rules : (own rules : Rules) (list : List (List ℕ)) (changed : List Event) (start : ℕ) (missing room : Option ℕ) → own ≡ rules → NoneFrom own list changed start missing room
    → NoneFrom rules list changed start missing room
from_by_rules own rules list changed start missing room by none = subst (λ (r : Rules). NoneFrom r list changed start missing room) by none
