-- If so much is wrong before a place that no change there leaves few enough numbers and words wrong.
use Rattle.std.proofs.Common.{◌≡◌, ◌⊎◌, inl, inr, ℕ, ◌-◌, ◌<◌, ◌≤◌, List, length, slice_get, Option, Some, sym, ◌∙◌, subst, refl, arith}
use Rattle.std.proofs.lemmas.Bool.{cases_lt}
use Rattle.std.proofs.lemmas.Option.{slice_get_within}
use Rattle.ref_tiles.specs.declared.rulebook.Rules.{Rules}
use Rattle.gcg_read.specs.declared.events.Event.{Event}
use Rattle.game_walk.specs.declared.walking.Walk.{Walk}
use Rattle.game_walk.specs.Walks.{IsWalkOf}
use Rattle.game_corrections.proofs.Sheets.{some_event}
use Rattle.repair_changes.specs.Laws.{FrontStays}
use Rattle.repair_changes.specs.Applied.{applied}
use Rattle.repair_changes.specs.declared.slips.Change.{Change}
use Rattle.repair_single.specs.OnSheet.{on_sheet}
use Rattle.repair_single.specs.Remaining.{count_remaining}
use Rattle.repair_single.specs.Sums.{missing_place}
use Rattle.repair_single.specs.Counting.{Leaves, count_at, count_in_rows}
use Rattle.repair_single.specs.Trying.{IsStart, NoneFewer}
use Rattle.repair_single.proofs.Leaving.{leaves_none, sum_more}
use Rattle.repair_single.proofs.Starts.{starts_before}
use Rattle.repair_single.proofs.WrongSums.{sheet_with, all_few}
use Rattle.repair_single.proofs.Counted.{rows_counted, missing_at}

front_long : (written changed : List Event) (place : ℕ) → ((k : ℕ) → k < place → slice_get changed k ≡ slice_get written k) → place ≤ length written → (0 < place) ⊎ (place ≤ 0)
    → place ≤ length changed
front_long written changed place same within (inl some) =
    let last = some_event written (place - 1) (omega (arith, some, within)) in
    let there = slice_get_within changed (place - 1) last.event (same (place - 1) (omega (arith, some)) ∙ last.stands) in
    omega (arith, there, some)
front_long written changed place same within (inr none) = omega (arith, none)

start_at : (written changed : List Event) (place before : ℕ) → before ≡ place - 1 → ((k : ℕ) → k < place → slice_get changed k ≡ slice_get written k) → (0 < place) ⊎ (place ≤ 0)
    → IsStart written changed place before
start_at written changed place before is same (inl some) = subst (λ n. IsStart written changed place n) (sym is) (starts_before written changed place some same)
start_at written changed place before is same (inr none) = record { before = omega (arith, is); same = inl (omega (arith, is, none)) }

none_at : FrontStays → (rules : Rules) (list : List (List ℕ)) (change : Change) (written : List Event) (walk : Walk) (before : ℕ) (below remaining : Option ℕ) → IsWalkOf rules list written walk
    → change.place ≤ length walk.rows.items → change.place ≤ length written → before ≡ change.place - 1
    → Leaves below (count_in_rows list written walk.rows.items before) remaining → remaining ≡ Some 0 → NoneFewer rules list written below change
none_at law rules list change written walk before below remaining walked rows within is of_rows full right writable fewer =
    let place = change.place in
    let changed = applied change written in
    let same : (k : ℕ) → k < place → slice_get changed k ≡ slice_get written k = λ k less. law change written k less in
    let sheet : List Event = on_sheet change changed right in
    let but = sheet_with change written changed right refl in
    let enough = front_long written changed place same within (cases_lt 0 place) in
    let at_place : ℕ → ℕ = count_at rules list sheet right in
    let counted = rows_counted rules list written changed right sheet walk (missing_place change) place before walked (start_at written changed place before is same (cases_lt 0 place))
    (omega (arith, within, is)) (omega (arith, enough, is)) (omega (arith, rows, is)) same writable but (λ k here. missing_at change.slip place k here) in
    let more = sum_more at_place 0 before (length changed) (omega (arith, enough, is)) in
    let all = all_few rules list change written changed right refl writable.correction.renumbered in
    leaves_none below remaining (count_in_rows list written walk.rows.items before) (count_remaining rules list change written right) of_rows full (omega (arith, counted, more, all)) fewer

-- the same at a place
pub none_at_place : FrontStays → (rules : Rules) (list : List (List ℕ)) (change : Change) (written : List Event) (walk : Walk) (place before : ℕ) (below remaining : Option ℕ)
    → IsWalkOf rules list written walk → place ≤ length walk.rows.items → place ≤ length written → before ≡ place - 1 → change.place ≡ place
    → Leaves below (count_in_rows list written walk.rows.items before) remaining → remaining ≡ Some 0 → NoneFewer rules list written below change
none_at_place law rules list change written walk place before below remaining walked rows within is at of_rows full =
    none_at law rules list change written walk before below remaining walked (omega (arith, rows, at)) (omega (arith, within, at)) (omega (arith, is, at)) of_rows full
