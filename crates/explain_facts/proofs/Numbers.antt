-- The right score and the right total of an event that is refused for one of them.
use Rattle.std.proofs.Common.{◌≡◌, ◌≢◌, ℕ, ℤ, pos, Bool, true, false, not, List, Option, Some, None, refl, sym, ap, ◌∙◌}
use Rattle.std.specs.Prelude.{◌+ℤ◌, ◌-ℤ◌}
use Rattle.std.specs.Option.{option_or}
use Rattle.std.specs.Ordering.{int_eq}
use Rattle.std.proofs.lemmas.Option.{same_Some}
use Rattle.std.proofs.Math.IntN.{+ℤ_comm, +ℤ_idl, -ℤ-+ℤ_cancel, +ℤ-neg_ℤ_cancel}
use Rattle.first_faults.specs.Checks.{fails}
use Rattle.first_faults.proofs.CheckLaws.{some_fault}
use Rattle.ref_tiles.specs.declared.rulebook.Rules.{Rules}
use Rattle.gcg_read.specs.declared.events.Event.{Event}
use Rattle.gcg_read.specs.declared.events.EventKind.{EventKind}
use Rattle.gcg_read.specs.declared.events.EventKind.TheVariants as kind
use Rattle.game_turns.specs.declared.faults.RuleFault.TheVariants as fault
use Rattle.game_turns.specs.Seats.{side_of}
use Rattle.game_turns.specs.Tallies.{State, Latest, played, taken_back}
use Rattle.game_turns.specs.Tallies as tallies
use Rattle.game_turns.specs.Checks.{fault_in}
use Rattle.gcg_read.specs.declared.events.Seat.{Seat}
use Rattle.game_corrections.proofs.Shapes as shapes
use Rattle.game_corrections.proofs.Numbers.{numbers_reported, total_reported as sum_reported}
use Rattle.game_corrections.specs.Corrections.{right_number}
use Rattle.explain_facts.specs.Scores.{withdrawn_score, last_rack_score, right_score}
use Rattle.explain_facts.proofs.Because.{score_differs}

of_withdrawn : (latest : Latest) → withdrawn_score latest ≡ shapes.withdrawn_score latest
of_withdrawn (played p) = refl
of_withdrawn (taken_back tiles) = refl
of_withdrawn tallies.other = refl

of_rack : (points : ℕ) (out : Option Seat) → last_rack_score points out ≡ shapes.rack_score points out
of_rack points (Some out) = refl
of_rack points None = refl

-- the score that the rules give is the one that the checks require
score_is : (rules : Rules) (s : State) (what : EventKind) → right_score rules s what ≡ shapes.kind_score rules s what
score_is rules s (kind.Play at dir word) = refl
score_is rules s kind.Pass = refl
score_is rules s (kind.Exchange tiles) = refl
score_is rules s (kind.ExchangeUnknown n) = refl
score_is rules s kind.Withdraw = ap Some (of_withdrawn s.latest)
score_is rules s kind.Challenge = refl
score_is rules s kind.Time = refl
score_is rules s (kind.LastRack tiles) = ap Some (of_rack _ s.out)

-- ---- what a wrong number names

score_not_total : (r n : ℤ) → fault.WrongTotal n ≡ fault.WrongScore r → ⊥
score_not_total r n e = cc

same_right : (q r : ℤ) → fault.WrongScore q ≡ fault.WrongScore r → q ≡ r
same_right q r e = same_Some q r (ap right_number e)

same_sum : (q r : ℤ) → fault.WrongTotal q ≡ fault.WrongTotal r → q ≡ r
same_sum q r e = same_Some q r (ap right_number e)

score_of_test : (test : Bool) (q r before score total : ℤ)
    → option_or (fails test (fault.WrongScore q)) (shapes.total_wrong before score total) ≡ Some (fault.WrongScore r) → q ≡ r
score_of_test true q r before score total e = same_right q r (same_Some (fault.WrongScore q) (fault.WrongScore r) e)
score_of_test false q r before score total e = absurd (score_not_total r (before +ℤ score) (sym (sum_reported before score total (fault.WrongScore r) e)))

score_named : (o : Option ℤ) (before score total r : ℤ) → shapes.numbers_wrong o before score total ≡ Some (fault.WrongScore r) → o ≡ Some r
score_named None before score total r e = absurd (score_not_total r (before +ℤ score) (sym (sum_reported before score total (fault.WrongScore r) e)))
score_named (Some q) before score total r e = ap Some (score_of_test (not (int_eq score q)) q r before score total e)

sum_of_test : (test : Bool) (q r before score total : ℤ) → option_or (fails test (fault.WrongScore q)) (shapes.total_wrong before score total) ≡ Some (fault.WrongTotal r)
    → r ≡ before +ℤ score
sum_of_test true q r before score total e = absurd (score_not_total q r (sym (same_Some (fault.WrongScore q) (fault.WrongTotal r) e)))
sum_of_test false q r before score total e = same_sum r (before +ℤ score) (sum_reported before score total (fault.WrongTotal r) e)

total_named : (o : Option ℤ) (before score total r : ℤ) → shapes.numbers_wrong o before score total ≡ Some (fault.WrongTotal r) → r ≡ before +ℤ score
total_named None before score total r e = same_sum r (before +ℤ score) (sum_reported before score total (fault.WrongTotal r) e)
total_named (Some q) before score total r e = sum_of_test (not (int_eq score q)) q r before score total e

-- a wrong score names the right one
pub score_reported : (rules : Rules) (list : List (List ℕ)) (s : State) (e : Event) (right : ℤ) → fault_in rules list s e ≡ Some (fault.WrongScore right)
    → right_score rules s e.kind ≡ Some right
score_reported rules list s e right fails =
    score_is rules s e.kind
    ∙ score_named (shapes.kind_score rules s e.kind) (side_of s.sides e.player).total e.score e.total right
    (numbers_reported rules list s e (fault.WrongScore right) right fails refl).1

-- so the score of an event to which the rules give none is not refused
pub none_given : (rules : Rules) (list : List (List ℕ)) (s : State) (e : Event) (right : ℤ) → fault_in rules list s e ≡ Some (fault.WrongScore right)
    → right_score rules s e.kind ≡ None → ⊥
none_given rules list s e right fails none = some_fault right (sym (score_reported rules list s e right fails) ∙ none)

-- a wrong total names what the player had plus the score
pub total_reported : (rules : Rules) (list : List (List ℕ)) (s : State) (e : Event) (right : ℤ) → fault_in rules list s e ≡ Some (fault.WrongTotal right)
    → right ≡ (side_of s.sides e.player).total +ℤ e.score
total_reported rules list s e right fails =
    total_named (shapes.kind_score rules s e.kind) (side_of s.sides e.player).total e.score e.total right
    (numbers_reported rules list s e (fault.WrongTotal right) right fails refl).1

-- ---- the turn that a total leaves out

-- what a total lacks
pub lacking : (right written score shown reported : ℤ) → shown ≡ right → reported ≡ written → score ≡ shown -ℤ reported → score ≡ right -ℤ written
lacking right written score shown reported same own is = is ∙ ap (λ n. n -ℤ reported) same ∙ ap (λ n. right -ℤ n) own

back : (right written score : ℤ) → score ≡ right -ℤ written → written +ℤ score ≡ right
back right written score lacks = +ℤ_comm written score ∙ ap (λ n. n +ℤ written) lacks ∙ -ℤ-+ℤ_cancel right written

-- a total that lacks the score of its own line is the one before
pub remaining_own : (had score right written : ℤ) → right ≡ had +ℤ score → score ≡ right -ℤ written → written ≡ had
remaining_own had score right written is lacks =
    sym (+ℤ-neg_ℤ_cancel written score) ∙ ap (λ n. n -ℤ score) (back right written score lacks ∙ is) ∙ +ℤ-neg_ℤ_cancel had score

-- a total that lacks some score is right with it
pub remaining_one : (had own score right written : ℤ) → right ≡ had +ℤ own → score ≡ right -ℤ written → written +ℤ score ≡ had +ℤ own
remaining_one had own score right written is lacks = back right written score lacks ∙ is

-- a total that is not the right one lacks some score
pub lacks_some : (right written score : ℤ) → written ≢ right → score ≡ right -ℤ written → score ≢ pos 0
lacks_some right written score wrong lacks =
    λ none. wrong (sym (+ℤ_idl written) ∙ +ℤ_comm (pos 0) written ∙ ap (λ n. written +ℤ n) (sym none) ∙ back right written score lacks)

-- two numbers that differ, as they are shown
pub unlike : (right shown written reported : ℤ) → written ≢ right → shown ≡ right → reported ≡ written → shown ≢ reported
unlike right shown written reported wrong same own = λ one. wrong (sym own ∙ sym one ∙ same)

-- the right score and the written one
pub scores_reported : (rules : Rules) (list : List (List ℕ)) (s : State) (e : Event) (right written shown reported : ℤ) → fault_in rules list s e ≡ Some (fault.WrongScore right)
    → shown ≡ right → reported ≡ written → written ≡ e.score → (right_score rules s e.kind ≡ Some shown) × (reported ≡ e.score) × (shown ≢ reported)
scores_reported rules list s e right written shown reported fails same own is = (
  score_reported rules list s e right fails ∙ ap Some (sym same),
  own ∙ is,
  unlike right shown e.score reported (score_differs rules list s e right fails) same (own ∙ is),
)

-- the sum of what is shown
pub sum_shown : (right had score shown shown_had shown_score : ℤ) → right ≡ had +ℤ score → shown ≡ right → shown_had ≡ had → shown_score ≡ score → shown ≡ shown_had +ℤ shown_score
sum_shown right had score shown shown_had shown_score is same own_had own_score =
    same ∙ is ∙ ap (λ n. n +ℤ score) (sym own_had) ∙ ap (λ n. shown_had +ℤ n) (sym own_score)
