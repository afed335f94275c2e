-- One event of a sheet with another number.
use Rattle.std.proofs.Common.{◌≡◌, ◌⊎◌, inl, inr, ℕ, ℤ, zero, suc, List, [], ◌∷◌, set, slice_get, Option, Some, None, refl, sym, ap, ◌∙◌, subst}
use Rattle.std.specs.Prelude.{⊤, Result, Ok, Err, IfErr, OnErr}
use Rattle.std.specs.Option.{option_or}
use Rattle.std.proofs.lemmas.Bool.{cases_eq}
use Rattle.std.proofs.lemmas.List.{length-set}
use Rattle.std.proofs.lemmas.Option.{same_Some}
use Rattle.first_faults.proofs.CheckLaws.{some_fault}
use Rattle.ref_tiles.specs.declared.rulebook.Rules.{Rules}
use Rattle.gcg_read.specs.Numerals.{IsPoints}
use Rattle.gcg_read.specs.declared.events.Event.{Event}
use Rattle.game_turns.specs.declared.faults.RuleFault.{RuleFault}
use Rattle.game_turns.specs.declared.faults.RuleFault.TheVariants as fault
use Rattle.game_turns.specs.Answers.{Reports}
use Rattle.game_turns.specs.Seats.{side_of}
use Rattle.game_turns.specs.Tallies.{State}
use Rattle.game_turns.specs.Checks.{fault_in}
use Rattle.game_turns.specs.Places.{fault_of_event}
use Rattle.game_corrections.specs.Corrections.{right_score, right_total, IsRenumbered, IsRemaining, HasRefusedNumbers, HasPoints, HavePoints, KeepPoints}
use Rattle.game_corrections.specs.Mending.{IsMendedAt, IsRefusedAt}
use Rattle.game_corrections.proofs.Fronts.{itself, all_themselves, all_through}
use Rattle.game_corrections.proofs.Numbers.{score_cures, wrong_not_given, total_cures, total_reported}

-- ---- a list with another item

pub set_there : (events : List Event) (place : ℕ) (e x : Event) → slice_get events place ≡ Some e → slice_get (set events place x) place ≡ Some x
set_there [] place e x is = cc
set_there (d ∷ rest) zero e x is = refl
set_there (d ∷ rest) (suc place) e x is = set_there rest place e x is

pub set_elsewhere : (events : List Event) (place k : ℕ) (x : Event) → (k ≡ place → ⊥) → slice_get (set events place x) k ≡ slice_get events k
set_elsewhere [] place k x other = refl
set_elsewhere (d ∷ rest) zero zero x other = absurd (other refl)
set_elsewhere (d ∷ rest) zero (suc k) x other = refl
set_elsewhere (d ∷ rest) (suc place) zero x other = refl
set_elsewhere (d ∷ rest) (suc place) (suc k) x other = set_elsewhere rest place k x (λ same. other (ap suc same))

-- ---- nothing, one number, and one after another

pub unchanged : (events : List Event) (place : ℕ) → IsMendedAt events events place
unchanged events place = record { renumbered = all_themselves events; others = λ k other. refl }

each_mended : (events : List Event) (place : ℕ) (e x : Event) → slice_get events place ≡ Some e → IsRenumbered e x
    → (k : ℕ) (a b : Event) → slice_get events k ≡ Some a → slice_get (set events place x) k ≡ Some b → (k ≡ place) ⊎ (k ≡ place → ⊥) → IsRenumbered a b
each_mended events place e x is like k a b of_a of_b (inl same) =
    let first : a ≡ e = same_Some a e (sym of_a ∙ ap (slice_get events) same ∙ is) in
    let second : b ≡ x = same_Some b x (sym of_b ∙ ap (slice_get (set events place x)) same ∙ set_there events place e x is) in
    subst (λ y. IsRenumbered y b) (sym first) (subst (IsRenumbered e) (sym second) like)
each_mended events place e x is like k a b of_a of_b (inr other) =
    let same : a ≡ b = same_Some a b (sym of_a ∙ sym (set_elsewhere events place k x other) ∙ of_b) in
    subst (IsRenumbered a) same (itself a)

pub one_set : (events : List Event) (place : ℕ) (e x : Event) → slice_get events place ≡ Some e → IsRenumbered e x → IsMendedAt events (set events place x) place
one_set events place e x is like =
    record {
      renumbered = record { as_many = length-set events place x; each = λ k a b of_a of_b. each_mended events place e x is like k a b of_a of_b (cases_eq k place) };
      others = λ k other. set_elsewhere events place k x other;
    }

pub mended_through : (a b d : List Event) (place : ℕ) → IsMendedAt a b place → IsMendedAt b d place → IsMendedAt a d place
mended_through a b d place first second =
    record { renumbered = all_through a b d first.renumbered second.renumbered; others = λ k other. second.others k other ∙ first.others k other }

-- ---- the faults that name a number

total_is : (why : RuleFault) (right : ℤ) → right_total why ≡ Some right → why ≡ fault.WrongTotal right
total_is (fault.WrongTotal n) right e = ap fault.WrongTotal (same_Some n right e)
total_is (fault.WrongScore n) right e = cc
total_is fault.NotYourTurn right e = cc
total_is (fault.Play why) right e = cc
total_is fault.NothingToWithdraw right e = cc
total_is fault.WithdrawnValid right e = cc
total_is fault.BonusOnPhony right e = cc
total_is fault.BadBonus right e = cc
total_is fault.ExchangeRefused right e = cc
total_is fault.ExchangeSize right e = cc
total_is fault.GameOver right e = cc
total_is fault.NotOver right e = cc
total_is fault.LastRackSize right e = cc
total_is fault.BadTime right e = cc
total_is fault.TooManyUsed right e = cc

-- ---- an event whose total is wrong, and one whose score is

-- a fault in an answer is that of an event
record IsFaulty (rules : Rules) (list : List (List ℕ)) (s : State) (o : Option Event) (why : RuleFault) : Type 0 where
  event : Event
  is : o ≡ Some event
  fails : fault_in rules list s event ≡ Some why

of_event : (rules : Rules) (list : List (List ℕ)) (s : State) (o : Option Event) (why : RuleFault) → fault_of_event rules list s o ≡ Some why
    → IsFaulty rules list s o why
of_event rules list s None why reported = absurd (some_fault why (sym reported))
of_event rules list s (Some e) why reported = record { event = e; is = refl; fails = reported }

there_of : (rules : Rules) (list : List (List ℕ)) (s : State) (events new : List Event) (place : ℕ) (e x : Event) → slice_get events place ≡ Some e → new ≡ set events place x
    → fault_of_event rules list s (slice_get new place) ≡ fault_in rules list s x
there_of rules list s events new place e x is made =
    ap (λ es. fault_of_event rules list s (slice_get es place)) made ∙ ap (fault_of_event rules list s) (set_there events place e x is)

pub record IsCured (rules : Rules) (list : List (List ℕ)) (s : State) (old new : List Event) (place : ℕ) : Type 0 where
  pub mended : IsMendedAt old new place
  pub reported : fault_of_event rules list s (slice_get new place) ≡ None

pub total_set : (rules : Rules) (list : List (List ℕ)) (s : State) (events new : List Event) (place : ℕ) (why : RuleFault) (right total : ℤ)
    → fault_of_event rules list s (slice_get events place) ≡ Some why → right_total why ≡ Some right → total ≡ right
    → ((e : Event) → slice_get events place ≡ Some e → new ≡ set events place (record e { total = total })) → IsCured rules list s events new place
total_set rules list s events new place why right total reported named same made =
    let of = of_event rules list s (slice_get events place) why reported in
    let e = of.event in
    let x : Event = record e { total = total } in
    let wrong = of.fails ∙ ap Some (total_is why right named) in
    let like : IsRenumbered e x = record { line = refl; player = refl; rack = refl; kind = refl; given = λ given. refl } in
    let cured : fault_in rules list s x ≡ None = ap (λ n. fault_in rules list s (record e { total = n })) same ∙ total_cures rules list s e right wrong in
    record {
      mended = subst (λ es. IsMendedAt events es place) (sym (made e of.is)) (one_set events place e x of.is like);
      reported = there_of rules list s events new place e x of.is (made e of.is) ∙ cured;
    }

-- with the right score, only the total is wrong
pub record IsScored (rules : Rules) (list : List (List ℕ)) (s : State) (old new : List Event) (place : ℕ) : Type 0 where
  pub mended : IsMendedAt old new place
  pub reported : (why : RuleFault) → fault_of_event rules list s (slice_get new place) ≡ Some why → right_score why ≡ None

pub score_set : (rules : Rules) (list : List (List ℕ)) (s : State) (events new : List Event) (place : ℕ) (score : ℤ)
    → fault_of_event rules list s (slice_get events place) ≡ Some (fault.WrongScore score)
    → ((e : Event) → slice_get events place ≡ Some e → new ≡ set events place (record e { score = score })) → IsScored rules list s events new place
score_set rules list s events new place score reported made =
    let of = of_event rules list s (slice_get events place) (fault.WrongScore score) reported in
    let e = of.event in
    let x : Event = record e { score = score } in
    let like : IsRenumbered e x =
    record { line = refl; player = refl; rack = refl; kind = refl; given = λ given. absurd (wrong_not_given rules list s e score of.fails given) } in
    record {
      mended = subst (λ es. IsMendedAt events es place) (sym (made e of.is)) (one_set events place e x of.is like);
      reported = λ why of_why.
          ap right_score (total_reported (side_of s.sides e.player).total score e.total why
          (sym (score_cures rules list s e score of.fails) ∙ sym (there_of rules list s events new place e x of.is (made e of.is)) ∙ of_why));
    }

-- ---- answers

never : (rules : Rules) (list : List (List ℕ)) (s : State) (o : Option Event) (P : RuleFault → Type 0) (result : Result ⊤ RuleFault) → fault_of_event rules list s o ≡ None
    → Reports result (fault_of_event rules list s o) → IfErr result P
never rules list s o P (Ok x) none reported = tt
never rules list s o P (Err why) none reported = absurd (some_fault why (sym reported ∙ none))

-- if the event is taken with the right total, nothing remains to be shown about a refusal
pub total_taken : (rules : Rules) (list : List (List ℕ)) (s : State) (events new : List Event) (place : ℕ) (why : RuleFault) (right total : ℤ) (P : RuleFault → Type 0) (result : Result ⊤ RuleFault)
    → fault_of_event rules list s (slice_get events place) ≡ Some why → right_total why ≡ Some right → total ≡ right
    → ((e : Event) → slice_get events place ≡ Some e → new ≡ set events place (record e { total = total }))
    → Reports result (fault_of_event rules list s (slice_get new place)) → IfErr result P
total_taken rules list s events new place why right total P result reported named same made reports =
    never rules list s (slice_get new place) P result (total_set rules list s events new place why right total reported named same made).reported reports

remaining_number : (why : RuleFault) → right_score why ≡ None → ((right : ℤ) → right_total why ≡ Some right → IsPoints right → ⊥) → IsRemaining why
remaining_number why none remaining right named = remaining right (sym (ap (λ o. option_or o (right_total why)) none) ∙ named)

pub score_remaining : (rules : Rules) (list : List (List ℕ)) (s : State) (mid new : List Event) (place : ℕ) (result : Result ⊤ RuleFault)
    → Reports result (fault_of_event rules list s (slice_get new place)) → OnErr result (new ≡ mid)
    → ((why : RuleFault) → fault_of_event rules list s (slice_get mid place) ≡ Some why → right_score why ≡ None)
    → IfErr result (λ why. (right : ℤ) → right_total why ≡ Some right → IsPoints right → ⊥) → IfErr result IsRemaining
score_remaining rules list s mid new place (Ok x) reported same only remaining = tt
score_remaining rules list s mid new place (Err why) reported same only remaining =
    remaining_number why (only why (sym (ap (λ es. fault_of_event rules list s (slice_get es place)) same) ∙ reported)) remaining

-- ---- the numbers of an event that is refused

own_numbers : (rules : Rules) (list : List (List ℕ)) (s : State) (e x : Event) → x ≡ e → HasRefusedNumbers rules list s e x
own_numbers rules list s e x same = record { total = ap (λ (d : Event). d.total) same; score = inl (ap (λ (d : Event). d.score) same) }

as_written : (rules : Rules) (list : List (List ℕ)) (s : State) (old new : List Event) (place : ℕ) → new ≡ old → IsRefusedAt rules list s old new place
as_written rules list s old new place same =
    record { numbers = λ e x of_old of_new. own_numbers rules list s e x (same_Some x e (sym of_new ∙ ap (λ es. slice_get es place) same ∙ of_old)) }

-- the events are as they were
pub refused_same : (rules : Rules) (list : List (List ℕ)) (s : State) (old new : List Event) (place : ℕ) (result : Result ⊤ RuleFault) → OnErr result (new ≡ old)
    → OnErr result (IsRefusedAt rules list s old new place)
refused_same rules list s old new place (Ok x) same = tt
refused_same rules list s old new place (Err why) same = as_written rules list s old new place same

-- they are as they were with the right score
pub refused_scored : (rules : Rules) (list : List (List ℕ)) (s : State) (events mid new : List Event) (place : ℕ) (score : ℤ) (result : Result ⊤ RuleFault)
    → fault_of_event rules list s (slice_get events place) ≡ Some (fault.WrongScore score)
    → ((e : Event) → slice_get events place ≡ Some e → mid ≡ set events place (record e { score = score }))
    → OnErr result (new ≡ mid) → OnErr result (IsRefusedAt rules list s events new place)
refused_scored rules list s events mid new place score (Ok x) reported made same = tt
refused_scored rules list s events mid new place score (Err why) reported made same =
    record {
      numbers = λ e x of_old of_new.
          let y : Event = record e { score = score } in
          let is : x ≡ y =
          same_Some x y (sym of_new ∙ ap (λ es. slice_get es place) (same ∙ made e of_old) ∙ set_there events place e y of_old) in
          let names : fault_in rules list s e ≡ Some (fault.WrongScore score) = sym (ap (fault_of_event rules list s) of_old) ∙ reported in
          record {
            total = ap (λ (d : Event). d.total) is;
            score = inr (names ∙ ap (λ (d : Event). Some (fault.WrongScore d.score)) (sym is));
          };
    }

-- ---- numbers that a record can write

pub points_kept : (events : List Event) → KeepPoints events events
points_kept events = record { points = λ points. points }

pub points_through : (a b d : List Event) → KeepPoints a b → KeepPoints b d → KeepPoints a d
points_through a b d first second = record { points = λ points. second.points (first.points points) }

each_points : (events : List Event) (place : ℕ) (e x : Event) → slice_get events place ≡ Some e → HavePoints events → HasPoints x
    → (k : ℕ) (y : Event) → slice_get (set events place x) k ≡ Some y → (k ≡ place) ⊎ (k ≡ place → ⊥) → HasPoints y
each_points events place e x is points good k y at (inl same) =
    subst HasPoints (same_Some x y (sym (set_there events place e x is) ∙ sym (ap (slice_get (set events place x)) same) ∙ at)) good
each_points events place e x is points good k y at (inr other) = points k y (sym (set_elsewhere events place k x other) ∙ at)

points_with : (events new : List Event) (place : ℕ) (change : Event → Event) (o : Option Event) → slice_get events place ≡ o
    → ((e : Event) → HasPoints e → HasPoints (change e)) → ((e : Event) → slice_get events place ≡ Some e → new ≡ set events place (change e))
    → (slice_get events place ≡ None → new ≡ events) → HavePoints events → HavePoints new
points_with events new place change None is good made past points = subst HavePoints (sym (past is)) points
points_with events new place change (Some e) is good made past points =
    subst HavePoints (sym (made e is))
    (λ k y at. each_points events place e (change e) is points (good e (points place e is)) k y at (cases_eq k place))

pub total_points : (events new : List Event) (place : ℕ) (total : ℤ) → IsPoints total
    → ((e : Event) → slice_get events place ≡ Some e → new ≡ set events place (record e { total = total }))
    → (slice_get events place ≡ None → new ≡ events) → KeepPoints events new
total_points events new place total fits made past =
    record {
      points = points_with events new place (λ (e : Event). record e { total = total }) (slice_get events place) refl
          (λ e good. record { score = good.score; total = fits }) made past;
    }

pub score_points : (events new : List Event) (place : ℕ) (score : ℤ) → IsPoints score
    → ((e : Event) → slice_get events place ≡ Some e → new ≡ set events place (record e { score = score }))
    → (slice_get events place ≡ None → new ≡ events) → KeepPoints events new
score_points events new place score fits made past =
    record {
      points = points_with events new place (λ (e : Event). record e { score = score }) (slice_get events place) refl
          (λ e good. record { score = fits; total = good.total }) made past;
    }
