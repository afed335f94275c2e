-- What the numbers of an event can be if the rules allow it, and what cures a wrong one.
use Rattle.std.proofs.Common.{◌≡◌, ℕ, ℤ, Bool, true, false, not, List, Option, Some, None, inl, inr, refl, sym, ap, ◌∙◌}
use Rattle.std.specs.Prelude.{◌+ℤ◌, ◌⊎◌}
use Rattle.std.specs.Option.{option_or}
use Rattle.std.specs.Ordering.{int_eq}
use Rattle.std.proofs.lemmas.Option.{same_Some}
use Rattle.std.proofs.lemmas.Bool.Decides.{Decides-int_eq}
use Rattle.first_faults.specs.Checks.{fails}
use Rattle.first_faults.proofs.CheckLaws.{some_fault, test_fails, or_none}
use Rattle.ref_tiles.specs.declared.rulebook.Rules.{Rules}
use Rattle.gcg_read.specs.Numerals.{IsPoints}
use Rattle.gcg_read.specs.declared.events.Event.{Event}
use Rattle.game_turns.specs.declared.faults.RuleFault.{RuleFault}
use Rattle.game_turns.specs.declared.faults.RuleFault.TheVariants as fault
use Rattle.game_turns.specs.Seats.{side_of}
use Rattle.game_turns.specs.Tallies.{State}
use Rattle.game_turns.specs.Checks.{fault_in}
use Rattle.game_corrections.specs.Corrections.{is_given, right_number, IsRenumbered, HasPoints, IsRemaining}
use Rattle.game_corrections.proofs.Shapes.{score_wrong, total_wrong, numbers_wrong, kind_score, front, shape, front_same, front_plain, given_or_not, ruled_not_given, NamesNone}

-- ---- one check of a number

not_false : (b : Bool) → not b ≡ false → b ≡ true
not_false true e = refl
not_false false e = cc

same_number : (a b : ℤ) (f : RuleFault) → fails (not (int_eq a b)) f ≡ None → a ≡ b
same_number a b f e = (Decides-int_eq a b).0 (not_false (int_eq a b) (test_fails (not (int_eq a b)) f e))

right_passes : (b : Bool) (f : RuleFault) → b ≡ true → fails (not b) f ≡ None
right_passes true f e = refl
right_passes false f e = cc

own_number : (a : ℤ) (f : RuleFault) → fails (not (int_eq a a)) f ≡ None
own_number a f = right_passes (int_eq a a) f ((Decides-int_eq a a).1 refl)

reported_fault : (test : Bool) (f g : RuleFault) → fails test f ≡ Some g → f ≡ g
reported_fault true f g e = same_Some f g e
reported_fault false f g e = cc

-- ---- the two checks of numbers

-- if both are right, the total is the player's total before plus the score
sum_of_right : (before score total : ℤ) → total_wrong before score total ≡ None → total ≡ before +ℤ score
sum_of_right before score total e = same_number total (before +ℤ score) (fault.WrongTotal (before +ℤ score)) e

same_score : (o : Option ℤ) (x y : ℤ) → (o ≡ None → y ≡ x) → score_wrong o x ≡ None → score_wrong o y ≡ None → y ≡ x
same_score None x y given of_x of_y = given refl
same_score (Some r) x y given of_x of_y = same_number y r (fault.WrongScore r) of_y ∙ sym (same_number x r (fault.WrongScore r) of_x)

pub total_reported : (before score total : ℤ) (f : RuleFault) → total_wrong before score total ≡ Some f → f ≡ fault.WrongTotal (before +ℤ score)
total_reported before score total f e = sym (reported_fault (not (int_eq total (before +ℤ score))) (fault.WrongTotal (before +ℤ score)) f e)

total_named : (before x t y u : ℤ) (f : RuleFault) → y ≡ x → total_wrong before x t ≡ None → total_wrong before y u ≡ Some f → right_number f ≡ Some t
total_named before x t y u f same right wrong =
    ap right_number (total_reported before y u f wrong) ∙ ap (λ n. Some (before +ℤ n)) same ∙ ap Some (sym (sum_of_right before x t right))

score_or_total : (test : Bool) (before x t y u r : ℤ) (f : RuleFault) → test ≡ int_eq y r → x ≡ r → total_wrong before x t ≡ None
    → option_or (fails (not test) (fault.WrongScore r)) (total_wrong before y u) ≡ Some f → (right_number f ≡ Some x) ⊎ (right_number f ≡ Some t)
score_or_total true before x t y u r f tested same right wrong =
    inr (total_named before x t y u f ((Decides-int_eq y r).0 (sym tested) ∙ sym same) right wrong)
score_or_total false before x t y u r f tested same right wrong = inl (ap right_number (sym (same_Some (fault.WrongScore r) f wrong)) ∙ ap Some (sym same))

-- If one number is wrong and the others are right, the fault names one of these.
numbers_named : (o : Option ℤ) (before x t y u : ℤ) (f : RuleFault) → (o ≡ None → y ≡ x) → score_wrong o x ≡ None → total_wrong before x t ≡ None
    → numbers_wrong o before y u ≡ Some f → (right_number f ≡ Some x) ⊎ (right_number f ≡ Some t)
numbers_named None before x t y u f given of_score of_total wrong = inr (total_named before x t y u f (given refl) of_total wrong)
numbers_named (Some r) before x t y u f given of_score of_total wrong =
    score_or_total (int_eq y r) before x t y u r f refl (same_number x r (fault.WrongScore r) of_score) of_total wrong

score_not_total : (r n : ℤ) → fault.WrongTotal n ≡ fault.WrongScore r → ⊥
score_not_total r n e = cc

same_right : (q r : ℤ) → fault.WrongScore q ≡ fault.WrongScore r → q ≡ r
same_right q r e = same_Some q r (ap right_number e)

same_sum : (q r : ℤ) → fault.WrongTotal q ≡ fault.WrongTotal r → q ≡ r
same_sum q r e = same_Some q r (ap right_number e)

-- a wrong score names the one that the rules give
score_of_test : (test : Bool) (q r before score total : ℤ)
    → option_or (fails test (fault.WrongScore q)) (total_wrong before score total) ≡ Some (fault.WrongScore r) → q ≡ r
score_of_test true q r before score total e = same_right q r (same_Some (fault.WrongScore q) (fault.WrongScore r) e)
score_of_test false q r before score total e = absurd (score_not_total r (before +ℤ score) (sym (total_reported before score total (fault.WrongScore r) e)))

score_named : (o : Option ℤ) (before score total r : ℤ) → numbers_wrong o before score total ≡ Some (fault.WrongScore r) → o ≡ Some r
score_named None before score total r e = absurd (score_not_total r (before +ℤ score) (sym (total_reported before score total (fault.WrongScore r) e)))
score_named (Some q) before score total r e = ap Some (score_of_test (not (int_eq score q)) q r before score total e)

-- a wrong total names the sum, and then the score is not wrong
sum_of_test : (test : Bool) (q r before score total : ℤ) → option_or (fails test (fault.WrongScore q)) (total_wrong before score total) ≡ Some (fault.WrongTotal r)
    → (fails test (fault.WrongScore q) ≡ None) × (r ≡ before +ℤ score)
sum_of_test true q r before score total e = absurd (score_not_total q r (sym (same_Some (fault.WrongScore q) (fault.WrongTotal r) e)))
sum_of_test false q r before score total e = (refl, same_sum r (before +ℤ score) (total_reported before score total (fault.WrongTotal r) e))

total_named_by : (o : Option ℤ) (before score total r : ℤ) → numbers_wrong o before score total ≡ Some (fault.WrongTotal r)
    → (score_wrong o score ≡ None) × (r ≡ before +ℤ score)
total_named_by None before score total r e = (refl, same_sum r (before +ℤ score) (total_reported before score total (fault.WrongTotal r) e))
total_named_by (Some q) before score total r e = sum_of_test (not (int_eq score q)) q r before score total e

right_is_right : (before score r : ℤ) → r ≡ before +ℤ score → total_wrong before score r ≡ None
right_is_right before score r same =
    right_passes (int_eq r (before +ℤ score)) (fault.WrongTotal (before +ℤ score)) ((Decides-int_eq r (before +ℤ score)).1 same)

-- ---- events

-- if the first part names no number, a number is named by the second
second_names : (a b : Option RuleFault) (f : RuleFault) (r : ℤ) → NamesNone a → option_or a b ≡ Some f → right_number f ≡ Some r → (a ≡ None) × (b ≡ Some f)
second_names None b f r plain e named = (refl, e)
second_names (Some g) b f r plain e named = absurd (some_fault r (sym named ∙ plain f e))

pub numbers_reported : (rules : Rules) (list : List (List ℕ)) (s : State) (e : Event) (f : RuleFault) (r : ℤ) → fault_in rules list s e ≡ Some f → right_number f ≡ Some r
    → (front rules list s e.player e.score e.kind ≡ None) × (numbers_wrong (kind_score rules s e.kind) (side_of s.sides e.player).total e.score e.total ≡ Some f)
numbers_reported rules list s e f r wrong named =
    second_names (front rules list s e.player e.score e.kind) (numbers_wrong (kind_score rules s e.kind) (side_of s.sides e.player).total e.score e.total) f r
    (front_plain rules list s e.player e.score e.kind) (sym (shape rules list s e) ∙ wrong) named

-- what is known about an event that the rules allow
pub record IsRight (rules : Rules) (list : List (List ℕ)) (s : State) (e : Event) : Type 0 where
  pub before : front rules list s e.player e.score e.kind ≡ None
  pub score : score_wrong (kind_score rules s e.kind) e.score ≡ None
  pub total : total_wrong (side_of s.sides e.player).total e.score e.total ≡ None

pub all_right : (rules : Rules) (list : List (List ℕ)) (s : State) (e : Event) → fault_in rules list s e ≡ None → IsRight rules list s e
all_right rules list s e none =
    let score = score_wrong (kind_score rules s e.kind) e.score in
    let total = total_wrong (side_of s.sides e.player).total e.score e.total in
    let parts = or_none (front rules list s e.player e.score e.kind) (option_or score total) (sym (shape rules list s e) ∙ none) in
    let numbers = or_none score total parts.1 in
    record { before = parts.0; score = numbers.0; total = numbers.1 }

-- one event with numbers of its own, and another
pub same_event : (a b : Event) → IsRenumbered a b → b.score ≡ a.score → b.total ≡ a.total → b ≡ a
same_event a b is score total =
    ap (λ x. record b { line = x }) is.line ∙ ap (λ x. record b { line = a.line; player = x }) is.player
    ∙ ap (λ x. record b { line = a.line; player = a.player; rack = x }) is.rack
    ∙ ap (λ x. record b { line = a.line; player = a.player; rack = a.rack; kind = x }) is.kind
    ∙ ap (λ x. record b { line = a.line; player = a.player; rack = a.rack; kind = a.kind; score = x }) score
    ∙ ap (λ x. record a { total = x }) total

-- the numbers of an event, if its kind and its player are those of another
checks_alike : (rules : Rules) (s : State) (a b : Event) → IsRenumbered a b
    → numbers_wrong (kind_score rules s b.kind) (side_of s.sides b.player).total b.score b.total ≡ numbers_wrong (kind_score rules s a.kind) (side_of s.sides a.player).total b.score b.total
checks_alike rules s a b is =
    ap (λ k. numbers_wrong (kind_score rules s k) (side_of s.sides b.player).total b.score b.total) is.kind
    ∙ ap (λ p. numbers_wrong (kind_score rules s a.kind) (side_of s.sides p).total b.score b.total) is.player

front_alike : (rules : Rules) (list : List (List ℕ)) (s : State) (a b : Event) → IsRenumbered a b
    → front rules list s b.player b.score b.kind ≡ front rules list s a.player a.score a.kind
front_alike rules list s a b is =
    ap (λ p. front rules list s p b.score b.kind) is.player ∙ ap (front rules list s a.player b.score) is.kind
    ∙ front_same rules list s a.player a.kind b.score a.score is.given

score_alike : (rules : Rules) (s : State) (a b : Event) → IsRenumbered a b → kind_score rules s a.kind ≡ None → b.score ≡ a.score
score_alike rules s a b is none = is.given (given_or_not rules s a.kind none)

-- Of all numbers that one event may have, the rules allow only one.
pub same_where_allowed : (rules : Rules) (list : List (List ℕ)) (s : State) (a b : Event) → IsRenumbered a b → fault_in rules list s a ≡ None → fault_in rules list s b ≡ None → b ≡ a
same_where_allowed rules list s a b is of_a of_b =
    let own = all_right rules list s a of_a in
    let other = all_right rules list s b of_b in
    let there = or_none (score_wrong (kind_score rules s a.kind) b.score) (total_wrong (side_of s.sides a.player).total b.score b.total)
    (sym (checks_alike rules s a b is) ∙ (or_none (front rules list s b.player b.score b.kind)
    (numbers_wrong (kind_score rules s b.kind) (side_of s.sides b.player).total b.score b.total) (sym (shape rules list s b) ∙ of_b)).1) in
    let score = same_score (kind_score rules s a.kind) a.score b.score (score_alike rules s a b is) own.score there.0 in
    let total =
    sum_of_right (side_of s.sides a.player).total b.score b.total there.1 ∙ ap (λ n. (side_of s.sides a.player).total +ℤ n) score
    ∙ sym (sum_of_right (side_of s.sides a.player).total a.score a.total own.total) in
    same_event a b is score total

either_named : (f : RuleFault) (x t : ℤ) → IsRemaining f → (right_number f ≡ Some x) ⊎ (right_number f ≡ Some t) → IsPoints x → IsPoints t → ⊥
either_named f x t remaining (inl named) of_x of_t = remaining x named of_x
either_named f x t remaining (inr named) of_x of_t = remaining t named of_t

-- If the rules allow an event with numbers that a record can write, each fault of it with other numbers is cured by a number.
pub cured : (rules : Rules) (list : List (List ℕ)) (s : State) (a b : Event) (f : RuleFault) → IsRenumbered a b → fault_in rules list s a ≡ None → HasPoints a
    → fault_in rules list s b ≡ Some f → IsRemaining f → ⊥
cured rules list s a b f is of_a points of_b remaining =
    let own = all_right rules list s a of_a in
    let passed = front_alike rules list s a b is ∙ own.before in
    let numbers = numbers_wrong (kind_score rules s b.kind) (side_of s.sides b.player).total b.score b.total in
    let wrong = sym (checks_alike rules s a b is) ∙ sym (ap (λ o. option_or o numbers) passed) ∙ sym (shape rules list s b) ∙ of_b in
    let named =
    numbers_named (kind_score rules s a.kind) (side_of s.sides a.player).total a.score a.total b.score b.total f (score_alike rules s a b is) own.score own.total wrong in
    either_named f a.score a.total remaining named points.score points.total

-- ---- what cures

-- A wrong score is cured by the one that the fault names: then at most the total is wrong.
pub score_cures : (rules : Rules) (list : List (List ℕ)) (s : State) (e : Event) (r : ℤ) → fault_in rules list s e ≡ Some (fault.WrongScore r)
    → fault_in rules list s (record e { score = r }) ≡ total_wrong (side_of s.sides e.player).total r e.total
score_cures rules list s e r wrong =
    let before = (side_of s.sides e.player).total in
    let reported = numbers_reported rules list s e (fault.WrongScore r) r wrong refl in
    let right = score_named (kind_score rules s e.kind) before e.score e.total r reported.1 in
    let passed = front_same rules list s e.player e.kind r e.score (λ given. absurd (ruled_not_given rules s e.kind r right given)) ∙ reported.0 in
    shape rules list s (record e { score = r }) ∙ ap (λ o. option_or o (numbers_wrong (kind_score rules s e.kind) before r e.total)) passed
    ∙ ap (λ o. numbers_wrong o before r e.total) right ∙ ap (λ o. option_or o (total_wrong before r e.total)) (own_number r (fault.WrongScore r))

-- and a score that is wrong is not one that is given
pub wrong_not_given : (rules : Rules) (list : List (List ℕ)) (s : State) (e : Event) (r : ℤ) → fault_in rules list s e ≡ Some (fault.WrongScore r) → is_given e.kind ≡ true → ⊥
wrong_not_given rules list s e r wrong =
    let reported = numbers_reported rules list s e (fault.WrongScore r) r wrong refl in
    ruled_not_given rules s e.kind r (score_named (kind_score rules s e.kind) (side_of s.sides e.player).total e.score e.total r reported.1)

-- A wrong total is cured by the one that the fault names.
pub total_cures : (rules : Rules) (list : List (List ℕ)) (s : State) (e : Event) (r : ℤ) → fault_in rules list s e ≡ Some (fault.WrongTotal r)
    → fault_in rules list s (record e { total = r }) ≡ None
total_cures rules list s e r wrong =
    let before = (side_of s.sides e.player).total in
    let reported = numbers_reported rules list s e (fault.WrongTotal r) r wrong refl in
    let parts = total_named_by (kind_score rules s e.kind) before e.score e.total r reported.1 in
    shape rules list s (record e { total = r }) ∙ ap (λ o. option_or o (numbers_wrong (kind_score rules s e.kind) before e.score r)) reported.0
    ∙ ap (λ o. option_or o (total_wrong before e.score r)) parts.0
    ∙ right_is_right before e.score r parts.1
