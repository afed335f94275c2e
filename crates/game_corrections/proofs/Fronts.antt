-- Corrections agree with each other, event by event.
use Rattle.std.proofs.Common.{◌≡◌, ◌↔◌, ℕ, zero, suc, ◌+◌, ◌≤◌, ◌<◌, List, [], ◌∷◌, ◌++◌, length, reverse, take, get_or, slice_get, Option, Some, None, refl, sym, ap, ◌∙◌, subst, arith}
use Rattle.std.proofs.lemmas.List.{take_more, take_all}
use Rattle.std.proofs.lemmas.Option.{slice_get_within, slice_get-get_or, same_Some}
use Rattle.first_faults.proofs.CheckLaws.{some_fault}
use Rattle.ref_tiles.specs.declared.rulebook.Rules.{Rules}
use Rattle.gcg_read.specs.declared.events.Event.{Event}
use Rattle.game_turns.specs.declared.faults.RuleFault.{RuleFault}
use Rattle.game_turns.specs.Standing.{is_withdraw}
use Rattle.game_turns.specs.Tallies.{tally, tally_at, withdraws}
use Rattle.game_turns.specs.Checks.{fault_in}
use Rattle.game_turns.specs.Places.{fault_at, AreAllowed, AreAllowedTo}
use Rattle.game_turns.proofs.PlaceLaws.{fault_here}
use Rattle.game_corrections.specs.Corrections.{is_given, IsRenumbered, AreRenumbered, IsCorrection, HavePoints, IsRemaining}
use Rattle.game_corrections.proofs.Numbers.{same_where_allowed, cured}

-- ---- renumbered events

pub itself : (e : Event) → IsRenumbered e e
itself e = record { line = refl; player = refl; rack = refl; kind = refl; given = λ given. refl }

pub back : (a b : Event) → IsRenumbered a b → IsRenumbered b a
back a b is =
    record {
      line = sym is.line;
      player = sym is.player;
      rack = sym is.rack;
      kind = sym is.kind;
      given = λ given. sym (is.given (ap is_given (sym is.kind) ∙ given));
    }

pub through : (a b d : Event) → IsRenumbered a b → IsRenumbered b d → IsRenumbered a d
through a b d is on =
    record {
      line = on.line ∙ is.line;
      player = on.player ∙ is.player;
      rack = on.rack ∙ is.rack;
      kind = on.kind ∙ is.kind;
      given = λ given. on.given (ap is_given is.kind ∙ given) ∙ is.given given;
    }

pub all_themselves : (events : List Event) → AreRenumbered events events
all_themselves events =
    record { as_many = refl; each = λ place a b of_a of_b. subst (IsRenumbered a) (same_Some a b (sym of_a ∙ of_b)) (itself a) }

-- an event of one list, if another has as many events
there : (xs ys : List Event) (place : ℕ) (x : Event) → length xs ≡ length ys → slice_get xs place ≡ Some x → slice_get ys place ≡ Some (get_or ys place x)
there xs ys place x as_many is = slice_get-get_or ys place x (subst (λ n. place < n) as_many (slice_get_within xs place x is))

-- two lists that renumber the events of one
pub both_renumbered : (written a b : List Event) → AreRenumbered written a → AreRenumbered written b → AreRenumbered a b
both_renumbered written a b of_a of_b =
    record {
      as_many = of_b.as_many ∙ sym of_a.as_many;
      each = λ place x y at_a at_b.
          let w = get_or written place x in
          let at = there a written place x of_a.as_many at_a in
          through x w y (back w x (of_a.each place w x at at_a)) (of_b.each place w y at at_b);
    }

-- renumbered twice
pub all_through : (a b d : List Event) → AreRenumbered a b → AreRenumbered b d → AreRenumbered a d
all_through a b d is on =
    record {
      as_many = on.as_many ∙ is.as_many;
      each = λ place x y at_a at_d.
          let z = get_or b place x in
          let at = there a b place x (sym is.as_many) at_a in
          through x z y (is.each place x z at_a at) (on.each place z y at at_d);
    }

-- ---- the tally of lists that agree up to a place

no_event : (xs ys : List Event) (place : ℕ) (x : Event) → length xs ≡ length ys → slice_get xs place ≡ Some x → slice_get ys place ≡ None → ⊥
no_event xs ys place x as_many is none = some_fault (get_or ys place x) (sym (there xs ys place x as_many is) ∙ none)

withdrawal_of : (a b : List Event) (place : ℕ) → AreRenumbered a b → (x y : Option Event) → slice_get a place ≡ x → slice_get b place ≡ y → withdraws y ≡ withdraws x
withdrawal_of a b place like None None of_a of_b = refl
withdrawal_of a b place like None (Some y) of_a of_b = absurd (no_event b a place y like.as_many of_b of_a)
withdrawal_of a b place like (Some x) None of_a of_b = absurd (no_event a b place x (sym like.as_many) of_a of_b)
withdrawal_of a b place like (Some x) (Some y) of_a of_b = ap is_withdraw (like.each place x y of_a of_b).kind

pub same_withdrawal : (a b : List Event) (place : ℕ) → AreRenumbered a b → withdraws (slice_get b place) ≡ withdraws (slice_get a place)
same_withdrawal a b place like = withdrawal_of a b place like (slice_get a place) (slice_get b place) refl refl

pub same_tally : (rules : Rules) (a b : List Event) (place : ℕ) → AreRenumbered a b → take place b ≡ take place a → tally_at rules b place ≡ tally_at rules a place
same_tally rules a b place like same =
    ap (λ w. tally rules w (reverse (take place b))) (same_withdrawal a b place like)
    ∙ ap (λ past. tally rules (withdraws (slice_get a place)) (reverse past)) same

-- If the events of both are allowed up to a place, they agree up to it.
pub fronts_agree : (rules : Rules) (list : List (List ℕ)) (a b : List Event) (end : ℕ) → AreRenumbered a b → end ≤ length a → AreAllowedTo rules list a end → AreAllowedTo rules list b end
    → take end b ≡ take end a
fronts_agree rules list a b zero like within of_a of_b = refl
fronts_agree rules list [] b (suc end) like within of_a of_b = absurd (omega arith)
fronts_agree rules list (d ∷ rest) b (suc end) like within of_a of_b =
    let a = d ∷ rest in
    let x = get_or a end d in
    let y = get_or b end d in
    let at_a : slice_get a end ≡ Some x = slice_get-get_or a end d (omega arith) in
    let long : end < length b = subst (λ n. end < n) (sym like.as_many) (omega arith) in
    let at_b : slice_get b end ≡ Some y = slice_get-get_or b end d long in
    let before = fronts_agree rules list a b end like (omega arith) (λ k below. of_a k (omega arith)) (λ k below. of_b k (omega arith)) in
    let s = tally_at rules a end in
    let allowed_a : fault_in rules list s x ≡ None = sym (fault_here rules list a end x at_a) ∙ of_a end (omega arith) in
    let allowed_b : fault_in rules list s y ≡ None =
    sym (ap (λ t. fault_in rules list t y) (same_tally rules a b end like before)) ∙ sym (fault_here rules list b end y at_b) ∙ of_b end (omega arith) in
    let same = same_where_allowed rules list s x y (like.each end x y at_a at_b) allowed_a allowed_b in
    let step : suc end ≡ end + 1 = omega arith in
    ap (λ k. take k b) step ∙ take_more b end d long ∙ ap (λ front. front ++ y ∷ []) before ∙ ap (λ e. take end a ++ e ∷ []) same
    ∙ sym (take_more a end d (omega arith)) ∙ ap (λ k. take k a) (sym step)

-- ---- the laws

pub one_correction : (rules : Rules) (list : List (List ℕ)) (written a b : List Event) → IsCorrection rules list written a → IsCorrection rules list written b → a ≡ b
one_correction rules list written a b of_a of_b =
    let like = both_renumbered written a b of_a.renumbered of_b.renumbered in
    let agree = fronts_agree rules list a b (length a) like (omega arith) of_a.allowed (λ k below. of_b.allowed k (subst (λ n. k < n) (sym like.as_many) below)) in
    sym (take_all (length a) a (omega arith)) ∙ sym agree ∙ ap (λ n. take n b) (sym like.as_many) ∙ take_all (length b) b (omega arith)

-- If the correction stops at a fault that no number cures, there is no correction that a record can write.
pub no_correction : (rules : Rules) (list : List (List ℕ)) (written right other : List Event) (place : ℕ) (e : Event) (f : RuleFault)
    → AreRenumbered written right → AreAllowedTo rules list right place → slice_get right place ≡ Some e → fault_at rules list right place ≡ Some f → IsRemaining f
    → HavePoints other → IsCorrection rules list written other → ⊥
no_correction rules list written right other place e f renumbered allowed at wrong remaining points is =
    let like = both_renumbered written other right is.renumbered renumbered in
    let within = slice_get_within right place e at in
    let long : place < length other = subst (λ n. place < n) like.as_many within in
    let before = fronts_agree rules list other right place like (omega arith) (λ k below. is.allowed k (omega arith)) allowed in
    let o = get_or other place e in
    let at_other : slice_get other place ≡ Some o = slice_get-get_or other place e long in
    let s = tally_at rules other place in
    let of_other : fault_in rules list s o ≡ None = sym (fault_here rules list other place o at_other) ∙ is.allowed place long in
    let of_right : fault_in rules list s e ≡ Some f =
    sym (ap (λ t. fault_in rules list t e) (same_tally rules other right place like before)) ∙ sym (fault_here rules list right place e at) ∙ wrong in
    cured rules list s o e f (like.each place o e at_other at) of_other (points place o at_other) of_right remaining

pub own_correction : (rules : Rules) (list : List (List ℕ)) (events : List Event) → AreAllowed rules list events ↔ IsCorrection rules list events events
own_correction rules list events = (λ allowed. record { renumbered = all_themselves events; allowed = allowed }, λ is. is.allowed)
