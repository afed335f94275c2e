-- Facts that begin with the one of a fault.
use Rattle.std.proofs.Common.{◌≡◌, ℤ, ◌&&◌, ◌||◌, Bool, true, false, List, [], ◌∷◌, ◌++◌, Option, Some, None, Result, Ok, Err, refl, sym, ap, ◌∙◌, subst, append_assoc}
use Rattle.std.specs.Prelude.{IfOk}
use Rattle.std.proofs.lemmas.Bool.{both_ways}
use Rattle.ref_play.specs.declared.faults.PlayFault.TheVariants as play
use Rattle.game_turns.specs.declared.faults.RuleFault.{RuleFault}
use Rattle.game_turns.specs.declared.faults.RuleFault.TheVariants as fault
use Rattle.explain_facts.specs.declared.facts.Fact.{Fact}
use Rattle.explain_facts.specs.declared.facts.Fact.TheVariants as fact
use Rattle.explain_facts.specs.declared.facts.plays.PlayFact.TheVariants as play_fact
use Rattle.explain_facts.specs.Moments.{Moment}
use Rattle.explain_facts.specs.FaultFacts.{is_fact_of, is_end_tile, begin_with, listed, says, names_end_tile, IsTallied}

-- what follows of a value follows of the value in a result
pub each_ok : {A E : Type 0} (P Q : A → Type 0) (r : Result A E) → ((x : A) → P x → Q x) → IfOk r P → IfOk r Q
each_ok P Q (Ok x) more holds = more x holds
each_ok P Q (Err e) more holds = tt

or_first : (a b : Bool) → a ≡ true → (a || b) ≡ true
or_first true b e = refl
or_first false b e = cc

or_second : (a b c : Bool) → (b ≡ true → c ≡ true) → (a || b) ≡ true → (a || c) ≡ true
or_second true b c more e = refl
or_second false b c more e = more e

and_second : (a b c : Bool) → (b ≡ true → c ≡ true) → (a && b) ≡ true → (a && c) ≡ true
and_second true b c more e = more e
and_second false b c more e = e

-- the fact of a fault begins the list
one_begins : (why : RuleFault) (said : Fact) (facts : List Fact) → is_fact_of why said ≡ true → begin_with why (said ∷ facts) ≡ true
unfolding begin_with
one_begins why said facts is = or_first (is_fact_of why said) (is_end_tile said && is_fact_of why (fact.Play play_fact.NotWhole) && begin_with why facts) is

-- what comes after it changes nothing
more_begin : (why : RuleFault) (facts more : List Fact) → begin_with why facts ≡ true → begin_with why (facts ++ more) ≡ true
unfolding begin_with
more_begin why [] more is = absurd (both_ways (begin_with why []) refl is)
more_begin why (said ∷ facts) more is =
    let end = is_end_tile said && is_fact_of why (fact.Play play_fact.NotWhole) in
    or_second (is_fact_of why said) (end && begin_with why facts) (end && begin_with why (facts ++ more))
    (and_second end (begin_with why facts) (begin_with why (facts ++ more)) (more_begin why facts more)) is

pub begins : (why : RuleFault) (said : Fact) (old new : List Fact) → old ≡ [] → new ≡ old ++ said ∷ [] → is_fact_of why said ≡ true → begin_with why new ≡ true
begins why said old new none is own =
    subst (λ (facts : List Fact). begin_with why facts ≡ true) (sym (is ∙ ap (λ (facts : List Fact). facts ++ said ∷ []) none)) (one_begins why said [] own)

pub goes_on : (why : RuleFault) (old new more : List Fact) → new ≡ old ++ more → begin_with why old ≡ true → begin_with why new ≡ true
goes_on why old new more is before = subst (λ (facts : List Fact). begin_with why facts ≡ true) (sym is) (more_begin why old more before)

listed_begin : (why : RuleFault) (said : Option Fact) → says why said ≡ true → begin_with why (listed said) ≡ true
listed_begin why None is = cc
listed_begin why (Some said) is = one_begins why said [] is

pub begins_listed : (why : RuleFault) (said : Option Fact) (facts : List Fact) → says why said ≡ true → facts ≡ listed said → begin_with why facts ≡ true
begins_listed why said facts is are = subst (λ (these : List Fact). begin_with why these ≡ true) (sym are) (listed_begin why said is)

-- where the game before the event is what the events before it add up to
pub begins_there : (m : Moment) (why : RuleFault) (said : Option Fact) (facts : List Fact) → (IsTallied m → says why said ≡ true) → facts ≡ listed said → IsTallied m
    → begin_with why facts ≡ true
begins_there m why said facts is are there = begins_listed why said facts (is there) are

-- whichever the right number is
pub score_begins : (a b : ℤ) (facts : List Fact) → begin_with (fault.WrongScore a) facts ≡ true → begin_with (fault.WrongScore b) facts ≡ true
unfolding begin_with
score_begins a b [] is = is
score_begins a b (said ∷ facts) is =
    let end = is_end_tile said && false in
    or_second (is_fact_of (fault.WrongScore a) said) (end && begin_with (fault.WrongScore a) facts) (end && begin_with (fault.WrongScore b) facts)
    (and_second end (begin_with (fault.WrongScore a) facts) (begin_with (fault.WrongScore b) facts) (score_begins a b facts)) is

pub total_begins : (a b : ℤ) (facts : List Fact) → begin_with (fault.WrongTotal a) facts ≡ true → begin_with (fault.WrongTotal b) facts ≡ true
unfolding begin_with
total_begins a b [] is = is
total_begins a b (said ∷ facts) is =
    let end = is_end_tile said && false in
    or_second (is_fact_of (fault.WrongTotal a) said) (end && begin_with (fault.WrongTotal a) facts) (end && begin_with (fault.WrongTotal b) facts)
    (and_second end (begin_with (fault.WrongTotal a) facts) (begin_with (fault.WrongTotal b) facts) (total_begins a b facts)) is

-- ---- a play that is not whole

abbrev not_whole : RuleFault
not_whole = fault.Play play.NotWhole

or_last : (a b : Bool) → b ≡ true → (a || b) ≡ true
or_last true b e = refl
or_last false b e = e

both : (a b : Bool) → a ≡ true → b ≡ true → (a && true && b) ≡ true
both true b e f = f
both false b e f = cc

end_tile_before : (said : Fact) (facts : List Fact) → is_end_tile said ≡ true → begin_with not_whole facts ≡ true → begin_with not_whole (said ∷ facts) ≡ true
unfolding begin_with
end_tile_before said facts end rest =
    or_last (is_fact_of not_whole said) (is_end_tile said && true && begin_with not_whole facts) (both (is_end_tile said) (begin_with not_whole facts) end rest)

some_before : (said : Option Fact) (facts : List Fact) → names_end_tile said ≡ true → begin_with not_whole facts ≡ true → begin_with not_whole (listed said ++ facts) ≡ true
some_before None facts end rest = rest
some_before (Some said) facts end rest = end_tile_before said facts end rest

-- the tiles that lie directly before and after it come first
pub begins_after : (before following : Option Fact) (none one two all : List Fact) → names_end_tile before ≡ true → names_end_tile following ≡ true → none ≡ [] → one ≡ none ++ listed before
    → two ≡ one ++ listed following → all ≡ two ++ fact.Play play_fact.NotWhole ∷ [] → begin_with not_whole all ≡ true
begins_after before following none one two all end other is is_one is_two is_all =
    let whole : all ≡ listed before ++ (listed following ++ fact.Play play_fact.NotWhole ∷ []) =
    is_all ∙ ap (λ (facts : List Fact). facts ++ fact.Play play_fact.NotWhole ∷ []) (is_two ∙ ap (λ (facts : List Fact). facts ++ listed following) (is_one ∙ ap (λ (facts : List Fact). facts ++ listed before) is))
    ∙ append_assoc (listed before) (listed following) (fact.Play play_fact.NotWhole ∷ []) in
    subst (λ (facts : List Fact). begin_with not_whole facts ≡ true) (sym whole)
    (some_before before (listed following ++ fact.Play play_fact.NotWhole ∷ []) end (some_before following (fact.Play play_fact.NotWhole ∷ []) other (one_begins not_whole (fact.Play play_fact.NotWhole) [] refl)))
