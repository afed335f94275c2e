-- The place of the event of the question.
use Rattle.std.proofs.Common.{◌≡◌, ℕ, ◌<◌, List, [], ◌∷◌, length, Option, Some, None, sym, ap, ◌∙◌, subst}
use Rattle.std.proofs.lemmas.List.Quantifiers.{position-Some}
use Rattle.std.proofs.lemmas.Option.{same_Some}
use Rattle.ref_tiles.specs.declared.rulebook.Rules.{Rules}
use Rattle.gcg_read.specs.declared.events.Event.{Event}
use Rattle.game_board.specs.Places.{is_from, place_of_line}
use Rattle.explain_answers.specs.Openings.{place_of_fault}
use Rattle.game_case.specs.declared.entries.Entry.{Entry}
use Rattle.game_case.specs.declared.findings.Finding.{Finding}
use Rattle.game_case.specs.declared.findings.Finding.TheVariants as finding
use Rattle.explain_answers.specs.declared.events.Explanation.{Explanation}
use Rattle.explain_answers.specs.Events.{SayTheRacks, ExplainsEvent}
use Rattle.engine_stages.specs.declared.verdicts.GameFault.{GameFault}
use Rattle.explain_answers.specs.Explaining.{AreWholeFacts, SayTheFinding, ExplainsAt, IsExplanationAt}

-- the place of an event is within the record
pub line_within : (events : List Event) (line place : ℕ) → place_of_line events line ≡ Some place → place < length events
line_within [] line place is = cc
line_within (e ∷ events) line place is = (position-Some (is_from line) (e ∷ events) place e is).0

pub fault_within : (events : List Event) (found : Finding) (place : ℕ) → place_of_fault events found ≡ Some place → place < length events
fault_within events finding.NoGame place is = cc
fault_within events (finding.Legal complete) place is = cc
fault_within events (finding.Illegal line why) place is = line_within events line place is
fault_within events finding.Unsettled place is = cc

-- ---- what explains it

pub explains_whole : (rules : Rules) (list : List (List ℕ)) (entry : Entry) (asked : Option ℕ) (x : Explanation) → asked ≡ None → x.line ≡ None
    → AreWholeFacts rules list entry.record.events entry.finding x.facts.items → x.picture ≡ None → ExplainsAt rules list entry asked x
explains_whole rules list entry asked x none line facts picture =
    subst (λ (a : Option ℕ). ExplainsAt rules list entry a x) (sym none) (line, facts, picture)

pub explains_at : (rules : Rules) (list : List (List ℕ)) (entry : Entry) (asked : Option ℕ) (place : ℕ) (x : Explanation) → asked ≡ Some place
    → ExplainsEvent rules list entry.record.events place x → SayTheFinding rules list entry place x → ExplainsAt rules list entry asked x
explains_at rules list entry asked place x some reported racks =
    subst (λ (a : Option ℕ). ExplainsAt rules list entry a x) (sym some) (reported, racks)

pub asked_none : (rules : Rules) (list : List (List ℕ)) (entry : Entry) (asked : Option ℕ) → asked ≡ None → IsExplanationAt rules list entry asked None
asked_none rules list entry asked none = none

pub asked_some : (rules : Rules) (list : List (List ℕ)) (entry : Entry) (asked : Option ℕ) (place : ℕ) (x : Explanation) → asked ≡ Some place
    → ExplainsEvent rules list entry.record.events place x → SayTheFinding rules list entry place x → IsExplanationAt rules list entry asked (Some x)
asked_some rules list entry asked place x some reported racks =
    subst (λ (a : Option ℕ). IsExplanationAt rules list entry a (Some x)) (sym some) (reported, racks)

-- what is said of the fault on the line of the event
pub finding_said : (rules : Rules) (list : List (List ℕ)) (entry : Entry) (place own : ℕ) (fault : Option GameFault) (x : Explanation) → x.line ≡ Some own
    → ((why : GameFault) → entry.finding ≡ finding.Illegal own why → fault ≡ Some why) → SayTheRacks rules list entry.record.events place fault x.facts.items
    → SayTheFinding rules list entry place x
finding_said rules list entry place own fault x on_line is said =
    λ line why found there.
    let same : line ≡ own = same_Some line own (sym there ∙ on_line) in
    subst (λ (f : Option GameFault). SayTheRacks rules list entry.record.events place f x.facts.items)
    (is why (found ∙ ap (λ (n : ℕ). finding.Illegal n why) same)) said
