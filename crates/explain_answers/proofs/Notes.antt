-- What is noted of a record as a whole.
use Rattle.std.proofs.Common.{◌≡◌, ℕ, Bool, List, [], ◌∷◌, refl, sym, append-nil}
use Rattle.ref_tiles.specs.declared.rulebook.Rules.{Rules}
use Rattle.gcg_read.specs.declared.events.Event.{Event}
use Rattle.game_turns.specs.Places.{AreAllowed}
use Rattle.game_case.specs.declared.findings.Finding.TheVariants as finding
use Rattle.explain_facts.specs.declared.facts.Fact.{Fact}
use Rattle.explain_facts.specs.declared.facts.Fact.TheVariants as fact
use Rattle.explain_facts.specs.declared.facts.games.GameFact.TheVariants as game_fact
use Rattle.explain_facts.specs.Wholes.{AddsNotes}
use Rattle.engine_stages.specs.declared.verdicts.GameFault.{GameFault}
use Rattle.explain_answers.specs.Explaining.{GoOnWithNotes, AreWholeFacts}

pub noted : (rules : Rules) (list : List (List ℕ)) (events : List Event) (old new : List Fact) → AddsNotes rules list events old new → GoOnWithNotes rules list events old new
noted rules list events old new added = record { notes = added.notes; following = added.following; are = λ allowed. added.are }

-- nothing is noted if an event is refused
pub refused : (rules : Rules) (list : List (List ℕ)) (events : List Event) (facts : List Fact) → (AreAllowed rules list events → ⊥) → GoOnWithNotes rules list events facts facts
refused rules list events facts none = record { notes = []; following = sym (append-nil facts); are = λ allowed. absurd (none allowed) }

pub legal : (rules : Rules) (list : List (List ℕ)) (events : List Event) (complete : Bool) (facts : List Fact) → GoOnWithNotes rules list events (fact.Game game_fact.Legal ∷ []) facts
    → AreWholeFacts rules list events (finding.Legal complete) facts
legal rules list events complete facts more = record { notes = more.notes; following = more.following; reported = more.are }

pub unsettled : (rules : Rules) (list : List (List ℕ)) (events : List Event) (facts : List Fact) → GoOnWithNotes rules list events (fact.Game game_fact.Unsettled ∷ []) facts
    → AreWholeFacts rules list events finding.Unsettled facts
unsettled rules list events facts more = record { notes = more.notes; following = more.following; reported = more.are }

pub no_game : (rules : Rules) (list : List (List ℕ)) (events : List Event) (facts : List Fact) → facts ≡ fact.Game game_fact.NoEvent ∷ [] → AreWholeFacts rules list events finding.NoGame facts
no_game rules list events facts is = record { notes = []; following = is; reported = refl }

pub illegal : (rules : Rules) (list : List (List ℕ)) (events : List Event) (line : ℕ) (why : GameFault) (facts : List Fact) → facts ≡ [] → AreWholeFacts rules list events (finding.Illegal line why) facts
illegal rules list events line why facts is = record { notes = []; following = is; reported = refl }
