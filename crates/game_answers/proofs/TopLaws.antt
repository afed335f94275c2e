-- What is found for a question about the best plays before a line, and its report.
use Rattle.std.proofs.Common.{ℕ, List, Option, Some, None, inl, inr, refl, sym, subst}
use Rattle.std.specs.Prelude.{slice_get}
use Rattle.ref_tiles.specs.declared.rulebook.Rules.{Rules}
use Rattle.gcg_read.specs.declared.records.Record.{Record}
use Rattle.game_turns.specs.Tallies.{tally_at}
use Rattle.engine_stages.specs.declared.verdicts.GameFault.TheVariants as game
use Rattle.engine_stages.specs.declared.verdicts.Verdict.TheVariants as verdict
use Rattle.engine_stages.specs.Reports.{illegal_line}
use Rattle.engine.specs.Boards.{place_asked}
use Rattle.engine.specs.TopBefore.{rack_asked, ByRackAsked, ByPlaceAsked}
use Rattle.game_answers.specs.declared.tops.FoundPlays.{FoundPlays}
use Rattle.game_answers.specs.declared.tops.FoundPlays.TheVariants as found
use Rattle.game_answers.specs.Plays.{plays_text}
use Rattle.game_answers.specs.Tops.{verdict_of, plays_report, AreFoundBy, AreFoundAt, AreTopPlays}
use Rattle.game_answers.proofs.PlayLaws.{reports_first}

reported_by : (number : ℕ) (rules : Rules) (list : List (List ℕ)) (r : Record) (place : ℕ) (rack : Option (List ℕ)) (x : FoundPlays) → AreFoundBy number rules list r.events place rack x
    → ByRackAsked number rules list r place rack (verdict_of x) (plays_report x)
reported_by number rules list r place rack (found.Plays own plays) is =
    subst (λ o. ByRackAsked number rules list r place o verdict.Done (plays_text plays.items)) (sym is.0)
    (inl (record { verdict_is = refl; allowed = is.1; reported = reports_first number rules list (tally_at rules r.events place).board own plays.items is.2 }))
reported_by number rules list r place rack (found.Refused line why) is =
    subst (λ o. ByRackAsked number rules list r place o (verdict.Illegal line (game.Rule why)) (illegal_line line (game.Rule why))) (sym is.1)
    (inr (record { line = line; why = why; refused = is.2; reported = record { verdict_is = refl; reported = refl } }))
reported_by number rules list r place rack found.NoRack is =
    subst (λ o. ByRackAsked number rules list r place o (verdict_of found.NoRack) (plays_report found.NoRack)) (sym is) (record { verdict_is = refl; reported = refl })
reported_by number rules list r place rack found.NoLine is = absurd is

reported_at : (number : ℕ) (rules : Rules) (list : List (List ℕ)) (given : Option (List ℕ)) (r : Record) (place : Option ℕ) (x : FoundPlays) → AreFoundAt number rules list given r.events place x
    → ByPlaceAsked number rules list r given place (verdict_of x) (plays_report x)
reported_at number rules list given r None x is =
    subst (λ (y : FoundPlays). ByPlaceAsked number rules list r given None (verdict_of y) (plays_report y)) (sym is) (record { verdict_is = refl; reported = refl })
reported_at number rules list given r (Some place) x is = reported_by number rules list r place (rack_asked given (slice_get r.events place)) x is

-- the report of what is found is the one that `top` writes
pub reports_plays : (number : ℕ) (before : Option ℕ) (rules : Rules) (list : List (List ℕ)) (given : Option (List ℕ)) (r : Record) (x : FoundPlays)
    → AreFoundAt number rules list given r.events (place_asked r.events before) x → AreTopPlays number before rules list given r x
reports_plays number before rules list given r x is = record { plays = is; reported = reported_at number rules list given r (place_asked r.events before) x is }
