-- No answer about the best plays before a line of a record is that an input is bad.
use Rattle.std.proofs.Common.{ℕ, List, Option, Some, None, slice_get, ⊎_elim}
use Rattle.ref_tiles.specs.declared.rulebook.Rules.{Rules}
use Rattle.gcg_read.specs.declared.records.Record.{Record}
use Rattle.engine_stages.specs.declared.verdicts.GameFault.TheVariants as game
use Rattle.engine_stages.specs.declared.verdicts.Verdict.{Verdict}
use Rattle.engine_stages.specs.declared.verdicts.Verdict.TheVariants as verdict
use Rattle.engine.specs.Boards.{place_asked}
use Rattle.engine.specs.laws.Verdicts.{own_as, done_own, illegal_own}
use Rattle.engine_stages.specs.Reporting.{IsOwn}
use Rattle.engine.specs.TopBefore.{rack_asked, AreReportedBefore, IsReportedRefusal, ByRackAsked, ByPlaceAsked, IsToppedBefore}

none_own : IsOwn verdict.BadRack
none_own = record { rules = λ bad. cc; words = λ bad. cc; lexicon = λ bad. cc; game = λ bad. cc }

nowhere_own : IsOwn verdict.BadLine
nowhere_own = record { rules = λ bad. cc; words = λ bad. cc; lexicon = λ bad. cc; game = λ bad. cc }

by_rack_own : (number : ℕ) (rules : Rules) (words : List (List ℕ)) (r : Record) (place : ℕ) (rack : Option (List ℕ)) (v : Verdict) (report : List ℕ) → ByRackAsked number rules words r place rack v report → IsOwn v
by_rack_own number rules words r place None v report is = own_as v verdict.BadRack is.verdict_is none_own
by_rack_own number rules words r place (Some rack) v report is =
    ⊎_elim
    (λ (done : AreReportedBefore number rules words rack r place v report). own_as v verdict.Done done.verdict_is done_own)
    (λ (refused : IsReportedRefusal rules words r place v report). own_as v (verdict.Illegal refused.line (game.Rule refused.why)) refused.reported.verdict_is (illegal_own refused.line (game.Rule refused.why)))
    is

by_place_own : (number : ℕ) (rules : Rules) (words : List (List ℕ)) (r : Record) (given : Option (List ℕ)) (place : Option ℕ) (v : Verdict) (report : List ℕ) → ByPlaceAsked number rules words r given place v report → IsOwn v
by_place_own number rules words r given None v report is = own_as v verdict.BadLine is.verdict_is nowhere_own
by_place_own number rules words r given (Some place) v report is = by_rack_own number rules words r place (rack_asked given (slice_get r.events place)) v report is

pub topped_before_own : (number : ℕ) (before : Option ℕ) (rules : Rules) (words : List (List ℕ)) (given : Option (List ℕ)) (r : Record) (v : Verdict) (report : List ℕ) → IsToppedBefore number before rules words given r v report → IsOwn v
topped_before_own number before rules words given r v report is = by_place_own number rules words r given (place_asked r.events before) v report is
