-- Answers by a rack.
use Rattle.std.proofs.Common.{◌≡◌, ℕ, List, Option, Some, None, Result, Ok, Err, IfOk, IfErr, refl, sym, subst, inl, inr}
use Rattle.ref_tiles.specs.declared.rulebook.Rules.{Rules}
use Rattle.gcg_read.specs.declared.records.Record.{Record}
use Rattle.game_turns.specs.declared.faults.RuleFault.{RuleFault}
use Rattle.game_turns.specs.Places.{AreAllowed, IsFirstRefusal}
use Rattle.game_report.specs.TopPlays.{board_after, ReportsTop}
use Rattle.io_devices.specs.Devices.{Device}
use Rattle.engine_stages.specs.declared.decisions.Decision.{Decision}
use Rattle.engine_stages.specs.declared.faults.RunFault.{RunFault}
use Rattle.engine_stages.specs.declared.faults.RunFault.TheVariants as run
use Rattle.engine_stages.specs.declared.verdicts.GameFault.TheVariants as game
use Rattle.engine_stages.specs.declared.verdicts.Verdict.{Verdict}
use Rattle.engine_stages.specs.declared.verdicts.Verdict.TheVariants as verdict
use Rattle.engine_stages.specs.Reports.{illegal_line, bad_rack_line}
use Rattle.engine_stages.specs.Runs.{Decides, IsRun}
use Rattle.engine_stages.specs.Sources.{Source, AreUntouched}
use Rattle.engine_stages.specs.Reporting.{IsReported}
use Rattle.engine.specs.Topping.{IsToppedOn, ByRack, RefusesRack}
use Rattle.engine_stages.proofs.Deciding.{decided_unread, stopped_unread}
use Rattle.engine_stages.proofs.Runs.{runs}

pub topped : (rules : Rules) (words : List (List ℕ)) (rack : List ℕ) (r : Record) (report : List ℕ) → AreAllowed rules words r.events
    → ReportsTop rules words (board_after rules r.events) rack report → IsToppedOn rules words rack r verdict.Done report
topped rules words rack r report allowed reported = inl (record { verdict_is = refl; allowed = allowed; reported = reported })

pub topped_refused : (rules : Rules) (words : List (List ℕ)) (rack : List ℕ) (r : Record) (line : ℕ) (why : RuleFault) (v : Verdict) (report : List ℕ) → IsFirstRefusal rules words r.events line why
    → IsReported (verdict.Illegal line (game.Rule why)) (illegal_line line (game.Rule why)) v report → IsToppedOn rules words rack r v report
topped_refused rules words rack r line why v report first reported = inr (record { line = line; why = why; first = first; reported = reported })

-- ---- bytes that are not a rack

pub no_rack : {A : Type 0} (meant given : Option A) → given ≡ meant → ((rack : A) → given ≡ Some rack → ⊥) → meant ≡ None
no_rack meant None same none = sym same
no_rack meant (Some rack) same none = absurd (none rack refl)

-- the report says so, and no input is touched
none_decided : {A : Type 0} (sources : List Source) (IsAnswer : A → List (List ℕ) → Verdict → List ℕ → Type 0) (rack : Option A) (decided : Result Decision RunFault)
    → rack ≡ None → AreUntouched sources → IfOk decided (λ d. IsReported verdict.BadRack bad_rack_line d.verdict d.report.items) → IfErr decided (λ fault. fault ≡ run.NoMemory)
    → Decides sources (ByRack IsAnswer rack) decided
none_decided {A = A} sources IsAnswer rack (Ok d) none still reported memory =
    decided_unread sources (ByRack IsAnswer rack) d still (λ texts. subst (λ (o : Option A). ByRack IsAnswer o texts d.verdict d.report.items) (sym none) reported)
none_decided {A = A} sources IsAnswer rack (Err fault) none still reported memory =
    subst (λ (f : RunFault). Decides sources (ByRack IsAnswer rack) (Err f)) (sym memory) (stopped_unread sources (ByRack IsAnswer rack) still)

pub runs_without : {A : Type 0} (sources : List Source) (IsAnswer : A → List (List ℕ) → Verdict → List ℕ → Type 0) (rack : Option A) (old new : Device) (result : Result Verdict RunFault)
    → rack ≡ None → AreUntouched sources → RefusesRack old new result → IsRun sources (ByRack IsAnswer rack) old new result
runs_without sources IsAnswer rack old new result none still refuses =
    runs (none_decided sources IsAnswer rack refuses.decided none still refuses.reported refuses.memory) refuses.sent

-- ---- bytes that are a rack

pub runs_by_rack : {A : Type 0} (sources : List Source) (IsAnswer : A → List (List ℕ) → Verdict → List ℕ → Type 0) (rack : Option A) (tiles : A) (old new : Device)
    (result : Result Verdict RunFault) → rack ≡ Some tiles → IsRun sources (IsAnswer tiles) old new result → IsRun sources (ByRack IsAnswer rack) old new result
runs_by_rack {A = A} sources IsAnswer rack tiles old new result some ran =
    subst (λ (o : Option A). IsRun sources (ByRack IsAnswer o) old new result) (sym some) ran

-- the same by a question that was made of a number and a line
pub runs_as_asked : {A : Type 0} (sources : List Source) (IsAnswer : ℕ → Option ℕ → A → List (List ℕ) → Verdict → List ℕ → Type 0) (number own_number : ℕ) (before own_before : Option ℕ) (rack : Option A) (tiles : A)
    (old new : Device) (result : Result Verdict RunFault) → own_number ≡ number → own_before ≡ before → rack ≡ Some tiles
    → IsRun sources (IsAnswer own_number own_before tiles) old new result → IsRun sources (ByRack (IsAnswer number before) rack) old new result
runs_as_asked sources IsAnswer number own_number before own_before rack tiles old new result same_number same_before some ran =
    runs_by_rack sources (IsAnswer number before) rack tiles old new result some
    (subst (λ (b : Option ℕ). IsRun sources (IsAnswer number b tiles) old new result) same_before (subst (λ (n : ℕ). IsRun sources (IsAnswer n own_before tiles) old new result) same_number ran))
