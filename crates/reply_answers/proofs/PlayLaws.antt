-- The requested best plays, by the given rack.
use Rattle.std.proofs.Common.{◌≡◌, ℕ, List, Option, Some, None, Result, Err, IfOk, sym, subst}
use Rattle.ref_tiles.specs.declared.rulebook.Rules.{Rules}
use Rattle.engine_stages.specs.declared.decisions.Decision.{Decision}
use Rattle.engine_stages.specs.declared.faults.RunFault.{RunFault}
use Rattle.engine_stages.specs.declared.verdicts.Verdict.TheVariants as verdict
use Rattle.engine_stages.specs.Reports.{bad_rack_line}
use Rattle.engine_stages.specs.Reporting.{IsReported}
use Rattle.game_answers.specs.declared.tops.FoundPlays.{FoundPlays}
use Rattle.game_answers.specs.Tops.{AreTopPlaysOf}
use Rattle.reply_answers.specs.Plays.{ArePlaysBy}

pub by_rack : (number asked : ℕ) (line before : Option ℕ) (rules : Rules) (list : List (List ℕ)) (given : Option (Option (List ℕ))) (rack : Option (List ℕ)) (text : List ℕ)
    (result : Result (Result FoundPlays Decision) RunFault) → given ≡ Some rack → number ≡ asked → before ≡ line
    → IfOk result (AreTopPlaysOf number before rules list rack text) → IfOk result (ArePlaysBy asked line rules list given text)
by_rack number asked line before rules list given rack text result is same at found =
    subst (λ g. IfOk result (ArePlaysBy asked line rules list g text)) (sym is)
    (subst (λ n. IfOk result (AreTopPlaysOf n line rules list rack text)) same
    (subst (λ l. IfOk result (AreTopPlaysOf number l rules list rack text)) at found))

pub by_none : (asked : ℕ) (line : Option ℕ) (rules : Rules) (list : List (List ℕ)) (given : Option (Option (List ℕ))) (text : List ℕ) (d : Decision) → given ≡ None
    → IsReported verdict.BadRack bad_rack_line d.verdict d.report.items → ArePlaysBy asked line rules list given text (Err d)
by_none asked line rules list given text d is reported = subst (λ g. ArePlaysBy asked line rules list g text (Err d)) (sym is) reported
