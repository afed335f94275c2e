-- The lines of the events of a legal game, by the answers of the events.
use Rattle.std.proofs.Common.{◌≡◌, ℕ, zero, suc, ◌+◌, ◌<◌, ◌≤◌, List, [], ◌∷◌, ◌++◌, decimal, length, get_or, slice_get, Some, refl, sym, ap, ◌∙◌, subst, arith}
use Rattle.std.proofs.lemmas.Option.{slice_get-get_or}
use Rattle.ref_tiles.specs.declared.rulebook.Rules.{Rules}
use Rattle.gcg_read.specs.declared.events.Event.{Event}
use Rattle.gcg_read.specs.declared.records.Record.{Record}
use Rattle.gcg_read.specs.Players.{player_of}
use Rattle.gcg_write.specs.Normal.{event_text_of}
use Rattle.game_turns.specs.LatestEvents.{standing_words}
use Rattle.game_turns.specs.Tallies.{tally_at}
use Rattle.game_report.specs.BestPlays.{ReportsBest, Appends}
use Rattle.game_report.specs.EventLines.{unlisted_text, line_with, event_line, IsEventLine, AreEventLines}
use Rattle.game_report.proofs.ReportLines.{no_lines, one_more_line}
use Rattle.game_answers.specs.declared.answers.EventAnswer.{EventAnswer}
use Rattle.game_answers.specs.Answers.{IsAnswerAt, AreAnswersTo}
use Rattle.sheet_scores.specs.Gains.{given_at}
use Rattle.game_bests.specs.Reportings.{best_reported}
use Rattle.game_answers.specs.Reports.{line_of, lines_to}
use Rattle.game_turns.specs.Unlisted.{letters_in}
use Rattle.game_answers.specs.Reports.{unlisted_reported}
use Rattle.game_bests.proofs.Reportings.{reports_best}
use Rattle.game_answers.proofs.Reportings.{reports_unlisted}

same_event : (events : List Event) (place : ℕ) (e f : Event) → slice_get events place ≡ Some e → slice_get events place ≡ Some f → e ≡ f
same_event events place e f a b = let both : Some e ≡ Some f = sym a ∙ b in cc

-- the line of an answer is the one of its event
line_is : (rules : Rules) (list : List (List ℕ)) (r : Record) (place : ℕ) (answers : List EventAnswer) (a : EventAnswer) → slice_get answers place ≡ Some a → IsAnswerAt rules list r.events place a
    → line_of r.players (slice_get r.events place) (slice_get answers place) ≡ event_line rules list r place (best_reported a.best)
unfolding event_line
line_is rules list r place answers a there at =
    let e = at.event in
    let standing = standing_words (tally_at rules r.events (place + 1)).latest in
    let unlisted : unlisted_reported (letters_in a.unlisted.items) ≡ unlisted_text list standing = ap unlisted_reported at.unlisted ∙ sym (reports_unlisted list standing) in
    ap (λ o. line_of r.players (slice_get r.events place) o) there
    ∙ ap (λ o. line_of r.players o (Some a)) at.stands
    ∙ ap (λ t. decimal e.line ++ 32 ∷ (player_of r.players e.player).nick ++ 32 ∷ event_text_of e ++ (best_reported a.best ++ t) ++ 10 ∷ []) unlisted
    ∙ sym (ap (λ o. line_with r.players o (best_reported a.best ++ unlisted_text list standing)) at.stands)

is_line : (rules : Rules) (list : List (List ℕ)) (r : Record) (place : ℕ) (answers : List EventAnswer) (a : EventAnswer) → slice_get answers place ≡ Some a → IsAnswerAt rules list r.events place a
    → IsEventLine rules list r place (line_of r.players (slice_get r.events place) (slice_get answers place))
is_line rules list r place answers a there at =
    record {
      best = best_reported a.best;
      reports = λ f stands. subst (λ (x : Event). ReportsBest rules list (tally_at rules r.events place) x (best_reported a.best)) (same_event r.events place at.event f at.stands stands)
          (reports_best rules list (tally_at rules r.events place) at.event (given_at r.events place at.event) a.best at.best);
      is = line_is rules list r place answers a there at;
    }

at_place : (rules : Rules) (list : List (List ℕ)) (r : Record) (many place : ℕ) (answers : List EventAnswer) (a : EventAnswer) → AreAnswersTo rules list r.events many answers → place < many
    → slice_get answers place ≡ Some a → IsEventLine rules list r place (line_of r.players (slice_get r.events place) (slice_get answers place))
at_place rules list r many place answers a are below there = is_line rules list r place answers a there (are.each place a there)

-- the lines of the first answers are those of the first events
are_lines : (rules : Rules) (list : List (List ℕ)) (r : Record) (many : ℕ) (answers : List EventAnswer) (d : EventAnswer) → AreAnswersTo rules list r.events many answers → (first : ℕ) → first ≤ many
    → Appends (AreEventLines rules list r first) [] (lines_to r.players r.events answers first)
are_lines rules list r many answers d are zero within = no_lines rules list r []
are_lines rules list r many answers d are (suc first) within =
    let long = are.as_many in
    let there = slice_get-get_or answers first d (omega (arith, long)) in
    let step : first + 1 ≡ suc first = omega arith in
    subst (λ n. Appends (AreEventLines rules list r n) [] (lines_to r.players r.events answers (suc first))) step
    (one_more_line rules list r [] (lines_to r.players r.events answers first) (lines_to r.players r.events answers (suc first)) first
    (are_lines rules list r many answers d are first (omega arith))
    (record { reported = line_of r.players (slice_get r.events first) (slice_get answers first); is_reported = at_place rules list r many first answers (get_or answers first d) are (omega arith) there; following = refl }))

-- without a default: if there is an answer, it is one; otherwise there are no events
by_list : (rules : Rules) (list : List (List ℕ)) (r : Record) (many : ℕ) (answers all : List EventAnswer) → all ≡ answers → AreAnswersTo rules list r.events many answers
    → Appends (AreEventLines rules list r many) [] (lines_to r.players r.events answers many)
by_list rules list r many answers [] same are =
    let none : many ≡ 0 = sym are.as_many ∙ ap length (sym same) in
    subst (λ n. Appends (AreEventLines rules list r n) [] (lines_to r.players r.events answers n)) (sym none) (no_lines rules list r [])
by_list rules list r many answers (d ∷ more) same are = are_lines rules list r many answers d are many (omega arith)

pub lines_of_answers : (rules : Rules) (list : List (List ℕ)) (r : Record) (many : ℕ) (answers : List EventAnswer) → AreAnswersTo rules list r.events many answers
    → AreEventLines rules list r many (lines_to r.players r.events answers many)
lines_of_answers rules list r many answers are =
    let lines = by_list rules list r many answers answers refl are in
    subst (AreEventLines rules list r many) (sym lines.following) lines.is_reported
