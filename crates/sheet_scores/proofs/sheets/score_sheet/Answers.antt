use Rattle.std.proofs.Common.{List, ◌∙◌, refl, ap, subst, length}
use Rattle.gcg_read.specs.declared.events.Event.{Event}
use Rattle.gcg_read.specs.declared.events.Seat.TheVariants.{First, Second}
use Rattle.lex_check.specs.Pairs.{list_in}
use Rattle.game_corrections.specs.LastTotals.{last_total}
use Rattle.game_walk.specs.Walks.{IsWalk}
use Rattle.sheet_scores.specs.Boards.{ArePictures, IsShownAt}
use Rattle.sheet_scores.specs.Positions.{ArePositions}
use Rattle.sheet_scores.specs.Rows.{AreSheetRows}
use Rattle.game_corrections.specs.Standings.{IsStanding}
use Rattle.sheet_scores.specs.Gains.{gains_to, IsGain}
use Rattle.sheet_scores.specs.Sums.{best_of}
use Rattle.sheet_scores.proofs.sheets.score_sheet.Goals as goal

pub returns : goal.returns
returns c =
    λ right is.
    let rules = c.args.rules.now in
    let list = list_in c.args.pair.now in
    let same = c.as_slice-events.ensures in
    let rows = c.in_ok-rows.rows.items in
    let by = subst (λ (es : List Event). (goes : List Event) → IsWalk rules list es goes c.args.walk.now → AreSheetRows rules list es goes (length es) rows) same c.in_ok-rows.ensures in
    let first = c.last_total-first_total.ensures ∙ ap (last_total First) same in
    let second = c.last_total-second_total.ensures ∙ ap (last_total Second) same in
    record {
      players = refl;
      events = same;
      first = first;
      second = second;
      standing = subst (λ t. IsStanding (last_total First c.args.game.now.events) t c.standing_of-standing.result) second
          (subst (λ t. IsStanding t c.last_total-second_total.result c.standing_of-standing.result) first c.standing_of-standing.ensures);
      rows = by right is;
      first_gains = subst (λ (es : List Event). IsGain (gains_to First es (best_of rows) (length es)) c.gains_in-first_gains.result) same c.gains_in-first_gains.ensures;
      second_gains = subst (λ (es : List Event). IsGain (gains_to Second es (best_of rows) (length es)) c.gains_in-second_gains.result) same c.gains_in-second_gains.ensures;
      boards = subst (λ (es : List Event). ArePictures es c.in_ok-boards.boards.items) same c.in_ok-boards.ensures;
      positions = subst (λ (es : List Event). ArePositions rules es c.in_ok-boards.boards.items (length c.in_ok-boards.boards.items) c.in_ok-positions.positions.items) same c.in_ok-positions.ensures;
      shown = subst (λ (es : List Event). IsShownAt es c.args.place c.shown_at.result) same c.shown_at.ensures;
    }
