use Rattle.std.proofs.lemmas.Int.{ints}
use Rattle.std.proofs.Common.{rules, w32, to_z-of_z, ℤ, Bool, ◌+◌, ◌<◌, ◌∙◌, List, ap, subst, length, slice_get, refl}
use Rattle.std.proofs.lemmas.Option.{slice_get_read}
use Rattle.ref_tiles.specs.declared.rulebook.Rules.{Rules}
use Rattle.gcg_read.specs.declared.events.Event.{Event}
use Rattle.game_turns.specs.Tallies.{withdraws}
use Rattle.lex_check.specs.Pairs.{list_in}
use Rattle.game_walk.specs.declared.numbers.Numbers.{Numbers}
use Rattle.game_walk.specs.Walks.{IsWalk}
use Rattle.game_corrections.specs.WrongNumbers.{had_before}
use Rattle.sheet_scores.specs.Gains.{given_by}
use Rattle.sheet_scores.specs.Rows.{should_be, known_if, total_should_be, IsBestAt, IsNotedAt}
use Rattle.game_walk.proofs.Steps.{walk_renumbered}
use Rattle.sheet_scores.proofs.SameTurns.{same_best}
use Rattle.sheet_scores.proofs.rows.row_at.Goals as goal

pub returns-clause-row : goal.returns-clause-row
returns-clause-row c =
    λ right is.
    let own_rules = c.args.rules.now in
    let list = list_in c.args.pair.now in
    let events = c.args.events.now in
    let place = c.args.place in
    let own = c.index-events-place.result in
    let within : place < length events = c.requires.place in
    let stood = slice_get_read events (length events) place own refl within c.index-events-place.is in
    let numbers = c.right_numbers-right.ensures own_rules list events right is stood in
    let noted =
    subst (λ l. (by : Rules) (written goes : List Event) → IsWalk by l written goes c.args.walk.now → place < length written
    → IsNotedAt by l goes place c.in_ok-noted.noted.allowed c.in_ok-noted.noted.unlisted.items) c.list.ensures.list c.in_ok-noted.ensures in
    let taken = withdraws (slice_get events (place + 1)) in
    let gave =
    to_z-of_z {w = w32} (search (rules, ints)) ∙ c.given_by-gave.ensures ∙ ap (λ (b : Bool). given_by b c.right_numbers-right.result.score) c.is_taken_back-taken_back.ensures
    ∙ ap (λ (n : Numbers). given_by taken n.score) numbers.own in
    record {
      own = own;
      event = numbers.event;
      stood = stood;
      stands = numbers.stands;
      score = c.should_be.ensures ∙ ap (λ (n : Numbers). should_be own.score n.score) numbers.own;
      total = c.total_should_be.ensures
          ∙ ap (λ (h : ℤ). total_should_be h own c.known_if-due.result) (to_z-of_z {w = w32} (search (rules, ints)) ∙ c.had_before-had.ensures.had)
          ∙ ap (total_should_be (had_before events own.player place) own) (c.known_if-due.ensures ∙ ap (λ (n : Numbers). known_if c.in_ok-noted.noted.allowed n.total) numbers.own);
      best =
          same_best own_rules list right place own numbers.event (given_by taken numbers.event.score) c.in_ok-there.there.best
          ((walk_renumbered own_rules list events right c.args.walk.now is).each place own numbers.event stood numbers.stands)
          (subst (λ (gave : ℤ). IsBestAt own_rules list right place own gave c.in_ok-there.there.best) gave (c.in_ok-there.ensures.best events right is within).0);
      under = (c.in_ok-there.ensures.best events right is within).1;
      noted = noted own_rules events right is within;
      taken_back = c.is_taken_back-taken_back.ensures;
    }
