-- How many points a player left, event by event.
use Rattle.std.proofs.Common.{◌≡◌, ℕ, ◌+◌, ◌^◌, ◌<◌, ◌≤◌, List, length, get_or, slice_get, Some, refl, sym, ap, ◌∙◌}
use Rattle.std.proofs.lemmas.Option.{slice_get_read}
use Rattle.gcg_read.specs.declared.events.Event.{Event}
use Rattle.gcg_read.specs.declared.events.Seat.{Seat}
use Rattle.sheet_scores.specs.Gains.{gain_of, gains_to}
use Rattle.sheet_scores.proofs.GainLaws.{gains_more, too_many}
use Rattle.game_answers.specs.declared.answers.EventAnswer.{EventAnswer}
use Rattle.game_answers.specs.Leaving.{best_in, best_of}

-- what is counted at a place
remaining_here : (player : Seat) (events : List Event) (answers : List EventAnswer) (place : ℕ) (e : Event) (a : EventAnswer) (more : ℕ) → length answers ≡ length events → place < length events
    → e ≡ get_or events place e → a ≡ get_or answers place a → more ≡ gain_of player (Some e) (Some a.best) → more ≡ gain_of player (slice_get events place) (best_of answers place)
remaining_here player events answers place e a more many below read answer here =
    let event = slice_get_read events (length events) place e refl below read in
    let answered = slice_get_read answers (length events) place a (sym many) below answer in
    here ∙ ap (λ o. gain_of player o (Some a.best)) (sym event) ∙ ap (λ o. gain_of player (slice_get events place) (best_in o)) (sym answered)

-- one more event
pub remaining_more : (player : Seat) (events : List Event) (answers : List EventAnswer) (place : ℕ) (e : Event) (a : EventAnswer) (remaining more sum : ℕ) → length answers ≡ length events → place < length events
    → e ≡ get_or events place e → a ≡ get_or answers place a → remaining ≡ gains_to player events (best_of answers) place → more ≡ gain_of player (Some e) (Some a.best) → sum ≡ remaining + more
    → sum ≡ gains_to player events (best_of answers) (place + 1)
remaining_more player events answers place e a remaining more sum many below read answer so_far here is =
    is ∙ ap (λ n. n + more) so_far ∙ ap (λ n. gains_to player events (best_of answers) place + n) (remaining_here player events answers place e a more many below read answer here)
    ∙ sym (gains_more player events (best_of answers) place)

-- after the last event
pub remaining_in_all : (player : Seat) (events : List Event) (answers : List EventAnswer) (place remaining : ℕ) → place ≡ length events → remaining ≡ gains_to player events (best_of answers) place
    → remaining ≡ gains_to player events (best_of answers) (length events)
remaining_in_all player events answers place remaining last is = is ∙ ap (gains_to player events (best_of answers)) last

-- a partial sum that does not fit
pub remaining_too_many : (player : Seat) (events : List Event) (answers : List EventAnswer) (place : ℕ) (e : Event) (a : EventAnswer) (remaining more : ℕ) → length answers ≡ length events
    → place < length events → e ≡ get_or events place e → a ≡ get_or answers place a → remaining ≡ gains_to player events (best_of answers) place → more ≡ gain_of player (Some e) (Some a.best)
    → (remaining + more < 2 ^ 64 → ⊥) → 2 ^ 64 ≤ gains_to player events (best_of answers) (length events)
remaining_too_many player events answers place e a remaining more many below read answer so_far here full =
    too_many player events (best_of answers) place (length events) remaining more so_far (remaining_here player events answers place e a more many below read answer here) below full
