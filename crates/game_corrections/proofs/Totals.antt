-- The last total of a player and its line, event by event.
use Rattle.std.proofs.Common.{◌≡◌, ℕ, ℤ, ◌+◌, ◌<◌, true, false, if◌then◌else◌, List, [], ◌∷◌, ◌++◌, length, take, get_or, Option, Some, None, refl, sym, ap, ◌∙◌}
use Rattle.std.proofs.lemmas.List.{take_more}
use Rattle.gcg_read.specs.Players.{same_seat}
use Rattle.gcg_read.specs.declared.events.Event.{Event}
use Rattle.gcg_read.specs.declared.events.Seat.{Seat}
use Rattle.game_corrections.specs.LastTotals.{later, last_total, later_line, last_line}

later_none : (one : Option ℤ) → later one None ≡ one
later_none None = refl
later_none (Some total) = refl

later_later : (one two three : Option ℤ) → later one (later two three) ≡ later (later one two) three
later_later None two three = refl
later_later (Some total) two three = refl

-- the last total of a list and of one event after it
pub total_after : (player : Seat) (events : List Event) (e : Event) → last_total player (events ++ e ∷ []) ≡ later (last_total player (e ∷ [])) (last_total player events)
total_after player [] e = sym (later_none (last_total player (e ∷ [])))
total_after player (d ∷ events) e =
    ap (λ t. later t (last_total player (d ∷ []))) (total_after player events e) ∙ sym (later_later (last_total player (e ∷ [])) (last_total player events) (last_total player (d ∷ [])))

-- after one more event
pub total_more : (player : Seat) (events : List Event) (place : ℕ) (e : Event) (total : Option ℤ) → place < length events → e ≡ get_or events place e
    → total ≡ last_total player (take place events) → later (last_total player (e ∷ [])) total ≡ last_total player (take (place + 1) events)
total_more player events place e total within there so_far =
    let more : take (place + 1) events ≡ take place events ++ e ∷ [] = take_more events place e within ∙ ap (λ x. take place events ++ x ∷ []) (sym there) in
    ap (later (last_total player (e ∷ []))) so_far ∙ sym (total_after player (take place events) e) ∙ sym (ap (last_total player) more)

-- the last event is the player's
pub last_own : (player : Seat) (events earlier : List Event) (e : Event) → events ≡ earlier ++ e ∷ [] → same_seat e.player player ≡ true → Some e.total ≡ last_total player events
last_own player events earlier e split own =
    ap (λ b. later (if b then Some e.total else None) (last_total player earlier)) (sym own) ∙ sym (total_after player earlier e) ∙ ap (last_total player) (sym split)

-- the last event is the other player's
pub last_other : (player : Seat) (events earlier : List Event) (e : Event) → events ≡ earlier ++ e ∷ [] → same_seat e.player player ≡ false → last_total player earlier ≡ last_total player events
last_other player events earlier e split other =
    ap (λ b. later (if b then Some e.total else None) (last_total player earlier)) (sym other) ∙ sym (total_after player earlier e) ∙ ap (last_total player) (sym split)

-- ---- the line

later_line_none : (one : Option ℕ) → later_line one None ≡ one
later_line_none None = refl
later_line_none (Some line) = refl

later_lines : (one two three : Option ℕ) → later_line one (later_line two three) ≡ later_line (later_line one two) three
later_lines None two three = refl
later_lines (Some line) two three = refl

line_after : (player : Seat) (events : List Event) (e : Event) → last_line player (events ++ e ∷ []) ≡ later_line (last_line player (e ∷ [])) (last_line player events)
line_after player [] e = sym (later_line_none (last_line player (e ∷ [])))
line_after player (d ∷ events) e =
    ap (λ t. later_line t (last_line player (d ∷ []))) (line_after player events e) ∙ sym (later_lines (last_line player (e ∷ [])) (last_line player events) (last_line player (d ∷ [])))

-- the last event is the player's
pub line_own : (player : Seat) (events earlier : List Event) (e : Event) → events ≡ earlier ++ e ∷ [] → same_seat e.player player ≡ true → Some e.line ≡ last_line player events
line_own player events earlier e split own =
    ap (λ b. later_line (if b then Some e.line else None) (last_line player earlier)) (sym own) ∙ sym (line_after player earlier e) ∙ ap (last_line player) (sym split)

-- the last event is the other player's
pub line_other : (player : Seat) (events earlier : List Event) (e : Event) → events ≡ earlier ++ e ∷ [] → same_seat e.player player ≡ false → last_line player earlier ≡ last_line player events
line_other player events earlier e split other =
    ap (λ b. later_line (if b then Some e.line else None) (last_line player earlier)) (sym other) ∙ sym (line_after player earlier e) ∙ ap (last_line player) (sym split)
