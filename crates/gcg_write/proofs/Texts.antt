-- Texts line by line, in the writer's own form.
use Rattle.std.proofs.Common.{◌≡◌, ℕ, ◌+◌, List, [], ◌∷◌, ◌++◌, map, arith, sym, ap, refl, ◌∙◌}
use Rattle.std.specs.List.{range_with_len}
use Rattle.std.proofs.lemmas.List.{append-nil, append_assoc, map-id}
use Rattle.std.proofs.lemmas.List.Concat.{flat_map-append}
use Rattle.std.specs.Prelude.{codes}
use Rattle.gcg_read.specs.declared.events.Event.{Event}
use Rattle.gcg_read.specs.declared.players.Players.{Players}
use Rattle.gcg_read.specs.declared.records.Record.{Record}
use Rattle.std.proofs.lemmas.List.FromFn.{map-range_with_len_more}
use Rattle.gcg_write.specs.Fields.{letter_text, letters_to}
use Rattle.gcg_write.specs.Normal.{event_line, events_text, player_lines, text_of_lines, normal_of}

pub letters_start : (counts : List ℕ) → letters_to counts 0 ≡ []
unfolding letters_to
letters_start counts = refl

range_more : (n : ℕ) → range_with_len 0 (n + 1) ≡ range_with_len 0 n ++ n ∷ []
range_more n =
    let more = map-range_with_len_more (λ (k : ℕ). k) 0 n n (omega arith) in
    sym (map-id (range_with_len 0 (n + 1))) ∙ more ∙ ap (λ front. front ++ n ∷ []) (map-id (range_with_len 0 n))

pub letters_more : (counts : List ℕ) (n : ℕ) → letters_to counts (n + 1) ≡ letters_to counts n ++ letter_text counts n
unfolding letters_to
letters_more counts n =
    rw (range_more n, flat_map-append (letter_text counts) (range_with_len 0 n) (n ∷ []), append-nil (letter_text counts n)) refl

lines_of_events : (players : Players) (events : List Event) → text_of_lines (map (event_line players) events) ≡ events_text players events
lines_of_events players [] = refl
lines_of_events players (event ∷ events) = ap (λ t. (event_line players event ++ 10 ∷ []) ++ t) (lines_of_events players events)

normal_parts : (r : Record)
    → normal_of r ≡ text_of_lines (player_lines (codes "#player1 ") r.players.first)
    ++ text_of_lines (player_lines (codes "#player2 ") r.players.second) ++ events_text r.players r.events
unfolding normal_of
normal_parts r =
    let one = player_lines (codes "#player1 ") r.players.first in
    let two = player_lines (codes "#player2 ") r.players.second in
    flat_map-append (λ (line : List ℕ). line ++ 10 ∷ []) (one ++ two) (map (event_line r.players) r.events)
    ∙ ap (λ t. t ++ text_of_lines (map (event_line r.players) r.events)) (flat_map-append (λ (line : List ℕ). line ++ 10 ∷ []) one two)
    ∙ ap (λ t. text_of_lines one ++ text_of_lines two ++ t) (lines_of_events r.players r.events)

-- the normal form after an output, part by part
pub normal_after : (out : List ℕ) (r : Record)
    → out ++ normal_of r ≡ out ++ text_of_lines (player_lines (codes "#player1 ") r.players.first)
    ++ text_of_lines (player_lines (codes "#player2 ") r.players.second) ++ events_text r.players r.events
normal_after out r =
    let one = text_of_lines (player_lines (codes "#player1 ") r.players.first) in
    let two = text_of_lines (player_lines (codes "#player2 ") r.players.second) in
    ap (λ (text : List ℕ). out ++ text) (normal_parts r) ∙ sym (append_assoc out (one ++ two) (events_text r.players r.events))
    ∙ ap (λ (text : List ℕ). text ++ events_text r.players r.events) (sym (append_assoc out one two))
