-- The event lines of a report, one after the other.
use Rattle.std.proofs.Common.{◌≡◌, ℕ, ◌+◌, ◌<◌, Bool, true, false, List, [], ◌∷◌, ◌++◌, length, get_or, refl, sym, ap, ◌∙◌, subst, arith, ◌-◌, slice_get, Some, ⊎_elim}
use Rattle.std.specs.Prelude.{codes, decimal, slice_index_or}
use Rattle.std.specs.List.{list_all, flat_map, HoldsAt}
use Rattle.std.proofs.lemmas.Bool.{cases_eq}
use Rattle.std.proofs.lemmas.List.{append-nil, append_assoc, get_or_append_left, get_or-append_right, length-append}
use Rattle.std.proofs.lemmas.Option.{slice_get-get_or}
use Rattle.ref_tiles.specs.declared.rulebook.Rules.{Rules}
use Rattle.gcg_read.specs.declared.records.Record.{Record}
use Rattle.gcg_read.specs.declared.events.Event.{Event}
use Rattle.gcg_read.specs.Players.{player_of}
use Rattle.gcg_write.specs.Normal.{event_text_of}
use Rattle.game_turns.specs.LatestEvents.{standing_words}
use Rattle.game_turns.specs.Tallies.{State, tally, tally_at, withdraws}
use Rattle.lex_list.specs.Words.{is_listed}
use Rattle.game_report.specs.BestPlays.{ReportsBest, ReportsBestAt, Appends}
use Rattle.game_report.specs.EventLines.{unlisted_word, unlisted_text, line_with, event_line, lines_from, IsEventLine, AreEventLines}

-- one more line after those from a place on
lines_more : (rules : Rules) (list : List (List ℕ)) (r : Record) (place : ℕ) (best : List (List ℕ)) (reported : List ℕ)
    → lines_from rules list r place (best ++ reported ∷ []) ≡ lines_from rules list r place best ++ event_line rules list r (place + length best) reported
lines_more rules list r place [] reported =
    let same : place + 0 ≡ place = omega arith in
    rw same (append-nil (event_line rules list r place reported))
lines_more rules list r place (first ∷ best) reported =
    let same : place + 1 + length best ≡ place + length (first ∷ best) = omega arith in
    ap (λ t. event_line rules list r place first ++ t) (lines_more rules list r (place + 1) best reported)
    ∙ sym (append_assoc (event_line rules list r place first) (lines_from rules list r (place + 1) best) (event_line rules list r (place + 1 + length best) reported))
    ∙ ap (λ n. (event_line rules list r place first ++ lines_from rules list r (place + 1) best) ++ event_line rules list r n reported) same

-- what is said at each place, with one more
reported_more : (rules : Rules) (list : List (List ℕ)) (r : Record) (many : ℕ) (best : List (List ℕ)) (reported : List ℕ) → length best ≡ many
    → ((place : ℕ) → place < many → ReportsBestAt rules list r.events place (slice_index_or best place [])) → ReportsBestAt rules list r.events many reported
    → (place : ℕ) → place < many + 1 → ReportsBestAt rules list r.events place (slice_index_or (best ++ reported ∷ []) place [])
reported_more rules list r many best reported count each reports place below =
    ⊎_elim
    (λ (e : place ≡ many).
    let none : place - length best ≡ 0 = omega arith in
    let here : get_or (best ++ reported ∷ []) place [] ≡ reported = get_or-append_right best (reported ∷ []) (length best) place [] refl (omega arith) ∙ ap (λ k. get_or (reported ∷ []) k []) none in
    subst (λ t. ReportsBestAt rules list r.events place t) (sym here) (subst (λ k. ReportsBestAt rules list r.events k reported) (sym e) reports))
    (λ (ne : place ≡ many → ⊥).
    let there : get_or (best ++ reported ∷ []) place [] ≡ get_or best place [] = get_or_append_left best (reported ∷ []) [] place (omega arith) in
    subst (λ t. ReportsBestAt rules list r.events place t) (sym there) (each place (omega arith)))
    (cases_eq place many)

-- one more line after those so far
pub one_more_line : (rules : Rules) (list : List (List ℕ)) (r : Record) (start old new : List ℕ) (place : ℕ) → Appends (AreEventLines rules list r place) start old → Appends (IsEventLine rules list r place) old new
    → Appends (AreEventLines rules list r (place + 1)) start new
one_more_line rules list r start old new place lines line =
    let are = lines.is_reported in
    let is = line.is_reported in
    record {
      reported = lines.reported ++ line.reported;
      is_reported = record {
        best = are.best ++ is.best ∷ [];
        count = let long = length-append are.best (is.best ∷ []) in let many = are.count in omega arith;
        each = reported_more rules list r place are.best is.best are.count are.each is.reports;
        are =
            let many = are.count in let same : 0 + length are.best ≡ place = omega arith in
            ap (λ t. t ++ line.reported) are.are ∙ ap (λ t. lines_from rules list r 0 are.best ++ t) (is.is ∙ ap (λ n. event_line rules list r n is.best) (sym same))
            ∙ sym (lines_more rules list r 0 are.best is.best);
      };
      following = line.following ∙ ap (λ t. t ++ line.reported) lines.following ∙ append_assoc start lines.reported line.reported;
    }

-- no lines yet
pub no_lines : (rules : Rules) (list : List (List ℕ)) (r : Record) (text : List ℕ) → Appends (AreEventLines rules list r 0) text text
no_lines rules list r text =
    record {
      reported = [];
      is_reported = record { best = []; count = refl; each = λ place below. absurd (omega (arith, below)); are = refl };
      following = sym (append-nil text);
    }

-- the tally before the first event, whatever that is
same_start : (rules : Rules) (w : Bool) → tally rules false [] ≡ tally rules w []
unfolding tally
same_start rules true = refl
same_start rules false = refl

pub start_of_game : (rules : Rules) (events : List Event) (s : State) → s ≡ tally rules false [] → s ≡ tally_at rules events 0
start_of_game rules events s start = start ∙ same_start rules (withdraws (slice_get events 0))

-- the words that are said not to be in the list
pub some_unlisted : (list words : List (List ℕ)) (start old new : List ℕ) → false ≡ list_all (is_listed list) words → old ≡ start ++ codes " unlisted" → new ≡ old ++ flat_map (unlisted_word list) words
    → new ≡ start ++ unlisted_text list words
unfolding unlisted_text
some_unlisted list words start old new some before reported =
    rw (← some) (reported ∙ ap (λ t. t ++ flat_map (unlisted_word list) words) before ∙ append_assoc start (codes " unlisted") (flat_map (unlisted_word list) words))

pieces : (start head blank event best unlisted end : List ℕ)
    → ((((start ++ (head ++ blank)) ++ event) ++ best) ++ unlisted) ++ end ≡ start ++ (((head ++ (blank ++ event)) ++ (best ++ unlisted)) ++ end)
pieces start head blank event best unlisted end = simp append_assoc refl

-- the parts of a line, one after the other
parts : (start line nick event best unlisted : List ℕ)
    → ((((start ++ (line ++ 32 ∷ nick ++ 32 ∷ [])) ++ event) ++ best) ++ unlisted) ++ 10 ∷ [] ≡ start ++ (line ++ 32 ∷ nick ++ 32 ∷ event ++ (best ++ unlisted) ++ 10 ∷ [])
parts start line nick event best unlisted = pieces start (line ++ 32 ∷ nick) (32 ∷ []) event best unlisted (10 ∷ [])

line_parts : (rules : Rules) (list : List (List ℕ)) (r : Record) (place : ℕ) (e : Event) (best : List ℕ) → slice_get r.events place ≡ Some e
    → event_line rules list r place best
    ≡ decimal e.line ++ 32 ∷ (player_of r.players e.player).nick ++ 32 ∷ event_text_of e ++ (best ++ unlisted_text list (standing_words (tally_at rules r.events (place + 1)).latest)) ++ 10 ∷ []
unfolding event_line
line_parts rules list r place e best stands =
    ap (λ at. line_with r.players at (best ++ unlisted_text list (standing_words (tally_at rules r.events (place + 1)).latest))) stands

-- the event at a place is the one that was read there
pub read_there : (shown events : List Event) (place : ℕ) (e : Event) → shown ≡ events → place < length events → e ≡ get_or shown place e → slice_get events place ≡ Some e
read_there shown events place e same below read =
    let here : get_or events place e ≡ e = ap (λ (es : List Event). get_or es place e) (sym same) ∙ sym read in
    slice_get-get_or events place e below ∙ ap Some here

known : (events : List Event) (place : ℕ) (e f : Event) → slice_get events place ≡ Some e → slice_get events place ≡ Some f → e ≡ f
known events place e f a b = let both : Some e ≡ Some f = sym a ∙ b in cc

-- The line of an event, whose parts were appended one after the other. `game` is the record as it was lent.
pub line_is : (rules : Rules) (list : List (List ℕ)) (game r : Record) (place : ℕ) (s : State) (shown : List Event) (e : Event) (nick start headed evented bested worded new : List ℕ) (words : List (List ℕ))
    → game ≡ r → s ≡ tally_at rules r.events place → place < length r.events → shown ≡ game.events → e ≡ get_or shown place e → nick ≡ (player_of game.players e.player).nick
    → headed ≡ start ++ (decimal e.line ++ 32 ∷ nick ++ 32 ∷ []) → HoldsAt (λ event. evented ≡ headed ++ event_text_of event) game.events place
    → Appends (ReportsBest rules list s e) evented bested → words ≡ standing_words (tally_at rules r.events (place + 1)).latest
    → worded ≡ bested ++ unlisted_text list words → new ≡ worded ++ 10 ∷ []
    → Appends (IsEventLine rules list r place) start new
line_is rules list game r place s shown e nick start headed evented bested worded new words same state below shows read named head event best reported unlisted last =
    let all : shown ≡ r.events = shows ∙ ap (λ (g : Record). g.events) same in
    let stands = read_there shown r.events place e all below read in
    let name : nick ≡ (player_of r.players e.player).nick = named ∙ ap (λ (g : Record). (player_of g.players e.player).nick) same in
    let there : get_or game.events place e ≡ e = ap (λ (es : List Event). get_or es place e) (sym shows) ∙ sym read in
    let text : evented ≡ headed ++ event_text_of e = subst (λ (x : Event). evented ≡ headed ++ event_text_of x) there (event e) in
    let latest = standing_words (tally_at rules r.events (place + 1)).latest in
    record {
      reported = event_line rules list r place best.reported;
      is_reported = record {
        best = best.reported;
        reports = λ f at. subst (λ x. ReportsBest rules list (tally_at rules r.events place) x best.reported) (known r.events place e f stands at) (subst (λ x. ReportsBest rules list x e best.reported) state best.is_reported);
        is = refl;
      };
      following =
          last ∙ ap (λ t. t ++ 10 ∷ []) (unlisted ∙ ap (λ ws. bested ++ unlisted_text list ws) reported
          ∙ ap (λ t. t ++ unlisted_text list latest) (best.following ∙ ap (λ t. t ++ best.reported) (text ∙ ap (λ t. t ++ event_text_of e) (head ∙ ap (λ n. start ++ (decimal e.line ++ 32 ∷ n ++ 32 ∷ [])) name))))
          ∙ parts start (decimal e.line) (player_of r.players e.player).nick (event_text_of e) best.reported (unlisted_text list latest)
          ∙ ap (λ t. start ++ t) (sym (line_parts rules list r place e best.reported stands));
    }
