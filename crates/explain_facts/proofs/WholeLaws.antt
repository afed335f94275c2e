-- One more event of a record whose events the rules allow.
use Rattle.std.proofs.Common.{◌≡◌, ℕ, ◌+◌, ◌-◌, ◌<◌, ◌≤◌, nat_le, Bool, true, false, List, [], ◌∷◌, ◌++◌, map, length, get_or, drop, slice_get, Option, Some, refl, sym, ap, ◌∙◌, add-one, append_assoc, arith}
use Rattle.std.proofs.lemmas.Bool.{le-leb, lt-leb}
use Rattle.std.proofs.lemmas.List.{length-map, drop_more, drop_all}
use Rattle.std.proofs.lemmas.Option.{slice_get_read}
use Rattle.ref_tiles.specs.declared.rulebook.Rules.{Rules}
use Rattle.gcg_read.specs.declared.events.Event.{Event}
use Rattle.game_turns.specs.LatestEvents.{standing_words}
use Rattle.game_turns.specs.Tallies.{State, tally_at}
use Rattle.explain_facts.specs.declared.facts.Fact.{Fact}
use Rattle.explain_facts.specs.declared.facts.games.RackPart.{RackPart}
use Rattle.game_turns.specs.declared.unlisted.SpelledWord.{SpelledWord}
use Rattle.explain_facts.specs.declared.facts.games.UnlistedPlay.{UnlistedPlay}
use Rattle.game_turns.specs.Unlisted.{letters_in, unlisted_of}
use Rattle.explain_facts.specs.Wholes.{ReportsUnlisted, ReportsHidden, AddsNotes, UnlistedValue, play_in, words_in, other_list, play_with, unlisted_play, unlisted_to, turn_line, hidden_line, part_line, turns_to, hidden_to, parts_to, due_facts}

-- what is read at a place within a list is there
pub read_there : {X : Type 0} (xs : List X) (place : ℕ) (x : X) → place < length xs → x ≡ get_or xs place x → slice_get xs place ≡ Some x
read_there xs place x below is = slice_get_read xs (length xs) place x refl below is

pub unlisted_more : (rules : Rules) (list : List (List ℕ)) (events : List Event) (place : ℕ) (e : Event) (s : State) (words : List (List ℕ)) (old new : List UnlistedValue) → slice_get events place ≡ Some e
    → s ≡ tally_at rules events (place + 1) → words ≡ unlisted_of list (standing_words s.latest) → old ≡ unlisted_to rules list events place → new ≡ old ++ play_with e words
    → new ≡ unlisted_to rules list events (place + 1)
unlisted_more rules list events place e s words old new stands state spelled before is =
    is ∙ ap (λ (ps : List UnlistedValue). ps ++ play_with e words) before
    ∙ ap (λ (ws : List (List ℕ)). unlisted_to rules list events place ++ play_with e ws) (spelled ∙ ap (λ (t : State). unlisted_of list (standing_words t.latest)) state)
    ∙ ap (λ (o : Option Event). unlisted_to rules list events place ++ unlisted_play list (tally_at rules events (place + 1)) o) (sym stands)
    ∙ sym (ap (unlisted_to rules list events) (add-one place))

pub turns_more : (rules : Rules) (events : List Event) (place : ℕ) (e : Event) (s : State) (old new : List ℕ) → slice_get events place ≡ Some e → s ≡ tally_at rules events place
    → old ≡ turns_to rules events place → new ≡ old ++ turn_line s (Some e) → new ≡ turns_to rules events (place + 1)
turns_more rules events place e s old new stands state before is =
    is ∙ ap (λ (ls : List ℕ). ls ++ turn_line s (Some e)) before ∙ ap (λ (t : State). turns_to rules events place ++ turn_line t (Some e)) state
    ∙ ap (λ (o : Option Event). turns_to rules events place ++ turn_line (tally_at rules events place) o) (sym stands) ∙ sym (ap (turns_to rules events) (add-one place))

pub hidden_more : (rules : Rules) (events : List Event) (place : ℕ) (e : Event) (s : State) (old new : List ℕ) → slice_get events place ≡ Some e → s ≡ tally_at rules events place
    → old ≡ hidden_to rules events place → new ≡ old ++ hidden_line s (Some e) → new ≡ hidden_to rules events (place + 1)
hidden_more rules events place e s old new stands state before is =
    is ∙ ap (λ (ls : List ℕ). ls ++ hidden_line s (Some e)) before ∙ ap (λ (t : State). hidden_to rules events place ++ hidden_line t (Some e)) state
    ∙ ap (λ (o : Option Event). hidden_to rules events place ++ hidden_line (tally_at rules events place) o) (sym stands) ∙ sym (ap (hidden_to rules events) (add-one place))

pub parts_more : (rules : Rules) (events : List Event) (place : ℕ) (e : Event) (s : State) (old new : List RackPart) → slice_get events place ≡ Some e → s ≡ tally_at rules events place
    → old ≡ parts_to rules events place → new ≡ old ++ part_line s (Some e) → new ≡ parts_to rules events (place + 1)
parts_more rules events place e s old new stands state before is =
    is ∙ ap (λ (ps : List RackPart). ps ++ part_line s (Some e)) before ∙ ap (λ (t : State). parts_to rules events place ++ part_line t (Some e)) state
    ∙ ap (λ (o : Option Event). parts_to rules events place ++ part_line (tally_at rules events place) o) (sym stands) ∙ sym (ap (parts_to rules events) (add-one place))

-- ---- the number of words that are not in the list

-- those of one play and of the plays after it
pub words_next : (plays : List UnlistedPlay) (k many : ℕ) (p : UnlistedPlay) → k < length plays → p ≡ get_or plays k p → many ≡ length p.words.items
    → words_in (map play_in (drop k plays)) ≡ many + words_in (map play_in (drop (k + 1) plays))
words_next plays k many p below is size =
    let later = words_in (map play_in (drop (k + 1) plays)) in
    ap (λ (ps : List UnlistedPlay). words_in (map play_in ps)) (drop_more plays k p below)
    ∙ ap (λ (q : UnlistedPlay). length (letters_in q.words.items) + later) (sym is)
    ∙ ap (λ n. n + later) (length-map p.words.items (λ (word : SpelledWord). word.letters.items) ∙ sym size)

-- so many of one play that with those before they are ten
pub ten_reached : (plays : List UnlistedPlay) (k many remaining : ℕ) (p : UnlistedPlay) → k < length plays → p ≡ get_or plays k p → many ≡ length p.words.items → remaining ≤ many
    → words_in (map play_in plays) + remaining ≡ 10 + words_in (map play_in (drop k plays)) → true ≡ nat_le 10 (words_in (map play_in plays))
ten_reached plays k many remaining p below is size enough sum =
    let next = words_next plays k many p below is size in
    sym (le-leb 10 (words_in (map play_in plays)) (omega (arith, next, sum, enough)))

-- or fewer after the last
pub ten_not_reached : (plays : List UnlistedPlay) (k remaining : ℕ) → length plays ≤ k → 0 < remaining → words_in (map play_in plays) + remaining ≡ 10 + words_in (map play_in (drop k plays))
    → false ≡ nat_le 10 (words_in (map play_in plays))
ten_not_reached plays k remaining past some sum =
    let none = ap (λ (ps : List UnlistedPlay). words_in (map play_in ps)) (drop_all k plays past) in
    sym (lt-leb 10 (words_in (map play_in plays)) (omega (arith, none, sum, some)))

-- one play more
pub ten_remaining : (plays : List UnlistedPlay) (k many remaining : ℕ) (p : UnlistedPlay) → k < length plays → p ≡ get_or plays k p → many ≡ length p.words.items → many < remaining
    → words_in (map play_in plays) + remaining ≡ 10 + words_in (map play_in (drop k plays)) → words_in (map play_in plays) + (remaining - many) ≡ 10 + words_in (map play_in (drop (k + 1) plays))
ten_remaining plays k many remaining p below is size fewer sum =
    let next = words_next plays k many p below is size in
    omega (arith, next, sum, fewer)

-- ---- all of it

regroup : (old more due : List Fact) (one two : Fact) → (((old ++ one ∷ []) ++ more) ++ two ∷ []) ++ due ≡ old ++ one ∷ (more ++ two ∷ due)
regroup old more due one two =
    append_assoc ((old ++ one ∷ []) ++ more) (two ∷ []) due ∙ append_assoc (old ++ one ∷ []) more (two ∷ due) ∙ append_assoc old (one ∷ []) (more ++ two ∷ due)

-- the facts after others
pub all_reported : (rules : Rules) (list : List (List ℕ)) (events : List Event) (old one two three new : List Fact) (unlisted hidden : Fact) (s : State) (so : Bool)
    → ReportsUnlisted rules list events unlisted → ReportsHidden rules events hidden → s ≡ tally_at rules events (length events)
    → so ≡ nat_le 10 (words_in (unlisted_to rules list events (length events)))
    → one ≡ old ++ unlisted ∷ [] → two ≡ one ++ other_list so → three ≡ two ++ hidden ∷ [] → new ≡ three ++ due_facts s → AddsNotes rules list events old new
all_reported rules list events old one two three new unlisted hidden s so plays racks state ten first second third fourth =
    let more = other_list so in
    let due = due_facts s in
    let end = tally_at rules events (length events) in
    record {
      notes = unlisted ∷ (more ++ hidden ∷ due);
      following = fourth ∙ ap (λ (fs : List Fact). fs ++ due) (third ∙ ap (λ (fs : List Fact). fs ++ hidden ∷ []) (second ∙ ap (λ (fs : List Fact). fs ++ more) first))
          ∙ regroup old more due unlisted hidden;
      are = record {
        unlisted = unlisted;
        hidden = hidden;
        all = ap (λ (t : State). unlisted ∷ (more ++ hidden ∷ due_facts t)) state ∙ ap (λ (b : Bool). unlisted ∷ (other_list b ++ hidden ∷ due_facts end)) ten;
        plays = plays;
        racks = racks;
      };
    }
