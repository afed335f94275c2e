-- The answers of the events of a record, place by place.
use Rattle.std.proofs.Common.{◌≡◌, false, ◌⊎◌, inl, inr, ℕ, zero, suc, ◌+◌, ◌<◌, ◌≤◌, ℤ, List, [], ◌∷◌, ◌++◌, length, slice_get, get_or, Some, refl, sym, ap, ◌∙◌, subst, arith}
use Rattle.std.proofs.lemmas.Option.{same_Some}
use Rattle.ref_tiles.specs.declared.rulebook.Rules.{Rules}
use Rattle.gcg_read.specs.declared.events.Event.{Event}
use Rattle.gcg_read.specs.declared.records.Record.{Record}
use Rattle.game_turns.specs.declared.machine.Machine.{Machine}
use Rattle.game_turns.specs.LatestEvents.{latest_tiles, standing_words}
use Rattle.game_turns.specs.Machines.{rules_of, state_of}
use Rattle.game_turns.specs.Tallies.{State, tally, tally_at}
use Rattle.game_known.specs.declared.besides.Beside.{Beside}
use Rattle.game_known.specs.Besides.{IsBeside}
use Rattle.game_report.proofs.ReportLines.{start_of_game, read_there}
use Rattle.game_answers.specs.declared.answers.EventAnswer.{EventAnswer}
use Rattle.game_bests.specs.declared.bests.TurnBest.{TurnBest}
use Rattle.game_answers.specs.Answers.{tiles_in, IsAnswerAt, AreAnswersTo}
use Rattle.game_bests.specs.Bests.{IsTurnBest}
use Rattle.sheet_scores.specs.Gains.{given_at}
use Rattle.game_answers.specs.Going.{HasTaken}
use Rattle.game_answers.specs.Letters.{word_of}
use Rattle.game_turns.specs.Unlisted.{letters_in, unlisted_of}

append_within : {X : Type 0} (xs : List X) (x y : X) (k : ℕ) → slice_get (xs ++ x ∷ []) k ≡ Some y → k < length xs → slice_get xs k ≡ Some y
append_within [] x y k is within = absurd (omega arith)
append_within (z ∷ xs) x y zero is within = is
append_within (z ∷ xs) x y (suc k) is within = append_within xs x y k is (omega arith)

append_last : {X : Type 0} (xs : List X) (x y : X) (k : ℕ) → slice_get (xs ++ x ∷ []) k ≡ Some y → length xs ≤ k → (k ≡ length xs) × (x ≡ y)
append_last [] x y zero is past = (refl, same_Some x y is)
append_last [] x y (suc k) is past = cc
append_last (z ∷ xs) x y zero is past = absurd (omega arith)
append_last (z ∷ xs) x y (suc k) is past = let rest = append_last xs x y k is (omega arith) in (ap suc rest.0, rest.1)

append_long : {X : Type 0} (xs : List X) (x : X) → length (xs ++ x ∷ []) ≡ length xs + 1
append_long [] x = refl
append_long (z ∷ xs) x = let rest = append_long xs x in omega (arith, rest)

further : (k n : ℕ) → (k < n) ⊎ (n ≤ k) → (suc k < suc n) ⊎ (suc n ≤ suc k)
further k n (inl below) = inl (omega arith)
further k n (inr past) = inr (omega arith)

below_or_past : (k n : ℕ) → (k < n) ⊎ (n ≤ k)
below_or_past k zero = inr (omega arith)
below_or_past zero (suc n) = inl (omega arith)
below_or_past (suc k) (suc n) = further k n (below_or_past k n)

each_more : (rules : Rules) (list : List (List ℕ)) (events : List Event) (place : ℕ) (answers : List EventAnswer) (a : EventAnswer) → AreAnswersTo rules list events place answers
    → IsAnswerAt rules list events place a → (k : ℕ) (x : EventAnswer) → slice_get (answers ++ a ∷ []) k ≡ Some x → (k < length answers) ⊎ (length answers ≤ k) → IsAnswerAt rules list events k x
each_more rules list events place answers a are at k x there (inl below) = are.each k x (append_within answers a x k there below)
each_more rules list events place answers a are at k x there (inr past) =
    let last = append_last answers a x k there past in
    subst (λ n. IsAnswerAt rules list events n x) (sym (last.0 ∙ are.as_many)) (subst (λ (y : EventAnswer). IsAnswerAt rules list events place y) last.1 at)

no_item : (k : ℕ) (x : EventAnswer) → slice_get [] k ≡ Some x → ⊥
no_item k x there = cc

none_answered : (rules : Rules) (list : List (List ℕ)) (events : List Event) → AreAnswersTo rules list events 0 []
none_answered rules list events = record { as_many = refl; each = λ k x there. absurd (no_item k x there) }

pub no_answers : (rules : Rules) (list : List (List ℕ)) (events : List Event) (answers : List EventAnswer) → answers ≡ [] → AreAnswersTo rules list events 0 answers
no_answers rules list events answers none = subst (λ xs. AreAnswersTo rules list events 0 xs) (sym none) (none_answered rules list events)

-- one more answer
pub answers_more : (rules : Rules) (list : List (List ℕ)) (events : List Event) (place : ℕ) (answers more : List EventAnswer) (a : EventAnswer) → AreAnswersTo rules list events place answers
    → IsAnswerAt rules list events place a → more ≡ answers ++ a ∷ [] → AreAnswersTo rules list events (place + 1) more
answers_more rules list events place answers more a are at pushed =
    subst (λ xs. AreAnswersTo rules list events (place + 1) xs) (sym pushed)
    (record {
      as_many = append_long answers a ∙ ap (λ n. n + 1) are.as_many;
      each = λ k x there. each_more rules list events place answers a are at k x there (below_or_past k (length answers));
    })

-- ---- what is answered for an event

by_states : (rules : Rules) (list : List (List ℕ)) (events : List Event) (place : ℕ) (e : Event) (s t : State) (a : EventAnswer) → slice_get events place ≡ Some e → s ≡ tally_at rules events place
    → t ≡ tally_at rules events (place + 1) → IsTurnBest rules list s e (given_at events place e) a.best → tiles_in a.play ≡ latest_tiles t.latest → a.word.items ≡ word_of t.board e.kind
    → letters_in a.unlisted.items ≡ unlisted_of list (standing_words t.latest) → IsAnswerAt rules list events place a
by_states rules list events place e s t a stands before following best tiles word unlisted =
    record {
      event = e;
      stands = stands;
      best = subst (λ (x : State). IsTurnBest rules list x e (given_at events place e) a.best) before best;
      tiles = tiles ∙ ap (λ (x : State). latest_tiles x.latest) following;
      word = word ∙ ap (λ (x : State). word_of x.board e.kind) following;
      unlisted = unlisted ∙ ap (λ (x : State). unlisted_of list (standing_words x.latest)) following;
    }

-- the best play by equal rules
pub best_by_own : (own rules : Rules) (list : List (List ℕ)) (st : State) (e : Event) (gave : ℤ) (b : TurnBest) → own ≡ rules → IsTurnBest own list st e gave b → IsTurnBest rules list st e gave b
best_by_own own rules list st e gave b same is = subst (λ (r : Rules). IsTurnBest r list st e gave b) same is

-- The machine before the event, and after it; `game` is the record as it was lent, and `listed` the list.
pub answer_is : (rules : Rules) (list listed : List (List ℕ)) (game r : Record) (shown : List Event) (place : ℕ) (e : Event) (before following : Machine) (gave : ℤ) (b : TurnBest)
    (a : EventAnswer) → state_of before ≡ tally_at rules r.events place → state_of following ≡ tally_at rules r.events (place + 1) → game ≡ r → shown ≡ game.events → listed ≡ list
    → place < length r.events → e ≡ get_or shown place e → gave ≡ given_at shown place e → IsTurnBest rules list (state_of before) e gave b → a.best ≡ b
    → tiles_in a.play ≡ latest_tiles (state_of following).latest → a.word.items ≡ word_of (state_of following).board e.kind
    → letters_in a.unlisted.items ≡ unlisted_of listed (standing_words (state_of following).latest) → IsAnswerAt rules list r.events place a
answer_is rules list listed game r shown place e before following gave b a stood stand same shows lists below read gives best kept tiles word unlisted =
    let all : shown ≡ r.events = shows ∙ ap (λ (g : Record). g.events) same in
    let given : gave ≡ given_at r.events place e = gives ∙ ap (λ (es : List Event). given_at es place e) all in
    by_states rules list r.events place e (state_of before) (state_of following) a (read_there shown r.events place e all below read) stood stand
    (subst (λ (x : TurnBest). IsTurnBest rules list (state_of before) e (given_at r.events place e) x) (sym kept) (subst (λ (n : ℤ). IsTurnBest rules list (state_of before) e n b) given best))
    tiles word (unlisted ∙ ap (λ (ws : List (List ℕ)). unlisted_of ws (standing_words (state_of following).latest)) lists)

-- ---- before the first event

-- a machine by equal rules
pub none_taken : (rules own : Rules) (events : List Event) (machine : Machine) → own ≡ rules → rules_of machine ≡ own → state_of machine ≡ tally own false [] → HasTaken rules events 0 machine
none_taken rules own events machine same by start =
    record { own = by ∙ same; state = start_of_game rules events (state_of machine) (start ∙ ap (λ r. tally r false []) same) }

-- a board by equal rules
pub beside_too : (rules own : Rules) (list : List (List ℕ)) (beside : Beside) → own ≡ rules → IsBeside own list beside → IsBeside rules list beside
beside_too rules own list beside same is = subst (λ r. IsBeside r list beside) same is
