-- Plays that are taken back or challenged, and their words.
use Rattle.std.specs.Prelude.{◌≡◌, ℕ, ◌*◌, ◌<◌, ◌==◌, pos, negsuc, ℤ, Bool, true, false, List, length, map, Option, Some, None, if◌then◌else◌}
use Rattle.std.specs.List.{range_with_len, list_all, list_any}
use Rattle.lex_list.specs.Words.{is_listed}
use Rattle.gcg_read.specs.declared.events.Seat.{Seat}
use Rattle.gcg_read.specs.declared.events.Event.{Event}
use Rattle.gcg_read.specs.Players.{same_seat}
use Rattle.game_turns.specs.Tallies.{is_play}
use Rattle.game_turns.specs.LatestEvents.{latest_words}
use Rattle.game_turns.specs.Checks.{listed_in}
use Rattle.game_turns.specs.declared.unlisted.SpelledWord.{SpelledWord}
use Rattle.explain_facts.specs.declared.facts.challenges.ChallengeFact.{ChallengeFact}
use Rattle.explain_facts.specs.declared.facts.challenges.ChallengeFact.TheVariants as challenge_fact
use Rattle.explain_facts.specs.Moments.{Moment, last_event}
use Rattle.explain_facts.specs.Kinds.{is_withdrawal, is_challenge}
use Rattle.game_turns.specs.Unlisted.{letters_in}

abbrev pub where_play : Option Event → Option Event
where_play None = None
where_play (Some e) = if is_play e.kind then Some e else None

-- the event directly before another one, if that is a play
abbrev pub play_before : (past : List Event) → Option Event
play_before past = where_play (last_event past)

-- the line of the event before, which is a play, and the words of the play, of which there are some
pub record AreWordsBefore (m : Moment) (line : ℕ) (words : List SpelledWord) : Type 0 where
  pub latest : Event
  pub is_play_before : play_before m.past ≡ Some latest
  pub on_line : latest.line ≡ line
  pub words_are : letters_in words ≡ latest_words m.before.latest
  pub some : 0 < length words

-- each of some words is in the list, and none of them is
abbrev pub AreListed : (list : List (List ℕ)) → List SpelledWord → Type 0
AreListed list words = list_all (is_listed list) (letters_in words) ≡ true

abbrev pub AreUnlisted : (list : List (List ℕ)) → List SpelledWord → Type 0
AreUnlisted list words = list_any (is_listed list) (letters_in words) ≡ false

-- the event before is a play on a line, by the opponent of the player of the event
pub record IsOthersPlay (m : Moment) (line : ℕ) (player other : Seat) : Type 0 where
  pub latest : Event
  pub is_play_before : play_before m.past ≡ Some latest
  pub on_line : latest.line ≡ line
  pub by : latest.player ≡ other
  pub own : player ≡ m.event.player
  pub differ : same_seat other player ≡ false

-- no play comes right before the event; and whether the event is the first
abbrev pub HasNoPlayBefore : Moment → (is_first : Bool) → Type 0
HasNoPlayBefore m is_first = (play_before m.past ≡ None) × (is_first ≡ (length m.past == 0))

-- whether a number of points is an amount
abbrev pub is_amount : ℤ → ℕ → Bool
is_amount (pos points) amount = points == amount
is_amount (negsuc k) amount = false

-- what each fact about a play that is taken back or challenged says is true at the moment
abbrev pub IsChallengeTrue : Moment → ChallengeFact → Type 0
IsChallengeTrue m (challenge_fact.PlayStands line words) = (is_withdrawal m.event.kind ≡ true) × AreWordsBefore m line words.items × AreListed m.list words.items
IsChallengeTrue m (challenge_fact.NoWordListed line words) = (is_challenge m.event.kind ≡ true) × AreWordsBefore m line words.items × AreUnlisted m.list words.items
IsChallengeTrue m (challenge_fact.OthersPlay line player other) = (is_withdrawal m.event.kind ≡ true) × IsOthersPlay m line player other
IsChallengeTrue m (challenge_fact.OthersBonus line player other) = (is_challenge m.event.kind ≡ true) × IsOthersPlay m line player other
IsChallengeTrue m (challenge_fact.NothingToTakeBack is_first) = (is_withdrawal m.event.kind ≡ true) × HasNoPlayBefore m is_first
IsChallengeTrue m (challenge_fact.NothingToChallenge is_first) = (is_challenge m.event.kind ≡ true) × HasNoPlayBefore m is_first
IsChallengeTrue m (challenge_fact.Bonus unit listed amounts written) =
    (is_challenge m.event.kind ≡ true) × (unit ≡ m.rules.challenge_unit) × (listed ≡ listed_in m.list (latest_words m.before.latest))
    × (amounts.items ≡ map (λ n. unit * n) (range_with_len 1 listed)) × (written ≡ m.event.score) × (0 < length amounts.items) × (list_any (is_amount written) amounts.items ≡ false)
