-- The right score of an event, and where the written one would be right.
use Rattle.std.specs.Prelude.{◌≡◌, ◌≢◌, ℕ, ℤ, pos, neg_ℤ, ◌-◌, ◌*◌, ◌+ℤ◌, ◌<◌, Bool, true, false, All, length, take, Option, Some, None}
use Rattle.ref_tiles.specs.declared.rulebook.Rules.{Rules}
use Rattle.gcg_read.specs.declared.events.Seat.{Seat}
use Rattle.gcg_read.specs.declared.events.EventKind.{EventKind}
use Rattle.gcg_read.specs.declared.events.EventKind.TheVariants as kind
use Rattle.game_turns.specs.Seats.{side_of}
use Rattle.game_turns.specs.Tallies.{State, Latest, played, taken_back, is_pass}
use Rattle.game_turns.specs.Tallies as tallies
use Rattle.game_turns.specs.Checks.{play_fault, text_score, points_in}
use Rattle.explain_clues.specs.Spots.{scores_at}
use Rattle.explain_facts.specs.declared.facts.scores.ScoreFact.{ScoreFact}
use Rattle.explain_facts.specs.declared.facts.scores.ScoreFact.TheVariants as score_fact
use Rattle.explain_facts.specs.Moments.{Moment}
use Rattle.explain_facts.specs.Kinds.{OfPlay, is_exchange, is_withdrawal}
use Rattle.explain_facts.specs.Elsewhere.{stands_at, places}

-- the score of a play that is taken back comes off again
abbrev pub withdrawn_score : Latest → ℤ
withdrawn_score (played p) = neg_ℤ p.score
withdrawn_score (taken_back tiles) = pos 0
withdrawn_score tallies.other = pos 0

-- a last rack gives twice its points to a player who is out, otherwise it takes them
abbrev pub last_rack_score : (points : ℕ) → (out : Option Seat) → ℤ
last_rack_score points (Some out) = pos (2 * points)
last_rack_score points None = neg_ℤ (pos points)

-- The score that the rules give an event in a state: what its text scores, nothing for a pass and an exchange, and so on. None for
-- the bonus of a challenge and for a penalty, which may have several amounts.
abbrev pub right_score : Rules → State → EventKind → Option ℤ
right_score rules s (kind.Play at dir word) = Some (text_score rules s.board dir at word)
right_score rules s kind.Pass = Some (pos 0)
right_score rules s (kind.Exchange tiles) = Some (pos 0)
right_score rules s (kind.ExchangeUnknown n) = Some (pos 0)
right_score rules s kind.Withdraw = Some (withdrawn_score s.latest)
right_score rules s kind.Challenge = None
right_score rules s kind.Time = None
right_score rules s (kind.LastRack tiles) = Some (last_rack_score (points_in rules tiles) s.out)

-- the right score of the event, and the one that is written in its place
abbrev pub AreScores : Moment → (right written : ℤ) → Type 0
AreScores m right written = (right_score m.rules m.before m.event.kind ≡ Some right) × (written ≡ m.event.score) × (right ≢ written)

-- the points of a rack are doubled for the player who is out, and lost if no player is
abbrev pub IsDoubledFor : (is_doubled : Bool) → (out : Option Seat) → Seat → Type 0
IsDoubledFor true out player = out ≡ Some player
IsDoubledFor false out player = out ≡ None

-- what each fact about the score says is true at the moment
abbrev pub IsScoreTrue : Moment → ScoreFact → Type 0
IsScoreTrue m (score_fact.Play right written) = OfPlay m.event.kind (λ at dir word. play_fault m.before.board dir at word ≡ None) × AreScores m right written
IsScoreTrue m (score_fact.Pass right written) = (is_pass m.event.kind ≡ true) × AreScores m right written
IsScoreTrue m (score_fact.Exchange right written) = (is_exchange m.event.kind ≡ true) × AreScores m right written
IsScoreTrue m (score_fact.Withdrawal right written) = (is_withdrawal m.event.kind ≡ true) × AreScores m right written
IsScoreTrue m (score_fact.LastRack player is_doubled tiles right written) =
    (m.event.kind ≡ kind.LastRack tiles) × (player ≡ m.event.player) × IsDoubledFor is_doubled m.before.out player × AreScores m right written
IsScoreTrue m (score_fact.Other right written) = AreScores m right written
IsScoreTrue m (score_fact.Elsewhere written spots others) =
    OfPlay m.event.kind (λ at dir word. (written ≡ m.event.score) × (spots.items ≡ take 3 (places m word)) × (0 < length spots.items) × (others ≡ length (places m word) - 3)
    × All (λ spot. scores_at m.rules m.before.board word written spot ≡ true) spots.items × All (λ spot. stands_at m word spot ≡ true) spots.items)
IsScoreTrue m (score_fact.TotalFits score total) =
    (right_score m.rules m.before m.event.kind ≡ Some score) × (total ≡ m.event.total) × (total ≡ (side_of m.before.sides m.event.player).total +ℤ score)
