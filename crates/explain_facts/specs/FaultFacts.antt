-- Which fact says why the rules refuse an event.
use Rattle.std.specs.Prelude.{◌≡◌, ◌==◌, ◌&&◌, ◌||◌, ℕ, Bool, true, false, List, [], ◌∷◌, Option, Some, None, slice_get, take, reverse}
use Rattle.ref_play.specs.declared.faults.PlayFault.{PlayFault}
use Rattle.ref_play.specs.declared.faults.PlayFault.TheVariants as play
use Rattle.game_turns.specs.declared.faults.RuleFault.{RuleFault}
use Rattle.game_turns.specs.declared.faults.RuleFault.TheVariants as fault
use Rattle.game_turns.specs.Standing.{is_withdraw}
use Rattle.game_turns.specs.Tallies.{tally}
use Rattle.game_turns.specs.Places.{AreAllowed}
use Rattle.explain_facts.specs.declared.facts.Fact.{Fact}
use Rattle.explain_facts.specs.declared.facts.Fact.TheVariants as fact
use Rattle.explain_facts.specs.declared.facts.turns.TurnFact.TheVariants as turn_fact
use Rattle.explain_facts.specs.declared.facts.plays.PlayFact.TheVariants as play_fact
use Rattle.explain_facts.specs.declared.facts.scores.ScoreFact.TheVariants as score_fact
use Rattle.explain_facts.specs.declared.facts.totals.TotalFact.TheVariants as total_fact
use Rattle.explain_facts.specs.declared.facts.challenges.ChallengeFact.TheVariants as challenge_fact
use Rattle.explain_facts.specs.declared.facts.tiles.TileFact.TheVariants as tile_fact
use Rattle.explain_facts.specs.declared.facts.racks.RackFact.TheVariants as rack_fact
use Rattle.ref_tiles.specs.declared.rulebook.Rules.{Rules}
use Rattle.ref_tiles.specs.declared.kinds.Kind.{Kind}
use Rattle.ref_tiles.specs.Kinds.{number_of}
use Rattle.deal_steps.specs.declared.steps.Step.{Step}
use Rattle.deal_steps.specs.declared.faults.DealBound.{DealBound}
use Rattle.deal_steps.specs.declared.faults.DealBound.TheVariants as bound
use Rattle.deal_steps.specs.Bounds.{bound_at, first_bound}
use Rattle.explain_facts.specs.Moments.{Moment}

-- ---- facts of one kind

-- whose turn it is, or on whose line a last rack must be
abbrev pub is_of_turn : Fact → Bool
is_of_turn (fact.Turn (turn_fact.OthersTurn player other)) = true
is_of_turn (fact.Turn (turn_fact.OthersLine player out)) = true
is_of_turn other = false

-- that there are no more turns
abbrev pub is_of_end : Fact → Bool
is_of_end (fact.Turn turn_fact.Complete) = true
is_of_end (fact.Turn (turn_fact.Out out holder)) = true
is_of_end (fact.Turn (turn_fact.RackLost player holder)) = true
is_of_end other = false

abbrev pub is_of_due_rack : Fact → Bool
is_of_due_rack (fact.Turn (turn_fact.NoRackDue limit turns)) = true
is_of_due_rack other = false

-- the right score and the written one
abbrev pub is_of_score : Fact → Bool
is_of_score (fact.Score (score_fact.Play right written)) = true
is_of_score (fact.Score (score_fact.Pass right written)) = true
is_of_score (fact.Score (score_fact.Exchange right written)) = true
is_of_score (fact.Score (score_fact.Withdrawal right written)) = true
is_of_score (fact.Score (score_fact.LastRack player is_doubled tiles right written)) = true
is_of_score other = false

-- the sum that makes a total
abbrev pub is_of_total : Fact → Bool
is_of_total (fact.Total (total_fact.Wrong player had score right written)) = true
is_of_total other = false

-- that there is no play of the player to take back
abbrev pub is_of_withdrawal : Fact → Bool
is_of_withdrawal (fact.Challenge (challenge_fact.OthersPlay line player other)) = true
is_of_withdrawal (fact.Challenge (challenge_fact.NothingToTakeBack is_first)) = true
is_of_withdrawal other = false

abbrev pub is_of_standing_play : Fact → Bool
is_of_standing_play (fact.Challenge (challenge_fact.PlayStands line words)) = true
is_of_standing_play other = false

abbrev pub is_of_phony : Fact → Bool
is_of_phony (fact.Challenge (challenge_fact.NoWordListed line words)) = true
is_of_phony other = false

-- which bonus a challenge gives, or that there is no play of the player that was challenged
abbrev pub is_of_bonus : Fact → Bool
is_of_bonus (fact.Challenge (challenge_fact.Bonus unit listed amounts written)) = true
is_of_bonus (fact.Challenge (challenge_fact.OthersBonus line player other)) = true
is_of_bonus (fact.Challenge (challenge_fact.NothingToChallenge is_first)) = true
is_of_bonus other = false

abbrev pub is_of_bag : Fact → Bool
is_of_bag (fact.Tile (tile_fact.ExchangeRefused bag least)) = true
is_of_bag other = false

abbrev pub is_of_exchange : Fact → Bool
is_of_exchange (fact.Tile (tile_fact.ExchangeSize tiles player has bag)) = true
is_of_exchange other = false

abbrev pub is_of_last_rack : Fact → Bool
is_of_last_rack (fact.Tile (tile_fact.LastRackSize shown holder has)) = true
is_of_last_rack other = false

-- which penalties for time are possible, or that the player has one
abbrev pub is_of_time : Fact → Bool
is_of_time (fact.Total (total_fact.TimeStep step written)) = true
is_of_time (fact.Total (total_fact.SecondTime player line)) = true
is_of_time other = false

abbrev pub is_of_used : Fact → Bool
is_of_used (fact.Tile (tile_fact.TooManyUsed player used has)) = true
is_of_used other = false

abbrev pub is_of_board_end : Fact → Bool
is_of_board_end (fact.Play (play_fact.LeavesBoard at dir squares room)) = true
is_of_board_end other = false

-- a square with which a symbol of the play does not agree
abbrev pub is_of_square : Fact → Bool
is_of_square (fact.Play (play_fact.DotOnEmpty square)) = true
is_of_square (fact.Play (play_fact.OtherLetter square written shown)) = true
is_of_square other = false

abbrev pub is_of_new_tiles : Fact → Bool
is_of_new_tiles (fact.Play play_fact.NoNewTile) = true
is_of_new_tiles other = false

abbrev pub is_of_many_tiles : Fact → Bool
is_of_many_tiles (fact.Play (play_fact.ManyTiles tiles)) = true
is_of_many_tiles other = false

abbrev pub is_of_whole : Fact → Bool
is_of_whole (fact.Play play_fact.NotWhole) = true
is_of_whole other = false

abbrev pub is_of_centre : Fact → Bool
is_of_centre (fact.Play play_fact.MissesCentre) = true
is_of_centre other = false

abbrev pub is_of_length : Fact → Bool
is_of_length (fact.Play play_fact.TooShort) = true
is_of_length other = false

abbrev pub is_of_touch : Fact → Bool
is_of_touch (fact.Play play_fact.Apart) = true
is_of_touch other = false

-- a tile that lies directly before or after a play
abbrev pub is_end_tile : Fact → Bool
is_end_tile (fact.Play (play_fact.TileBefore square letter)) = true
is_end_tile (fact.Play (play_fact.TileAfter square letter)) = true
is_end_tile other = false

-- a rack that would have to hold too many tiles
abbrev pub is_of_big_rack : Fact → Bool
is_of_big_rack (fact.Rack (rack_fact.TooBig player size tiles lines)) = true
is_of_big_rack other = false

-- a kind of which there would have to be more than the game has
abbrev pub is_of_short_kind : Kind → Fact → Bool
is_of_short_kind kind (fact.Rack (rack_fact.TilesShort short all many laid first second lines)) = number_of short == number_of kind
is_of_short_kind kind other = false

-- ---- the fact of a fault

-- whether a fact says this fault of the text or the placement of a play
abbrev pub is_fact_of_play : PlayFault → Fact → Bool
is_fact_of_play play.OffBoard said = is_of_board_end said
is_fact_of_play play.Mismatch said = is_of_square said
is_fact_of_play play.NoNewTile said = is_of_new_tiles said
is_fact_of_play play.TooManyTiles said = is_of_many_tiles said
is_fact_of_play play.NotWhole said = is_of_whole said
is_fact_of_play play.MissesCentre said = is_of_centre said
is_fact_of_play play.TooShort said = is_of_length said
is_fact_of_play play.Apart said = is_of_touch said

-- whether a fact says this fault
abbrev pub is_fact_of : RuleFault → Fact → Bool
is_fact_of fault.NotYourTurn said = is_of_turn said
is_fact_of (fault.Play why) said = is_fact_of_play why said
is_fact_of (fault.WrongScore right) said = is_of_score said
is_fact_of (fault.WrongTotal right) said = is_of_total said
is_fact_of fault.NothingToWithdraw said = is_of_withdrawal said
is_fact_of fault.WithdrawnValid said = is_of_standing_play said
is_fact_of fault.BonusOnPhony said = is_of_phony said
is_fact_of fault.BadBonus said = is_of_bonus said
is_fact_of fault.ExchangeRefused said = is_of_bag said
is_fact_of fault.ExchangeSize said = is_of_exchange said
is_fact_of fault.GameOver said = is_of_end said
is_fact_of fault.NotOver said = is_of_due_rack said
is_fact_of fault.LastRackSize said = is_of_last_rack said
is_fact_of fault.BadTime said = is_of_time said
is_fact_of fault.TooManyUsed said = is_of_used said

-- Facts begin with the one that says this fault. Before the one that a play is not whole, the tiles that lie directly before and after it may be named.
unfoldable pub begin_with : RuleFault → List Fact → Bool
begin_with why [] = false
begin_with why (said ∷ facts) = is_fact_of why said || (is_end_tile said && is_fact_of why (fact.Play play_fact.NotWhole) && begin_with why facts)

-- a fact if there is one, as a list
abbrev pub listed : Option Fact → List Fact
listed None = []
listed (Some said) = said ∷ []

-- there is no fact, or it names a tile that lies directly before or after a play
abbrev pub names_end_tile : Option Fact → Bool
names_end_tile None = true
names_end_tile (Some said) = is_end_tile said

-- there is a fact, and it says this fault
abbrev pub says : RuleFault → Option Fact → Bool
says why None = false
says why (Some said) = is_fact_of why said

-- whether a fact says that this bound is exceeded
abbrev pub is_fact_of_bound : DealBound → Fact → Bool
is_fact_of_bound (bound.RackTooBig line) said = is_of_big_rack said
is_fact_of_bound (bound.TilesShort line kind) said = is_of_short_kind kind said

-- there is a fact, and it says that this bound is exceeded
abbrev pub says_bound : DealBound → Option Fact → Bool
says_bound exceeded None = false
says_bound exceeded (Some said) = is_fact_of_bound exceeded said

-- the first bound that steps exceed is exceeded at a place
pub record IsFirstBoundAt (rules : Rules) (steps : List Step) (place : ℕ) (exceeded : DealBound) : Type 0 where
  pub step : Step
  pub there : slice_get steps place ≡ Some step
  pub before : first_bound rules (take place steps) ≡ None
  pub exceeds : bound_at rules step (reverse (take place steps)) ≡ Some exceeded

-- the rules allow the events before a moment, and its state is what these add up to
abbrev pub IsTallied : Moment → Type 0
IsTallied m = (m.before ≡ tally m.rules (is_withdraw m.event.kind) (reverse m.past)) × AreAllowed m.rules m.list m.past
