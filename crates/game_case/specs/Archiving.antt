-- The entry of one game of many, by a word list and a lexicon that were read before.
use Rattle.std.specs.Prelude.{◌≡◌, ℕ, suc, zero, ◌+◌, Bool, not, List, [], length, Result, Ok, Err, Option, Some, None, if◌then◌else◌}
use Rattle.std.specs.List.{list_all}
use Rattle.ref_tiles.specs.declared.rulebook.Rules.{Rules}
use Rattle.gcg_read.specs.declared.events.Event.{Event}
use Rattle.gcg_read.specs.declared.faults.ReadFault.{ReadFault}
use Rattle.gcg_read.specs.declared.records.Record.{Record}
use Rattle.gcg_read.specs.Records.{record_of}
use Rattle.lex_list.specs.Words.{is_listed}
use Rattle.game_turns.specs.LatestEvents.{standing_words}
use Rattle.game_turns.specs.Places.{AreAllowed, IsFirstRefusal, is_finished}
use Rattle.game_turns.specs.Tallies.{tally_at}
use Rattle.deal_steps.specs.declared.faults.DealBound.{DealBound}
use Rattle.deal_steps.specs.declared.faults.DealBound.TheVariants as deal
use Rattle.game_case.specs.declared.entries.Entry.{Entry}
use Rattle.game_case.specs.declared.findings.Finding.{Finding}
use Rattle.game_case.specs.declared.findings.Finding.TheVariants as finding
use Rattle.engine_stages.specs.declared.verdicts.GameFault.{GameFault}
use Rattle.engine_stages.specs.declared.verdicts.GameFault.TheVariants as game
use Rattle.game_deal.specs.Verdicts.{IsGame, Exceeds, IsUnsettled, HasNoDealBy}

-- what is found of a game whose racks exceed a bound
abbrev pub past_bound : DealBound → Finding
past_bound (deal.RackTooBig line) = finding.Illegal line game.RackTooBig
past_bound (deal.TilesShort line kind) = finding.Illegal line (game.TilesShort kind)

-- a record has this fault on a line
abbrev pub IsFaulty : Rules → (list : List (List ℕ)) → List Event → (line : ℕ) → GameFault → Type 0
IsFaulty rules list events line (game.Rule why) = IsFirstRefusal rules list events line why
IsFaulty rules list events line game.RackTooBig = Exceeds rules list events (deal.RackTooBig line)
IsFaulty rules list events line (game.TilesShort kind) = Exceeds rules list events (deal.TilesShort line kind)
IsFaulty rules list events line (game.NoDeal earlier) = HasNoDealBy rules list events line earlier

-- a record has an event
abbrev pub HasEvents : Record → Type 0
HasEvents r = r.events ≡ [] → ⊥

-- What is found of a record, by the words of a list: that it has no event, or what the settled verdict says of it.
abbrev pub IsFinding : Rules → (list : List (List ℕ)) → Record → Finding → Type 0
IsFinding rules list r finding.NoGame = r.events ≡ []
IsFinding rules list r (finding.Legal complete) = HasEvents r × IsGame rules list r.events × (complete ≡ is_finished rules r.events)
IsFinding rules list r (finding.Illegal line fault) = HasEvents r × IsFaulty rules list r.events line fault
IsFinding rules list r finding.Unsettled = HasEvents r × IsUnsettled rules list r.events

-- whether the event at a place, from 0, is a play that stands with a word that is not in the list
abbrev pub has_unlisted : Rules → (list : List (List ℕ)) → List Event → (place : ℕ) → Bool
has_unlisted rules list events place = not (list_all (is_listed list) (standing_words (tally_at rules events (place + 1)).latest))

-- how many of the first events are such plays
abbrev pub unlisted_to : Rules → (list : List (List ℕ)) → List Event → (many : ℕ) → ℕ
unlisted_to rules list events zero = 0
unlisted_to rules list events (suc many) = unlisted_to rules list events many + (if has_unlisted rules list events many then 1 else 0)

-- how many plays of a record stand with a word that is not in the list
unfoldable pub unlisted_plays : Rules → (list : List (List ℕ)) → List Event → ℕ
unlisted_plays rules list events = unlisted_to rules list events (length events)

-- how many plays stand with such a word, if every event is allowed
abbrev pub AreUnlisted : Rules → (list : List (List ℕ)) → List Event → Option ℕ → Type 0
AreUnlisted rules list events (Some plays) = AreAllowed rules list events × (plays ≡ unlisted_plays rules list events)
AreUnlisted rules list events None = AreAllowed rules list events → ⊥

-- what an entry says of its record
pub record IsEntry (rules : Rules) (list : List (List ℕ)) (entry : Entry) : Type 0 where
  pub found : IsFinding rules list entry.record entry.finding
  pub unlisted : AreUnlisted rules list entry.record.events entry.unlisted

-- the entry of the record that a text means, or its first fault
abbrev pub IsEntryOf : Rules → (list : List (List ℕ)) → (text : List ℕ) → Result Entry ReadFault → Type 0
IsEntryOf rules list text (Ok entry) = (record_of text ≡ Ok entry.record) × IsEntry rules list entry
IsEntryOf rules list text (Err fault) = record_of text ≡ Err fault
