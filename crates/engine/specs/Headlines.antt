-- The headline: what it means that the referee answers legal.
use Rattle.std.specs.Prelude.{◌≡◌, ◌↔◌, ◌⊎◌, ◌≤◌, ℕ, Bool, true, List, [], ◌∷◌, ◌++◌, codes, decimal, length, slice_get, slice_index_or, Option, Some, Ok}
use Rattle.std.specs.Io.KnownBytes.{Appends}
use Rattle.ref_tiles.specs.declared.tiles.Tile.{Tile}
use Rattle.ref_tiles.specs.declared.rulebook.Rules.{Rules}
use Rattle.ref_tiles.specs.Parts.{parts_of}
use Rattle.ref_tiles.specs.RulesTexts.{meaning_of}
use Rattle.ref_play.specs.declared.placed.Placed.{Placed}
use Rattle.ref_play.specs.Scores.{score_of}
use Rattle.ref_play.specs.Notations.{notation_of}
use Rattle.ref_play.specs.Candidates.{IsCandidate}
use Rattle.gcg_read.specs.declared.events.Event.{Event}
use Rattle.gcg_read.specs.declared.records.Record.{Record}
use Rattle.gcg_read.specs.Records.{record_of}
use Rattle.lex_list.specs.Lists.{list_of}
use Rattle.lex_list.specs.RotatedPaths.{IsPath}
use Rattle.lex_file.specs.Languages.{IsInLanguage}
use Rattle.game_turns.specs.Tallies.{tally_at}
use Rattle.game_turns.specs.Places.{AreAllowed, is_finished}
use Rattle.deal_steps.specs.declared.deals.Held.{Held}
use Rattle.deal_steps.specs.Fitting.{Fits}
use Rattle.io_devices.specs.Devices.{Device}
use Rattle.game_deal.specs.Plain.{HaveNoExchange}
use Rattle.game_deal.specs.Recorded.{steps_of}
use Rattle.game_report.specs.BestPlays.{is_judged, full_rack, notation_text}
use Rattle.game_report.specs.EventLines.{lines_from}
use Rattle.engine_stages.specs.declared.verdicts.Verdict.TheVariants as verdict
use Rattle.engine_stages.specs.declared.verdicts.Verdict.{Verdict}
use Rattle.engine_stages.specs.declared.verdicts.GameFault.{GameFault}
use Rattle.engine.specs.Judging.{IsDecided, IsDecidedByText}
use Rattle.engine_stages.specs.Lexicons.{IsLexicon}
use Rattle.engine_stages.specs.Reports.{legal_line}
use Rattle.engine_stages.specs.Sources.{Source, AreGiven}
use Rattle.game_deal.specs.Verdicts.{IsGame}

-- What is printed for a full rack: a play that is legal, with words of the list and tiles of the rack, and that no such
-- play outscores; or that there is no such play.
abbrev pub IsBestPrinted : Rules → (list : List (List ℕ)) → (board : List (Option Tile)) → (rack : List ℕ) → (reported : List ℕ) → Type 0
IsBestPrinted rules list board rack reported =
    ((ps : List Placed) × IsCandidate list board rack ps
    × ((others : List Placed) → IsCandidate list board rack others → score_of rules board others ≤ score_of rules board ps)
    × (reported ≡ codes " best " ++ notation_text (notation_of board ps) ++ 32 ∷ decimal (score_of rules board ps)))
    ⊎ (((ps : List Placed) → IsCandidate list board rack ps → ⊥) × (reported ≡ codes " best none"))

-- A turn of a record whose line states a full rack: the event at a place, counted from 0, is a turn of its player, and the line
-- has as many tiles as the player then holds.
pub record IsFullTurn (rules : Rules) (events : List Event) (place : ℕ) (e : Event) (rack : List ℕ) : Type 0 where
  pub event : slice_get events place ≡ Some e
  pub is_turn : is_judged (tally_at rules events place).out e.kind ≡ true
  pub is_full : full_rack (tally_at rules events place) e ≡ Some rack

-- the bytes of a word list, a lexicon file and a record
pub record Texts : Type 0 where
  pub words : List ℕ
  pub lexicon : List ℕ
  pub game : List ℕ

-- in the order in which they are read
abbrev pub in_order : Texts → List (List ℕ)
in_order texts = texts.words ∷ texts.lexicon ∷ texts.game ∷ []

-- A legal game, by the bytes of a word list, a lexicon file and a record, and its report.
pub record IsLegalGame (rules : Rules) (texts : Texts) (complete : Bool) (report : List ℕ) : Type 0 where
  -- the words are a list, and the text is a record
  pub list : List (List ℕ)
  pub listed : list_of texts.words ≡ Ok list
  pub game : Record
  pub recorded : record_of texts.game ≡ Ok game
  -- The lexicon file accepts exactly the rotated paths of the list's words.
  pub lexicon : (string : List ℕ) → IsInLanguage texts.lexicon string ↔ IsPath list string
  -- Some deal of the tile set yields every rack of the record.
  pub racks : List Held
  pub dealt : Fits rules (steps_of rules game.events) racks
  -- Every event is allowed: every play, exchange, withdrawal, bonus and running total is what the rules give.
  pub allowed : AreAllowed rules list game.events
  -- It is complete exactly if it is finished, and the report has a line for each event.
  pub ended : complete ≡ is_finished rules game.events
  pub reported : List (List ℕ)
  pub lines : length reported ≡ length game.events
  -- On each turn with a full rack no legal, valid play scores more than the printed best, which is itself legal and valid.
  pub printed : report ≡ legal_line complete ++ lines_from rules list game 0 reported
  pub best : (place : ℕ) (e : Event) (rack : List ℕ) → IsFullTurn rules game.events place e rack
      → IsBestPrinted rules list (tally_at rules game.events place).board rack (slice_index_or reported place [])

-- if this is answered on the texts, the verdict that a game is legal, with its report, means that
abbrev pub MeansLegal : (IsAnswer : Rules → (texts : List (List ℕ)) → Verdict → (report : List ℕ) → Type 0) → Type 0
MeansLegal IsAnswer =
    (rules : Rules) (texts : Texts) (complete : Bool) (report : List ℕ) → IsAnswer rules (in_order texts) (verdict.Legal complete) report
    → IsLegalGame rules texts complete report

-- if this is answered on the texts, the verdict that a game is illegal means that the record is not a game by the words of the list
abbrev pub MeansNoGame : (IsAnswer : Rules → (texts : List (List ℕ)) → Verdict → (report : List ℕ) → Type 0) → Type 0
MeansNoGame IsAnswer =
    (rules : Rules) (texts : Texts) (line : ℕ) (fault : GameFault) (report : List ℕ) → IsAnswer rules (in_order texts) (verdict.Illegal line fault) report
    → (words : List (List ℕ)) (game : Record) → list_of texts.words ≡ Ok words → record_of texts.game ≡ Ok game → IsGame rules words game.events → ⊥

abbrev pub LegalMeansLegal : Type 0
LegalMeansLegal = MeansLegal IsDecided

abbrev pub IllegalMeansNoGame : Type 0
IllegalMeansNoGame = MeansNoGame IsDecided

-- For a record without an exchange the verdict is legal exactly if it is a game, provided that its inputs are good: a
-- list, its lexicon, and a record.
abbrev pub PlainGamesAreDecided : Type 0
PlainGamesAreDecided =
    (rules : Rules) (texts : Texts) (v : Verdict) (report : List ℕ) → IsDecided rules (in_order texts) v report
    → (words : List (List ℕ)) (game : Record) → list_of texts.words ≡ Ok words → IsLexicon words texts.lexicon → record_of texts.game ≡ Ok game
    → HaveNoExchange game.events
    → (v ≡ verdict.Legal (is_finished rules game.events)) ↔ IsGame rules words game.events

-- the verdict that a game is legal by the rules of a text, with its report, means that the text states rules, and that the game is legal by them
abbrev pub LegalMeansLegalByText : Type 0
LegalMeansLegalByText =
    (stated : List ℕ) (texts : Texts) (complete : Bool) (report : List ℕ) → IsDecidedByText (stated ∷ in_order texts) (verdict.Legal complete) report
    → (rules : Rules) × (meaning_of stated ≡ Ok (parts_of rules)) × IsLegalGame rules texts complete report

-- the inputs give a legal game, and its report was written
pub record IsLegalRun (rules : Rules) (sources : List Source) (complete : Bool) (out_old out_new : Device) : Type 0 where
  pub texts : Texts
  pub given : AreGiven sources (in_order texts)
  pub report : List ℕ
  pub game : IsLegalGame rules texts complete report
  pub reported : Appends out_old.bytes out_new.bytes report
