-- A play with another symbol in one place.
use Rattle.std.proofs.Common.{◌≡◌, ℕ, ℤ, pos, true, List, slice_get, Option, Some, None, ap, ◌∙◌, subst}
use Rattle.std.specs.List.{list_all}
use Rattle.ref_tiles.specs.declared.tiles.Tile.{Tile}
use Rattle.ref_tiles.specs.declared.symbols.Symbol.{Symbol}
use Rattle.ref_tiles.specs.declared.rulebook.Rules.{Rules}
use Rattle.ref_tiles.specs.Symbols.{byte_of}
use Rattle.ref_board.specs.declared.directions.Dir.{Dir}
use Rattle.ref_play.specs.declared.placed.Placed.{Placed}
use Rattle.ref_play.specs.Formed.{along}
use Rattle.ref_play.specs.Scores.{score_of}
use Rattle.ref_play.specs.Texts.{placement_of}
use Rattle.ref_play.specs.Words.{words_formed}
use Rattle.lex_list.specs.Words.{is_listed}
use Rattle.gcg_read.specs.declared.events.EventKind.TheVariants as kind
use Rattle.game_turns.specs.Checks.{play_fault, text_score}
use Rattle.explain_facts.specs.declared.facts.Fact.TheVariants as fact
use Rattle.explain_facts.specs.declared.facts.readings.ReadingFact.TheVariants as reading_fact
use Rattle.explain_facts.specs.Moments.{Moment}
use Rattle.explain_facts.specs.Facts.{IsTrue}
use Rattle.explain_facts.specs.Readings.{swapped, AreTwoTiles, with_symbol, IsOnRack, IsReadAs, IsSwapped, IsMisread}
use Rattle.explain_facts.proofs.Plays.{of_play}

-- the score of the tiles that a text puts down is that of the text
scored : (rules : Rules) (board : List (Option Tile)) (dir : Dir) (at : ℕ) (text : List Symbol) (ps : List Placed) (score : ℤ) → ps ≡ placement_of board dir at text
    → score ≡ pos (score_of rules board ps) → score ≡ text_score rules board dir at text
unfolding text_score
scored rules board dir at text ps score tiles is = is ∙ ap (λ (qs : List Placed). pos (score_of rules board qs)) tiles

-- a legal play of a text with another symbol in one place
pub read_as : (m : Moment) (board : List (Option Tile)) (at : ℕ) (dir : Dir) (word text : List Symbol) (place : ℕ) (symbol other : Symbol) (ps : List Placed) (square stood read : ℕ) (score : ℤ)
    → board ≡ m.before.board → slice_get word place ≡ Some symbol → square ≡ along dir at place → stood ≡ byte_of symbol → read ≡ byte_of other
    → text ≡ with_symbol word place other → play_fault board dir at text ≡ None → ps ≡ placement_of board dir at text → score ≡ pos (score_of m.rules board ps)
    → AreTwoTiles symbol other → IsReadAs m at dir word place symbol other square stood read score
read_as m board at dir word text place symbol other ps square stood read score there stands on_square was reads same legal tiles is two =
    let P : List Symbol → Type 0 = λ (t : List Symbol). play_fault m.before.board dir at t ≡ None in
    let Q : List (Option Tile) → Type 0 = λ (b : List (Option Tile)). play_fault b dir at text ≡ None in
    let scores = scored m.rules board dir at text ps score tiles is in
    record {
      stands = stands;
      on_square = on_square;
      was = was;
      reads = reads;
      legal = subst P same (subst Q there legal);
      scores =
          scores ∙ ap (λ (b : List (Option Tile)). text_score m.rules b dir at text) there ∙ ap (λ (t : List Symbol). text_score m.rules m.before.board dir at t) same;
      tiles = two;
    }

-- a letter as a blank, or a blank as a letter, by the written score
pub as_blank : (m : Moment) (at : ℕ) (dir : Dir) (word : List Symbol) (place : ℕ) (symbol : Symbol) (square stood read : ℕ) (score : ℤ)
    → m.event.kind ≡ kind.Play at dir word → IsReadAs m at dir word place symbol (swapped symbol) square stood read score → score ≡ m.event.score
    → IsTrue m (fact.Reading (reading_fact.AsBlank square stood read score))
as_blank m at dir word place symbol square stood read score play is written =
    of_play m.event.kind at dir word (λ a d w. IsSwapped m a d w square stood read score) play (record { place = place; symbol = symbol; is = is; written = written })

-- another tile of the rack, with which each word is in the list
pub misread : (m : Moment) (board : List (Option Tile)) (at : ℕ) (dir : Dir) (word text : List Symbol) (place : ℕ) (symbol other : Symbol) (ps : List Placed) (rack : List ℕ)
    (square stood read : ℕ) (items words : List (List ℕ)) (score written : ℤ)
    → board ≡ m.before.board → IsReadAs m at dir word place symbol other square stood read score → m.event.rack ≡ Some rack → text ≡ with_symbol word place other
    → ps ≡ placement_of board dir at text → IsOnRack rack ps → items ≡ words_formed dir board ps → words ≡ items → list_all (is_listed m.list) items ≡ true
    → written ≡ m.event.score → IsMisread m at dir word square stood read words score written
misread m board at dir word text place symbol other ps rack square stood read items words score written there is shown same tiles on_rack forms spelled listed noted =
    let laid : ps ≡ placement_of m.before.board dir at (with_symbol word place other) =
    tiles ∙ ap (λ (b : List (Option Tile)). placement_of b dir at text) there ∙ ap (λ (t : List Symbol). placement_of m.before.board dir at t) same in
    let R : List Placed → Type 0 = λ (qs : List Placed). IsOnRack rack qs in
    record {
      place = place;
      symbol = symbol;
      other = other;
      rack = rack;
      is = is;
      shown = shown;
      on_rack = subst R laid on_rack;
      forms = spelled ∙ forms ∙ ap (λ (b : List (Option Tile)). words_formed dir b ps) there ∙ ap (λ (qs : List Placed). words_formed dir m.before.board qs) laid;
      listed = ap (λ (ws : List (List ℕ)). list_all (is_listed m.list) ws) spelled ∙ listed;
      noted = noted;
    }
