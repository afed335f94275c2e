-- The lines of the best plays.
use Rattle.std.proofs.Common.{◌≡◌, ◌≢◌, ℕ, ℤ, ◌<◌, ◌≤◌, List, [], ◌∷◌, length, get_or, map, take, refl, sym, ap, subst, ◌∙◌, arith, Option}
use Rattle.std.specs.Prelude.{Contains}
use Rattle.std.specs.List.{flat_map}
use Rattle.std.proofs.lemmas.List.{take_all, length-map, get_or-map}
use Rattle.std.proofs.lemmas.List.Elements.{All-contains}
use Rattle.ref_tiles.specs.declared.tiles.Tile.{Tile}
use Rattle.ref_play.specs.declared.plays.Play.{Play}
use Rattle.ref_play.specs.Legality.{IsLegal}
use Rattle.ref_tiles.specs.declared.rulebook.Rules.{Rules}
use Rattle.ref_play.specs.Candidates.{IsCandidate}
use Rattle.ref_play.specs.Best.{Given, given_of}
use Rattle.game_notes.specs.Tops.{AreTop}
use Rattle.gen_sinks.specs.Sinks.{seen_pair}
use Rattle.game_report.specs.TopPlays.{play_line, top_text, AreLegal, ReportsTop}

-- the play at a place is legal
pub legal_at : (board : List (Option Tile)) (plays : List (Play × ℤ)) (place : ℕ) (scored : Play × ℤ) → AreLegal board plays → place < length plays → scored ≡ get_or plays place scored
    → IsLegal board scored.0.tiles.items
legal_at board plays place scored legal below read = subst (λ (s : Play × ℤ). IsLegal board s.0.tiles.items) (sym read) (legal place scored below)

text_of_some : (board : List (Option Tile)) (plays : List (Play × ℤ)) → length plays ≢ 0 → flat_map (play_line board) (map seen_pair plays) ≡ top_text board (map seen_pair plays)
text_of_some board [] some = absurd (some refl)
text_of_some board (scored ∷ more) some = refl

-- the lines of all plays, if there are any
pub lines_of_all : (board : List (Option Tile)) (plays : List (Play × ℤ)) (many : ℕ) (text : List ℕ) → length plays ≢ 0 → length plays ≤ many
    → text ≡ flat_map (play_line board) (map seen_pair (take many plays)) → text ≡ top_text board (map seen_pair plays)
lines_of_all board plays many text some all is =
    is ∙ ap (λ (ps : List (Play × ℤ)). flat_map (play_line board) (map seen_pair ps)) (take_all many plays all) ∙ text_of_some board plays some

-- the first of all candidates are legal
pub plays_are_legal : (rules : Rules) (list : List (List ℕ)) (board : List (Option Tile)) (rack : List ℕ) (kept : List Given) (plays : List (Play × ℤ)) → AreTop rules list board rack kept
    → map seen_pair plays ≡ kept → AreLegal board plays
plays_are_legal rules list board rack kept plays are same place scored below =
    let there : Contains kept (seen_pair (get_or plays place scored)) =
    subst (λ (ks : List Given). Contains ks (seen_pair (get_or plays place scored))) same (place, (let many = length-map plays seen_pair in omega arith), get_or-map seen_pair plays place scored (seen_pair (get_or plays place scored)) below) in
    (All-contains (λ (given : Given). IsCandidate list board rack given.tiles × (given ≡ given_of rules board given.tiles)) are.all (seen_pair (get_or plays place scored)) are.are_all.sound
    (are.first.some (seen_pair (get_or plays place scored)) there)).0.legal

-- the text that has them
pub reports_top : (rules : Rules) (list : List (List ℕ)) (board there : List (Option Tile)) (rack : List ℕ) (kept : List Given) (plays : List (Play × ℤ)) (text : List ℕ) → board ≡ there
    → AreTop rules list board rack kept → map seen_pair plays ≡ kept → text ≡ top_text board (map seen_pair plays) → ReportsTop rules list there rack text
reports_top rules list board there rack kept plays text at are same reported =
    subst (λ b. ReportsTop rules list b rack text) at (kept, are, reported ∙ ap (top_text board) same)
