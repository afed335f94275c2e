-- The first of the best plays, up to a number.
use Rattle.std.proofs.Common.{◌≡◌, ℕ, ℤ, ◌≤◌, List, get_or, take, map, Contains, ap, subst, ◌∙◌, arith, Option}
use Rattle.std.proofs.lemmas.List.{length-map, get_or-map}
use Rattle.std.proofs.lemmas.List.Elements.{All-contains}
use Rattle.ref_tiles.specs.declared.tiles.Tile.{Tile}
use Rattle.ref_tiles.specs.declared.rulebook.Rules.{Rules}
use Rattle.ref_play.specs.declared.plays.Play.{Play}
use Rattle.ref_play.specs.Candidates.{IsCandidate}
use Rattle.ref_play.specs.Best.{Given, given_of}
use Rattle.gen_sinks.specs.Sinks.{seen_pair}
use Rattle.gen_sinks.specs.Ranks.{ranks_before}
use Rattle.gen_sinks.proofs.Ranking.{first_of_first}
use Rattle.game_notes.specs.Keeping.{AreFirstPlays}
use Rattle.game_report.specs.TopPlays.{AreLegal, top_text, ReportsFirst}

pub fewer_plays : (many n : ℕ) (rules : Rules) (words : List (List ℕ)) (board : List (Option Tile)) (rack : List ℕ) (plays : List Given) → n ≤ many
    → AreFirstPlays many rules words board rack plays → AreFirstPlays n rules words board rack (take n plays)
fewer_plays many n rules words board rack plays few are =
    record { all = are.all; are_all = are.are_all; first = first_of_first (ranks_before board) many n are.all plays few are.first }

-- the first of all candidates are legal, however many they are
pub legal_plays : (n : ℕ) (rules : Rules) (list : List (List ℕ)) (board : List (Option Tile)) (rack : List ℕ) (kept : List Given) (plays : List (Play × ℤ)) → AreFirstPlays n rules list board rack kept
    → map seen_pair plays ≡ kept → AreLegal board plays
legal_plays n rules list board rack kept plays are same place scored below =
    let there : Contains kept (seen_pair (get_or plays place scored)) =
    subst (λ (ks : List Given). Contains ks (seen_pair (get_or plays place scored))) same (place, (let many = length-map plays seen_pair in omega arith), get_or-map seen_pair plays place scored (seen_pair (get_or plays place scored)) below) in
    (All-contains (λ (given : Given). IsCandidate list board rack given.tiles × (given ≡ given_of rules board given.tiles)) are.all (seen_pair (get_or plays place scored)) are.are_all.sound
    (are.first.some (seen_pair (get_or plays place scored)) there)).0.legal

-- the lines of the first n of the plays that were kept are those of the first n of all
pub front_reported : (many n : ℕ) (rules : Rules) (list : List (List ℕ)) (board : List (Option Tile)) (rack : List ℕ) (kept seen : List Given) (text : List ℕ) → n ≤ many
    → AreFirstPlays many rules list board rack kept → seen ≡ kept → text ≡ top_text board (take n seen) → ReportsFirst n rules list board rack text
front_reported many n rules list board rack kept seen text few are same reported =
    (take n kept, fewer_plays many n rules list board rack kept few are, reported ∙ ap (λ plays. top_text board (take n plays)) same)
