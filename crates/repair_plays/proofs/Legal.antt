-- The plays that a sink keeps are legal.
use Rattle.std.proofs.Common.{◌≡◌, ℕ, ℤ, ◌<◌, List, [], ◌∷◌, ◌++◌, length, get_or, map, Option, sym, ap, ◌∙◌, subst, append_assoc, append-nil, arith}
use Rattle.std.specs.Prelude.{Contains}
use Rattle.std.proofs.lemmas.List.{length-map, get_or-map}
use Rattle.std.proofs.lemmas.List.Elements.{All-contains}
use Rattle.ref_tiles.specs.declared.tiles.Tile.{Tile}
use Rattle.ref_tiles.specs.declared.rulebook.Rules.{Rules}
use Rattle.ref_play.specs.declared.plays.Play.{Play}
use Rattle.ref_play.specs.Legality.{IsLegal}
use Rattle.ref_play.specs.Best.{Given, AreAll}
use Rattle.gen_line.specs.Walk.{add_all}
use Rattle.gen_sinks.specs.Sinks.{add_last, seen_pair}
use Rattle.repair_plays.specs.Legal.{AreGivenLegal, AreLegal}

-- adding each at the end
added : (own : Option (List (Option Tile))) (kept xs : List Given) → add_all (add_last own) kept xs ≡ kept ++ xs
added own kept [] = sym (append-nil kept)
added own kept (x ∷ xs) = added own (kept ++ x ∷ []) xs ∙ append_assoc kept (x ∷ []) xs

-- a sink that did not refuse has all
pub all_taken : (rules : Rules) (words : List (List ℕ)) (board : List (Option Tile)) (rack : List ℕ) (all : List Given) (own : Option (List (Option Tile))) (old new : List Given)
    → AreAll rules words board rack all → old ≡ [] → new ≡ add_all (add_last own) old all → AreGivenLegal board new
all_taken rules words board rack all own old new are none took =
    let is : new ≡ all = took ∙ ap (λ kept. add_all (add_last own) kept all) none ∙ added own [] all in
    subst (AreGivenLegal board) (sym is) (λ k d lt. (are.sound k d lt).0.legal)

-- the plays themselves
pub plays_legal : (board : List (Option Tile)) (plays : List (Play × ℤ)) (given : List Given) → map seen_pair plays ≡ given → AreGivenLegal board given → AreLegal board plays
plays_legal board plays given same legal k d lt =
    let there : Contains given (seen_pair (get_or plays k d)) =
    subst (λ (gs : List Given). Contains gs (seen_pair (get_or plays k d))) same (k, (let many = length-map plays seen_pair in omega arith), get_or-map seen_pair plays k d (seen_pair (get_or plays k d)) lt) in
    All-contains (λ (g : Given). IsLegal board g.tiles) given (seen_pair (get_or plays k d)) legal there

-- the play at a place
pub legal_at : (board : List (Option Tile)) (plays : List (Play × ℤ)) (place : ℕ) (scored : Play × ℤ) → AreLegal board plays → place < length plays → scored ≡ get_or plays place scored
    → IsLegal board scored.0.tiles.items
legal_at board plays place scored legal below read = subst (λ (s : Play × ℤ). IsLegal board s.0.tiles.items) (sym read) (legal place scored below)
