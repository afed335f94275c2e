-- What a sink of the first plays has after it has taken all candidates.
use Rattle.std.proofs.Common.{ℤ, map, option_map, slice_get, ◌≡◌, ℕ, List, [], ◌∷◌, length, nat_le, Option, Some, Result, Ok, Err, IsOk, refl, sym, ap, ◌∙◌, subst}
use Rattle.std.proofs.lemmas.Bool.{and_parts, leb-true}
use Rattle.std.specs.Char.{is_ascii_uppercase}
use Rattle.std.specs.List.{fold, list_all}
use Rattle.lex_list.specs.Words.{is_word, has_word_length, IsWordList}
use Rattle.ref_tiles.specs.declared.tiles.Tile.{Tile}
use Rattle.ref_tiles.specs.declared.rulebook.Rules.{Rules}
use Rattle.ref_play.specs.declared.plays.Play.{Play}
use Rattle.ref_play.specs.Best.{Given, AreAll, IsAnnotation}
use Rattle.gen_line.specs.Walk.{add_all, Took}
use Rattle.gen_sinks.specs.Sinks.{seen_pair}
use Rattle.gen_sinks.specs.Ranks.{ranks_before, add_ranked, AreFirst}
use Rattle.gen_sinks.proofs.RankOrder.{added_are_first, first_is_best}
use Rattle.ref_play.proofs.RangeLaws.{list_all-in}
use Rattle.lex_list.specs.RotatedPaths.{StandsFor}
use Rattle.lex_file.specs.Languages.{language_of}
use Rattle.lex_check.specs.Checks.{IsAgreed}
use Rattle.gen_cross.specs.declared.crosses.Cross.{Cross}
use Rattle.gen_cross.specs.Values.{IsRight}
use Rattle.gen_moves.specs.Laws.{AreLong}
use Rattle.game_notes.specs.Keeping.{AreFirstPlays}

-- adding one after another is a fold
added : {A : Type 0} (add : List A → A → List A) (kept xs : List A) → add_all add kept xs ≡ fold add kept xs
added add kept [] = refl
added add kept (x ∷ xs) = added add (add kept x) xs

-- a sink that did not refuse took all
took_all : {I X U E : Type 0} (add : I → X → I) (old : I) (xs : List X) (new : I) (r : Result U E) → IsOk r → Took add old xs new r → new ≡ add_all add old xs
took_all add old xs new (Ok u) ok took = took
took_all add old xs new (Err e) ok took = cc

-- the first plays are what a sink for the board has after it has taken all candidates
pub first_taken : {U E : Type 0} (n : ℕ) (rules : Rules) (words : List (List ℕ)) (board : List (Option Tile)) (rack : List ℕ) (all : List Given) (own : Option (List (Option Tile))) (old new : List Given) (r : Result U E)
    → length board ≡ 225 → AreAll rules words board rack all → own ≡ Some board → old ≡ [] → IsOk r → Took (add_ranked n own) old all new r → AreFirstPlays n rules words board rack new
first_taken n rules words board rack all own old new r size are_all made none ok took =
    let is : new ≡ add_all (add_ranked n own) old all = took_all (add_ranked n own) old all new r ok took in
    let taken : new ≡ add_all (add_ranked n (Some board)) [] all = is ∙ ap (λ o. add_all (add_ranked n o) old all) made ∙ ap (λ kept. add_all (add_ranked n (Some board)) kept all) none in
    record {
      all = all;
      are_all = are_all;
      first = subst (AreFirst n (ranks_before board) all) (sym (taken ∙ added (add_ranked n (Some board)) [] all)) (added_are_first n rules words board rack all size are_all);
    }

-- the first one is the best play
pub best_is_first : (rules : Rules) (words : List (List ℕ)) (board : List (Option Tile)) (rack : List ℕ) (kept : List (Play × ℤ)) (found : Option (Play × ℤ))
    → AreFirstPlays 1 rules words board rack (map seen_pair kept) → found ≡ slice_get kept 0 → IsAnnotation rules words board rack (option_map seen_pair found)
best_is_first rules words board rack [] found first is =
    subst (λ o. IsAnnotation rules words board rack (option_map seen_pair o)) (sym is) (first_is_best rules words board rack first.all [] first.are_all first.first)
best_is_first rules words board rack (scored ∷ more) found first is =
    subst (λ o. IsAnnotation rules words board rack (option_map seen_pair o)) (sym is)
    (first_is_best rules words board rack first.all (map seen_pair (scored ∷ more)) first.are_all first.first)

pub best_is_shown : (rules : Rules) (words : List (List ℕ)) (board : List (Option Tile)) (rack : List ℕ) (kept : List (Play × ℤ)) (scored : Play × ℤ) (play : Play) (score : ℤ)
    → AreFirstPlays 1 rules words board rack (map seen_pair kept) → Some scored ≡ slice_get kept 0 → play ≡ scored.0 → score ≡ scored.1
    → IsAnnotation rules words board rack (Some (seen_pair (play, score)))
best_is_shown rules words board rack kept scored play score first is same points =
    subst (λ (p : Play). IsAnnotation rules words board rack (Some (seen_pair (p, score)))) (sym same)
    (subst (λ (s : ℤ). IsAnnotation rules words board rack (Some (seen_pair (scored.0, s)))) (sym points) (best_is_first rules words board rack kept (Some scored) first is))

-- the words of a list have two letters or more
pub long_words : (words : List (List ℕ)) → IsWordList words → AreLong words
long_words words list word within =
    let both = list_all-in is_word words word list.each within in
    let sized = (and_parts (list_all is_ascii_uppercase word) (has_word_length word) both).1 in
    leb-true 2 (length word) (and_parts (nat_le 2 (length word)) (nat_le (length word) 15) sized).0

-- the file of a pair stands for the words of its list
pub file_stands : (words list : List (List ℕ)) (bytes : List ℕ) → list ≡ words → IsAgreed list bytes → StandsFor (language_of bytes) words
file_stands words list bytes same agreed = subst (λ ws. StandsFor (language_of bytes) ws) same agreed.paths

-- what is right by every list that the file stands for is right by the list of the pair
pub file_is_right : (rules : Rules) (words list : List (List ℕ)) (bytes : List ℕ) (board : List (Option Tile)) (cross : Cross) → list ≡ words → IsAgreed list bytes
    → ((ws : List (List ℕ)) → StandsFor (language_of bytes) ws → IsRight rules ws board cross) → IsRight rules words board cross
file_is_right rules words list bytes board cross same agreed right = right words (file_stands words list bytes same agreed)
