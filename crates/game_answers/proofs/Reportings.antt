-- The text of a report, by the value that it is made from.
use Rattle.std.proofs.Common.{◌≡◌, ℕ, Bool, true, false, List, [], ◌∷◌, ◌++◌, ◌&&◌, codes, refl, sym, ap, ◌∙◌, if◌then◌else◌}
use Rattle.std.specs.List.{list_all, flat_map}
use Rattle.std.proofs.lemmas.Bool.{and_parts}
use Rattle.lex_list.specs.Words.{is_listed}
use Rattle.game_report.specs.EventLines.{unlisted_word, unlisted_text}
use Rattle.game_turns.specs.Unlisted.{unlisted_of}
use Rattle.game_answers.specs.Reports.{unlisted_reported}

one_reported : (list : List (List ℕ)) (word : List ℕ) (words : List (List ℕ)) (b : Bool) → is_listed list word ≡ b → flat_map (λ w. 32 ∷ w) (unlisted_of list words) ≡ flat_map (unlisted_word list) words
    → flat_map (λ w. 32 ∷ w) (unlisted_of list (word ∷ words)) ≡ flat_map (unlisted_word list) (word ∷ words)
one_reported list word words true is rest = rw is rest
one_reported list word words false is rest = rw is (ap (λ t. (32 ∷ word) ++ t) rest)

words_reported : (list words : List (List ℕ)) → flat_map (λ w. 32 ∷ w) (unlisted_of list words) ≡ flat_map (unlisted_word list) words
words_reported list [] = refl
words_reported list (word ∷ words) = one_reported list word words (is_listed list word) refl (words_reported list words)

all_listed : (list words : List (List ℕ)) → list_all (is_listed list) words ≡ true → unlisted_of list words ≡ []
all_listed list [] all = refl
all_listed list (word ∷ words) all =
    let parts = and_parts (is_listed list word) (list_all (is_listed list) words) all in
    rw parts.0 (all_listed list words parts.1)

-- some word is not in the list
pub record HasUnlisted (list words : List (List ℕ)) : Type 0 where
  pub first : List ℕ
  pub rest : List (List ℕ)
  pub are : unlisted_of list words ≡ first ∷ rest

passed_over : (list : List (List ℕ)) (word : List ℕ) (words : List (List ℕ)) → is_listed list word ≡ true → unlisted_of list (word ∷ words) ≡ unlisted_of list words
passed_over list word words is = rw is refl

kept_first : (list : List (List ℕ)) (word : List ℕ) (words : List (List ℕ)) → is_listed list word ≡ false → unlisted_of list (word ∷ words) ≡ word ∷ unlisted_of list words
kept_first list word words is = rw is refl

one_unlisted : (list : List (List ℕ)) (word : List ℕ) (words : List (List ℕ)) (b : Bool) → is_listed list word ≡ b → list_all (is_listed list) (word ∷ words) ≡ false
    → (list_all (is_listed list) words ≡ false → HasUnlisted list words) → HasUnlisted list (word ∷ words)
one_unlisted list word words true is some more =
    let there = more (sym (ap (λ b. b && list_all (is_listed list) words) is) ∙ some) in
    record { first = there.first; rest = there.rest; are = passed_over list word words is ∙ there.are }
one_unlisted list word words false is some more = record { first = word; rest = unlisted_of list words; are = kept_first list word words is }

some_unlisted : (list words : List (List ℕ)) → list_all (is_listed list) words ≡ false → HasUnlisted list words
some_unlisted list [] some = cc
some_unlisted list (word ∷ words) some = one_unlisted list word words (is_listed list word) refl some (some_unlisted list words)

reported_of_some : (u : List (List ℕ)) (first : List ℕ) (rest : List (List ℕ)) → u ≡ first ∷ rest → unlisted_reported u ≡ codes " unlisted" ++ flat_map (λ w. 32 ∷ w) u
reported_of_some u first rest are = ap unlisted_reported are ∙ sym (ap (λ x. codes " unlisted" ++ flat_map (λ w. 32 ∷ w) x) are)

reported_by_all : (list words : List (List ℕ)) (b : Bool) → list_all (is_listed list) words ≡ b → unlisted_text list words ≡ unlisted_reported (unlisted_of list words)
unfolding unlisted_text
reported_by_all list words true all =
    ap (λ (b : Bool). if b then [] else (codes " unlisted" ++ flat_map (unlisted_word list) words)) all ∙ sym (ap unlisted_reported (all_listed list words all))
reported_by_all list words false some =
    let there = some_unlisted list words some in
    ap (λ (b : Bool). if b then [] else (codes " unlisted" ++ flat_map (unlisted_word list) words)) some
    ∙ sym (reported_of_some (unlisted_of list words) there.first there.rest there.are ∙ ap (λ (t : List ℕ). codes " unlisted" ++ t) (words_reported list words))

pub reports_unlisted : (list words : List (List ℕ)) → unlisted_text list words ≡ unlisted_reported (unlisted_of list words)
reports_unlisted list words = reported_by_all list words (list_all (is_listed list) words) refl
