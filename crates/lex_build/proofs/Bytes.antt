-- Words and their bytes.
use Rattle.std.proofs.Common.{◌≡◌, ℕ, zero, suc, ◌+◌, ◌*◌, ◌/◌, ◌%◌, ◌^◌, ◌<◌, ◌≤◌, false, List, [], ◌∷◌, ◌++◌, length, get_or, take, drop, refl, sym, ap, subst, ◌∙◌, arith, append_assoc, append-nil}
use Rattle.std.proofs.lemmas.List.{length-append, drop-append-le, take_more}
use Rattle.std.proofs.lemmas.Bool.{eqb-false}
use Rattle.std.proofs.Math.ListN.{length-drop, drop_of_length-le}
use Rattle.std.proofs.Math.Seq.{get_or-append_seam}
use Rattle.std.specs.List.{IsLastAndRest}
use Rattle.byteorder.specs.Endian.{little_number, little_bytes}
use Rattle.byteorder.specs.Numbers.{little_from-bytes}
use Rattle.lex_file.specs.Arcs.{is_last}
use Rattle.lex_file.specs.FileWords.{words_in, body_of}
use Rattle.lex_file.specs.Shapes.{arcs_fault}
use Rattle.smallvec.specs.SmallVec.{SmallVec}
use Rattle.lex_build.specs.Bodies.{IsWhole, HasAppended, IsKept, run_with}

-- the words of whole words and more bytes
pub words_append : (xs ys : List ℕ) → length xs ≡ 4 * length (words_in xs) → words_in (xs ++ ys) ≡ words_in xs ++ words_in ys
unfolding words_in
words_append [] ys e = refl
words_append (a ∷ []) ys e = absurd (omega arith)
words_append (a ∷ b ∷ []) ys e = absurd (omega arith)
words_append (a ∷ b ∷ c ∷ []) ys e = absurd (omega arith)
words_append (a ∷ b ∷ c ∷ d ∷ xs) ys e = ap (λ (words : List ℕ). little_number 4 (a ∷ b ∷ c ∷ d ∷ []) ∷ words) (words_append xs ys (omega arith))

-- a word is read back from its bytes
pub word_back : (word : ℕ) (rest : List ℕ) → word < 2 ^ 32 → words_in (little_bytes 4 word ++ rest) ≡ word ∷ words_in rest
unfolding words_in
word_back word rest lt =
    let back = little_from-bytes 4 0 word [] in
    let same : little_number 4 (little_bytes 4 word) ≡ word = back ∙ omega arith in
    ap (λ (n : ℕ). n ∷ words_in rest) same

pub push_body : (bytes : List ℕ) (word : ℕ) → IsWhole bytes → word < 2 ^ 32 → body_of (bytes ++ little_bytes 4 word) ≡ body_of bytes ++ word ∷ []
unfolding words_in
push_body bytes word whole lt =
    let size = length-drop 16 bytes in
    rw (drop-append-le 16 bytes (little_bytes 4 word) (omega arith))
    (words_append (drop 16 bytes) (little_bytes 4 word) (omega arith) ∙ ap (λ (words : List ℕ). body_of bytes ++ words) (word_back word [] lt))

pub push_whole : (bytes : List ℕ) (word : ℕ) → IsWhole bytes → word < 2 ^ 32 → IsWhole (bytes ++ little_bytes 4 word)
push_whole bytes word whole lt =
    rw (push_body bytes word whole lt) (omega (arith, length-append bytes (little_bytes 4 word), length-append (body_of bytes) (word ∷ [])))

pub pushed : (old new four rest : List ℕ) (word : ℕ) → IsWhole old → word < 2 ^ 32 → four ≡ little_bytes 4 word ++ rest → rest ≡ [] → new ≡ old ++ four
    → HasAppended old new (word ∷ [])
pushed old new four rest word whole lt is none e =
    let same : new ≡ old ++ little_bytes 4 word = e ∙ ap (λ (bytes : List ℕ). old ++ bytes) (is ∙ ap (λ (bytes : List ℕ). little_bytes 4 word ++ bytes) none ∙ append-nil (little_bytes 4 word)) in
    record { whole = subst IsWhole (sym same) (push_whole old word whole lt); body = ap body_of same ∙ push_body old word whole lt }

-- ---- the words of a node

pub run_of_one : (arcs inner : List ℕ) (last : ℕ) → arcs ≡ inner ++ last ∷ [] → run_with arcs ≡ inner ++ (last + 64) ∷ []
unfolding run_with
run_of_one arcs inner last e = ap run_with e ∙ by inner
  where
    by : (inner : List ℕ) → run_with (inner ++ last ∷ []) ≡ inner ++ (last + 64) ∷ []
    by [] = refl
    by (word ∷ []) = refl
    by (word ∷ next ∷ inner) = ap (λ (words : List ℕ). word ∷ words) (by (next ∷ inner))

-- a word without the bit of a last arc has room for it
pub markable : (word : ℕ) → is_last word ≡ false → word < 2 ^ 32 → word + 64 < 2 ^ 32
markable word unmarked lt = let other = eqb-false (word / 64 % 2) 1 unmarked in omega arith

pub none_appended : (bytes arcs : List ℕ) → IsWhole bytes → arcs ≡ [] → HasAppended bytes bytes (run_with arcs)
unfolding run_with
none_appended bytes arcs whole none = record { whole = whole; body = rw none (sym (append-nil (body_of bytes))) }

pub start_appended : (bytes words : List ℕ) → IsWhole bytes → HasAppended bytes bytes (take 0 words)
start_appended bytes words whole = record { whole = whole; body = sym (append-nil (body_of bytes)) }

pub more_appended : (old mid new words : List ℕ) (place : ℕ) → HasAppended old mid (take place words) → place < length words
    → HasAppended mid new (get_or words place 0 ∷ []) → HasAppended old new (take (place + 1) words)
more_appended old mid new words place before lt here =
    record { whole = here.whole; body = here.body ∙ ap (λ (xs : List ℕ). xs ++ get_or words place 0 ∷ []) before.body ∙ append_assoc (body_of old) (take place words) (get_or words place 0 ∷ []) ∙ ap (λ (xs : List ℕ). body_of old ++ xs) (sym (take_more words place 0 lt)) }

pub run_appended : (old mid new arcs inner : List ℕ) (last word : ℕ) → IsLastAndRest arcs last inner → HasAppended old mid inner → HasAppended mid new (word ∷ [])
    → word ≡ last + 64 → HasAppended old new (run_with arcs)
run_appended old mid new arcs inner last word split before here marked = record {
  whole = here.whole;
  body = here.body
      ∙ ap (λ (xs : List ℕ). xs ++ word ∷ []) before.body
      ∙ append_assoc (body_of old) inner (word ∷ [])
      ∙ ap (λ (n : ℕ). body_of old ++ (inner ++ n ∷ [])) marked
      ∙ ap (λ (xs : List ℕ). body_of old ++ xs) (sym (run_of_one arcs inner last split.0));
}

pub take_all : (xs : List ℕ) (n : ℕ) → length xs ≤ n → take n xs ≡ xs
take_all [] zero le = refl
take_all [] (suc n) le = refl
take_all (x ∷ xs) zero le = absurd (omega arith)
take_all (x ∷ xs) (suc n) le = ap (λ (ys : List ℕ). x ∷ ys) (take_all xs n (omega arith))

pub all_appended : (old new words : List ℕ) (place : ℕ) → HasAppended old new (take place words) → length words ≤ place → HasAppended old new words
all_appended old new words place all le = subst (HasAppended old new) (take_all words place le) all

-- ---- no words

pub none_body : (bytes : List ℕ) → length bytes ≡ 16 → body_of bytes ≡ []
unfolding words_in
none_body bytes size = let none : drop 16 bytes ≡ [] = drop_of_length-le bytes {i = 16} (omega arith) in rw none refl

pub none_kept : (bytes : List ℕ) (nodes : List (SmallVec ℕ × ℕ)) → length bytes ≡ 16 → nodes ≡ [] → IsKept bytes nodes
unfolding arcs_fault
none_kept bytes nodes size none =
    let body = none_body bytes size in
    record {
      whole = rw body size;
      body = rw body (record { fine = refl; closed = refl; few = omega arith });
      named = λ arcs n there. let lt = subst (λ (xs : List (SmallVec ℕ × ℕ)). there.0 < length xs) none there.1 in absurd (omega arith);
    }

-- the last of some arcs without the bit of a last arc does not have it
pub last_of : (arcs inner : List ℕ) (last : ℕ) → arcs ≡ inner ++ last ∷ [] → ((place : ℕ) → place < length arcs → is_last (get_or arcs place 0) ≡ false)
    → is_last last ≡ false
last_of arcs inner last e unmarked =
    let size = length-append inner (last ∷ []) in
    let here : get_or arcs (length inner) 0 ≡ last = ap (λ (xs : List ℕ). get_or xs (length inner) 0) e ∙ get_or-append_seam inner last [] 0 in
    ap is_last (sym here) ∙ unmarked (length inner) (omega (arith, ap length e))
