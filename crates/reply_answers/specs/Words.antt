-- The ruling on words that a request names.
use Rattle.std.specs.Prelude.{◌≡◌, ℕ, List, map, slice_get, Option, Some, None}
use Rattle.std.specs.Borrow.{Bor}
use Rattle.lex_rulings.specs.Asked.{letters_of, asked_of}
use Rattle.lex_rulings.specs.Rulings.{IsRuling}
use Rattle.lex_rulings.specs.declared.asked.AskedWord.{AskedWord}
use Rattle.reply_answers.specs.declared.words.Ruled.{Ruled}

-- the words that texts ask about, one for each text, in capitals
abbrev pub AreWordsOf : (texts : List (Bor (List ℕ))) → List AskedWord → Type 0
AreWordsOf texts words = map (λ (w : AskedWord). Some (letters_of w)) words ≡ map (λ (t : Bor (List ℕ)). asked_of t.now) texts

-- a text is not a word
pub record HasNoWord (texts : List (Bor (List ℕ))) : Type 0 where
  pub place : ℕ
  pub text : Bor (List ℕ)
  pub stands : slice_get texts place ≡ Some text
  pub none : asked_of text.now ≡ None

-- the words of texts; none only if a text is not a word
abbrev pub WordsOf : (texts : List (Bor (List ℕ))) → Option (List AskedWord) → Type 0
WordsOf texts (Some words) = AreWordsOf texts words
WordsOf texts None = HasNoWord texts

-- the ruling on the words of texts; none only if a text is not a word
abbrev pub IsRuledOn : (list : List (List ℕ)) → (texts : List (Bor (List ℕ))) → Option Ruled → Type 0
IsRuledOn list texts (Some r) = AreWordsOf texts r.words.items × IsRuling list r.words.items r.ruling
IsRuledOn list texts None = HasNoWord texts
