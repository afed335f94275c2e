-- What an event line of a draft lacks, by the fields after its colon. They are told from the left: a rack or none; a position and a word, or a
-- code; and then the score and the total, as far as they are there.
use Rattle.std.specs.Prelude.{ℕ, Bool, false, not, ◌==◌, ◌&&◌, ◌||◌, List, [], ◌∷◌, codes, Result, Ok, Err, if◌then◌else◌}
use Rattle.std.specs.Str.{bytes_eq}
use Rattle.gcg_read.specs.EventLines.{has_digit}
use Rattle.gcg_drafts.specs.declared.missing.Missing.{Missing}
use Rattle.gcg_drafts.specs.declared.missing.Missing.TheVariants as missing
use Rattle.gcg_drafts.specs.declared.amiss.Amiss.{Amiss}
use Rattle.gcg_drafts.specs.declared.amiss.Amiss.TheVariants as amiss

-- a code begins with '-' (45) or '(' (40)
abbrev pub is_code : List ℕ → Bool
is_code [] = false
is_code (byte ∷ bytes) = byte == 45 || byte == 40

-- a position has a digit, and does not begin as a code does
abbrev pub is_place : List ℕ → Bool
is_place field = not (is_code field) && has_digit field

-- the codes of a challenge and of a penalty: the rules allow several scores for them, so theirs has to be written
abbrev pub needs_score : List ℕ → Bool
needs_score code = bytes_eq code (codes "(challenge)") || bytes_eq code (codes "(time)")

-- the numbers after a word or a code: a score and a total, or fewer
abbrev pub lacks_of : (needs : Bool) → (numbers : List (List ℕ)) → Result Missing Amiss
lacks_of needs [] = if needs then Err amiss.NoScore else Ok missing.Both
lacks_of needs (score ∷ []) = Ok missing.Total
lacks_of needs (score ∷ total ∷ []) = Ok missing.Nothing
lacks_of needs (score ∷ total ∷ more ∷ rest) = Err amiss.TooMany

-- what follows a position: a word, and then numbers
abbrev pub lacks_after_place : List (List ℕ) → Result Missing Amiss
lacks_after_place [] = Err amiss.NoWord
lacks_after_place (word ∷ numbers) = lacks_of false numbers

-- what follows a rack: a position and a word, or a code; and then numbers
abbrev pub lacks_after_rack : List (List ℕ) → Result Missing Amiss
lacks_after_rack [] = Err amiss.NoEvent
lacks_after_rack (field ∷ rest) = if is_place field then lacks_after_place rest else lacks_of (needs_score field) rest

-- What a line lacks. A field that begins as a code does is one; one with a digit is a position; and any other is a rack.
unfoldable pub lacks_in : List (List ℕ) → Result Missing Amiss
lacks_in [] = Err amiss.NoEvent
lacks_in (field ∷ rest) =
    if is_code field then lacks_of (needs_score field) rest else (if has_digit field then lacks_after_place rest else lacks_after_rack rest)
