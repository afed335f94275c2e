-- Drafts as the definitions read them, computed.
use Rattle.std.proofs.Common.{◌≡◌, ℕ, List, [], ◌∷◌, ◌++◌, Ok, Err, refl}
use Rattle.std.specs.Prelude.{codes}
use Rattle.text_lines.specs.Fields.{fields_of}
use Rattle.text_lines.specs.Lines.{lines_in}
use Rattle.gcg_drafts.specs.declared.missing.Missing.TheVariants as missing
use Rattle.gcg_drafts.specs.declared.amiss.Amiss.TheVariants as amiss
use Rattle.gcg_drafts.specs.Lacks.{lacks_in}
use Rattle.gcg_drafts.specs.Texts.{completed, completed_line, completed_text, missing_in}

-- ---- what the fields after a colon lack

play_without_numbers : lacks_in (fields_of (codes " DORWAAE 8E WORD")) ≡ Ok missing.Both
unfolding lacks_in fields_of
play_without_numbers = refl

play_without_total : lacks_in (fields_of (codes " 8E WORD +16")) ≡ Ok missing.Total
unfolding lacks_in fields_of
play_without_total = refl

whole_play : lacks_in (fields_of (codes " DORWAAE 8E WORD +16 16")) ≡ Ok missing.Nothing
unfolding lacks_in fields_of
whole_play = refl

-- a digit after '-' does not make a position of a code
exchange_of_three : lacks_in (fields_of (codes " -3")) ≡ Ok missing.Both
unfolding lacks_in fields_of
exchange_of_three = refl

rack_and_code : lacks_in (fields_of (codes " DORWAAE -- -16")) ≡ Ok missing.Total
unfolding lacks_in fields_of
rack_and_code = refl

last_rack : lacks_in (fields_of (codes " (DEL)")) ≡ Ok missing.Both
unfolding lacks_in fields_of
last_rack = refl

challenge : lacks_in (fields_of (codes " (challenge) +5")) ≡ Ok missing.Total
unfolding lacks_in fields_of
challenge = refl

penalty_without_score : lacks_in (fields_of (codes " AEINRST (time)")) ≡ Err amiss.NoScore
unfolding lacks_in fields_of
penalty_without_score = refl

no_event : lacks_in (fields_of (codes " DORWAAE")) ≡ Err amiss.NoEvent
unfolding lacks_in fields_of
no_event = refl

nothing : lacks_in (fields_of (codes " ")) ≡ Err amiss.NoEvent
unfolding lacks_in fields_of
nothing = refl

no_word : lacks_in (fields_of (codes " DORWAAE 8E")) ≡ Err amiss.NoWord
unfolding lacks_in fields_of
no_word = refl

too_many : lacks_in (fields_of (codes " - +0 0 0")) ≡ Err amiss.TooMany
unfolding lacks_in fields_of
too_many = refl

-- ---- the text

one_line : completed_text (codes ">A: 8E WORD") ≡ codes ">A: 8E WORD +0 0"
unfolding completed_text completed_line completed lacks_in fields_of
one_line = refl

-- a blank at the end is the one before the numbers, and a CR stays at the end
blank_and_return : completed_text (codes ">A: -- -16 " ++ 13 ∷ 10 ∷ codes "#note >A: -") ≡ codes ">A: -- -16 0" ++ 13 ∷ 10 ∷ codes "#note >A: -"
unfolding completed_text completed_line completed lacks_in fields_of
blank_and_return = refl

untouched : completed_text (codes ">A: (time)" ++ 10 ∷ []) ≡ codes ">A: (time)" ++ 10 ∷ []
unfolding completed_text completed_line completed lacks_in fields_of
untouched = refl

two_lines : missing_in (codes ">A: 8E WORD" ++ 10 ∷ codes "x" ++ 10 ∷ codes ">B: - +0 0") ≡ missing.Both ∷ missing.Nothing ∷ []
unfolding missing_in lacks_in fields_of lines_in
two_lines = refl
