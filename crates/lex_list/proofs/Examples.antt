-- Word lists and faults as the definitions give them, computed.
use Rattle.std.proofs.Common.{◌≡◌, ℕ, List, [], ◌∷◌, ◌++◌, Result, Ok, Err, Some, None, refl, true, false, length, map}
use Rattle.std.specs.Prelude.{codes, ◌==◌, if◌then◌else◌}
use Rattle.lex_list.specs.declared.faults.ListWhy.{ListWhy}
use Rattle.lex_list.specs.declared.faults.ListWhy.TheVariants as why
use Rattle.lex_list.specs.declared.faults.ListFault.{ListFault}
use Rattle.lex_list.specs.Lines.{lines_in}
use Rattle.lex_list.specs.Words.{most_words, is_listed}
use Rattle.lex_list.specs.RotatedPaths.{label_of, mark, path_of, is_path_after, is_path}
use Rattle.lex_list.specs.Lists.{with_line, words_in, spelling_fault, fault_of, first_bad_line, at_line, list_in, list_of}

abbrev fails_as : ℕ → ListWhy → Result (List (List ℕ)) ListFault
fails_as line w = Err (at_line line w)

-- LF
abbrev lf : List ℕ
lf = 10 ∷ []

-- CR LF
abbrev cr_lf : List ℕ
cr_lf = 13 ∷ 10 ∷ []

nothing : list_of [] ≡ Ok []
unfolding list_of list_in first_bad_line words_in fault_of spelling_fault with_line most_words lines_in
nothing = refl

digit_in_line_two : list_of (codes "AT" ++ lf ++ codes "A1") ≡ fails_as 2 why.BadLetter
unfolding list_of list_in first_bad_line words_in fault_of spelling_fault with_line most_words lines_in
digit_in_line_two = refl

one_letter : list_of (codes "A") ≡ fails_as 1 why.BadLength
unfolding list_of list_in first_bad_line words_in fault_of spelling_fault with_line most_words lines_in
one_letter = refl

hyphen : list_of (codes "A-B") ≡ fails_as 1 why.BadLetter
unfolding list_of list_in first_bad_line words_in fault_of spelling_fault with_line most_words lines_in
hyphen = refl

blank_after : list_of (codes "AT ") ≡ fails_as 1 why.BadLetter
unfolding list_of list_in first_bad_line words_in fault_of spelling_fault with_line most_words lines_in
blank_after = refl

sixteen_letters : list_of (lf ++ cr_lf ++ codes "ABCDEFGHIJKLMNOP") ≡ fails_as 3 why.BadLength
unfolding list_of list_in first_bad_line words_in fault_of spelling_fault with_line most_words lines_in
sixteen_letters = refl

fifteen_letters : list_of (codes "ABCDEFGHIJKLMNO") ≡ Ok (codes "ABCDEFGHIJKLMNO" ∷ [])
unfolding list_of list_in first_bad_line words_in fault_of spelling_fault with_line most_words lines_in
fifteen_letters = refl

-- the letters are checked before the length
sixteen_with_digit : list_of (codes "ABCDEFGHIJKLMNO1") ≡ fails_as 1 why.BadLetter
unfolding list_of list_in first_bad_line words_in fault_of spelling_fault with_line most_words lines_in
sixteen_with_digit = refl

-- A mark at the front, both line ends, both cases, repeats and empty lines; the words come in byte order, a word before those that
-- begin with it.
mixed : list_of ((0xef ∷ 0xbb ∷ 0xbf ∷ codes "Word") ++ cr_lf ++ codes "atE" ++ lf ++ lf ++ codes "AT" ++ cr_lf ++ cr_lf ++ codes "at" ++ lf ++ codes "zA" ++ (13 ∷ []))
    ≡ Ok (codes "AT" ∷ codes "ATE" ∷ codes "WORD" ∷ codes "ZA" ∷ [])
unfolding list_of list_in first_bad_line words_in fault_of spelling_fault with_line most_words lines_in
mixed = refl

-- one CR at an end is dropped, and a second one is not a letter
two_returns : list_of (codes "AT" ++ (13 ∷ cr_lf)) ≡ fails_as 1 why.BadLetter
unfolding list_of list_in first_bad_line words_in fault_of spelling_fault with_line most_words lines_in
two_returns = refl

-- a mark is not a letter, except at the front
late_mark : list_of (lf ++ (0xef ∷ 0xbb ∷ 0xbf ∷ codes "AT")) ≡ fails_as 2 why.BadLetter
unfolding list_of list_in first_bad_line words_in fault_of spelling_fault with_line most_words lines_in
late_mark = refl

-- one more word than there may be, and a repeated word when there are as many as there may be
too_many : (rest : List (List ℕ)) → length rest ≡ 399999 → fault_of (codes "AT" ∷ rest) (codes "as") ≡ Some why.TooMany
unfolding fault_of spelling_fault with_line most_words
too_many rest e = rw e refl

repeat_at_the_limit : (rest : List (List ℕ)) → length rest ≡ 399999 → fault_of (codes "AT" ∷ rest) (codes "at") ≡ None
unfolding fault_of spelling_fault with_line most_words
repeat_at_the_limit rest e = rw e refl

small_letters_unlisted : is_listed (codes "AT" ∷ []) (codes "at") ≡ false
unfolding is_listed
small_letters_unlisted = refl

-- ---- paths

-- the labels of a text, if + stands for the mark
abbrev labels : List ℕ → List ℕ
labels text = map (λ byte. if byte == 43 then mark else label_of byte) text

paths_of_at : map (is_path (codes "AT" ∷ [])) (map labels (codes "A+T" ∷ codes "TA" ∷ codes "" ∷ codes "AT" ∷ codes "TA+" ∷ codes "+AT" ∷ codes "A+T+" ∷ []))
    ≡ true ∷ true ∷ false ∷ false ∷ false ∷ false ∷ false ∷ []
unfolding is_path_after is_listed
paths_of_at = refl

-- the four paths of a word of four letters
splits : path_of (codes "C") (codes "ARE") ∷ path_of (codes "CA") (codes "RE") ∷ path_of (codes "CAR") (codes "E") ∷ path_of (codes "CARE") [] ∷ []
    ≡ map labels (codes "C+ARE" ∷ codes "AC+RE" ∷ codes "RAC+E" ∷ codes "ERAC" ∷ [])
splits = refl

paths_of_care : map (is_path (codes "CARE" ∷ codes "AT" ∷ [])) (map labels (codes "C+ARE" ∷ codes "AC+RE" ∷ codes "RAC+E" ∷ codes "ERAC" ∷ codes "TA" ∷ codes "CA+RE" ∷ codes "CARE" ∷ []))
    ≡ true ∷ true ∷ true ∷ true ∷ true ∷ false ∷ false ∷ []
unfolding is_path_after is_listed
paths_of_care = refl
