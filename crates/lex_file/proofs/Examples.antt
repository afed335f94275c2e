-- Files, their languages and their faults as the definitions give them, computed.
use Rattle.std.proofs.Common.{◌≡◌, ℕ, Bool, true, false, List, [], ◌∷◌, ◌++◌, Some, None, map, take, drop, refl}
use Rattle.std.specs.Prelude.{codes, ◌-◌, ◌==◌, if◌then◌else◌}
use Rattle.first_faults.proofs.Rows.{Agree}
use Rattle.lex_file.specs.declared.faults.FileFault.TheVariants as why
use Rattle.lex_file.specs.FileWords.{words_in}
use Rattle.lex_file.specs.Nodes.{run_of, start_at}
use Rattle.lex_file.specs.Shapes.{arc_fault, arcs_fault, body_fault, header_fault, form_fault, fault_of, file_node, arc_count_of, word_count_of}
use Rattle.lex_file.specs.Languages.{tail_in, language_of}

-- the labels of a text in which + is the mark: 0, and 1 for A
abbrev labels : List ℕ → List ℕ
labels text = map (λ byte. if byte == 43 then 0 else byte - 64) text

-- a word of 32 bits of which the two high bytes are 0
abbrev word : ℕ → ℕ → List ℕ
word low high = low ∷ high ∷ 0 ∷ 0 ∷ []

-- a header of numbers below 256
abbrev header : ℕ → ℕ → ℕ → List ℕ
header arcs root words = codes "GAD1" ++ word arcs 0 ++ word root 0 ++ word words 0

-- the arcs of the word AT, whose paths are A+T and TA
abbrev arcs_of_at : List ℕ
arcs_of_at = word 0x74 0 ++ word 0xc0 0 ++ word 0x61 0 ++ word 0x01 1 ++ word 0xd4 1

-- the file of the word AT
abbrev at_file : List ℕ
at_file = header 5 4 1 ++ arcs_of_at

-- the file of the words AT and IT, with the node of +T shared
abbrev at_it_file : List ℕ
at_it_file = header 7 5 2 ++ word 0x74 0 ++ word 0xc0 0 ++ word 0x21 0 ++ word 0x69 0 ++ word 0x01 1 ++ word 0x09 1 ++ word 0xd4 1

-- which texts are in the language of a file
abbrev accepted : List ℕ → List (List ℕ) → List Bool
accepted bytes texts = map (λ text. language_of bytes (labels text)) texts

at_shape : fault_of (at_file) ≡ None
unfolding fault_of form_fault header_fault body_fault arcs_fault arc_fault words_in start_at
at_shape = refl

at_it_shape : fault_of (at_it_file) ≡ None
unfolding fault_of form_fault header_fault body_fault arcs_fault arc_fault words_in start_at
at_it_shape = refl

empty_shape : fault_of (header 0 0 0) ≡ None
unfolding fault_of form_fault header_fault body_fault arcs_fault arc_fault words_in start_at
empty_shape = refl

at_language : accepted at_file (codes "A+T" ∷ codes "TA" ∷ codes "" ∷ codes "A" ∷ codes "AT" ∷ codes "T" ∷ codes "+T" ∷ codes "A+" ∷ codes "TA+" ∷ codes "A+TA" ∷ [])
    ≡ true ∷ true ∷ false ∷ false ∷ false ∷ false ∷ false ∷ false ∷ false ∷ false ∷ []
unfolding tail_in file_node run_of words_in
at_language = refl

at_it_language : accepted at_it_file (codes "A+T" ∷ codes "I+T" ∷ codes "TA" ∷ codes "TI" ∷ codes "I" ∷ codes "IT" ∷ codes "+T" ∷ [])
    ≡ true ∷ true ∷ true ∷ true ∷ false ∷ false ∷ false ∷ []
unfolding tail_in file_node run_of words_in
at_it_language = refl

empty_language : accepted (header 0 0 0) (codes "" ∷ codes "A" ∷ codes "A+T" ∷ []) ≡ false ∷ false ∷ false ∷ []
unfolding tail_in file_node run_of words_in
empty_language = refl

at_counts : (word_count_of at_file ∷ arc_count_of at_file ∷ []) ≡ 1 ∷ 5 ∷ []
unfolding words_in arc_count_of
at_counts = refl

-- changes of the file of AT, and their faults
faults_of_changes : Agree (
    (fault_of ([]), Some why.Short)
    ∷ (fault_of (take 15 at_file), Some why.Short)
    ∷ (fault_of (take 16 at_file), Some why.Length)
    ∷ (fault_of (take 35 at_file), Some why.Length)
    ∷ (fault_of (at_file ++ 0 ∷ []), Some why.Length)
    ∷ (fault_of (0x48 ∷ drop 1 at_file), Some why.Magic)
    ∷ (fault_of (header 5 5 1 ++ arcs_of_at), Some why.Root)
    ∷ (fault_of (header 5 0 1 ++ arcs_of_at), Some why.Root)
    ∷ (fault_of (header 5 6 1 ++ arcs_of_at), Some why.Root)
    ∷ (fault_of (header 0 1 0), Some why.Root)
    ∷ (fault_of (header 5 4 1 ++ word 0x7b 0 ++ drop 20 at_file), Some why.Label)
    ∷ (fault_of (take 32 at_file ++ word 0xc1 1), Some why.Order)
    ∷ (fault_of (take 20 at_file ++ word 0x40 1 ++ drop 24 at_file), Some why.Target)
    ∷ (fault_of (take 32 at_file ++ word 0x54 2), Some why.Target)
    ∷ (fault_of (header 5 4 1 ++ word 0x54 0 ++ drop 20 at_file), Some why.DeadArc)
    ∷ (fault_of (take 32 at_file ++ word 0x94 1), Some why.OpenRun)
    ∷ [])
unfolding fault_of form_fault header_fault body_fault arcs_fault arc_fault words_in start_at
faults_of_changes = refl
