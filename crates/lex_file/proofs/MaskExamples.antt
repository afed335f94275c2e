-- A file of the second format, its nodes, its language and its faults as the definitions give them, computed. The number of bits of
-- a large number does not compute, so it is stated for each one that the file needs.
use Rattle.std.proofs.Common.{◌≡◌, ℕ, suc, ◌+◌, ◌*◌, Bool, true, false, ltb, List, [], ◌∷◌, ◌++◌, length, get_or, Some, None, map, take, drop, refl, ◌∙◌, arith}
use Rattle.std.specs.Prelude.{codes, ◌-◌, ◌==◌, if◌then◌else◌, count_ones}
use Rattle.std.proofs.lemmas.Nat.{ones_cat}
use Rattle.lex_file.specs.declared.arcs.Arc.{Arc}
use Rattle.lex_file.specs.declared.faults.FileFault.{FileFault}
use Rattle.lex_file.specs.declared.faults.FileFault.TheVariants as why
use Rattle.lex_file.specs.FileWords.{words_in, body_of}
use Rattle.lex_file.specs.Shapes.{form_fault, mask_header_fault, fault_of, file_node, arc_count_of, word_count_of}
use Rattle.lex_file.specs.Masks.{node_size, mask_node, arcs_among, labels_within}
use Rattle.lex_file.specs.MaskShapes.{label_fault, labels_fault, node_fault, nodes_fault}
use Rattle.lex_file.specs.Languages.{tail_in, language_of}

-- ---- the bits of the numbers below

none_set : count_ones 0 ≡ 0
unfolding lib.Count.ones
none_set = refl

mark_set : count_ones 1 ≡ 1
unfolding lib.Count.ones
mark_set = refl

a_set : count_ones 2 ≡ 1
unfolding lib.Count.ones
a_set = refl

t_set : count_ones 0x100000 ≡ 1
unfolding lib.Count.ones
t_set = ones_cat 20 1 0 (omega arith)

at_set : count_ones 0x100002 ≡ 2
unfolding lib.Count.ones
at_set = ones_cat 20 1 2 (omega arith)

abt_set : count_ones 0x100006 ≡ 3
unfolding lib.Count.ones
abt_set = ones_cat 20 1 6 (omega arith)

-- ---- the file

-- the labels of a text in which + is the mark: 0, and 1 for A
abbrev labels : List ℕ → List ℕ
labels text = map (λ byte. if byte == 43 then 0 else byte - 64) text

-- the file of the word AT, whose paths are A+T and TA
abbrev at_file : List ℕ
at_file =
    codes "GAD2" ++ 13 ∷ 0 ∷ 0 ∷ 0 ∷ 10 ∷ 0 ∷ 0 ∷ 0 ∷ 1 ∷ 0 ∷ 0 ∷ 0 ∷
    0 ∷ 0 ∷ 0x10 ∷ 0x80 ∷ 0 ∷ 0 ∷ 0x10 ∷ 0 ∷ 0 ∷ 0 ∷ 0 ∷ 0 ∷
    1 ∷ 0 ∷ 0 ∷ 0x80 ∷ 0 ∷ 0 ∷ 0 ∷ 0 ∷ 1 ∷ 0 ∷ 0 ∷ 0 ∷
    2 ∷ 0 ∷ 0 ∷ 0x80 ∷ 2 ∷ 0 ∷ 0 ∷ 0 ∷ 0 ∷ 0 ∷ 0 ∷ 0 ∷
    2 ∷ 0 ∷ 0x10 ∷ 0x80 ∷ 0 ∷ 0 ∷ 0 ∷ 0 ∷ 4 ∷ 0 ∷ 0 ∷ 0 ∷ 7 ∷ 0 ∷ 0 ∷ 0 ∷ []

-- the words after its header
abbrev at_words : List ℕ
at_words = 0x80100000 ∷ 0x100000 ∷ 0 ∷ 0x80000001 ∷ 0 ∷ 1 ∷ 0x80000002 ∷ 2 ∷ 0 ∷ 0x80100002 ∷ 0 ∷ 4 ∷ 7 ∷ []

at_body : body_of at_file ≡ at_words
unfolding words_in
at_body = refl

-- ---- the nodes, one by one

abbrev arc : ℕ → Bool → ℕ → Arc
arc label accepts target = record { label = label; accepts = accepts; target = target }

node_1 : mask_node at_words 1 ≡ arc 20 true 0 ∷ []
unfolding arcs_among
node_1 = rw none_set refl

node_4 : mask_node at_words 4 ≡ arc 0 false 1 ∷ []
unfolding arcs_among
node_4 = rw none_set (refl {a = arc 0 false 1 ∷ []})

node_7 : mask_node at_words 7 ≡ arc 1 true 0 ∷ []
unfolding arcs_among
node_7 = rw none_set (refl {a = arc 1 true 0 ∷ []})

node_10 : mask_node at_words 10 ≡ arc 1 false 4 ∷ arc 20 false 7 ∷ []
unfolding arcs_among
node_10 = rw (none_set, a_set) refl

-- ---- the faults

-- past a node without a fault
past : (words : List ℕ) (remaining place size : ℕ) → ltb place (length words) ≡ true → node_size (get_or words place 0) ≡ size → node_fault words place ≡ None
    → nodes_fault words (suc remaining) place ≡ nodes_fault words remaining (place + size)
unfolding nodes_fault
past words remaining place size inside is fine = rw (inside, fine, is) refl

-- at a node with a fault
stop : (words : List ℕ) (remaining place : ℕ) (fault : FileFault) → ltb place (length words) ≡ true → node_fault words place ≡ Some fault
    → nodes_fault words (suc remaining) place ≡ Some fault
unfolding nodes_fault
stop words remaining place fault inside is = rw (inside, is) refl

-- at the end
ended : (words : List ℕ) (remaining place : ℕ) → ltb place (length words) ≡ false → nodes_fault words (suc remaining) place ≡ None
unfolding nodes_fault
ended words remaining place e = rw e refl

at_fine : nodes_fault at_words 13 0 ≡ None
unfolding node_fault labels_fault label_fault
at_fine =
    past at_words 12 0 3 refl (rw t_set refl) (rw (t_set, none_set) (refl {a = None}))
    ∙ past at_words 11 3 3 refl (rw mark_set refl) (rw (mark_set, none_set) (refl {a = None}))
    ∙ past at_words 10 6 3 refl (rw a_set refl) (rw (a_set, none_set) (refl {a = None}))
    ∙ past at_words 9 9 4 refl (rw at_set refl) (rw (at_set, none_set, a_set) (refl {a = None}))
    ∙ ended at_words 8 13 refl

at_shape : fault_of at_file ≡ None
unfolding fault_of form_fault mask_header_fault words_in
at_shape = at_fine

-- ---- the language

-- which texts are in the language of the file
abbrev accepted : List (List ℕ) → List Bool
accepted texts = map (λ text. language_of at_file (labels text)) texts

at_language : accepted (codes "A+T" ∷ codes "TA" ∷ []) ≡ true ∷ true ∷ []
unfolding tail_in file_node words_in arcs_among
at_language = rw (none_set, a_set) (rw none_set refl)

others : accepted (codes "" ∷ codes "A" ∷ codes "T" ∷ codes "AT" ∷ codes "+T" ∷ codes "A+" ∷ codes "TA+" ∷ codes "A+TA" ∷ codes "B" ∷ [])
    ≡ false ∷ false ∷ false ∷ false ∷ false ∷ false ∷ false ∷ false ∷ false ∷ []
unfolding tail_in file_node words_in arcs_among
others = rw (none_set, a_set) (rw none_set (rw none_set refl))

at_counts : (word_count_of at_file ∷ arc_count_of at_file ∷ []) ≡ 1 ∷ 5 ∷ []
unfolding words_in arc_count_of labels_within
at_counts = rw (t_set, mark_set, a_set, at_set) refl

-- ---- changes of the file, and their faults

-- the file with other bytes for a word
abbrev changed : ℕ → List ℕ → List ℕ
changed n bytes = take (12 + 4 * n) at_file ++ bytes ++ drop (16 + 4 * n) at_file

root_11 : fault_of (take 8 at_file ++ 11 ∷ 0 ∷ 0 ∷ 0 ∷ drop 12 at_file) ≡ Some why.Root
unfolding fault_of form_fault mask_header_fault words_in
root_11 = refl

short : fault_of (take 15 at_file) ≡ Some why.Short
unfolding fault_of
short = refl

no_word : fault_of (take 16 at_file) ≡ Some why.Length
unfolding fault_of form_fault mask_header_fault words_in
no_word = refl

byte_more : fault_of (at_file ++ 0 ∷ []) ≡ Some why.Length
unfolding fault_of form_fault mask_header_fault words_in
byte_more = refl

bit_27 : fault_of (changed 1 (0 ∷ 0 ∷ 0x10 ∷ 0x88 ∷ [])) ≡ Some why.Mask
unfolding fault_of form_fault mask_header_fault words_in node_fault labels_fault label_fault
bit_27 = stop (0x88100000 ∷ drop 1 at_words) 12 0 why.Mask refl refl

no_mark : fault_of (changed 4 (1 ∷ 0 ∷ 0 ∷ 0 ∷ [])) ≡ Some why.NoMark
unfolding fault_of form_fault mask_header_fault words_in node_fault labels_fault label_fault
no_mark =
    let words = take 3 at_words ++ 1 ∷ drop 4 at_words in
    past words 12 0 3 refl (rw t_set refl) (rw (t_set, none_set) (refl {a = None})) ∙ stop words 11 3 why.NoMark refl refl

accepts_more : fault_of (changed 5 (2 ∷ 0 ∷ 0 ∷ 0 ∷ [])) ≡ Some why.Accept
unfolding fault_of form_fault mask_header_fault words_in node_fault labels_fault label_fault
accepts_more =
    let words = take 4 at_words ++ 2 ∷ drop 5 at_words in
    past words 12 0 3 refl (rw t_set refl) (rw (t_set, none_set) (refl {a = None})) ∙ stop words 11 3 why.Accept refl (rw mark_set refl)

target_of_itself : fault_of (changed 6 (4 ∷ 0 ∷ 0 ∷ 0 ∷ [])) ≡ Some why.Target
unfolding fault_of form_fault mask_header_fault words_in node_fault labels_fault label_fault
target_of_itself =
    let words = take 5 at_words ++ 4 ∷ drop 6 at_words in
    past words 12 0 3 refl (rw t_set refl) (rw (t_set, none_set) (refl {a = None})) ∙ stop words 11 3 why.Target refl (rw (mark_set, none_set) (refl {a = Some why.Target}))

dead_arc : fault_of (changed 2 (0 ∷ 0 ∷ 0 ∷ 0 ∷ [])) ≡ Some why.DeadArc
unfolding fault_of form_fault mask_header_fault words_in node_fault labels_fault label_fault
dead_arc = stop (take 1 at_words ++ 0 ∷ drop 2 at_words) 12 0 why.DeadArc refl (rw (t_set, none_set) (refl {a = Some why.DeadArc}))

open_run : fault_of (changed 10 (6 ∷ 0 ∷ 0x10 ∷ 0x80 ∷ [])) ≡ Some why.OpenRun
unfolding fault_of form_fault mask_header_fault words_in node_fault labels_fault label_fault
open_run =
    let words = take 9 at_words ++ 0x80100006 ∷ drop 10 at_words in
    past words 12 0 3 refl (rw t_set refl) (rw (t_set, none_set) (refl {a = None}))
    ∙ past words 11 3 3 refl (rw mark_set refl) (rw (mark_set, none_set) (refl {a = None}))
    ∙ past words 10 6 3 refl (rw a_set refl) (rw (a_set, none_set) (refl {a = None}))
    ∙ stop words 9 9 why.OpenRun refl (rw abt_set refl)

-- the accept bit of A in the last node: without a fault, and A is in the language along with the paths
root_accepts_a : fault_of (changed 11 (2 ∷ 0 ∷ 0 ∷ 0 ∷ [])) ≡ None
unfolding fault_of form_fault mask_header_fault words_in node_fault labels_fault label_fault
root_accepts_a =
    let words = take 10 at_words ++ 2 ∷ drop 11 at_words in
    past words 12 0 3 refl (rw t_set refl) (rw (t_set, none_set) (refl {a = None}))
    ∙ past words 11 3 3 refl (rw mark_set refl) (rw (mark_set, none_set) (refl {a = None}))
    ∙ past words 10 6 3 refl (rw a_set refl) (rw (a_set, none_set) (refl {a = None}))
    ∙ past words 9 9 4 refl (rw at_set refl) (rw (at_set, none_set, a_set) (refl {a = None}))
    ∙ ended words 8 13 refl

a_accepted : language_of (changed 11 (2 ∷ 0 ∷ 0 ∷ 0 ∷ [])) (labels (codes "A")) ≡ true
unfolding tail_in file_node words_in arcs_among
a_accepted = refl
