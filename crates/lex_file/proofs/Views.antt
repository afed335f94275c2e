-- What an opened file has.
use Rattle.std.proofs.Common.{◌≡◌, ℕ, zero, suc, ◌+◌, ◌^◌, ◌<◌, ◌≤◌, Bool, true, false, ltb, List, length, get_or, drop, Option, Some, None, inl, inr, refl, sym, ap, subst, ◌∙◌, arith}
use Rattle.std.specs.Prelude.{IsTrue, is_none, IfNone, IfSome}
use Rattle.std.proofs.lemmas.Bool.{ltb-true, and_parts, cases_lt}
use Rattle.lex_file.specs.declared.arcs.Arc.{Arc}
use Rattle.lex_file.specs.declared.files.LexFile.{LexFile}
use Rattle.lex_file.specs.declared.formats.Format.{Format}
use Rattle.lex_file.specs.declared.formats.Format.TheVariants as form
use Rattle.lex_file.specs.FileWords.{words_in, body_of}
use Rattle.lex_file.specs.Formats.{most_body_words}
use Rattle.lex_file.specs.Arcs.{arc_from}
use Rattle.lex_file.specs.Nodes.{begins, node_at}
use Rattle.lex_file.specs.Masks.{is_marked, is_mask_node, labels_within, HasRoom}
use Rattle.lex_file.specs.Shapes.{format_of, fault_of, root_of, nodes_by, names_node, arcs_by, file_node, is_file_node, arc_count_of}
use Rattle.lex_file.specs.Files.{IsNextNode, IsRest}
use Rattle.lex_file.specs.laws.Files as files
use Rattle.lex_file.specs.laws.Masks.{node_fine}
use Rattle.lex_file.proofs.Runs as runs
use Rattle.lex_file.proofs.MaskRuns.{few_within}

pub long : (bytes : List ℕ) → IsTrue (is_none (fault_of bytes)) → 16 ≤ length bytes
long bytes shape = (files.formed bytes shape).long

pub header_words : (bytes : List ℕ) → IsTrue (is_none (fault_of bytes)) → 4 ≤ length (words_in bytes)
header_words bytes shape = runs.header_words bytes (long bytes shape)

pub root_is_node : (bytes : List ℕ) → IsTrue (is_none (fault_of bytes)) → is_file_node bytes (root_of bytes) ≡ true
root_is_node bytes shape = (files.sound bytes shape).root

-- ---- by the format, with the words that are read after the header

is_named : (file : LexFile) (format : Format) → file.format ≡ format → format_of file.bytes.now ≡ Some format
is_named file format e = file.named ∙ ap (λ (f : Format). Some f) e

pub nodes_are : (file : LexFile) (format : Format) (n : ℕ) (body : List ℕ) → file.format ≡ format → body ≡ drop 16 file.bytes.now
    → nodes_by (Some format) (words_in body) n ≡ file_node file.bytes.now n
nodes_are file format n body e is =
    ap (λ (b : List ℕ). nodes_by (Some format) (words_in b) n) is
    ∙ sym (ap (λ (node : ℕ → List Arc). node n) (files.nodes_are file.bytes.now format (is_named file format e)))

pub names_are : (file : LexFile) (format : Format) (n : ℕ) (body : List ℕ) → file.format ≡ format → body ≡ drop 16 file.bytes.now
    → names_node (Some format) (words_in body) n ≡ is_file_node file.bytes.now n
names_are file format n body e is =
    ap (λ (b : List ℕ). names_node (Some format) (words_in b) n) is
    ∙ sym (ap (λ (test : ℕ → Bool). test n) (files.names_are file.bytes.now format (is_named file format e)))

pub arcs_are : (file : LexFile) (format : Format) (body : List ℕ) → file.format ≡ format → body ≡ drop 16 file.bytes.now
    → arcs_by (Some format) (words_in body) ≡ arc_count_of file.bytes.now
unfolding arc_count_of
arcs_are file format body e is =
    ap (λ (b : List ℕ). arcs_by (Some format) (words_in b)) is
    ∙ sym (ap (λ (form : Option Format). arcs_by form (body_of file.bytes.now)) (is_named file format e))

-- the words of a node of a GAD2 file are there
room_in_file : (bytes : List ℕ) → IsTrue (is_none (fault_of bytes)) → format_of bytes ≡ Some form.Gad2 → (n : ℕ) → is_mask_node (body_of bytes) n ≡ true → HasRoom (body_of bytes) n
room_in_file bytes shape is zero names = tt
room_in_file bytes shape is (suc place) names = let f = files.formed bytes shape in by f.format f.named f.sound
  where
    by : (format : Format) → format_of bytes ≡ Some format → files.IsSoundBy format bytes → HasRoom (body_of bytes) (suc place)
    by form.Gad1 named s = absurd (other (sym named ∙ is))
      where
        other : Some form.Gad1 ≡ Some form.Gad2 → ⊥
        other e = cc
    by form.Gad2 named s = (node_fine (body_of bytes) place (files.sound bytes shape).few s.fine names).room

pub mask_room : (file : LexFile) (n : ℕ) (body : List ℕ) → file.format ≡ form.Gad2 → body ≡ drop 16 file.bytes.now → is_file_node file.bytes.now n ≡ true
    → HasRoom (words_in body) n
mask_room file n body e is names =
    subst (λ (b : List ℕ). HasRoom (words_in b) n) (sym is)
    (room_in_file file.bytes.now file.shape (is_named file form.Gad2 e) n (names_are file form.Gad2 n (drop 16 file.bytes.now) e refl ∙ names))

-- ---- numbers that fit

pub few_words : (bytes : List ℕ) → IsTrue (is_none (fault_of bytes)) → length (words_in (drop 16 bytes)) ≤ most_body_words
few_words bytes shape = (files.sound bytes shape).few

pub few_labels : (words : List ℕ) → length words ≤ most_body_words → labels_within words (length words) < 2 ^ 32
few_labels words few = let low = few_within words (length words) in omega (arith, low, few)

-- ---- nodes in the file's order

-- a node is numbered by a word after the header, or 0
stored : (bytes : List ℕ) (format : Format) (n : ℕ) → format_of bytes ≡ Some format → 0 < n → is_file_node bytes n ≡ true → n ≤ length (words_in (drop 16 bytes))
stored bytes format zero is some e = absurd (omega arith)
stored bytes form.Gad1 (suc place) is some e =
    let inside = and_parts (ltb place (length (body_of bytes))) (begins (body_of bytes) place) (sym (ap (λ (test : ℕ → Bool). test (suc place)) (files.names_are bytes form.Gad1 is)) ∙ e) in
    omega (arith, ltb-true place (length (body_of bytes)) inside.0)
stored bytes form.Gad2 (suc place) is some e =
    let inside = and_parts (ltb place (length (body_of bytes))) (is_marked (get_or (body_of bytes) place 0)) (sym (ap (λ (test : ℕ → Bool). test (suc place)) (files.names_are bytes form.Gad2 is)) ∙ e) in
    omega (arith, ltb-true place (length (body_of bytes)) inside.0)

not_held : (b : Bool) → (b ≡ true → ⊥) → b ≡ false
not_held true h = absurd (h refl)
not_held false h = refl

pub none_yet : (bytes : List ℕ) (low : ℕ) → (n : ℕ) → low < n → n ≤ low → is_file_node bytes n ≡ false
none_yet bytes low n above le = absurd (omega arith)

pub one_more : (bytes : List ℕ) (low place : ℕ) → ((n : ℕ) → low < n → n ≤ place → is_file_node bytes n ≡ false) → is_file_node bytes (place + 1) ≡ false
    → (n : ℕ) → low < n → n ≤ place + 1 → is_file_node bytes n ≡ false
one_more bytes low place before here n above le =
    elim (cases_lt n (place + 1)) [
      | inl less ↦ before n above (omega arith)
      | inr after ↦ let same : n ≡ place + 1 = omega arith in rw same here
    ]

pub none_above : (bytes : List ℕ) (format : Format) (low place : ℕ) → format_of bytes ≡ Some format → length (words_in (drop 16 bytes)) ≤ place
    → ((n : ℕ) → low < n → n ≤ place → is_file_node bytes n ≡ false) → (n : ℕ) → low < n → is_file_node bytes n ≡ false
none_above bytes format low place is le before n above =
    elim (cases_lt place n) [
      | inl past ↦ not_held (is_file_node bytes n) (λ e. let inside = stored bytes format n is (omega arith) e in absurd (omega (arith, inside, past, le)))
      | inr within ↦ before n above within
    ]

pub next_is : (bytes : List ℕ) (low place : ℕ) → low ≤ place → is_file_node bytes (place + 1) ≡ true → ((n : ℕ) → low < n → n ≤ place → is_file_node bytes n ≡ false)
    → IsNextNode bytes low (place + 1)
next_is bytes low place le here before = record { above = omega arith; node = here; next = λ m above less. before m above (omega arith) }

-- ---- what is left of a node of a GAD1 file

pub if_none : {A : Type 0} (o : Option A) (P Q : Type 0) → (P → Q) → IfNone o P → IfNone o Q
if_none None P Q f h = f h
if_none (Some a) P Q f h = tt

pub if_some : {A : Type 0} (o : Option A) (P Q : A → Type 0) → ((a : A) → P a → Q a) → IfSome o P → IfSome o Q
if_some None P Q f h = tt
if_some (Some a) P Q f h = f a h

pub both_some : {A : Type 0} (o : Option A) (P R Q : A → Type 0) → ((a : A) → P a → R a → Q a) → IfSome o P → IfSome o R → IfSome o Q
both_some None P R Q f h k = tt
both_some (Some a) P R Q f h k = f a h k

-- what is left of it has the same arcs from the label on
pub rest_has : (file : LexFile) (n label rest : ℕ) (body : List ℕ) → file.format ≡ form.Gad1 → body ≡ drop 16 file.bytes.now → IsRest file.bytes.now n label rest
    → (above : ℕ) → label ≤ above → arc_from above (file_node file.bytes.now n) ≡ arc_from above (node_at (words_in body) rest)
rest_has file n label rest body e is remaining above le =
    remaining above le ∙ sym (ap (arc_from above) (nodes_are file form.Gad1 rest body e is))

-- and so has what is left of that, from a higher label on
pub rest_of_rest : (file : LexFile) (n label rest after more : ℕ) (body : List ℕ) → file.format ≡ form.Gad1 → body ≡ drop 16 file.bytes.now → IsRest file.bytes.now n label rest → label ≤ after
    → ((above : ℕ) → after < above → arc_from above (node_at (words_in body) rest) ≡ arc_from above (node_at (words_in body) more)) → IsRest file.bytes.now n (after + 1) more
rest_of_rest file n label rest after more body e is remaining reached following above le =
    rest_has file n label rest body e is remaining above (omega arith)
    ∙ following above (omega arith)
    ∙ ap (arc_from above) (nodes_are file form.Gad1 more body e is)
