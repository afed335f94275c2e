-- What holds for every file without a fault, whatever its format: lemmas for the laws of a lexicon that is walked.
use Rattle.std.proofs.Common.{◌≡◌, ℕ, ◌+◌, ◌*◌, ◌<◌, ◌≤◌, Bool, true, false, cond, ◌&&◌, eqb, ltb, leb, List, [], ◌∷◌, length, drop, length-drop, Option, Some, None, refl, ap, arith}
use Rattle.std.specs.Prelude.{IsTrue, is_none}
use Rattle.std.specs.List.{list_all}
use Rattle.std.proofs.lemmas.Bool.{ltb-false, leb-true, eqb-true, false≢true, and_parts}
use Rattle.first_faults.specs.Checks.{passes}
use Rattle.first_faults.proofs.CheckLaws.{checked, or_none}
use Rattle.lex_file.specs.declared.arcs.Arc.{Arc}
use Rattle.lex_file.specs.declared.faults.FileFault.{FileFault}
use Rattle.lex_file.specs.declared.faults.FileFault.TheVariants as why
use Rattle.lex_file.specs.declared.formats.Format.{Format}
use Rattle.lex_file.specs.declared.formats.Format.TheVariants as form
use Rattle.lex_file.specs.FileWords.{words_in, body_of}
use Rattle.lex_file.specs.Formats.{header_bytes, most_arcs, most_body_words}
use Rattle.lex_file.specs.Nodes.{begins, is_node}
use Rattle.lex_file.specs.Masks.{is_mask_node}
use Rattle.lex_file.specs.MaskShapes.{nodes_fault}
use Rattle.lex_file.specs.Shapes.{format_of, arcs_fault, body_fault, header_fault_by, header_fault, mask_header_fault, form_fault, fault_of, root_of, count_of, nodes_by, names_node, file_node, is_file_node}
use Rattle.lex_file.specs.Lexicons.{is_label}
use Rattle.lex_file.specs.Languages.{tail_in, file_tail}
use Rattle.lex_file.specs.Graphs.{IsSoundGraph}
use Rattle.lex_file.specs.laws.Graphs.{labels_in, bounded_in}
use Rattle.lex_file.specs.laws.Nodes.{gad1_graph}
use Rattle.lex_file.specs.laws.Masks.{gad2_graph}

-- the number of words: four bytes each
pub sizes : (bytes : List ℕ) → (4 * length (words_in bytes) ≤ length bytes) × (length bytes < 4 * length (words_in bytes) + 4)
unfolding words_in
sizes [] = (omega arith, omega arith)
sizes (a ∷ []) = (omega arith, omega arith)
sizes (a ∷ b ∷ []) = (omega arith, omega arith)
sizes (a ∷ b ∷ c ∷ []) = (omega arith, omega arith)
sizes (a ∷ b ∷ c ∷ d ∷ rest) = let more = sizes rest in (omega arith, omega arith)

-- ---- files of each format

-- what a GAD1 file without a fault is
pub record IsSoundGad1 (bytes : List ℕ) : Type 0 where
  pub few : count_of bytes ≤ most_arcs
  pub size : length bytes ≡ header_bytes + 4 * count_of bytes
  pub root : is_node (body_of bytes) (root_of bytes) ≡ true
  pub fine : arcs_fault (body_of bytes) (length (body_of bytes)) ≡ None

-- what a GAD2 file without a fault is
pub record IsSoundGad2 (bytes : List ℕ) : Type 0 where
  pub few : count_of bytes ≤ most_body_words
  pub size : length bytes ≡ header_bytes + 4 * count_of bytes
  pub root : is_mask_node (body_of bytes) (root_of bytes) ≡ true
  pub fine : nodes_fault (body_of bytes) (length (body_of bytes)) 0 ≡ None

-- what a file of a format without a fault is
abbrev pub IsSoundBy : Format → List ℕ → Type 0
IsSoundBy form.Gad1 bytes = IsSoundGad1 bytes
IsSoundBy form.Gad2 bytes = IsSoundGad2 bytes

pub record IsFormed (bytes : List ℕ) : Type 0 where
  pub long : header_bytes ≤ length bytes
  pub format : Format
  pub named : format_of bytes ≡ Some format
  pub sound : IsSoundBy format bytes

-- what a header without a fault says
record IsSoundHeader (most : ℕ) (has_root : Bool) (bytes : List ℕ) : Type 0 where
  pub few : count_of bytes ≤ most
  pub size : length bytes ≡ header_bytes + 4 * count_of bytes
  pub root : has_root ≡ true

header_sound : (most : ℕ) (has_root : Bool) (bytes : List ℕ) → header_fault_by most has_root bytes ≡ None → IsSoundHeader most has_root bytes
header_sound most has_root bytes none =
    let size = checked (leb (count_of bytes) most && eqb (length bytes) (header_bytes + 4 * count_of bytes)) why.Length _ none in
    let sizes = and_parts (leb (count_of bytes) most) (eqb (length bytes) (header_bytes + 4 * count_of bytes)) size.0 in
    record {
      few = leb-true (count_of bytes) most sizes.0;
      size = eqb-true (length bytes) (header_bytes + 4 * count_of bytes) sizes.1;
      root = (checked has_root why.Root _ size.1).0;
    }

not_some : (o : Option FileFault) → IsTrue (is_none o) → o ≡ None
not_some None e = refl
not_some (Some fault) e = absurd (false≢true e)

pub formed : (bytes : List ℕ) → IsTrue (is_none (fault_of bytes)) → IsFormed bytes
unfolding fault_of form_fault header_fault mask_header_fault body_fault
formed bytes e = short (ltb (length bytes) header_bytes) refl (not_some (fault_of bytes) e)
  where
    by : (format : Option Format) → format_of bytes ≡ format → header_bytes ≤ length bytes → form_fault format bytes ≡ None → IsFormed bytes
    by None is long h = absurd cc
    by (Some form.Gad1) is long h =
        let parts = or_none (header_fault bytes) (body_fault (body_of bytes)) h in
        let header = header_sound most_arcs (is_node (body_of bytes) (root_of bytes)) bytes parts.0 in
        let arcs = or_none (arcs_fault (body_of bytes) (length (body_of bytes))) (passes (begins (body_of bytes) (length (body_of bytes))) why.OpenRun) parts.1 in
        record {
          long = long;
          format = form.Gad1;
          named = is;
          sound = record { few = header.few; size = header.size; root = header.root; fine = arcs.0 };
        }
    by (Some form.Gad2) is long h =
        let parts = or_none (mask_header_fault bytes) (nodes_fault (body_of bytes) (length (body_of bytes)) 0) h in
        let header = header_sound most_body_words (is_mask_node (body_of bytes) (root_of bytes)) bytes parts.0 in
        record {
          long = long;
          format = form.Gad2;
          named = is;
          sound = record { few = header.few; size = header.size; root = header.root; fine = parts.1 };
        }

    short : (under : Bool) → ltb (length bytes) header_bytes ≡ under → cond under (Some why.Short) (form_fault (format_of bytes) bytes) ≡ None → IsFormed bytes
    short true is h = absurd cc
    short false is h = by (format_of bytes) refl (ltb-false (length bytes) header_bytes is) h

-- ---- the nodes of a file of a format, and its tails

pub nodes_are : (bytes : List ℕ) (format : Format) → format_of bytes ≡ Some format → file_node bytes ≡ nodes_by (Some format) (body_of bytes)
unfolding file_node
nodes_are bytes format is = let nodes : Option Format → ℕ → List Arc = λ form n. nodes_by form (body_of bytes) n in ap nodes is

pub names_are : (bytes : List ℕ) (format : Format) → format_of bytes ≡ Some format → is_file_node bytes ≡ names_node (Some format) (body_of bytes)
unfolding is_file_node
names_are bytes format is = let names : Option Format → ℕ → Bool = λ form n. names_node form (body_of bytes) n in ap names is

-- there are as many words after the header as it states
pub body_size : (bytes : List ℕ) (count : ℕ) → length bytes ≡ header_bytes + 4 * count → length (body_of bytes) ≡ count
body_size bytes count size = let words = sizes (drop header_bytes bytes) in omega (arith, size, words.0, words.1, length-drop header_bytes bytes)

-- ---- what every file without a fault is

-- its words can be numbered, the root is a node, and its nodes are a sound graph
pub record IsSound (bytes : List ℕ) : Type 0 where
  pub few : length (body_of bytes) ≤ most_body_words
  pub root : IsTrue (is_file_node bytes (root_of bytes))
  pub graph : IsSoundGraph (file_node bytes) (is_file_node bytes)

pub sound : (bytes : List ℕ) → IsTrue (is_none (fault_of bytes)) → IsSound bytes
sound bytes shape = let f = formed bytes shape in by f.format f.named f.sound
  where
    by : (format : Format) → format_of bytes ≡ Some format → IsSoundBy format bytes → IsSound bytes
    by form.Gad1 is s =
        let size = body_size bytes (count_of bytes) s.size in
        let nodes = nodes_are bytes form.Gad1 is in
        let names = names_are bytes form.Gad1 is in
        record {
          few = omega (arith, size, s.few);
          root = rw names s.root;
          graph = rw (nodes, names) (gad1_graph (body_of bytes) s.fine);
        }
    by form.Gad2 is s =
        let size = body_size bytes (count_of bytes) s.size in
        let few : length (body_of bytes) ≤ most_body_words = omega (arith, size, s.few) in
        let nodes = nodes_are bytes form.Gad2 is in
        let names = names_are bytes form.Gad2 is in
        record {
          few = few;
          root = rw names s.root;
          graph = rw (nodes, names) (gad2_graph (body_of bytes) few s.fine);
        }

-- ---- the laws, of files

pub file_nonempty : (bytes : List ℕ) (n : ℕ) → file_tail bytes n [] ≡ false
unfolding tail_in
file_nonempty bytes n = refl

pub file_labels : (bytes : List ℕ) → IsTrue (is_none (fault_of bytes)) → (n : ℕ) (string : List ℕ) → IsTrue (is_file_node bytes n)
    → file_tail bytes n string ≡ true → IsTrue (list_all is_label string)
file_labels bytes shape = labels_in (file_node bytes) (is_file_node bytes) (sound bytes shape).graph

pub file_bounded : (bytes : List ℕ) → IsTrue (is_none (fault_of bytes)) → (n : ℕ) (string : List ℕ) → IsTrue (is_file_node bytes n)
    → file_tail bytes n string ≡ true → length string ≤ n
file_bounded bytes shape = bounded_in (file_node bytes) (is_file_node bytes) (sound bytes shape).graph
