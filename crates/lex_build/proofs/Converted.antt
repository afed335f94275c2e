-- A file whose stored nodes are all converted: its bytes, and the strings that they spell.
use Rattle.std.proofs.Common.{◌≡◌, ℕ, zero, suc, ◌+◌, ◌-◌, ◌^◌, ◌<◌, ◌≤◌, Bool, true, false, cond, eqb, List, [], ◌∷◌, ◌++◌, length, map, drop, get_or, Option, Some, None, inl, inr, refl, sym, ap, subst, ◌∙◌, arith}
use Rattle.std.specs.Prelude.{IsTrue, is_none, slice_index, IfNone, IfSome}
use Rattle.std.proofs.Math.ListN.{length-drop}
use Rattle.std.proofs.lemmas.List.{get_or_default}
use Rattle.std.proofs.lemmas.Bool.{eq-eqb, eqb-true, cases_lt}
use Rattle.lex_file.specs.declared.arcs.Arc.{Arc}
use Rattle.lex_file.specs.declared.files.Node.{Node}
use Rattle.lex_file.specs.declared.formats.Format.{Format}
use Rattle.lex_file.specs.declared.formats.Format.TheVariants as form
use Rattle.lex_file.specs.Arcs.{arc_with, accepts_of, target_of}
use Rattle.lex_file.specs.Files.{number_of, IsNextNode}
use Rattle.lex_file.specs.FileWords.{body_of}
use Rattle.lex_file.specs.Formats.{header_bytes}
use Rattle.lex_file.specs.Graphs.{IsSoundGraph}
use Rattle.lex_file.specs.laws.Graphs.{none_of_zero, arc_sound}
use Rattle.lex_file.specs.Languages.{tail_in}
use Rattle.lex_file.specs.Shapes.{format_of, fault_of, root_of, word_count_of, nodes_by, names_node, file_node, is_file_node}
use Rattle.lex_file.specs.laws.Files as files
use Rattle.lex_build.specs.Bodies.{IsWhole}
use Rattle.lex_build.specs.Headers.{header_of}
use Rattle.lex_build.specs.Stores.{limit_of, words_for, IsSoundBody, AreNextArcs, IsStoredNext}
use Rattle.lex_build.specs.Converts.{words_up_to, words_in_format, renamed, AreRenamed, IsConverted}
use Rattle.lex_build.specs.Conversions.{IsNumbered, IsNodeTo, IsConvertedTo, IsConvertedBefore, IsConvertedWhole}
use Rattle.lex_build.proofs.Headers as headers
use Rattle.lex_build.proofs.Headers.{body_few, few_limit, IsFiled}
use Rattle.lex_build.proofs.Renaming.{same_words, stored_named, stored_within, renamed_length, next_arcs, one_more, too_many}

-- ---- strings

-- the arc with a label leads to its renamed target
renamed_with : (name : ℕ → ℕ) (label : ℕ) (arcs : List Arc)
    → (accepts_of (arc_with label (map (renamed name) arcs)) ≡ accepts_of (arc_with label arcs))
    × (name 0 ≡ 0 → target_of (arc_with label (map (renamed name) arcs)) ≡ name (target_of (arc_with label arcs)))
renamed_with name label [] = (refl, λ none. sym none)
renamed_with name label (arc ∷ arcs) = by (eqb arc.label label) (renamed_with name label arcs)
  where
    by : (has : Bool)
        → (accepts_of (arc_with label (map (renamed name) arcs)) ≡ accepts_of (arc_with label arcs))
        × (name 0 ≡ 0 → target_of (arc_with label (map (renamed name) arcs)) ≡ name (target_of (arc_with label arcs)))
        → (accepts_of (cond has (Some (renamed name arc)) (arc_with label (map (renamed name) arcs))) ≡ accepts_of (cond has (Some arc) (arc_with label arcs)))
        × (name 0 ≡ 0 → target_of (cond has (Some (renamed name arc)) (arc_with label (map (renamed name) arcs))) ≡ name (target_of (cond has (Some arc) (arc_with label arcs))))
    by true more = (refl, λ none. refl)
    by false more = more

-- nodes that are renamed have the same tails
same_tails : (node new : ℕ → List Arc) (is_node : ℕ → Bool) (name : ℕ → ℕ) → IsSoundGraph node is_node → new 0 ≡ [] → name 0 ≡ 0
    → ((n : ℕ) → IsTrue (is_node n) → new (name n) ≡ map (renamed name) (node n))
    → (n : ℕ) (string : List ℕ) → IsTrue (is_node n) → tail_in new (name n) string ≡ tail_in node n string
unfolding tail_in
same_tails node new is_node name graph empty none arcs n [] is = refl
same_tails node new is_node name graph empty none arcs n (label ∷ []) is =
    ap (λ (xs : List Arc). accepts_of (arc_with label xs)) (arcs n is) ∙ (renamed_with name label (node n)).0
same_tails node new is_node name graph empty none arcs n (label ∷ after ∷ rest) is =
    ap (λ (xs : List Arc). tail_in new (target_of (arc_with label xs)) (after ∷ rest)) (arcs n is)
    ∙ ap (λ (m : ℕ). tail_in new m (after ∷ rest)) ((renamed_with name label (node n)).1 none)
    ∙ by (arc_with label (node n)) refl (λ target there. same_tails node new is_node name graph empty none arcs target (after ∷ rest) there)
  where
    at_zero : (m : ℕ) → m ≡ 0 → tail_in new (name m) (after ∷ rest) ≡ tail_in node m (after ∷ rest)
    at_zero m e =
        ap (λ (k : ℕ). tail_in new k (after ∷ rest)) (ap name e ∙ none)
        ∙ none_of_zero new (after ∷ rest) empty
        ∙ sym (ap (λ (k : ℕ). tail_in node k (after ∷ rest)) e ∙ none_of_zero node (after ∷ rest) graph.none)

    by : (o : Option Arc) → arc_with label (node n) ≡ o
        → ((target : ℕ) → IsTrue (is_node target) → tail_in new (name target) (after ∷ rest) ≡ tail_in node target (after ∷ rest))
        → tail_in new (name (target_of o)) (after ∷ rest) ≡ tail_in node (target_of o) (after ∷ rest)
    by None e more = at_zero 0 refl
    by (Some arc) e more =
        elim (arc_sound node is_node graph n label arc is e).target [
          | inl nowhere ↦ at_zero arc.target nowhere
          | inr there ↦ more arc.target there.1
        ]

-- ---- numbers that name a node

names_zero : (format : Format) (words : List ℕ) → names_node (Some format) words 0 ≡ eqb (length words) 0
names_zero form.Gad1 words = refl
names_zero form.Gad2 words = refl

names_within : (format : Format) (words : List ℕ) (n : ℕ) → names_node (Some format) words n ≡ true → n ≤ length words
names_within format words zero is = omega arith
names_within format words (suc place) is = stored_within format words (suc place) is

nodes_zero : (format : Format) (words : List ℕ) → nodes_by (Some format) words 0 ≡ []
nodes_zero form.Gad1 words = refl
nodes_zero form.Gad2 words = refl

-- 0 names a node of a file exactly when no words come after the header
file_zero : (bytes : List ℕ) → IsTrue (is_none (fault_of bytes)) → is_file_node bytes 0 ≡ true → length (body_of bytes) ≡ 0
file_zero bytes shape is =
    let formed = files.formed bytes shape in
    let names = ap (λ (test : ℕ → Bool). test 0) (files.names_are bytes formed.format formed.named) in
    eqb-true (length (body_of bytes)) 0 (sym (names_zero formed.format (body_of bytes)) ∙ sym names ∙ is)

-- a node of a file is a word after its header
pub file_within : (bytes : List ℕ) → IsTrue (is_none (fault_of bytes)) → (n : ℕ) → is_file_node bytes n ≡ true → n ≤ length (body_of bytes)
file_within bytes shape n is =
    let formed = files.formed bytes shape in
    let names = ap (λ (test : ℕ → Bool). test n) (files.names_are bytes formed.format formed.named) in
    names_within formed.format (body_of bytes) n (sym names ∙ is)

-- ---- node by node

-- the nodes before one are written, or all if there is none
abbrev pub IsConvertedUntil : Format → List ℕ → List ℕ → List ℕ → Option Node → Type 0
IsConvertedUntil format bytes words numbers None = IsConvertedWhole format bytes words numbers
IsConvertedUntil format bytes words numbers (Some node) = IsConvertedBefore format bytes words numbers (number_of node)

-- an upper bound on the number of nodes left
abbrev pub nodes_remaining : List ℕ → Option Node → ℕ
nodes_remaining bytes None = 0
nodes_remaining bytes (Some node) = length (body_of bytes) + 1 - number_of node

pub until_next : (format : Format) (bytes words numbers : List ℕ) (low : ℕ) (next : Option Node) → IsConvertedTo format bytes words numbers low
    → IfNone next ((n : ℕ) → low < n → is_file_node bytes n ≡ false) → IfSome next (λ node. IsNextNode bytes low (number_of node))
    → IsConvertedUntil format bytes words numbers next
until_next format bytes words numbers low None before none some = record { last = low; before = before; none = none }
until_next format bytes words numbers low (Some node) before none some = record { last = low; before = before; next = some }

pub fewer_remaining : (bytes : List ℕ) → IsTrue (is_none (fault_of bytes)) → (node : Node) (next : Option Node) → is_file_node bytes (number_of node) ≡ true
    → IfSome next (λ after. IsNextNode bytes (number_of node) (number_of after)) → nodes_remaining bytes next < nodes_remaining bytes (Some node)
fewer_remaining bytes shape node None is some = let within = file_within bytes shape (number_of node) is in omega (arith, within)
fewer_remaining bytes shape node (Some after) is some =
    let within = file_within bytes shape (number_of after) some.node in
    let above = some.above in
    omega (arith, within, above)

-- the arcs of the next node may be stored
pub storable : (format : Format) (bytes words numbers : List ℕ) (n : ℕ) (arcs : List Arc) → IsTrue (is_none (fault_of bytes)) → IsConvertedBefore format bytes words numbers n
    → arcs ≡ map (renamed (slice_index numbers)) (file_node bytes n) → AreNextArcs format words arcs
storable format bytes words numbers n arcs shape ready is =
    subst (AreNextArcs format words) (sym is) (next_arcs format bytes words numbers n (files.sound bytes shape).graph ready)

-- once they are, the next node is converted
pub stored_next : (format : Format) (bytes words new numbers numbered : List ℕ) (n number : ℕ) (arcs : List Arc) → IsTrue (is_none (fault_of bytes))
    → IsConvertedBefore format bytes words numbers n → arcs ≡ map (renamed (slice_index numbers)) (file_node bytes n) → IsStoredNext format words new arcs
    → number ≡ length words + 1 → IsNumbered numbers numbered n number → IsConvertedTo format bytes new numbered n
stored_next format bytes words new numbers numbered n number arcs shape ready is next number_is put =
    one_more format bytes words new numbers numbered n (files.sound bytes shape).graph (file_within bytes shape n ready.next.node) ready
    (subst (IsStoredNext format words new) is next) (subst (IsNumbered numbers numbered n) number_is put)

-- if they do not fit, not all nodes fit
pub unstorable : (format : Format) (bytes words numbers : List ℕ) (n count : ℕ) (arcs : List Arc) → IsTrue (is_none (fault_of bytes))
    → IsConvertedBefore format bytes words numbers n → arcs ≡ map (renamed (slice_index numbers)) (file_node bytes n) → count ≡ length arcs
    → limit_of format < length words + words_for format count → limit_of format < words_in_format format bytes
unstorable format bytes words numbers n count arcs shape ready is count_is over =
    let same : count ≡ length (file_node bytes n) = count_is ∙ ap length is ∙ renamed_length (slice_index numbers) (file_node bytes n) in
    too_many format bytes words numbers n (file_within bytes shape n ready.next.node) ready
    (subst (λ (c : ℕ). limit_of format < length words + words_for format c) same over)

-- ---- the whole file

module _ (format : Format) (bytes words numbers : List ℕ) (shape : IsTrue (is_none (fault_of bytes))) (whole : IsConvertedWhole format bytes words numbers) where
  node_to : (n : ℕ) → 0 < n → is_file_node bytes n ≡ true → IsNodeTo bytes whole.last n
  node_to n some is =
      elim (cases_lt whole.last n) [
        | inl above ↦ absurd (let no : false ≡ true = sym (whole.none n above) ∙ is in cc)
        | inr within ↦ record { some = some; within = within; node = is }
      ]

  -- if the file has no words, none are written
  none_written : is_file_node bytes 0 ≡ true → length words ≡ 0
  unfolding words_up_to
  none_written is =
      let none = file_zero bytes shape is in
      let low : whole.last ≡ 0 = omega (arith, whole.before.inside, none) in
      whole.before.size ∙ ap (words_up_to format bytes) low

  stored_at : (n : ℕ) → is_file_node bytes n ≡ true → names_node (Some format) words (slice_index numbers n) ≡ true
  stored_at zero is =
      ap (names_node (Some format) words) whole.before.none ∙ names_zero format words ∙ eq-eqb (length words) 0 (none_written is)
  stored_at (suc place) is =
      let node = node_to (suc place) (omega arith) is in
      sym (stored_named format words (slice_index numbers (suc place)) (whole.before.positive (suc place) node)) ∙ whole.before.stored (suc place) node

  arcs_at : (n : ℕ) → is_file_node bytes n ≡ true → nodes_by (Some format) words (slice_index numbers n) ≡ map (renamed (slice_index numbers)) (file_node bytes n)
  arcs_at zero is =
      ap (nodes_by (Some format) words) whole.before.none
      ∙ nodes_zero format words
      ∙ sym (ap (map (renamed (slice_index numbers))) (files.sound bytes shape).graph.none)
  arcs_at (suc place) is = whole.before.arcs (suc place) (node_to (suc place) (omega arith) is)

  rising_at : (m n : ℕ) → is_file_node bytes m ≡ true → is_file_node bytes n ≡ true → m < n → slice_index numbers m < slice_index numbers n
  rising_at zero n low high less = rw (whole.before.none) (whole.before.positive n (node_to n less high))
  rising_at (suc m) n low high less = whole.before.rising (suc m) n (node_to (suc m) (omega arith) low) (node_to n (omega arith) high) less

  -- if nothing is written, 0 is a node of the file: otherwise its root would be written
  zero_named : length words ≡ 0 → is_file_node bytes 0 ≡ true
  zero_named none = by (root_of bytes) (files.sound bytes shape).root
    where
      by : (root : ℕ) → is_file_node bytes root ≡ true → is_file_node bytes 0 ≡ true
      by zero is = is
      by (suc place) is =
          let node = node_to (suc place) (omega arith) is in
          let within = stored_within format words (slice_index numbers (suc place)) (whole.before.stored (suc place) node) in
          absurd (omega (arith, within, none, whole.before.positive (suc place) node))

  all_at : (m : ℕ) → names_node (Some format) words m ≡ true → (n : ℕ) × (is_file_node bytes n ≡ true) × (slice_index numbers n ≡ m)
  all_at zero is = (0, zero_named (eqb-true (length words) 0 (sym (names_zero format words) ∙ is)), whole.before.none)
  all_at (suc place) is = let found = whole.before.all (suc place) (omega arith) is in (found.0, found.1.node, found.2)

  size_is : length words ≡ words_in_format format bytes
  size_is = whole.before.size ∙ sym (same_words format bytes whole.last (length (body_of bytes)) whole.before.inside (λ n above within. whole.none n above))

  root_inside : root_of bytes < length numbers
  root_inside = by (root_of bytes) (files.sound bytes shape).root
    where
      by : (root : ℕ) → is_file_node bytes root ≡ true → root < length numbers
      by zero is = omega (arith, whole.before.covers)
      by (suc place) is = let node = node_to (suc place) (omega arith) is in omega (arith, whole.before.covers, node.within)

  -- the new number of the root, as it is read
  pub root_number : (place number : ℕ) → place ≡ root_of bytes → number ≡ get_or numbers place number → number ≡ slice_index numbers (root_of bytes)
  root_number place number is read =
      read ∙ ap (λ (p : ℕ). get_or numbers p number) is ∙ get_or_default numbers (root_of bytes) number 0 root_inside

  -- The bytes of the new file: its header, and the words that are written.
  pub converted : (old new : List ℕ) (count root stated : ℕ) → IsWhole old → body_of old ≡ words → count ≡ length words → root ≡ slice_index numbers (root_of bytes)
      → stated ≡ word_count_of bytes → stated < 2 ^ 32 → new ≡ header_of format count root stated ++ drop header_bytes old → IsConverted format bytes new
  converted old new count root stated is_whole is number root_is stated_is fits e = subst (IsConverted format bytes) (sym e) file_converted
    where
      rest : List ℕ
      rest = drop header_bytes old

      file : List ℕ
      file = header_of format count root stated ++ rest

      root_named : names_node (Some format) words root ≡ true
      root_named = ap (names_node (Some format) words) root_is ∙ stored_at (root_of bytes) (files.sound bytes shape).root

      filed : IsFiled format count root stated rest
      filed =
          let few = body_few format words whole.before.sound in
          let size = length-drop header_bytes old in
          let body = ap length is in
          record {
            whole = omega (arith, is_whole, size);
            body = subst (IsSoundBody format) (sym is) whole.before.sound;
            number = number ∙ sym body;
            node = subst (λ (xs : List ℕ). names_node (Some format) xs root ≡ true) (sym is) root_named;
            root_fits = omega (arith, names_within format words root root_named, few, few_limit format);
            words_fit = fits;
          }

      body_is : body_of file ≡ words
      body_is = headers.body_is format rest count root stated filed ∙ is

      format_is : format_of file ≡ Some format
      format_is = headers.format_is format rest count root stated filed

      nodes_are : file_node file ≡ nodes_by (Some format) words
      nodes_are = files.nodes_are file format format_is ∙ ap (nodes_by (Some format)) body_is

      names_are : is_file_node file ≡ names_node (Some format) words
      names_are = files.names_are file format format_is ∙ ap (names_node (Some format)) body_is

      names_at : (n : ℕ) → is_file_node file n ≡ names_node (Some format) words n
      names_at n = ap (λ (test : ℕ → Bool). test n) names_are

      file_root : root_of file ≡ slice_index numbers (root_of bytes)
      file_root = headers.root_is format rest count root stated filed ∙ root_is

      are_renamed : AreRenamed (slice_index numbers) bytes file
      are_renamed = record {
        none = whole.before.none;
        stored = λ n is. names_at (slice_index numbers n) ∙ stored_at n is;
        arcs = λ n is. ap (λ (node : ℕ → List Arc). node (slice_index numbers n)) nodes_are ∙ arcs_at n is;
        rising = rising_at;
        all = λ m is. all_at m (sym (names_at m) ∙ is);
        root = file_root;
      }

      file_converted : IsConverted format bytes file
      file_converted = record {
        format_is = format_is;
        shape = headers.shape_is format rest count root stated filed;
        name = slice_index numbers;
        nodes = are_renamed;
        strings = λ string.
            ap (λ (node : ℕ → List Arc). tail_in node (root_of file) string) nodes_are
            ∙ ap (λ (n : ℕ). tail_in (nodes_by (Some format) words) n string) file_root
            ∙ same_tails (file_node bytes) (nodes_by (Some format) words) (is_file_node bytes) (slice_index numbers) (files.sound bytes shape).graph
            (nodes_zero format words) whole.before.none arcs_at (root_of bytes) string (files.sound bytes shape).root;
        count = headers.words_is format rest count root stated filed ∙ stated_is;
        few = let few = body_few format words whole.before.sound in omega (arith, size_is, few);
      }
