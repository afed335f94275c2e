-- A file is its header and the words of its nodes.
use Rattle.std.proofs.Common.{◌≡◌, ℕ, zero, suc, ◌+◌, ◌*◌, ◌^◌, ◌<◌, ◌≤◌, Bool, true, false, eqb, ltb, leb, List, [], ◌∷◌, ◌++◌, length, get_or, drop, Some, None, refl, sym, ap, subst, ◌∙◌, arith, append-nil, take}
use Rattle.std.proofs.Math.ListN.{length-drop, drop_of_length-le}
use Rattle.std.proofs.lemmas.Bool.{le-leb, eq-eqb, ltb-true, and_parts}
use Rattle.byteorder.specs.Endian.{little_number, little_bytes}
use Rattle.lex_file.specs.FileWords.{words_in, body_of}
use Rattle.lex_file.specs.Formats.{header_bytes, gad1_magic, gad2_magic, most_arcs, most_body_words}
use Rattle.lex_file.specs.Nodes.{begins, is_node, node_at}
use Rattle.lex_list.specs.RotatedPaths.{StandsFor}
use Rattle.lex_file.specs.declared.arcs.Arc.{Arc}
use Rattle.lex_file.specs.declared.formats.Format.{Format}
use Rattle.lex_file.specs.declared.formats.Format.TheVariants as form
use Rattle.lex_file.specs.Shapes.{format_of, count_of, root_of, word_count_of, body_fault, header_fault, mask_header_fault, form_fault, fault_of, names_node}
use Rattle.lex_file.specs.Languages.{tail_in, file_tail}
use Rattle.lex_file.specs.laws.Files.{nodes_are}
use Rattle.lex_build.specs.Bodies.{IsKept, is_target}
use Rattle.lex_check.specs.Stretches.{IsPathList, is_one_of}
use Rattle.smallvec.specs.SmallVec.{SmallVec}
use Rattle.lex_build.specs.Builds.{IsBuiltOf, IsUnbuilt}
use Rattle.lex_build.specs.Headers.{magic_of, header_of, IsFileOf}
use Rattle.lex_build.specs.Stores.{limit_of, IsSoundBody}
use Rattle.lex_build.specs.Walks.{IsWritten, IsUnwritten}
use Rattle.lex_build.specs.declared.faults.BuildFault.{BuildFault}
use Rattle.lex_build.specs.declared.faults.BuildFault.TheVariants as why
use Rattle.lex_build.proofs.Labels.{count_labels}
use Rattle.lex_build.proofs.Bytes.{word_back, take_all}
use Rattle.lex_build.proofs.NewArcs.{not_less}

file_tail_is : (bytes : List ℕ) (n : ℕ) (string : List ℕ) → format_of bytes ≡ Some form.Gad1 → file_tail bytes n string ≡ tail_in (node_at (body_of bytes)) n string
file_tail_is bytes n string is = ap (λ (node : ℕ → List Arc). tail_in node n string) (nodes_are bytes form.Gad1 is)

-- ---- the words of a header

after_magic : (magic count root words : ℕ) (rest : List ℕ) → count < 2 ^ 32 → root < 2 ^ 32 → words < 2 ^ 32
    → magic ∷ words_in (little_bytes 4 count ++ little_bytes 4 root ++ little_bytes 4 words ++ rest) ≡ magic ∷ count ∷ root ∷ words ∷ words_in rest
after_magic magic count root words rest a b c =
    ap (λ (xs : List ℕ). magic ∷ xs) (word_back count (little_bytes 4 root ++ little_bytes 4 words ++ rest) a)
    ∙ ap (λ (xs : List ℕ). magic ∷ count ∷ xs) (word_back root (little_bytes 4 words ++ rest) b)
    ∙ ap (λ (xs : List ℕ). magic ∷ count ∷ root ∷ xs) (word_back words rest c)

header_words : (format : Format) (count root words : ℕ) (rest : List ℕ) → count < 2 ^ 32 → root < 2 ^ 32 → words < 2 ^ 32
    → words_in (header_of format count root words ++ rest) ≡ little_number 4 (magic_of format) ∷ count ∷ root ∷ words ∷ words_in rest
unfolding words_in
header_words form.Gad1 count root words rest a b c = after_magic (little_number 4 gad1_magic) count root words rest a b c
header_words form.Gad2 count root words rest a b c = after_magic (little_number 4 gad2_magic) count root words rest a b c

-- after the header are the words of its file
header_body : (format : Format) (count root words : ℕ) (rest : List ℕ) → body_of (header_of format count root words ++ rest) ≡ words_in rest
header_body form.Gad1 count root words rest = refl
header_body form.Gad2 count root words rest = refl

header_format : (format : Format) (count root words : ℕ) (rest : List ℕ) → format_of (header_of format count root words ++ rest) ≡ Some format
header_format form.Gad1 count root words rest = refl
header_format form.Gad2 count root words rest = refl

header_length : (format : Format) (count root words : ℕ) (rest : List ℕ) → length (header_of format count root words ++ rest) ≡ header_bytes + length rest
header_length form.Gad1 count root words rest = omega arith
header_length form.Gad2 count root words rest = omega arith

pub body_few : (format : Format) (words : List ℕ) → IsSoundBody format words → length words ≤ limit_of format
body_few form.Gad1 words body = body.few
body_few form.Gad2 words body = body.few

pub few_limit : (format : Format) → limit_of format ≤ most_body_words
few_limit form.Gad1 = omega arith
few_limit form.Gad2 = omega arith

-- what the checks of the form require
shape_by : (format : Format) (bytes : List ℕ) → format_of bytes ≡ Some format → count_of bytes ≤ limit_of format → length bytes ≡ header_bytes + 4 * count_of bytes
    → names_node (Some format) (body_of bytes) (root_of bytes) ≡ true → IsSoundBody format (body_of bytes) → fault_of bytes ≡ None
unfolding fault_of form_fault header_fault mask_header_fault body_fault
shape_by form.Gad1 bytes is few size node body =
    let long : ltb (length bytes) header_bytes ≡ false = not_less (length bytes) header_bytes (omega arith) in
    let one : leb (count_of bytes) most_arcs ≡ true = le-leb (count_of bytes) most_arcs few in
    let two : eqb (length bytes) (header_bytes + 4 * count_of bytes) ≡ true = eq-eqb (length bytes) (header_bytes + 4 * count_of bytes) size in
    let fine = body.fine in
    let closed = body.closed in
    rw (long, is, one, two, node, fine, closed) refl
shape_by form.Gad2 bytes is few size node body =
    let long : ltb (length bytes) header_bytes ≡ false = not_less (length bytes) header_bytes (omega arith) in
    let one : leb (count_of bytes) most_body_words ≡ true = le-leb (count_of bytes) most_body_words few in
    let two : eqb (length bytes) (header_bytes + 4 * count_of bytes) ≡ true = eq-eqb (length bytes) (header_bytes + 4 * count_of bytes) size in
    let fine = body.fine in
    rw (long, is, one, two, node, fine) refl

-- A file of a format: its header, and words that are sound in the format.
pub record IsFiled (format : Format) (count root words : ℕ) (rest : List ℕ) : Type 0 where
  pub whole : length rest ≡ 4 * length (words_in rest)
  pub body : IsSoundBody format (words_in rest)
  pub number : count ≡ length (words_in rest)
  pub node : names_node (Some format) (words_in rest) root ≡ true
  pub root_fits : root < 2 ^ 32
  pub words_fit : words < 2 ^ 32

module _ (format : Format) (rest : List ℕ) (count root words : ℕ) (filed : IsFiled format count root words rest) where
  file : List ℕ
  file = header_of format count root words ++ rest

  words_are : words_in file ≡ little_number 4 (magic_of format) ∷ count ∷ root ∷ words ∷ words_in rest
  unfolding file
  words_are =
      let few = body_few format (words_in rest) filed.body in
      header_words format count root words rest (omega (arith, few, few_limit format, filed.number)) filed.root_fits filed.words_fit

  count_is : count_of file ≡ count
  count_is = ap (λ (xs : List ℕ). get_or xs 1 0) words_are

  pub root_is : root_of (header_of format count root words ++ rest) ≡ root
  unfolding file
  root_is = ap (λ (xs : List ℕ). get_or xs 2 0) words_are

  pub words_is : word_count_of (header_of format count root words ++ rest) ≡ words
  unfolding file
  words_is = ap (λ (xs : List ℕ). get_or xs 3 0) words_are

  pub body_is : body_of (header_of format count root words ++ rest) ≡ words_in rest
  body_is = header_body format count root words rest

  pub format_is : format_of (header_of format count root words ++ rest) ≡ Some format
  format_is = header_format format count root words rest

  pub shape_is : fault_of (header_of format count root words ++ rest) ≡ None
  unfolding file
  shape_is =
      let few = body_few format (words_in rest) filed.body in
      let whole = filed.whole in
      shape_by format file format_is (rw count_is (omega (arith, few, filed.number))) (header_length format count root words rest ∙ omega (arith, count_is, whole, filed.number))
      (rw (root_is, body_is) filed.node) (rw body_is filed.body)

file_is : (rest : List ℕ) (count root words : ℕ) → IsFiled form.Gad1 count root words rest → (has : List ℕ → Bool) (bytes : List ℕ)
    → ((string : List ℕ) → tail_in (node_at (words_in rest)) root string ≡ has string) → bytes ≡ header_of form.Gad1 count root words ++ rest → IsFileOf has words bytes
file_is rest count root words filed has bytes tails e = subst (IsFileOf has words) (sym e) (record {
  format = format_is form.Gad1 rest count root words filed;
  shape = shape_is form.Gad1 rest count root words filed;
  strings = λ string.
      let file = header_of form.Gad1 count root words ++ rest in
      file_tail_is file (root_of file) string (format_is form.Gad1 rest count root words filed)
      ∙ ap (λ (n : ℕ). tail_in (node_at (words_in rest)) n string) (root_is form.Gad1 rest count root words filed)
      ∙ tails string;
  count = words_is form.Gad1 rest count root words filed;
})

-- ---- what a walk from the root gives

root_node : (old new : List ℕ) (has : List ℕ → Bool) (root : ℕ) → old ≡ [] → IsWritten old new has root → is_node new root ≡ true
root_node old new has zero none written = eq-eqb (length new) 0 (ap length (written.nothing refl ∙ none))
root_node old new has (suc place) none written = written.target

first_inside : (words : List ℕ) (n : ℕ) → is_target words n ≡ true → n ≤ length words
first_inside words zero is = omega arith
first_inside words (suc place) is = let lt = ltb-true place (length words) (and_parts (ltb place (length words)) (begins words place) is).0 in omega arith

-- a slice of all bytes is written back
pub written_back : (old new : List ℕ) (len : ℕ) → len ≡ length old → length new ≡ length old → take len (new ++ drop (length new) old) ≡ new
written_back old new len size same =
    let none : drop (length new) old ≡ [] = drop_of_length-le old {i = length new} (omega arith) in
    rw (size, none, append-nil) (take_all new (length old) (omega arith))

pub filled : (format : Format) (count root words : ℕ) (old mid new : List ℕ) → mid ≡ old → new ≡ header_of format count root words ++ drop header_bytes mid
    → new ≡ header_of format count root words ++ drop header_bytes old
filled format count root words old mid new same e = e ∙ ap (λ (xs : List ℕ). header_of format count root words ++ drop header_bytes xs) same

pub header_size : (format : Format) (count root words : ℕ) (old new : List ℕ) → header_bytes ≤ length old
    → new ≡ header_of format count root words ++ drop header_bytes old → length new ≡ length old
header_size format count root words old new long e =
    let size = length-drop header_bytes old in
    ap length e ∙ header_length format count root words (drop header_bytes old) ∙ omega (arith, size)

pub lexicon_file : (has : List ℕ → Bool) (words : ℕ) (new old kept : List ℕ) (nodes : List (SmallVec ℕ × ℕ)) (tail : List ℕ → Bool) (root : ℕ)
    → new ≡ header_of form.Gad1 (length (body_of kept)) root words ++ drop header_bytes kept → IsKept kept nodes → IsWritten (body_of old) (body_of kept) tail root → body_of old ≡ []
    → ((string : List ℕ) → tail string ≡ has string) → words < 2 ^ 32 → IsFileOf has words new
lexicon_file has words new old kept nodes tail root e is written none same small =
    let whole = is.whole in
    let body = is.body in
    let few = body.few in
    let size = length-drop header_bytes kept in
    let inside = first_inside (body_of kept) root written.target in
    file_is (drop header_bytes kept) (length (body_of kept)) root words
    (record {
      whole = omega arith;
      body = body;
      number = refl;
      node = root_node (body_of old) (body_of kept) tail root none written;
      root_fits = omega arith;
      words_fit = small;
    })
    has new (λ string. written.tails string ∙ same string) e

pub lexicon_fault : (old : List ℕ) (tail has : List ℕ → Bool) (fault : BuildFault) → old ≡ [] → ((string : List ℕ) → tail string ≡ has string)
    → IsUnwritten old tail fault → IsUnwritten [] has fault
lexicon_fault old tail has why.NoMemory none same is = tt
lexicon_fault old tail has why.TooManyArcs none same is =
    let many = is.many in
    let size = ap length none in
    record {
      count = is.count;
      labels = record { strings = is.labels.strings; each = λ string there. sym (same string) ∙ is.labels.each string there; once = is.labels.once; enough = is.labels.enough };
      many = omega arith;
    }

-- ---- for a word list

pub built_file : (words paths : List (List ℕ)) (count : ℕ) (bytes : List ℕ) → StandsFor (is_one_of paths) words → count ≡ length words
    → IsFileOf (λ string. is_one_of paths string) count bytes → IsBuiltOf words bytes
built_file words paths count bytes same number file = record {
  format = file.format;
  lexicon = record {
    shape = file.shape;
    agreed = record { paths = λ string. file.strings string ∙ same string; count = file.count ∙ number };
  };
}

pub built_fault : (words paths : List (List ℕ)) (fault : BuildFault) → IsPathList paths → StandsFor (is_one_of paths) words
    → IsUnwritten [] (λ string. is_one_of paths string) fault → IsUnbuilt words fault
built_fault words paths why.NoMemory list same is = tt
built_fault words paths why.TooManyArcs list same is = count_labels words paths list same is.count is.labels (let many = is.many in omega arith)
