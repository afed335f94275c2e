-- The count of the strings of a file: label by label, and node by node.
use Rattle.std.proofs.Common.{◌≡◌, ℕ, zero, suc, ◌+◌, ◌-◌, ◌<◌, ◌≤◌, ◌^◌, Bool, true, false, cond, ◌&&◌, ltb, List, [], ◌∷◌, ◌++◌, length, map, get_or, length-append, Option, Some, None, inl, inr, refl, sym, ap, subst, ◌∙◌, arith}
use Rattle.std.specs.Prelude.{IsTrue, IsSome, IfSome, IfNone, is_none}
use Rattle.std.specs.FinMap.{nat_cmp-IsAntisymmetric}
use Rattle.std.specs.List.{Contains, HoldsAt, list_all}
use Rattle.std.specs.Ordering.{nat_cmp}
use Rattle.std.specs.declared.cmp.Ordering.TheVariants.{Equal}
use Rattle.std.proofs.lemmas.Bool.{and_parts, and_from, cases_lt, false≢true, lt-ltb, ltb-true}
use Rattle.std.proofs.lemmas.List.{length-map, get_or_append_left, get_or_at}
use Rattle.std.proofs.lemmas.List.Elements.{Contains-append_left, Contains-append_right}
use Rattle.lex_file.specs.declared.files.Node.{Node}
use Rattle.lex_file.specs.Files.{number_of, IsNextNode}
use Rattle.lex_file.specs.Languages.{file_tail}
use Rattle.lex_file.specs.Lexicons.{is_label}
use Rattle.lex_file.specs.Shapes.{file_node, is_file_node, fault_of}
use Rattle.lex_file.specs.laws.Files.{file_labels, sound}
use Rattle.lex_file.specs.laws.Graphs.{none_of_zero}
use Rattle.lex_file.specs.Walking.{next_strings}
use Rattle.lex_agree.specs.Counts.{HasAtMost, most_counted, slot_of, IsCount, IsCountedBy, AreCountedBeside, IsCounted, IsCountedThere, AreCountedBelow, IsFirstTable, IsPut}
use Rattle.lex_agree.specs.Walks.{node_tail, Leads}
use Rattle.lex_agree.specs.declared.tables.CountTable.{CountTable}

-- all nodes of a file are counted
pub record AreCounted (bytes : List ℕ) (table : CountTable) : Type 0 where
  pub each : (n : ℕ) → is_file_node bytes n ≡ true → IsCounted bytes table n

-- all nodes before this one of the file are counted, or all nodes if there is none
abbrev pub AreCountedUntil : List ℕ → CountTable → Option Node → Type 0
AreCountedUntil bytes table None = AreCounted bytes table
AreCountedUntil bytes table (Some node) = AreCountedBelow bytes table (number_of node) × (is_file_node bytes (number_of node) ≡ true)

-- the strings of a set that begin with a label below one
abbrev pub has_below : (List ℕ → Bool) → ℕ → List ℕ → Bool
has_below has from [] = false
has_below has from (label ∷ rest) = ltb label from && has (label ∷ rest)

-- ---- label by label

pub first_label : (has : List ℕ → Bool) → IsCount (has_below has 0) 0
first_label has low = record { strings = []; all = none; few = omega arith }
  where
    none : (string : List ℕ) → has_below has 0 string ≡ true → Contains [] string
    none [] there = absurd (false≢true there)
    none (label ∷ rest) there = let lt = ltb-true label 0 (and_parts (ltb label 0) (has (label ∷ rest)) there).0 in absurd (omega arith)

-- the string of one label, if it is accepted
abbrev alone : Bool → ℕ → List (List ℕ)
alone accepts label = cond accepts ((label ∷ []) ∷ []) []

alone_size : (accepts : Bool) (label : ℕ) → length (alone accepts label) ≡ cond accepts 1 0
alone_size true label = refl
alone_size false label = refl

alone_there : (accepts : Bool) (label : ℕ) → accepts ≡ true → Contains (alone accepts label) (label ∷ [])
alone_there true label e = (0, omega arith, refl)
alone_there false label e = absurd (false≢true e)

-- strings with a label in front
abbrev after_label : ℕ → List (List ℕ) → List (List ℕ)
after_label label strings = map (λ (string : List ℕ). label ∷ string) strings

after_there : (label : ℕ) (string : List ℕ) (strings : List (List ℕ)) → Contains strings string → Contains (after_label label strings) (label ∷ string)
after_there label string [] has = absurd (omega (arith, has.1))
after_there label string (first ∷ strings) (zero, lt, at) = (0, omega arith, ap (λ (rest : List ℕ). label ∷ rest) at)
after_there label string (first ∷ strings) (suc place, lt, at) =
    let rest = after_there label string strings (place, omega arith, at) in
    (suc (rest.0), omega (arith, rest.1), rest.2)

-- one more label with which strings begin
pub label_more : (has following : List ℕ → Bool) (from label count more sum : ℕ) (accepts : Bool) → from ≤ label
    → ((l : ℕ) → from ≤ l → l < label → (rest : List ℕ) → has (l ∷ rest) ≡ false) → accepts ≡ has (label ∷ [])
    → ((after : ℕ) (rest : List ℕ) → has (label ∷ after ∷ rest) ≡ following (after ∷ rest))
    → IsCount (has_below has from) count → IsCount following more → (sum < most_counted → sum ≡ count + more + cond accepts 1 0)
    → IsCount (has_below has (label + 1)) sum
label_more has following from label count more sum accepts reached passed ends longer before there is low =
    let total = is low in
    let one = before (omega arith) in
    let two = there (omega arith) in
    let one_few = one.few in
    let two_few = two.few in
    let own = alone accepts label ++ after_label label two.strings in
    let own_size = length-append (alone accepts label) (after_label label two.strings) in
    let alone_is = alone_size accepts label in
    let after_size = length-map two.strings (λ (string : List ℕ). label ∷ string) in
    let whole = length-append one.strings own in
    record { strings = one.strings ++ own; all = all one two; few = omega arith }
  where
    here : (two : HasAtMost following more) (rest : List ℕ) → has (label ∷ rest) ≡ true → Contains (alone accepts label ++ after_label label two.strings) (label ∷ rest)
    here two [] e = Contains-append_left (alone accepts label) (after_label label two.strings) (label ∷ []) (alone_there accepts label (ends ∙ e))
    here two (after ∷ rest) e =
        Contains-append_right (alone accepts label) (after_label label two.strings) (label ∷ after ∷ rest)
        (after_there label (after ∷ rest) two.strings (two.all (after ∷ rest) (sym (longer after rest) ∙ e)))

    all : (one : HasAtMost (has_below has from) count) (two : HasAtMost following more) (string : List ℕ) → has_below has (label + 1) string ≡ true
        → Contains (one.strings ++ (alone accepts label ++ after_label label two.strings)) string
    all one two [] e = absurd (false≢true e)
    all one two (l ∷ rest) e =
        let parts = and_parts (ltb l (label + 1)) (has (l ∷ rest)) e in
        let lt = ltb-true l (label + 1) parts.0 in
        let own = alone accepts label ++ after_label label two.strings in
        elim (cases_lt l from) [
          | inl below ↦
              Contains-append_left one.strings own (l ∷ rest)
              (one.all (l ∷ rest) (and_from (ltb l from) (has (l ∷ rest)) (lt-ltb l from below) parts.1))
          | inr not_below ↦ elim (cases_lt l label) [
            | inl between ↦ absurd (false≢true (sym (passed l not_below between rest) ∙ parts.1))
            | inr reached ↦
                let same : label ≡ l = omega arith in
                Contains-append_right one.strings own (l ∷ rest)
                (subst (λ (m : ℕ). Contains own (m ∷ rest)) same (here two rest (subst (λ (m : ℕ). has (m ∷ rest) ≡ true) (sym same) parts.1)))
          ]
        ]

pub last_label : (has : List ℕ → Bool) (from count : ℕ) → has [] ≡ false → ((label : ℕ) → from ≤ label → (rest : List ℕ) → has (label ∷ rest) ≡ false)
    → IsCount (has_below has from) count → IsCount has count
last_label has from count empty none before low = let one = before low in record { strings = one.strings; all = all one; few = one.few }
  where
    all : (one : HasAtMost (has_below has from) count) (string : List ℕ) → has string ≡ true → Contains one.strings string
    all one [] e = absurd (false≢true (sym empty ∙ e))
    all one (label ∷ rest) e = elim (cases_lt label from) [
      | inl below ↦ one.all (label ∷ rest) (and_from (ltb label from) (has (label ∷ rest)) (lt-ltb label from below) e)
      | inr past ↦ absurd (false≢true (sym (none label past rest) ∙ e))
    ]

-- ---- what a branch gives

pub longer : (bytes : List ℕ) (node : Node) (label : ℕ) (next : Option Node) → Leads bytes node label next
    → (after : ℕ) (rest : List ℕ) → file_tail bytes (number_of node) (label ∷ after ∷ rest) ≡ next_strings (node_tail bytes) next (after ∷ rest)
longer bytes node label None leads after rest = leads after rest
longer bytes node label (Some next) leads after rest = leads.tails after rest

head_low : (label : ℕ) (rest : List ℕ) → IsTrue (list_all is_label (label ∷ rest)) → label < 27
head_low label rest all = ltb-true label 27 (and_parts (is_label label) (list_all is_label rest) all).0

-- the label of a branch is one
pub label_low : (bytes : List ℕ) → IsTrue (is_none (fault_of bytes)) → (node : Node) (label : ℕ) (accepts : Bool) (next : Option Node)
    → IsTrue (is_file_node bytes (number_of node)) → accepts ≡ file_tail bytes (number_of node) (label ∷ []) → Leads bytes node label next
    → (accepts ≡ false → IsSome next) → label < 27
label_low bytes shape node label true next is ends leads alive =
    head_low label [] (file_labels bytes shape (number_of node) (label ∷ []) is (sym ends))
label_low bytes shape node label false None is ends leads alive = absurd (false≢true (alive refl))
label_low bytes shape node label false (Some next) is ends leads alive =
    let after = leads.some.0 in
    let rest = leads.some.1 in
    head_low label (after ∷ rest)
    (file_labels bytes shape (number_of node) (label ∷ after ∷ rest) is (leads.tails after rest ∙ leads.some.2))

pub counted_there : (bytes : List ℕ) (table : CountTable) (node : Node) (label : ℕ) (next : Option Node) → AreCountedBelow bytes table (number_of node)
    → Leads bytes node label next → IsCountedThere bytes table next
counted_there bytes table node label None counted leads = tt
counted_there bytes table node label (Some next) counted leads = record {
  here = counted.each (number_of next) leads.falls leads.node;
  beside = counted.beside;
}

pub count_none : (bytes : List ℕ) → IsCount (next_strings (node_tail bytes) None) 0
count_none bytes low = record { strings = []; all = λ string there. absurd (false≢true there); few = omega arith }

-- ---- node by node

no_node : (bytes : List ℕ) (n : ℕ) → is_file_node bytes n ≡ false → is_file_node bytes n ≡ true → ⊥
no_node bytes n none there = false≢true (sym none ∙ there)

-- the node 0 has no strings
zero_count : (bytes : List ℕ) (count : ℕ) → IsTrue (is_none (fault_of bytes)) → IsCount (file_tail bytes 0) count
zero_count bytes count shape low = record {
  strings = [];
  all = λ string there. absurd (false≢true (sym (none_of_zero (file_node bytes) string (sound bytes shape).graph.none) ∙ there));
  few = omega arith;
}

slot_zero : (thirds : Bool) → slot_of thirds 0 ≡ 0
slot_zero true = refl
slot_zero false = refl

zero_counted : (bytes : List ℕ) (table : CountTable) → IsTrue (is_none (fault_of bytes)) → IsFirstTable table
    → IsCountedBy bytes table.small.items (slot_of table.thirds 0) 0
zero_counted bytes table shape first =
    let size : length table.small.items ≡ 1 = ap length first.small in
    let slot = slot_zero table.thirds in
    record { inside = omega arith; count = λ _. zero_count bytes (get_or table.small.items (slot_of table.thirds 0) 0) shape }

none_beside : (bytes : List ℕ) (table : CountTable) → IsFirstTable table → AreCountedBeside bytes table.nodes.items table.large.items
none_beside bytes table first =
    let nodes : length table.nodes.items ≡ 0 = ap length first.nodes in
    let large : length table.large.items ≡ 0 = ap length first.large in
    record { pairs = nodes ∙ sym large; each = λ place lt. absurd (omega arith) }

-- before the first stored node
pub counted_first : (bytes : List ℕ) (table : CountTable) (first : Option Node) → IsTrue (is_none (fault_of bytes)) → IsFirstTable table
    → IfNone first ((n : ℕ) → 0 < n → is_file_node bytes n ≡ false) → IfSome first (λ (node : Node). IsNextNode bytes 0 (number_of node))
    → AreCountedUntil bytes table first
counted_first bytes table None shape is none found =
    record {
      each = λ n there. elim (cases_lt 0 n) [
        | inl some ↦ absurd (no_node bytes n (none n some) there)
        | inr le ↦
            let same : 0 ≡ n = omega arith in
            subst (IsCounted bytes table) same (record { here = zero_counted bytes table shape is; beside = none_beside bytes table is })
      ];
    }
counted_first bytes table (Some node) shape is none found = (
  record {
    beside = none_beside bytes table is;
    each = λ m less there. elim (cases_lt 0 m) [
      | inl some ↦ absurd (no_node bytes m (found.next m some less) there)
      | inr le ↦
          let same : 0 ≡ m = omega arith in
          subst (λ (n : ℕ). IsCountedBy bytes table.small.items (slot_of table.thirds n) n) same (zero_counted bytes table shape is)
    ];
  },
  found.node,
)

-- one more count that is stored separately
pub beside_more : (bytes nodes large : List ℕ) (n count : ℕ) → AreCountedBeside bytes nodes large → IsCount (file_tail bytes n) count
    → AreCountedBeside bytes (nodes ++ n ∷ []) (large ++ count ∷ [])
beside_more bytes nodes large n count before here =
    let pairs = before.pairs in
    let nodes_size = length-append nodes (n ∷ []) in
    let large_size = length-append large (count ∷ []) in
    record {
      pairs = omega arith;
      each = λ place lt. elim (cases_lt place (length large)) [
        | inl less ↦
            let node : get_or (nodes ++ n ∷ []) place 0 ≡ get_or nodes place 0 = get_or_append_left nodes (n ∷ []) 0 place (omega arith) in
            let own : get_or (large ++ count ∷ []) place 0 ≡ get_or large place 0 = get_or_append_left large (count ∷ []) 0 place less in
            subst (λ (m : ℕ). IsCount (file_tail bytes m) (get_or (large ++ count ∷ []) place 0)) (sym node)
            (subst (IsCount (file_tail bytes (get_or nodes place 0))) (sym own) (before.each place less))
        | inr past ↦
            let node : get_or (nodes ++ n ∷ []) place 0 ≡ n = get_or_at nodes n [] 0 place (omega arith) in
            let own : get_or (large ++ count ∷ []) place 0 ≡ count = get_or_at large count [] 0 place (omega arith) in
            subst (λ (m : ℕ). IsCount (file_tail bytes m) (get_or (large ++ count ∷ []) place 0)) (sym node)
            (subst (IsCount (file_tail bytes n)) (sym own) here)
      ];
    }

-- the greatest number says nothing
pub not_found : (has : List ℕ → Bool) → IsCount has 4294967295
not_found has low = absurd (omega arith)

-- a count that is found among those stored separately
pub found_beside : (bytes nodes large : List ℕ) (n place : ℕ) → AreCountedBeside bytes nodes large → place < length nodes
    → HoldsAt (λ (m : ℕ). nat_cmp m n ≡ Equal) nodes place → IsCount (file_tail bytes n) (get_or large place 0)
found_beside bytes nodes large n place beside inside found =
    let pairs = beside.pairs in
    let same : get_or nodes place 0 ≡ n = nat_cmp-IsAntisymmetric (get_or nodes place 0) n (found 0) in
    subst (λ (m : ℕ). IsCount (file_tail bytes m) (get_or large place 0)) same (beside.each place (omega arith))

-- one more node is counted
pub put_below : (bytes : List ℕ) (old new : CountTable) (n byte : ℕ) → AreCountedBelow bytes old n
    → AreCountedBeside bytes new.nodes.items new.large.items → new.thirds ≡ old.thirds → length old.small.items ≤ slot_of old.thirds n
    → IsPut old.small.items new.small.items (slot_of old.thirds n) byte → (byte < 255 → IsCount (file_tail bytes n) byte)
    → AreCountedBelow bytes new (n + 1)
put_below bytes old new n byte before beside thirds room put here = record { beside = beside; each = each }
  where
    by_old : (m : ℕ) → m < n + 1 → is_file_node bytes m ≡ true → IsCountedBy bytes new.small.items (slot_of old.thirds m) m
    by_old m le there =
        let size = put.size in
        elim (cases_lt m n) [
          | inl less ↦
              let counted = before.each m less there in
              let inside = counted.inside in
              let same = put.same (slot_of old.thirds m) inside in
              record {
                inside = omega arith;
                count = subst (λ (c : ℕ). c < 255 → IsCount (file_tail bytes m) c) (sym same) counted.count;
              }
          | inr past ↦
              let same : n ≡ m = omega arith in
              subst (λ (k : ℕ). IsCountedBy bytes new.small.items (slot_of old.thirds k) k) same
              (record { inside = omega arith; count = subst (λ (c : ℕ). c < 255 → IsCount (file_tail bytes n) c) (sym put.here) here })
        ]

    each : (m : ℕ) → m < n + 1 → is_file_node bytes m ≡ true → IsCountedBy bytes new.small.items (slot_of new.thirds m) m
    each m le there = subst (λ (t : Bool). IsCountedBy bytes new.small.items (slot_of t m) m) (sym thirds) (by_old m le there)

pub counted_more : (bytes : List ℕ) (table : CountTable) (n : ℕ) (next : Option Node) → AreCountedBelow bytes table (n + 1)
    → IfNone next ((m : ℕ) → n < m → is_file_node bytes m ≡ false) → IfSome next (λ (node : Node). IsNextNode bytes n (number_of node))
    → AreCountedUntil bytes table next
counted_more bytes table n None before none found = record {
  each = λ m there. elim (cases_lt n m) [
    | inl past ↦ absurd (no_node bytes m (none m past) there)
    | inr le ↦ record { here = before.each m (omega arith) there; beside = before.beside }
  ];
}
counted_more bytes table n (Some node) before none found = (
  record {
    beside = before.beside;
    each = λ m less there. elim (cases_lt n m) [
      | inl past ↦ absurd (no_node bytes m (found.next m past less) there)
      | inr le ↦ before.each m (omega arith) there
    ];
  },
  found.node,
)

-- the number of nodes that are left after one
abbrev pub remaining_after : Option Node → ℕ
remaining_after None = 0
remaining_after (Some node) = 2 ^ 32 - number_of node

pub less_remaining : (bytes : List ℕ) (node : Node) (next : Option Node) → number_of node < 2 ^ 32
    → IfSome next (λ (after : Node). IsNextNode bytes (number_of node) (number_of after)) → remaining_after next < 2 ^ 32 - number_of node
less_remaining bytes node None low found = omega arith
less_remaining bytes node (Some after) low found = let above = found.above in omega arith
