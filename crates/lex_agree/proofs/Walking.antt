-- Walks over a file, and the turns of a letter over a mark, node by node and label by label.
use Rattle.std.proofs.Common.{◌≡◌, ℕ, zero, suc, ◌+◌, ◌<◌, ◌≤◌, Bool, true, false, eqb, List, [], ◌∷◌, ◌++◌, length, get_or, set, take, append_assoc, append-nil, Option, Some, None, inl, inr, refl, sym, ap, subst, ◌∙◌, arith}
use Rattle.std.proofs.lemmas.Bool.{cases_lt, false≢true}
use Rattle.std.proofs.lemmas.List.{length-set, length-take-le, map-append, take_all, take_more, take_more_set, take-set, take-take, get_or-set_same, get_or-set_other}
use Rattle.lex_file.specs.declared.files.Node.{Node}
use Rattle.lex_file.specs.declared.lexicons.Step.{Step}
use Rattle.lex_file.specs.Files.{number_of}
use Rattle.lex_file.specs.Languages.{file_tail, language_of}
use Rattle.lex_file.specs.Lexicons.{NoLonger}
use Rattle.lex_file.specs.Shapes.{root_of}
use Rattle.lex_file.specs.laws.Files.{file_nonempty}
use Rattle.lex_file.specs.Walking.{strings, next_strings, IsOpen}
use Rattle.lex_list.specs.RotatedPaths.{label_of, after_mark}
use Rattle.lex_list.proofs.RotatedPaths.{not_equal}
use Rattle.lex_agree.specs.Chains.{AreLetters, TurnsOver, TurnsOverFrom, first_path}
use Rattle.lex_agree.specs.Walks.{node_tail, no_step, IsNodeOf, IsStepAt, IsNodeAt, Leads, AreSteps, IsPast, AreAlike}
use Rattle.lex_agree.proofs.Bounds.{longer}

-- ---- steps

-- nothing continues
pub nothing : (bytes t : List ℕ) → strings (node_tail bytes) (record { accepts = false; next = None }) t ≡ false
nothing bytes [] = refl
nothing bytes (label ∷ rest) = refl

pub step_none : (bytes : List ℕ) (root : Node) → IsNodeOf bytes root → ((string : List ℕ) → file_tail bytes (number_of root) string ≡ language_of bytes string)
    → IsStepAt bytes [] (record { accepts = false; next = Some root })
step_none bytes root is tails = record { open_there = is; strings_there = there }
  where
    there : (t : List ℕ) → language_of bytes t ≡ strings (node_tail bytes) (record { accepts = false; next = Some root }) t
    there [] = file_nonempty bytes (root_of bytes)
    there (label ∷ rest) = sym (tails (label ∷ rest))

-- one more label
pub step_more : (bytes labels : List ℕ) (label : ℕ) (at next : Step Node) → IsStepAt bytes labels at → IsOpen (IsNodeOf bytes) next.next
    → ((t : List ℕ) → strings (node_tail bytes) at (label ∷ t) ≡ strings (node_tail bytes) next t) → IsStepAt bytes (labels ++ label ∷ []) next
step_more bytes labels label at next here open_there step = record {
  open_there = open_there;
  strings_there = λ rest. ap (language_of bytes) (append_assoc labels (label ∷ []) rest) ∙ here.strings_there (label ∷ rest) ∙ step rest;
}

pub step_accepts : (bytes labels : List ℕ) (at : Step Node) → IsStepAt bytes labels at → language_of bytes labels ≡ at.accepts
step_accepts bytes labels at here = ap (language_of bytes) (sym (append-nil labels)) ∙ here.strings_there []

-- ---- the path of the first letter

first_more : (letters : List ℕ) (letter : ℕ) → 0 < length letters → first_path (letters ++ letter ∷ []) ≡ first_path letters ++ label_of letter ∷ []
first_more [] letter some = absurd (omega arith)
first_more (first ∷ letters) letter some = ap (λ (labels : List ℕ). label_of first ∷ 0 ∷ labels) (map-append label_of letters (letter ∷ []))

pub letter_more : (bytes word : List ℕ) (split : ℕ) (next : Step Node) → 0 < split → split < length word
    → IsStepAt bytes (first_path (take split word) ++ label_of (get_or word split 0) ∷ []) next → IsStepAt bytes (first_path (take (split + 1) word)) next
letter_more bytes word split next some inside here =
    let size = length-take-le split word (omega arith) in
    let longer = take_more word split 0 inside in
    subst (λ (labels : List ℕ). IsStepAt bytes labels next)
    (sym (ap first_path longer ∙ first_more (take split word) (get_or word split 0) (omega arith))) here

pub letter_first : (bytes word : List ℕ) (next : Step Node) → 0 < length word → IsStepAt bytes (label_of (get_or word 0 0) ∷ 0 ∷ []) next
    → IsStepAt bytes (first_path (take 1 word)) next
letter_first bytes [] next some here = absurd (omega arith)
letter_first bytes (letter ∷ word) next some here = here

-- ---- turns at a mark

-- the labels after a mark that are below one turn over
abbrev pub TurnsBelow : List ℕ → List ℕ → Node → ℕ → Type 0
TurnsBelow bytes front following from =
    (label : ℕ) (rest : List ℕ) → label < from → file_tail bytes (number_of following) (label ∷ rest) ≡ true → language_of bytes (label ∷ front ++ after_mark rest) ≡ true

pub turns_none : (bytes front : List ℕ) (following : Node) → TurnsBelow bytes front following 0
turns_none bytes front following label rest low there = absurd (omega arith)

pub turns_more : (bytes front : List ℕ) (following : Node) (from label : ℕ) (accepts : Bool) (next : Option Node) (turned marked : Step Node)
    → TurnsBelow bytes front following from → ((l : ℕ) → from ≤ l → l < label → (rest : List ℕ) → file_tail bytes (number_of following) (l ∷ rest) ≡ false)
    → accepts ≡ file_tail bytes (number_of following) (label ∷ []) → Leads bytes following label next → IsStepAt bytes (label ∷ front) turned
    → ((t : List ℕ) → strings (node_tail bytes) turned (0 ∷ t) ≡ strings (node_tail bytes) marked t) → (accepts ≡ true → turned.accepts ≡ true)
    → ((t : List ℕ) → next_strings (node_tail bytes) next t ≡ next_strings (node_tail bytes) marked.next t) → TurnsBelow bytes front following (label + 1)
turns_more bytes front following from label accepts next turned marked before passed ends leads at step kept same l rest low there =
    elim (cases_lt l from) [
      | inl below ↦ before l rest below there
      | inr past ↦ elim (cases_lt l label) [
        | inl between ↦ absurd (false≢true (sym (passed l past between rest) ∙ there))
        | inr reached ↦
            let is : label ≡ l = omega arith in
            subst (λ (m : ℕ). language_of bytes (m ∷ front ++ after_mark rest) ≡ true) is
            (here rest (subst (λ (m : ℕ). file_tail bytes (number_of following) (m ∷ rest) ≡ true) (sym is) there))
      ]
    ]
  where
    here : (rest : List ℕ) → file_tail bytes (number_of following) (label ∷ rest) ≡ true → language_of bytes (label ∷ front ++ after_mark rest) ≡ true
    here [] e = at.strings_there [] ∙ kept (ends ∙ e)
    here (after ∷ more) e =
        at.strings_there (0 ∷ after ∷ more) ∙ step (after ∷ more) ∙ sym (same (after ∷ more)) ∙ sym (longer bytes following label next leads after more) ∙ e

pub turns_all : (bytes front : List ℕ) (following : Node) (from : ℕ) → TurnsBelow bytes front following from
    → ((label : ℕ) → from ≤ label → (rest : List ℕ) → file_tail bytes (number_of following) (label ∷ rest) ≡ false)
    → (label : ℕ) (rest : List ℕ) → file_tail bytes (number_of following) (label ∷ rest) ≡ true → language_of bytes (label ∷ front ++ after_mark rest) ≡ true
turns_all bytes front following from before none label rest there = elim (cases_lt label from) [
  | inl below ↦ before label rest below there
  | inr past ↦ absurd (false≢true (sym (none label past rest) ∙ there))
]

-- at a node, by what follows the mark there
pub mark_none : (bytes front : List ℕ) (node : Node) → IsNodeAt bytes front node
    → ((label : ℕ) (rest : List ℕ) → file_tail bytes (number_of node) (0 ∷ label ∷ rest) ≡ false) → TurnsOver (language_of bytes) front
mark_none bytes front node at none label rest there = absurd (false≢true (sym (at.tails_there 0 (label ∷ rest) ∙ none label rest) ∙ there))

pub mark_some : (bytes front : List ℕ) (node following : Node) → IsNodeAt bytes front node → Leads bytes node 0 (Some following)
    → ((label : ℕ) (rest : List ℕ) → file_tail bytes (number_of following) (label ∷ rest) ≡ true → language_of bytes (label ∷ front ++ after_mark rest) ≡ true)
    → TurnsOver (language_of bytes) front
mark_some bytes front node following at leads turns label rest there =
    turns label rest (sym (leads.tails label rest) ∙ sym (at.tails_there 0 (label ∷ rest)) ∙ there)

-- ---- turns at all nodes before a mark

-- the labels of a front stay when others are put after them
pub front_kept : (front after : List ℕ) (count label : ℕ) → take (count + 1) after ≡ take (count + 1) (set front count label) → take count after ≡ take count front
front_kept front after count label same =
    sym (take-take count (count + 1) after (omega arith)) ∙ ap (take count) same ∙ take-take count (count + 1) (set front count label) (omega arith)
    ∙ take-set front count label

-- a front with one more label
pub front_longer : (front before : List ℕ) (count label : ℕ) → count < length front → take count front ≡ take count before
    → take (count + 1) (set front count label) ≡ take count before ++ label ∷ []
front_longer front before count label room same = take_more_set front count label room ∙ ap (λ (l : List ℕ). l ++ label ∷ []) same

-- the labels that continue after a front with a label below one turn over
abbrev pub TurnsOverBelow : (List ℕ → Bool) → List ℕ → ℕ → Type 0
TurnsOverBelow has front from = (label : ℕ) (labels : List ℕ) → label < from → 0 < label → AreLetters labels → TurnsOver has (front ++ label ∷ labels)

pub over_none : (has : List ℕ → Bool) (front : List ℕ) → TurnsOverBelow has front 1
over_none has front label labels low some clear = absurd (omega arith)

-- a node to which an arc leads comes after one more label
pub node_more : (bytes front : List ℕ) (node next : Node) (label : ℕ) → IsNodeAt bytes front node → Leads bytes node label (Some next)
    → IsNodeAt bytes (front ++ label ∷ []) next
node_more bytes front node next label at leads = record {
  node_there = leads.node;
  tails_there = λ after rest.
      ap (language_of bytes) (append_assoc front (label ∷ []) (after ∷ rest)) ∙ at.tails_there label (after ∷ rest) ∙ leads.tails after rest;
}

-- no string continues with a label, so nothing must be turned over
ends_there : (bytes front : List ℕ) (node : Node) (label : ℕ) → IsNodeAt bytes front node
    → ((after : ℕ) (rest : List ℕ) → file_tail bytes (number_of node) (label ∷ after ∷ rest) ≡ false)
    → (labels : List ℕ) → TurnsOver (language_of bytes) (front ++ label ∷ labels)
ends_there bytes front node label at none labels turned rest there =
    absurd (false≢true (sym (ap (language_of bytes) (append_assoc front (label ∷ labels) (0 ∷ turned ∷ rest)) ∙ at.tails_there label (labels ++ 0 ∷ turned ∷ rest)
    ∙ by labels) ∙ there))
  where
    by : (labels : List ℕ) → file_tail bytes (number_of node) (label ∷ labels ++ 0 ∷ turned ∷ rest) ≡ false
    by [] = none 0 (turned ∷ rest)
    by (after ∷ more) = none after (more ++ 0 ∷ turned ∷ rest)

-- what is known after an arc
abbrev pub TurnsThere : (List ℕ → Bool) → List ℕ → ℕ → Option Node → Type 0
TurnsThere has front label None = Unit {0}
TurnsThere has front label (Some next) = TurnsOverFrom has (front ++ label ∷ [])

pub over_more : (bytes front : List ℕ) (node : Node) (from label : ℕ) (next : Option Node) → IsNodeAt bytes front node
    → TurnsOverBelow (language_of bytes) front from → ((l : ℕ) → from ≤ l → l < label → (rest : List ℕ) → file_tail bytes (number_of node) (l ∷ rest) ≡ false)
    → Leads bytes node label next → TurnsThere (language_of bytes) front label next → TurnsOverBelow (language_of bytes) front (label + 1)
over_more bytes front node from label next at before passed leads there l labels low some clear =
    elim (cases_lt l from) [
      | inl below ↦ before l labels below some clear
      | inr past ↦ elim (cases_lt l label) [
        | inl between ↦ ends_there bytes front node l at (λ after rest. passed l past between (after ∷ rest)) labels
        | inr reached ↦
            let is : label ≡ l = omega arith in
            subst (λ (m : ℕ). TurnsOver (language_of bytes) (front ++ m ∷ labels)) is (here next leads there)
      ]
    ]
  where
    here : (next : Option Node) → Leads bytes node label next → TurnsThere (language_of bytes) front label next
        → TurnsOver (language_of bytes) (front ++ label ∷ labels)
    here None leads there = ends_there bytes front node label at leads labels
    here (Some next) leads there =
        subst (λ (string : List ℕ). TurnsOver (language_of bytes) string) (append_assoc front (label ∷ []) labels) (there labels clear)

pub over_all : (bytes front : List ℕ) (node : Node) (from : ℕ) → IsNodeAt bytes front node → TurnsOver (language_of bytes) front
    → TurnsOverBelow (language_of bytes) front from
    → ((label : ℕ) → from ≤ label → (rest : List ℕ) → file_tail bytes (number_of node) (label ∷ rest) ≡ false) → TurnsOverFrom (language_of bytes) front
over_all bytes front node from at here before none [] clear = subst (λ (string : List ℕ). TurnsOver (language_of bytes) string) (sym (append-nil front)) here
over_all bytes front node from at here before none (label ∷ labels) clear =
    elim (cases_lt label from) [
      | inl below ↦ before label labels below clear.0 clear.1
      | inr past ↦ ends_there bytes front node label at (λ after rest. none label past (after ∷ rest)) labels
    ]

pub root_at : (bytes : List ℕ) (root : Node) → IsNodeOf bytes root → ((string : List ℕ) → file_tail bytes (number_of root) string ≡ language_of bytes string)
    → IsNodeAt bytes [] root
root_at bytes root is tails = record { node_there = is; tails_there = λ after rest. sym (tails (after ∷ rest)) }

pub there_some : (has : List ℕ → Bool) (front longer : List ℕ) (label : ℕ) (found : Option Node) (next : Node) → found ≡ Some next
    → longer ≡ front ++ label ∷ [] → TurnsOverFrom has longer → TurnsThere has front label found
there_some has front longer label found next is same turns =
    subst (λ (o : Option Node). TurnsThere has front label o) (sym is) (subst (λ (string : List ℕ). TurnsOverFrom has string) same turns)

pub there_none : (has : List ℕ → Bool) (front : List ℕ) (label : ℕ) (found : Option Node) → found ≡ None → TurnsThere has front label found
there_none has front label found is = subst (λ (o : Option Node). TurnsThere has front label o) (sym is) tt

-- ---- the steps of a word

-- what is known about each step up to a place is known up to the next place, if it is known about the step put there
pub each_more : (known : ℕ → Step Node → Type 0) (steps : List (Step Node)) (place : ℕ) (step : Step Node) → place + 1 < length steps
    → ((count : ℕ) → count ≤ place → known count (get_or steps count no_step)) → known (place + 1) step
    → (count : ℕ) → count ≤ place + 1 → known count (get_or (set steps (place + 1) step) count no_step)
each_more known steps place step inside before here count le = elim (cases_lt count (place + 1)) [
  | inl less ↦ subst (known count) (sym (get_or-set_other steps (place + 1) count step no_step (λ e. omega arith))) (before count (omega arith))
  | inr last ↦
      let at : place + 1 ≡ count = omega arith in
      let own = get_or-set_same steps (place + 1) step no_step inside in
      subst (λ (n : ℕ). known n (get_or (set steps (place + 1) step) n no_step)) at (subst (known (place + 1)) (sym own) here)
]

pub steps_more : (bytes word : List ℕ) (split : ℕ) (steps : List (Step Node)) (step past : Step Node) → length word ≤ 15 → split < length word
    → AreSteps bytes word split steps → IsOpen (IsNodeOf bytes) step.next
    → ((t : List ℕ) → strings (node_tail bytes) (get_or steps split no_step) (label_of (get_or word split 0) ∷ t) ≡ strings (node_tail bytes) step t)
    → IsPast bytes (eqb split 0) step past → AreSteps bytes word (split + 1) (set steps (split + 1) past)
steps_more bytes word split steps step past few inside before open_there walked passed =
    let room = before.room in
    record {
      room = length-set steps (split + 1) past ∙ room;
      each = each_more (λ count there. IsStepAt bytes (first_path (take count word)) there) steps split past (omega arith) before.each
          (by split inside (before.each split (omega arith)) walked passed);
    }
  where
    by : (n : ℕ) → n < length word → IsStepAt bytes (first_path (take n word)) (get_or steps n no_step)
        → ((t : List ℕ) → strings (node_tail bytes) (get_or steps n no_step) (label_of (get_or word n 0) ∷ t) ≡ strings (node_tail bytes) step t)
        → IsPast bytes (eqb n 0) step past → IsStepAt bytes (first_path (take (n + 1) word)) past
    by zero lt here walk pass =
        let one = step_more bytes [] (label_of (get_or word 0 0)) (get_or steps 0 no_step) step here open_there walk in
        let two = step_more bytes (label_of (get_or word 0 0) ∷ []) 0 step past one pass.open_there (pass.marked refl) in
        letter_first bytes word past lt two
    by (suc n) lt here walk pass =
        let one = step_more bytes (first_path (take (suc n) word)) (label_of (get_or word (suc n) 0)) (get_or steps (suc n) no_step) step here open_there walk in
        letter_more bytes word (suc n) past (omega arith) lt
        (subst (IsStepAt bytes (first_path (take (suc n) word) ++ label_of (get_or word (suc n) 0) ∷ [])) (sym (pass.other (not_equal (suc n) 0 (λ e. omega arith)))) one)

pub steps_same : (bytes before word : List ℕ) (same : ℕ) (steps : List (Step Node)) → AreSteps bytes before (length before) steps → AreAlike before word same
    → AreSteps bytes word same steps
steps_same bytes before word same steps there alike =
    let low = alike.in_one in
    record {
      room = there.room;
      each = λ split le.
          let front : take split before ≡ take split word =
          sym (take-take split same before le) ∙ ap (take split) alike.alike ∙ take-take split same word le in
          subst (λ (letters : List ℕ). IsStepAt bytes (first_path letters) (get_or steps split no_step)) front (there.each split (omega arith));
    }

pub steps_none : (bytes : List ℕ) (steps : List (Step Node)) → length steps ≡ 16 → IsStepAt bytes [] (get_or steps 0 no_step) → AreSteps bytes [] 0 steps
steps_none bytes steps room here = record {
  room = room;
  each = λ split le. let same : 0 ≡ split = omega arith in
      subst (λ (n : ℕ). IsStepAt bytes (first_path (take n [])) (get_or steps n no_step)) same here;
}

pub word_there : (bytes word : List ℕ) (steps : List (Step Node)) → AreSteps bytes word (length word) steps
    → (get_or steps (length word) no_step).accepts ≡ true → language_of bytes (first_path word) ≡ true
word_there bytes word steps there accepts =
    let whole : take (length word) word ≡ word = take_all (length word) word (omega arith) in
    let here = subst (λ (letters : List ℕ). IsStepAt bytes (first_path letters) (get_or steps (length word) no_step)) whole (there.each (length word) (omega arith)) in
    step_accepts bytes (first_path word) (get_or steps (length word) no_step) here ∙ accepts

-- which strings that continue after a front with a label below one turn over: after the mark, and after letters
pub record TurnsSoFar (has : List ℕ → Bool) (front : List ℕ) (from : ℕ) : Type 0 where
  pub mark : 0 < from → TurnsOver has front
  pub letters : TurnsOverBelow has front from

pub so_far_none : (has : List ℕ → Bool) (front : List ℕ) → TurnsSoFar has front 0
so_far_none has front = record { mark = λ some. absurd (omega arith); letters = λ label labels low. absurd (omega arith) }

-- what is known after an arc with the mark or a letter
abbrev pub TurnsAfter : List ℕ → List ℕ → ℕ → Option Node → Type 0
TurnsAfter bytes front label next = (label ≡ 0 → TurnsOver (language_of bytes) front) × (0 < label → TurnsThere (language_of bytes) front label next)

pub so_far_more : (bytes front : List ℕ) (node : Node) (from label : ℕ) (next : Option Node) → IsNodeAt bytes front node
    → TurnsSoFar (language_of bytes) front from → ((l : ℕ) → from ≤ l → l < label → (rest : List ℕ) → file_tail bytes (number_of node) (l ∷ rest) ≡ false)
    → from ≤ label → Leads bytes node label next → TurnsAfter bytes front label next → TurnsSoFar (language_of bytes) front (label + 1)
so_far_more bytes front node from label next at before passed reached leads there = record {
  mark = λ some. elim (cases_lt 0 from) [
    | inl past ↦ before.mark past
    | inr first ↦ elim (cases_lt 0 label) [
      | inl letter ↦ mark_none bytes front node at (λ turned rest. passed 0 (omega arith) letter (turned ∷ rest))
      | inr none ↦ there.0 (omega arith)
    ]
  ];
  letters = elim (cases_lt 0 label) [
    | inl letter ↦ over_more bytes front node from label next at before.letters passed leads (there.1 letter)
    | inr none ↦ λ l labels low some. absurd (omega arith)
  ];
}

pub so_far_all : (bytes front : List ℕ) (node : Node) (from : ℕ) → IsNodeAt bytes front node → TurnsSoFar (language_of bytes) front from
    → ((label : ℕ) → from ≤ label → (rest : List ℕ) → file_tail bytes (number_of node) (label ∷ rest) ≡ false) → TurnsOverFrom (language_of bytes) front
so_far_all bytes front node from at before none =
    let here : TurnsOver (language_of bytes) front = elim (cases_lt 0 from) [
      | inl past ↦ before.mark past
      | inr first ↦ mark_none bytes front node at (λ turned rest. none 0 (omega arith) (turned ∷ rest))
    ] in
    over_all bytes front node from at here before.letters none

-- what turns over after labels that are those of a front
pub after_same : (bytes labels front : List ℕ) (following : Node) → labels ≡ front
    → ((turned : ℕ) (rest : List ℕ) → file_tail bytes (number_of following) (turned ∷ rest) ≡ true → language_of bytes (turned ∷ labels ++ after_mark rest) ≡ true)
    → (turned : ℕ) (rest : List ℕ) → file_tail bytes (number_of following) (turned ∷ rest) ≡ true → language_of bytes (turned ∷ front ++ after_mark rest) ≡ true
after_same bytes labels front following same turns turned rest there =
    subst (λ (l : List ℕ). language_of bytes (turned ∷ l ++ after_mark rest) ≡ true) same (turns turned rest there)

-- after the mark, after a letter, and if nothing continues
pub after_mark_there : (bytes front : List ℕ) (node following : Node) (label : ℕ) (found : Option Node) → IsNodeAt bytes front node → label ≡ 0 → found ≡ Some following
    → Leads bytes node label found
    → ((turned : ℕ) (rest : List ℕ) → file_tail bytes (number_of following) (turned ∷ rest) ≡ true → language_of bytes (turned ∷ front ++ after_mark rest) ≡ true)
    → TurnsAfter bytes front label found
after_mark_there bytes front node following label found at is some leads turns = (
  (λ _. mark_some bytes front node following at (subst (λ (o : Option Node). Leads bytes node 0 o) some (subst (λ (l : ℕ). Leads bytes node l found) is leads)) turns),
  (λ letter. absurd (omega arith)),
)

pub after_letter_there : (bytes front longer : List ℕ) (label : ℕ) (found : Option Node) (next : Node) → (label ≡ 0 → ⊥) → found ≡ Some next
    → longer ≡ front ++ label ∷ [] → TurnsOverFrom (language_of bytes) longer → TurnsAfter bytes front label found
after_letter_there bytes front longer label found next letter some same turns = (
  (λ is. absurd (letter is)),
  (λ _. there_some (language_of bytes) front longer label found next some same turns),
)

pub after_none_there : (bytes front : List ℕ) (node : Node) (label : ℕ) (found : Option Node) → IsNodeAt bytes front node → found ≡ None → Leads bytes node label found
    → TurnsAfter bytes front label found
after_none_there bytes front node label found at none leads = (
  (λ is. mark_none bytes front node at (subst (λ (l : ℕ). NoLonger (node_tail bytes) node l) is (subst (λ (o : Option Node). Leads bytes node label o) none leads))),
  (λ _. there_none (language_of bytes) front label found none),
)
