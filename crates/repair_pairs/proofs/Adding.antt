-- Pairs that are added, one repair after another, and one head after another.
use Rattle.std.proofs.Common.{◌≡◌, inl, inr, ℕ, ◌<◌, List, [], ◌∷◌, ◌++◌, length, get_or, slice_get, Option, Some, None, refl, sym, ap, ◌∙◌, subst, append_assoc, append-nil, arith}
use Rattle.std.specs.Prelude.{All, Contains, Result, Ok, Err, IfOk}
use Rattle.std.proofs.lemmas.List.{get_or_append_left, get_or_push, length_push}
use Rattle.std.proofs.lemmas.List.Elements.{All-append, All-push, All-weaker, All-contains}
use Rattle.std.proofs.lemmas.Option.{slice_get_read, slice_get_within, get_or_from_slice_get}
use Rattle.ref_tiles.specs.declared.rulebook.Rules.{Rules}
use Rattle.gcg_read.specs.declared.events.Event.{Event}
use Rattle.repair_changes.specs.Weights.{weight_of}
use Rattle.repair_single.specs.Repairs.{IsRepair}
use Rattle.repair_single.specs.declared.repair.Repair.{Repair}
use Rattle.repair_pairs.specs.Pairs.{ConcernsSheet, WrongOnSheet, CostsLess, MakesOther, IsHead, IsPair, ArePairs, cost_with}
use Rattle.repair_pairs.specs.Finding.{IsPairWith, AddsPair, AddsPairs, ArePairsSoFar, AreFirstOf, AreSorted}
use Rattle.repair_pairs.specs.declared.found.Head.{Head}
use Rattle.repair_pairs.specs.declared.found.Pair.{Pair}
use Rattle.repair_pairs.specs.declared.found.Pairs.{Pairs}

-- ---- the pairs of one head

pub pair_put : (singles : List Repair) (made : List Event) (head weight cost : ℕ) (then : Repair) (old new : List Pair) → new ≡ old ++ (record { head = head; then = then; cost = cost }) ∷ []
    → ConcernsSheet made then.listed.change → WrongOnSheet then → CostsLess singles cost → MakesOther singles then → cost ≡ cost_with weight then → AddsPair singles made head weight then old new
pair_put singles made head weight cost then old new added lines numbers cheaper other costs =
    inl
    (record {
      pair = record { head = head; then = then; cost = cost };
      added = added;
      by = refl;
      is = record { of_head = refl; lines = lines; numbers = numbers; cheaper = cheaper; other = other; costs = costs };
    })

pub none_added : (singles : List Repair) (made : List Event) (head weight : ℕ) (found : List Repair) (old : List Pair) → AddsPairs singles made head weight found old old
none_added singles made head weight found old = record { more = []; added = sym (append-nil old); each = λ k d within. absurd (omega (arith, within)) }

pub one_added : (singles : List Repair) (made : List Event) (head weight index : ℕ) (found : List Repair) (then : Repair) (old now new : List Pair) → index < length found → then ≡ get_or found index then
    → AddsPairs singles made head weight found old now → AddsPair singles made head weight then now new → AddsPairs singles made head weight found old new
one_added singles made head weight index found then old now new within is adds (inl puts) =
    record {
      more = adds.more ++ puts.pair ∷ [];
      added = puts.added ∙ ap (λ (ps : List Pair). ps ++ puts.pair ∷ []) adds.added ∙ append_assoc old adds.more (puts.pair ∷ []);
      each = All-push (λ (p : Pair). Contains found p.then × IsPairWith singles made head weight p) adds.more puts.pair adds.each
          (subst (Contains found) (sym puts.by) (index, within, sym is), puts.is);
    }
one_added singles made head weight index found then old now new within is adds (inr same) = subst (AddsPairs singles made head weight found old) (sym same) adds

-- ---- one head more

head_stays : (heads : List Head) (more : Head) (k : ℕ) (head : Head) → slice_get heads k ≡ Some head → slice_get (heads ++ more ∷ []) k ≡ Some head
head_stays heads more k head at =
    let within = slice_get_within heads k head at in
    let long = length_push heads more in
    slice_get_read (heads ++ more ∷ []) (length (heads ++ more ∷ [])) k head refl (omega (arith, within, long))
    (sym (get_or_append_left heads (more ∷ []) head k within ∙ get_or_from_slice_get heads k head head at))

head_last : (heads : List Head) (more : Head) → slice_get (heads ++ more ∷ []) (length heads) ≡ Some more
head_last heads more =
    let long = length_push heads more in
    slice_get_read (heads ++ more ∷ []) (length (heads ++ more ∷ [])) (length heads) more refl (omega (arith, long)) (sym (get_or_push heads more more (length heads) refl))

pair_stays : (rules : Rules) (list : List (List ℕ)) (written : List Event) (singles : List Repair) (heads : List Head) (more : Head) (p : Pair) → IsPair rules list written singles heads p
    → IsPair rules list written singles (heads ++ more ∷ []) p
pair_stays rules list written singles heads more p is =
    record {
      head = is.head;
      there = head_stays heads more p.head is.head is.there;
      first = is.first;
      second = is.second;
      lines = is.lines;
      numbers = is.numbers;
      cheaper = is.cheaper;
      other = is.other;
      costs = is.costs;
    }

-- a repair is still one if any number may stay wrong
any_number : (rules : Rules) (list : List (List ℕ)) (made : List Event) (below : Option ℕ) (r : Repair) → IsRepair rules list made [] below r → IsRepair rules list made [] None r
any_number rules list made below r is =
    record {
      makes = record { single = is.makes.single; correction = is.makes.correction; game = is.makes.game; fewer = tt };
      remain = is.remain;
    }

pair_of : (rules : Rules) (list : List (List ℕ)) (written : List Event) (singles : List Repair) (heads : List Head) (head : Head) (below : Option ℕ) (number weight : ℕ) (found : List Repair) (p : Pair)
    → IsHead rules list written head → number ≡ length heads → weight ≡ weight_of head.first.change.slip → All (IsRepair rules list head.made [] below) found
    → Contains found p.then × IsPairWith singles head.made number weight p → IsPair rules list written singles (heads ++ head ∷ []) p
pair_of rules list written singles heads head below number weight found p first last weighs repairs (among, is) =
    record {
      head = head;
      there = subst (λ n. slice_get (heads ++ head ∷ []) n ≡ Some head) (sym (is.of_head ∙ last)) (head_last heads head);
      first = first;
      second = any_number rules list head.made below p.then (All-contains (IsRepair rules list head.made [] below) found p.then repairs among);
      lines = is.lines;
      numbers = is.numbers;
      cheaper = is.cheaper;
      other = is.other;
      costs = is.costs ∙ ap (λ w. cost_with w p.then) weighs;
    }

pub head_added : (rules : Rules) (list : List (List ℕ)) (written : List Event) (singles : List Repair) (old new : Pairs) (head : Head) (below : Option ℕ) (number weight : ℕ) (found : List Repair)
    → IsHead rules list written head → number ≡ length old.heads.items → weight ≡ weight_of head.first.change.slip → All (IsRepair rules list head.made [] below) found
    → new.heads.items ≡ old.heads.items ++ head ∷ [] → AddsPairs singles head.made number weight found old.reported.items new.reported.items
    → ArePairsSoFar rules list written singles old → ArePairsSoFar rules list written singles new
head_added rules list written singles old new head below number weight found first last weighs repairs heads adds so =
    let all : List Head = old.heads.items ++ head ∷ [] in
    let olds = All-weaker (IsPair rules list written singles old.heads.items) (IsPair rules list written singles all) (pair_stays rules list written singles old.heads.items head) old.reported.items so in
    let news = All-weaker (λ (p : Pair). Contains found p.then × IsPairWith singles head.made number weight p) (IsPair rules list written singles all)
    (λ p with_it. pair_of rules list written singles old.heads.items head below number weight found p first last weighs repairs with_it) adds.more adds.each in
    subst (λ (hs : List Head). All (IsPair rules list written singles hs) new.reported.items) (sym heads)
    (subst (All (IsPair rules list written singles all)) (sym adds.added) (All-append (IsPair rules list written singles all) old.reported.items adds.more olds news))

-- ---- the first of all

pub pairs_first : (rules : Rules) (list : List (List ℕ)) (written : List Event) (singles : List Repair) (most : ℕ) (found first : Pairs) → ArePairsSoFar rules list written singles found
    → AreSorted found most first → ArePairs rules list written singles most first
pairs_first rules list written singles most found first are sorted =
    let reported = sorted.reported in
    let each : All (IsPair rules list written singles found.heads.items) first.reported.items =
    λ k d within. All-contains (IsPair rules list written singles found.heads.items) found.reported.items (get_or first.reported.items k d) are (reported.each k d within) in
    record {
      each = subst (λ (hs : List Head). All (IsPair rules list written singles hs) first.reported.items) (sym sorted.heads) each;
      few = reported.few;
      ordered = reported.ordered;
      once = reported.once;
    }

-- some of a list are some of each permutation of it
pub first_of_all : (all found reported : List Pair) (most : ℕ) → ((p : Pair) → Contains found p → Contains all p) → AreFirstOf found most reported → AreFirstOf all most reported
first_of_all all found reported most among first =
    record {
      each = λ k d within. among (get_or reported k d) (first.each k d within);
      few = first.few;
      ordered = first.ordered;
      once = first.once;
    }

pub reported_ok : {E : Type 0} (rules : Rules) (list : List (List ℕ)) (written : List Event) (singles : List Repair) (most : ℕ) (found : Pairs) (r : Result Pairs E) → ArePairsSoFar rules list written singles found
    → IfOk r (AreSorted found most) → IfOk r (ArePairs rules list written singles most)
reported_ok rules list written singles most found (Ok first) are sorted = pairs_first rules list written singles most found first are sorted
reported_ok rules list written singles most found (Err e) are sorted = tt
