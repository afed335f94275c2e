-- The first repairs among candidates, one candidate after another.
use Rattle.std.proofs.Common.{◌≡◌, ◌⊎◌, inl, inr, ℕ, zero, suc, ◌+◌, ◌<◌, ◌≤◌, true, List, [], ◌∷◌, ◌++◌, length, get_or, slice_get, Option, Some, refl, sym, ap, ◌∙◌, subst, arith}
use Rattle.std.specs.Prelude.{All, AllPairs, Contains, Result, Ok, Err, IfOk}
use Rattle.std.proofs.lemmas.Bool.{cases_lt}
use Rattle.std.proofs.lemmas.List.{length_push}
use Rattle.std.proofs.lemmas.List.Elements.{All-push, Contains-append_left, Contains-push}
use Rattle.std.proofs.lemmas.List.Quantifiers.{all_pairs_push}
use Rattle.std.proofs.lemmas.Option.{same_Some, slice_get_read, slice_get_within, get_or_from_slice_get}
use Rattle.ref_tiles.specs.declared.rulebook.Rules.{Rules}
use Rattle.gcg_read.specs.declared.events.Event.{Event}
use Rattle.game_corrections.proofs.Fronts.{one_correction}
use Rattle.game_deal.specs.Verdicts.{IsGame, IsUnsettled}
use Rattle.repair_changes.specs.Applied.{applied}
use Rattle.repair_changes.specs.declared.slips.Change.{Change}
use Rattle.repair_single.specs.Costs.{Rank, costs, rank_at, rank_of, is_ahead, cost_of}
use Rattle.repair_single.specs.Candidates.{rank_in, IsCandidate, AreCandidates}
use Rattle.repair_single.specs.Remaining.{Weighing, AreFewer, Remain, count_by}
use Rattle.repair_single.specs.Repairs.{MakesGame, IsRepairBy, SameRecord, IsAmong, RemainsOpen, IsReportedAt, AreAhead, AreFirstBy}
use Rattle.repair_single.specs.Reporting.{IsTriedWith, IsTried}
use Rattle.repair_single.specs.Trying.{IsWritable}
use Rattle.repair_single.specs.declared.candidate.Candidate.{Candidate}
use Rattle.repair_single.specs.declared.found.Found.{Found}
use Rattle.repair_single.specs.declared.listed.Listed.{Listed}
use Rattle.repair_single.specs.declared.repair.Repair.{Repair}
use Rattle.repair_single.proofs.Itself.{itself_as}
use Rattle.repair_single.proofs.Ranks.{not_both, not_itself}
use Rattle.repair_single.proofs.Weighing.{cost_is}

-- what is given and left of the candidates before an index
pub record AreSoFar (weigh : Weighing) (rules : Rules) (list : List (List ℕ)) (written : List Event) (plays : List Change) (below : Option ℕ) (most : ℕ) (found : List Candidate) (index : ℕ) (reported : List Repair) (remaining : List Listed)
    : Type 0 where
  pub repairs : All (IsRepairBy weigh rules list written plays below) reported
  pub few : length reported ≤ most
  pub ordered : AllPairs (λ (a b : Repair). is_ahead (rank_of a) (rank_of b) ≡ true) reported
  pub once : AllPairs (λ (a b : Repair). SameRecord a.right b.right → ⊥) reported
  pub unsettled : All (RemainsOpen rules list written plays) remaining
  pub ahead : All (λ (r : Repair). (k : ℕ) (c : Candidate) → index ≤ k → slice_get found k ≡ Some c → is_ahead (rank_of r) (rank_in c) ≡ true) reported
  pub others : (k : ℕ) (c : Candidate) (right : List Event) → k < index → slice_get found k ≡ Some c → IsWritable rules list (applied c.listed.change written) right
      → IsGame rules list right → Contains remaining c.listed ⊎ IsReportedAt reported right (rank_in c)

pub none_so_far : (weigh : Weighing) (rules : Rules) (list : List (List ℕ)) (written : List Event) (plays : List Change) (below : Option ℕ) (most : ℕ) (found : List Candidate) → AreSoFar weigh rules list written plays below most found 0 [] []
none_so_far weigh rules list written plays below most found =
    record {
      repairs = λ k d within. absurd (omega (arith, within));
      few = omega arith;
      ordered = λ i j d less within. absurd (omega (arith, within));
      once = λ i j d less within. absurd (omega (arith, within));
      unsettled = λ k d within. absurd (omega (arith, within));
      ahead = λ k d within. absurd (omega (arith, within));
      others = λ k c right before at is game. absurd (omega (arith, before));
    }

-- ---- what is known of a candidate

candidate_at : (P : Candidate → Type 0) (found : List Candidate) (k : ℕ) (c : Candidate) → All P found → slice_get found k ≡ Some c → P c
candidate_at P found k c all at = subst P (get_or_from_slice_get found k c c at) (all k c (slice_get_within found k c at))

pair_at : (found : List Candidate) (i k : ℕ) (a b : Candidate) → AllPairs (λ (a b : Candidate). is_ahead (rank_in a) (rank_in b) ≡ true) found → i < k → slice_get found i ≡ Some a
    → slice_get found k ≡ Some b → is_ahead (rank_in a) (rank_in b) ≡ true
pair_at found i k a b all less of_a of_b =
    subst (λ (x : Candidate). is_ahead (rank_in x) (rank_in b) ≡ true) (get_or_from_slice_get found i a a of_a)
    (subst (λ (x : Candidate). is_ahead (rank_in (get_or found i a)) (rank_in x) ≡ true) (get_or_from_slice_get found k b a of_b) (all i k a less (slice_get_within found k b of_b)))

-- the correction that a candidate has
pub record HasRight (weigh : Weighing) (rules : Rules) (list : List (List ℕ)) (written : List Event) (c : Candidate) (right : List Event) : Type 0 where
  pub is : IsWritable rules list (applied c.listed.change written) right
  pub costs : c.cost ≡ cost_of weigh rules list c.listed.change written right

same_right : (weigh : Weighing) (rules : Rules) (list : List (List ℕ)) (written : List Event) (c d : Candidate) (right other : List Event) → HasRight weigh rules list written c right → d ≡ c
    → IsWritable rules list (applied d.listed.change written) other → right ≡ other
same_right weigh rules list written c d right other has same is =
    one_correction rules list (applied c.listed.change written) right other has.is.correction
    (subst (λ (x : Candidate). IsWritable rules list (applied x.listed.change written) other) same is).correction

-- ---- one more repair

rank_reported : (weigh : Weighing) (rules : Rules) (list : List (List ℕ)) (written : List Event) (c : Candidate) (right : List Event) (r : Repair) → HasRight weigh rules list written c right → r.listed ≡ c.listed
    → Remain weigh rules list c.listed.change written right r.remains → rank_of r ≡ rank_in c
rank_reported weigh rules list written c right r has by remain =
    let m = length r.remains.wrong.items in
    let n = length r.remains.unlisted.items in
    ap (λ (l : Listed). rank_at (costs m n l.change.slip) l) by
    ∙ ap (λ (k : ℕ). rank_at k c.listed) (cost_is weigh rules list c.listed.change written right r.remains (costs m n c.listed.change.slip) remain refl ∙ sym has.costs)

repair_reported : (weigh : Weighing) (rules : Rules) (list : List (List ℕ)) (written : List Event) (plays : List Change) (below : Option ℕ) (l : Listed) (right : List Event) (r : Repair) → MakesGame weigh rules list written plays below l right
    → r.listed ≡ l → r.right ≡ right → Remain weigh rules list l.change written right r.remains → IsRepairBy weigh rules list written plays below r
repair_reported weigh rules list written plays below l right r made by makes remain =
    record {
      makes = subst (λ (x : Listed). MakesGame weigh rules list written plays below x r.right) (sym by) (subst (λ (es : List Event). MakesGame weigh rules list written plays below l es) (sym makes) made);
      remain = subst (λ (x : Listed). Remain weigh rules list x.change written r.right r.remains) (sym by) (subst (λ (es : List Event). Remain weigh rules list l.change written es r.remains) (sym makes) remain);
    }

still_reported : (reported more : List Repair) (right : List Event) (by : Rank) → IsReportedAt reported right by → IsReportedAt (reported ++ more) right by
still_reported reported more right by is = record { repair = is.repair; among = Contains-append_left reported more is.repair is.among; same = is.same; first = is.first }

among_reported : (reported : List Repair) (k : ℕ) (d : Repair) (right : List Event) → k < length reported → SameRecord (get_or reported k d).right right → IsAmong reported right
among_reported reported k d right within same =
    let r : Repair = get_or reported k d in
    (k, r, within, get_or_again reported k d r within, same)
  where
    get_or_again : (xs : List Repair) (k : ℕ) (d e : Repair) → k < length xs → get_or xs k e ≡ get_or xs k d
    get_or_again [] k d e within = absurd (omega (arith, within))
    get_or_again (x ∷ xs) zero d e within = refl
    get_or_again (x ∷ xs) (suc k) d e within = get_or_again xs k d e (omega (arith, within))

others_reported : (weigh : Weighing) (rules : Rules) (list : List (List ℕ)) (written : List Event) (found : List Candidate) (index : ℕ) (c : Candidate) (right : List Event) (reported : List Repair) (remaining : List Listed) (r : Repair)
    → HasRight weigh rules list written c right → rank_of r ≡ rank_in c → r.right ≡ right → slice_get found index ≡ Some c → (k : ℕ) (d : Candidate) (other : List Event) → k < index + 1
    → slice_get found k ≡ Some d → IsWritable rules list (applied d.listed.change written) other → (Contains remaining d.listed ⊎ IsReportedAt reported other (rank_in d)) ⊎ (index ≤ k)
    → Contains remaining d.listed ⊎ IsReportedAt (reported ++ r ∷ []) other (rank_in d)
others_reported weigh rules list written found index c right reported remaining r has rank makes at k d other below of_d is (inl (inl open_one)) = inl open_one
others_reported weigh rules list written found index c right reported remaining r has rank makes at k d other below of_d is (inl (inr old)) = inr (still_reported reported (r ∷ []) other (rank_in d) old)
others_reported weigh rules list written found index c right reported remaining r has rank makes at k d other below of_d is (inr following) =
    let here : k ≡ index = omega (arith, below, following) in
    let same : d ≡ c = same_Some d c (sym of_d ∙ ap (slice_get found) here ∙ at) in
    inr
    (record {
      repair = r;
      among = Contains-push reported r;
      same = itself_as r.right other (makes ∙ same_right weigh rules list written c d right other has same is);
      first = not_itself (rank_in d) (rank_of r) (ap rank_in same ∙ sym rank);
    })

before_or : {X Y : Type 0} (index k : ℕ) → (k < index → X ⊎ Y) → (k < index) ⊎ (index ≤ k) → (X ⊎ Y) ⊎ (index ≤ k)
before_or index k old (inl less) = inl (old less)
before_or index k old (inr following) = inr following

pub reported_more : {from : ℕ} (weigh : Weighing) (rules : Rules) (list : List (List ℕ)) (written : List Event) (plays : List Change) (below : Option ℕ) (most : ℕ) (found : List Candidate) (index : ℕ) (c : Candidate) (right : List Event)
    (reported : List Repair) (remaining : List Listed) (r : Repair) → AreCandidates weigh rules list written plays below from found → AreSoFar weigh rules list written plays below most found index reported remaining
    → slice_get found index ≡ Some c → length reported < most → HasRight weigh rules list written c right → MakesGame weigh rules list written plays below c.listed right → r.listed ≡ c.listed → r.right ≡ right
    → Remain weigh rules list c.listed.change written right r.remains → (IsAmong reported right → ⊥) → AreSoFar weigh rules list written plays below most found (index + 1) (reported ++ r ∷ []) remaining
reported_more weigh rules list written plays below most found index c right reported remaining r are so at room has made by makes remain fresh =
    let rank : rank_of r ≡ rank_in c = rank_reported weigh rules list written c right r has by remain in
    let long = length_push reported r in
    record {
      repairs = All-push (IsRepairBy weigh rules list written plays below) reported r so.repairs (repair_reported weigh rules list written plays below c.listed right r made by makes remain);
      few = omega (arith, long, room);
      ordered = all_pairs_push (λ (a b : Repair). is_ahead (rank_of a) (rank_of b) ≡ true) reported r so.ordered
          (λ k d within. ap (is_ahead (rank_of (get_or reported k d))) rank ∙ so.ahead k d within index c (omega arith) at);
      once = all_pairs_push (λ (a b : Repair). SameRecord a.right b.right → ⊥) reported r so.once
          (λ k d within same. fresh (among_reported reported k d right within (subst (λ (es : List Event). SameRecord (get_or reported k d).right es) makes same)));
      unsettled = so.unsettled;
      ahead = All-push (λ (x : Repair). (k : ℕ) (d : Candidate) → index + 1 ≤ k → slice_get found k ≡ Some d → is_ahead (rank_of x) (rank_in d) ≡ true) reported r
          (λ k d within j e following of_e. so.ahead k d within j e (omega (arith, following)) of_e)
          (λ j e following of_e. ap (λ (x : Rank). is_ahead x (rank_in e)) rank ∙ pair_at found index j c e are.ordered (omega (arith, following)) at of_e);
      others = λ k d other before of_d is game.
          others_reported weigh rules list written found index c right reported remaining r has rank makes at k d other before of_d is
          (before_or index k (λ less. so.others k d other less of_d is game) (cases_lt k index));
    }

-- ---- one more change that is left open

others_open : (found : List Candidate) (index : ℕ) (c : Candidate) (reported : List Repair) (remaining : List Listed) → slice_get found index ≡ Some c → (k : ℕ) (d : Candidate) (other : List Event)
    → k < index + 1 → slice_get found k ≡ Some d → (Contains remaining d.listed ⊎ IsReportedAt reported other (rank_in d)) ⊎ (index ≤ k)
    → Contains (remaining ++ c.listed ∷ []) d.listed ⊎ IsReportedAt reported other (rank_in d)
others_open found index c reported remaining at k d other below of_d (inl (inl open_one)) = inl (Contains-append_left remaining (c.listed ∷ []) d.listed open_one)
others_open found index c reported remaining at k d other below of_d (inl (inr old)) = inr old
others_open found index c reported remaining at k d other below of_d (inr following) =
    let here : k ≡ index = omega (arith, below, following) in
    let same : d ≡ c = same_Some d c (sym of_d ∙ ap (slice_get found) here ∙ at) in
    inl (subst (λ (x : Candidate). Contains (remaining ++ c.listed ∷ []) x.listed) (sym same) (Contains-push remaining c.listed))

pub open_more : {from : ℕ} (weigh : Weighing) (rules : Rules) (list : List (List ℕ)) (written : List Event) (plays : List Change) (below : Option ℕ) (most : ℕ) (found : List Candidate) (index : ℕ) (c : Candidate) (right : List Event)
    (reported : List Repair) (remaining : List Listed) → AreCandidates weigh rules list written plays below from found → AreSoFar weigh rules list written plays below most found index reported remaining → slice_get found index ≡ Some c
    → HasRight weigh rules list written c right → IsUnsettled rules list right → AreSoFar weigh rules list written plays below most found (index + 1) reported (remaining ++ c.listed ∷ [])
open_more weigh rules list written plays below most found index c right reported remaining are so at has unsettled =
    record {
      repairs = so.repairs;
      few = so.few;
      ordered = so.ordered;
      once = so.once;
      unsettled = All-push (RemainsOpen rules list written plays) remaining c.listed so.unsettled
          (record { single = (candidate_at (IsCandidate weigh rules list written plays below) found index c are.each at).single; right = right; correction = has.is; open_deal = unsettled });
      ahead = λ k d within j e following of_e. so.ahead k d within j e (omega (arith, following)) of_e;
      others = λ k d other before of_d is game. others_open found index c reported remaining at k d other before of_d (before_or index k (λ less. so.others k d other less of_d is game) (cases_lt k index));
    }

-- ---- neither

others_none : (weigh : Weighing) (rules : Rules) (list : List (List ℕ)) (written : List Event) (found : List Candidate) (index : ℕ) (c : Candidate) (right : List Event) (reported : List Repair) (remaining : List Listed)
    → HasRight weigh rules list written c right → slice_get found index ≡ Some c
    → All (λ (r : Repair). (k : ℕ) (e : Candidate) → index ≤ k → slice_get found k ≡ Some e → is_ahead (rank_of r) (rank_in e) ≡ true) reported
    → IsAmong reported right ⊎ (IsGame rules list right → ⊥) → (k : ℕ) (d : Candidate) (other : List Event) → k < index + 1 → slice_get found k ≡ Some d
    → IsWritable rules list (applied d.listed.change written) other → IsGame rules list other → (Contains remaining d.listed ⊎ IsReportedAt reported other (rank_in d)) ⊎ (index ≤ k)
    → Contains remaining d.listed ⊎ IsReportedAt reported other (rank_in d)
others_none weigh rules list written found index c right reported remaining has at ahead why k d other below of_d is game (inl old) = old
others_none weigh rules list written found index c right reported remaining has at ahead (inl (j, r, within, of_r, same)) k d other below of_d is game (inr following) =
    let here : k ≡ index = omega (arith, below, following) in
    let equal : d ≡ c = same_Some d c (sym of_d ∙ ap (slice_get found) here ∙ at) in
    let before : is_ahead (rank_of r) (rank_in d) ≡ true =
    subst (λ (x : Repair). is_ahead (rank_of x) (rank_in d) ≡ true) of_r (ahead j r within k d following of_d) in
    inr
    (record {
      repair = r;
      among = (j, within, of_r);
      same = subst (λ (es : List Event). SameRecord r.right es) (same_right weigh rules list written c d right other has equal is) same;
      first = not_both (rank_of r) (rank_in d) before;
    })
others_none weigh rules list written found index c right reported remaining has at ahead (inr none) k d other below of_d is game (inr following) =
    let here : k ≡ index = omega (arith, below, following) in
    let equal : d ≡ c = same_Some d c (sym of_d ∙ ap (slice_get found) here ∙ at) in
    absurd (none (subst (IsGame rules list) (sym (same_right weigh rules list written c d right other has equal is)) game))

pub none_more : (weigh : Weighing) (rules : Rules) (list : List (List ℕ)) (written : List Event) (plays : List Change) (below : Option ℕ) (most : ℕ) (found : List Candidate) (index : ℕ) (c : Candidate) (right : List Event)
    (reported : List Repair) (remaining : List Listed) → AreSoFar weigh rules list written plays below most found index reported remaining → slice_get found index ≡ Some c → HasRight weigh rules list written c right
    → IsAmong reported right ⊎ (IsGame rules list right → ⊥) → AreSoFar weigh rules list written plays below most found (index + 1) reported remaining
none_more weigh rules list written plays below most found index c right reported remaining so at has why =
    record {
      repairs = so.repairs;
      few = so.few;
      ordered = so.ordered;
      once = so.once;
      unsettled = so.unsettled;
      ahead = λ k d within j e following of_e. so.ahead k d within j e (omega (arith, following)) of_e;
      others = λ k d other before of_d is game.
          others_none weigh rules list written found index c right reported remaining has at so.ahead why k d other before of_d is game
          (before_or index k (λ less. so.others k d other less of_d is game) (cases_lt k index));
    }

-- ---- one more candidate

put : (weigh : Weighing) (rules : Rules) (list : List (List ℕ)) (written : List Event) (plays : List Change) (below : Option ℕ) (most : ℕ) (found : List Candidate) (index : ℕ) (reported more : List Repair) (remaining open_ones : List Listed)
    → more ≡ reported → open_ones ≡ remaining → AreSoFar weigh rules list written plays below most found index reported remaining → AreSoFar weigh rules list written plays below most found index more open_ones
put weigh rules list written plays below most found index reported more remaining open_ones same_reported same_remaining so =
    subst (λ (xs : List Repair). AreSoFar weigh rules list written plays below most found index xs open_ones) (sym same_reported)
    (subst (λ (xs : List Listed). AreSoFar weigh rules list written plays below most found index reported xs) (sym same_remaining) so)

tried_by : {from : ℕ} (weigh : Weighing) (rules : Rules) (list : List (List ℕ)) (written : List Event) (plays : List Change) (below : Option ℕ) (most : ℕ) (found : List Candidate) (index : ℕ) (c : Candidate) (right : List Event) (old new : Found)
    → AreCandidates weigh rules list written plays below from found → AreSoFar weigh rules list written plays below most found index old.reported.items old.remaining.items → slice_get found index ≡ Some c
    → length old.reported.items < most → HasRight weigh rules list written c right → AreFewer below (count_by weigh rules list c.listed.change written right)
    → IsTriedWith weigh rules list written c.listed right old new → AreSoFar weigh rules list written plays below most found (index + 1) new.reported.items new.remaining.items
tried_by weigh rules list written plays below most found index c right old new are so at room has fewer (inl adds) =
    let single = (candidate_at (IsCandidate weigh rules list written plays below) found index c are.each at).single in
    put weigh rules list written plays below most found (index + 1) (old.reported.items ++ adds.repair ∷ []) new.reported.items old.remaining.items new.remaining.items adds.added adds.same_remaining
    (reported_more weigh rules list written plays below most found index c right old.reported.items old.remaining.items adds.repair are so at room has
    (record { single = single; correction = has.is; game = adds.game; fewer = fewer }) adds.by adds.makes adds.remain adds.fresh)
tried_by weigh rules list written plays below most found index c right old new are so at room has fewer (inr (inl adds)) =
    put weigh rules list written plays below most found (index + 1) old.reported.items new.reported.items (old.remaining.items ++ c.listed ∷ []) new.remaining.items adds.same_reported adds.added
    (open_more weigh rules list written plays below most found index c right old.reported.items old.remaining.items are so at has adds.unsettled)
tried_by weigh rules list written plays below most found index c right old new are so at room has fewer (inr (inr adds)) =
    put weigh rules list written plays below most found (index + 1) old.reported.items new.reported.items old.remaining.items new.remaining.items adds.same_reported adds.same_remaining
    (none_more weigh rules list written plays below most found index c right old.reported.items old.remaining.items so at has adds.why)

pub next_tried : {from : ℕ} (weigh : Weighing) (rules : Rules) (list : List (List ℕ)) (written : List Event) (plays : List Change) (below : Option ℕ) (most : ℕ) (found : List Candidate) (index : ℕ) (c : Candidate) (old new : Found)
    → AreCandidates weigh rules list written plays below from found → AreSoFar weigh rules list written plays below most found index old.reported.items old.remaining.items → index < length found → c ≡ get_or found index c
    → length old.reported.items < most → IsTried weigh rules list written c old new → AreSoFar weigh rules list written plays below most found (index + 1) new.reported.items new.remaining.items
next_tried weigh rules list written plays below most found index c old new are so within is room tried =
    let at : slice_get found index ≡ Some c = slice_get_read found (length found) index c refl within is in
    let w = (candidate_at (IsCandidate weigh rules list written plays below) found index c are.each at).weighed in
    tried_by weigh rules list written plays below most found index c w.right old new are so at room (record { is = w.is; costs = w.costs }) w.fewer (tried w.right w.is)

-- ---- the end

each_ahead : (most : ℕ) (found : List Candidate) (index : ℕ) (reported : List Repair) (k : ℕ) (c : Candidate) → length reported ≡ most
    → All (λ (r : Repair). (k : ℕ) (e : Candidate) → index ≤ k → slice_get found k ≡ Some e → is_ahead (rank_of r) (rank_in e) ≡ true) reported → index ≤ k → slice_get found k ≡ Some c
    → AreAhead most reported (rank_in c)
each_ahead most found index reported k c many ahead following at = record { many = many; each = λ j d within. ahead j d within k c following at }

others_at : (weigh : Weighing) (rules : Rules) (list : List (List ℕ)) (written : List Event) (plays : List Change) (below : Option ℕ) (most : ℕ) (found : List Candidate) (index : ℕ) (reported : List Repair) (remaining : List Listed) (k : ℕ)
    (c : Candidate) (right : List Event) → AreSoFar weigh rules list written plays below most found index reported remaining → slice_get found k ≡ Some c
    → IsWritable rules list (applied c.listed.change written) right → IsGame rules list right → (length found ≤ index) ⊎ (length reported ≡ most) → (k < index) ⊎ (index ≤ k)
    → Contains remaining c.listed ⊎ (IsReportedAt reported right (rank_in c) ⊎ AreAhead most reported (rank_in c))
others_at weigh rules list written plays below most found index reported remaining k c right so at is game done (inl before) = lift (so.others k c right before at is game)
  where
    lift : Contains remaining c.listed ⊎ IsReportedAt reported right (rank_in c) → Contains remaining c.listed ⊎ (IsReportedAt reported right (rank_in c) ⊎ AreAhead most reported (rank_in c))
    lift (inl open_one) = inl open_one
    lift (inr one) = inr (inl one)
others_at weigh rules list written plays below most found index reported remaining k c right so at is game (inl all) (inr following) =
    let within = slice_get_within found k c at in
    absurd (omega (arith, all, following, within))
others_at weigh rules list written plays below most found index reported remaining k c right so at is game (inr many) (inr following) = inr (inr (each_ahead most found index reported k c many so.ahead following at))

others_of : {from : ℕ} (weigh : Weighing) (rules : Rules) (list : List (List ℕ)) (written : List Event) (plays : List Change) (below : Option ℕ) (most : ℕ) (found : List Candidate) (index : ℕ) (reported : List Repair) (remaining : List Listed)
    → AreCandidates weigh rules list written plays below from found → AreSoFar weigh rules list written plays below most found index reported remaining → (length found ≤ index) ⊎ (length reported ≡ most) → (c : Candidate) (right : List Event)
    → Contains found c → IsWritable rules list (applied c.listed.change written) right → IsGame rules list right
    → Contains remaining c.listed ⊎ (IsReportedAt reported right (rank_at (cost_of weigh rules list c.listed.change written right) c.listed)
    ⊎ AreAhead most reported (rank_at (cost_of weigh rules list c.listed.change written right) c.listed))
others_of weigh rules list written plays below most found index reported remaining are so done c right (k, within, at) is game =
    let here : slice_get found k ≡ Some c = slice_get_read found (length found) k c refl within (sym at) in
    let w = (candidate_at (IsCandidate weigh rules list written plays below) found k c are.each here).weighed in
    let same : w.right ≡ right = one_correction rules list (applied c.listed.change written) w.right right w.is.correction is.correction in
    let cost : c.cost ≡ cost_of weigh rules list c.listed.change written right = w.costs ∙ ap (cost_of weigh rules list c.listed.change written) same in
    subst (λ (n : ℕ). Contains remaining c.listed ⊎ (IsReportedAt reported right (rank_at n c.listed) ⊎ AreAhead most reported (rank_at n c.listed))) cost
    (others_at weigh rules list written plays below most found index reported remaining k c right so here is game done (cases_lt k index))

pub first_ones : {from : ℕ} (weigh : Weighing) (rules : Rules) (list : List (List ℕ)) (written : List Event) (plays : List Change) (below : Option ℕ) (most : ℕ) (found : List Candidate) (index : ℕ) (reported : List Repair) (remaining : List Listed)
    → AreCandidates weigh rules list written plays below from found → AreSoFar weigh rules list written plays below most found index reported remaining → (length found ≤ index) ⊎ (length reported ≡ most)
    → AreFirstBy weigh rules list written plays below from most reported remaining
first_ones weigh rules list written plays below most found index reported remaining are so done =
    record {
      repairs = so.repairs;
      few = so.few;
      ordered = so.ordered;
      once = so.once;
      unsettled = so.unsettled;
      others = λ l right late makes.
          let there = are.all l late (record { single = makes.single; right = right; correction = makes.correction; fewer = makes.fewer; game = makes.game }) in
          subst
          (λ (x : Listed). Contains remaining x ⊎ (IsReportedAt reported right (rank_at (cost_of weigh rules list x.change written right) x) ⊎ AreAhead most reported (rank_at (cost_of weigh rules list x.change written right) x)))
          there.same
          (others_of weigh rules list written plays below most found index reported remaining are so done there.candidate right there.among
          (subst (λ (x : Listed). IsWritable rules list (applied x.change written) right) (sym there.same) makes.correction) makes.game);
    }

-- what is given for candidates with all plays with which they are candidates is given for them with these
pub reported_with : {E : Type 0} {from : ℕ} (weigh : Weighing) (rules : Rules) (list : List (List ℕ)) (written : List Event) (plays : List Change) (below : Option ℕ) (most : ℕ) (found : List Candidate) (r : Result Found E)
    → AreCandidates weigh rules list written plays below from found
    → IfOk r (λ f. (others : List Change) → AreCandidates weigh rules list written others below from found → AreFirstBy weigh rules list written others below f.from most f.reported.items f.remaining.items)
    → IfOk r (λ f. AreFirstBy weigh rules list written plays below f.from most f.reported.items f.remaining.items)
reported_with weigh rules list written plays below most found (Ok f) are first = first plays are
reported_with weigh rules list written plays below most found (Err e) are first = tt
