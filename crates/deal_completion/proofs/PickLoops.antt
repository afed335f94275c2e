-- The loops that take tiles.
use Rattle.std.proofs.Common.{◌≡◌, ℕ, zero, suc, ◌+◌, ◌-◌, ◌<◌, ◌≤◌, Bool, true, false, cond, ◌&&◌, List, [], ◌∷◌, take, drop, get_or, set, length, replicate, sum, count_by, Option, Some, None, refl, sym, ap, ◌∙◌, arith, ltb, eqb, ⊎_elim, eq-eqb, ◌==◌, if◌then◌else◌}
use Rattle.std.specs.List.{find, range_with_len}
use Rattle.std.specs.Option.{option_or}
use Rattle.std.proofs.lemmas.Bool.{cases_eq, ne_eqb, le-ltb, lt-ltb}
use Rattle.std.proofs.lemmas.List.{drop_more, get_or-replicate, get_or-set_same, get_or-set_other}
use Rattle.std.proofs.lemmas.List.Sums.{count_by_more_yes, count_by_more_no, sum_by-set}
use Rattle.deal_steps.specs.Piles.{kinds}
use Rattle.deal_steps.proofs.PileLaws.{get-table, table_is}
use Rattle.deal_completion.specs.declared.picking.Pick.{Pick}
use Rattle.deal_completion.specs.Completion.{with_one, with_next, pick_listed, next_kind, pick_more}
use Rattle.deal_completion.specs.Taking.{HasRoomIn, next_spare, pick_spare, times_of}

-- ---- how often each kind is in a list

-- the numbers count the front of a list
abbrev pub AreTimes : (times list : List ℕ) → Type 0
AreTimes times list = (k : ℕ) → k < 27 → get_or times k 0 ≡ count_by (λ j. j == k) list

pub times_more : (times list : List ℕ) (i kind : ℕ) → length times ≡ 27 → i < length list → get_or list i 0 ≡ kind → kind < 27 → AreTimes times (take i list)
    → AreTimes (set times kind (get_or times kind 0 + 1)) (take (i + 1) list)
times_more times list i kind long within here below are k k_below =
    ⊎_elim
    (λ (e : kind ≡ k).
    let there : kind < length times = omega arith in
    let now : get_or (set times kind (get_or times kind 0 + 1)) k 0 ≡ get_or times kind 0 + 1 =
    ap (λ (j : ℕ). get_or (set times kind (get_or times kind 0 + 1)) j 0) (sym e) ∙ get_or-set_same times kind (get_or times kind 0 + 1) 0 there in
    let passes : eqb (get_or list i 0) k ≡ true = eq-eqb (get_or list i 0) k (here ∙ e) in
    let more = count_by_more_yes (λ j. eqb j k) list i 0 within passes in
    let before = are k k_below in
    let same : get_or times kind 0 ≡ get_or times k 0 = ap (λ (j : ℕ). get_or times j 0) e in
    omega arith)
    (λ (ne : kind ≡ k → ⊥).
    let now : get_or (set times kind (get_or times kind 0 + 1)) k 0 ≡ get_or times k 0 = get_or-set_other times kind k (get_or times kind 0 + 1) 0 (λ e. ne (sym e)) in
    let fails : eqb (get_or list i 0) k ≡ false = ne_eqb (get_or list i 0) k (λ e. ne (sym here ∙ e)) in
    let more = count_by_more_no (λ j. eqb j k) list i 0 within fails in
    let before = are k k_below in
    omega arith)
    (cases_eq kind k)

-- what is not a kind is not counted
pub times_stay : (times list : List ℕ) (i kind : ℕ) → i < length list → get_or list i 0 ≡ kind → 27 ≤ kind → AreTimes times (take i list)
    → AreTimes times (take (i + 1) list)
times_stay times list i kind within here past are k k_below =
    let fails : eqb (get_or list i 0) k ≡ false = ne_eqb (get_or list i 0) k (λ e. omega arith) in
    let more = count_by_more_no (λ j. eqb j k) list i 0 within fails in
    let before = are k k_below in
    omega arith

abbrev pub no_times : List ℕ
no_times = replicate 27 0

pub times_none : (k : ℕ) → k < 27 → get_or no_times k 0 ≡ 0
times_none k below = get_or-replicate {A = ℕ} 27 k 0 0 below

pub times_few : (k : ℕ) → k < 27 → get_or no_times k 0 ≤ 0
times_few k below = let none = times_none k below in omega arith

pub times_are : (times list : List ℕ) → length times ≡ 27 → AreTimes times list → times ≡ times_of list
unfolding times_of
times_are times list long are = table_is (λ k. count_by (λ j. j == k) list) times long are

-- ---- the first kind that passes a test

pub find_past : (p : ℕ → Bool) (k : ℕ) → k < 27 → p k ≡ false → find p (range_with_len (k + 1) (27 - (k + 1))) ≡ find p (range_with_len k (27 - k))
find_past p k below fails =
    let next : 27 - k ≡ suc (27 - (k + 1)) = omega arith in
    ap (λ (b : Bool). cond b (Some k) (find p (range_with_len (k + 1) (27 - (k + 1))))) (sym fails) ∙ sym (ap (λ (n : ℕ). find p (range_with_len k n)) next)

pub find_here : (p : ℕ → Bool) (k : ℕ) → k < 27 → p k ≡ true → Some k ≡ find p (range_with_len k (27 - k))
find_here p k below passes =
    let next : 27 - k ≡ suc (27 - (k + 1)) = omega arith in
    ap (λ (b : Bool). cond b (Some k) (find p (range_with_len (k + 1) (27 - (k + 1))))) (sym passes) ∙ sym (ap (λ (n : ℕ). find p (range_with_len k n)) next)

pub find_end : (p : ℕ → Bool) (k : ℕ) → 27 ≤ k → None ≡ find p (range_with_len k (27 - k))
find_end p k past =
    let none : 27 - k ≡ 0 = omega arith in
    sym (ap (λ (n : ℕ). find p (range_with_len k n)) none)

-- a number is below another at a kind, or not
pub below_here : (f g : ℕ → ℕ) (k : ℕ) → k < 27 → f k < g k → Some k ≡ find (λ j. ltb (f j) (g j)) (range_with_len k (27 - k))
below_here f g k within below = find_here (λ j. ltb (f j) (g j)) k within (lt-ltb (f k) (g k) below)

pub below_past : (f g : ℕ → ℕ) (k : ℕ) → k < 27 → g k ≤ f k
    → find (λ j. ltb (f j) (g j)) (range_with_len (k + 1) (27 - (k + 1))) ≡ find (λ j. ltb (f j) (g j)) (range_with_len k (27 - k))
below_past f g k within past = find_past (λ j. ltb (f j) (g j)) k within (le-ltb (f k) (g k) past)

-- ---- one tile

pub sum_more : (tiles : List ℕ) (kind : ℕ) → kind < length tiles → sum (set tiles kind (get_or tiles kind 0 + 1)) ≡ sum tiles + 1
sum_more tiles kind below = let e = sum_by-set (λ (x : ℕ). x) tiles kind (get_or tiles kind 0 + 1) 0 below in omega arith

pub one_room : (p : Pick) (j : ℕ) → j < 27 → length p.taken ≡ 27 → length p.remaining ≡ 27 → 0 < get_or p.remaining j 0 → HasRoomIn p → HasRoomIn (with_one p j)
unfolding with_one
one_room p j below long remaining_long there room k k_below =
    ⊎_elim
    (λ (e : j ≡ k).
    let one = get_or-set_same p.taken j (get_or p.taken j 0 + 1) 0 (omega arith) in
    let two = get_or-set_same p.remaining j (get_or p.remaining j 0 - 1) 0 (omega arith) in
    let taken : get_or (with_one p j).taken k 0 ≡ get_or p.taken j 0 + 1 = ap (λ (i : ℕ). get_or (with_one p j).taken i 0) (sym e) ∙ one in
    let remaining : get_or (with_one p j).remaining k 0 ≡ get_or p.remaining j 0 - 1 = ap (λ (i : ℕ). get_or (with_one p j).remaining i 0) (sym e) ∙ two in
    let before = room j below in
    omega arith)
    (λ (ne : j ≡ k → ⊥).
    let taken : get_or (with_one p j).taken k 0 ≡ get_or p.taken k 0 = get_or-set_other p.taken j k (get_or p.taken j 0 + 1) 0 (λ e. ne (sym e)) in
    let remaining : get_or (with_one p j).remaining k 0 ≡ get_or p.remaining k 0 = get_or-set_other p.remaining j k (get_or p.remaining j 0 - 1) 0 (λ e. ne (sym e)) in
    let before = room k k_below in
    omega arith)
    (cases_eq j k)

-- ---- the reserved kinds by their numbers

find_same : (p q : ℕ → Bool) (a n : ℕ) → ((k : ℕ) → a ≤ k → k < a + n → p k ≡ q k) → find p (range_with_len a n) ≡ find q (range_with_len a n)
find_same p q a zero h = refl
find_same p q a (suc n) h =
    let here = h a (omega arith) (omega arith) in
    let later = find_same p q (a + 1) n (λ k low high. h k (omega arith) (omega arith)) in
    ap (λ (b : Bool). cond b (Some a) (find p (range_with_len (a + 1) n))) here ∙ ap (λ (o : Option ℕ). cond (q a) (Some a) o) later

spare_is_next : (reserved remaining : List ℕ) → next_spare (times_of reserved) remaining ≡ next_kind reserved remaining
unfolding times_of kinds
spare_is_next reserved remaining =
    ap (λ (o : Option ℕ). option_or o (find (λ k. ltb 0 (get_or remaining k 0)) kinds))
    (find_same (λ k. ltb (get_or (times_of reserved) k 0) (get_or remaining k 0)) (λ k. ltb (count_by (λ j. j == k) reserved) (get_or remaining k 0)) 0 27
    (λ k low high. ap (λ (n : ℕ). ltb n (get_or remaining k 0)) (get-table (λ i. count_by (λ j. j == i) reserved) k (omega arith))))

pub spare_is_more : (reserved : List ℕ) (more : ℕ) (p : Pick) → pick_spare (times_of reserved) more p ≡ pick_more reserved more p
spare_is_more reserved zero p = refl
spare_is_more reserved (suc more) p =
    ap (λ (o : Option ℕ). pick_spare (times_of reserved) more (with_next p o)) (spare_is_next reserved p.remaining)
    ∙ spare_is_more reserved more (with_next p (next_kind reserved p.remaining))

-- further tiles, one by one
pub spare_more : (times : List ℕ) (more i : ℕ) (p q : Pick) → i < more → pick_spare times (more - i) p ≡ q
    → pick_spare times (more - (i + 1)) (with_next p (next_spare times p.remaining)) ≡ q
spare_more times more i p q below e =
    let next : more - i ≡ suc (more - (i + 1)) = omega arith in
    sym (ap (λ (n : ℕ). pick_spare times n p) next) ∙ e

pub spare_all : (times : List ℕ) (more i : ℕ) (p q : Pick) → more ≤ i → pick_spare times (more - i) p ≡ q → p ≡ q
spare_all times more i p q past e =
    let none : more - i ≡ 0 = omega arith in
    sym (ap (λ (n : ℕ). pick_spare times n p) none) ∙ e

-- ---- the tiles of a list

and_false : (b : Bool) → (b && false) ≡ false
and_false true = refl
and_false false = refl

-- once there are enough, the rest of the list is not taken
pub listed_enough : (list : List ℕ) (number : ℕ) (p : Pick) → number ≤ sum p.taken → pick_listed list number p ≡ p
listed_enough [] number p enough = refl
listed_enough (k ∷ list) number p enough =
    let no_more : ltb (sum p.taken) number ≡ false = le-ltb (sum p.taken) number enough in
    ap (λ (b : Bool). pick_listed list number (if b && ltb 0 (get_or p.remaining k 0) then with_one p k else p)) no_more ∙ listed_enough list number p enough

listed_step : (list : List ℕ) (i kind number : ℕ) (p : Pick) → i < length list → get_or list i 0 ≡ kind
    → pick_listed (drop i list) number p
    ≡ pick_listed (drop (i + 1) list) number (if ltb (sum p.taken) number && ltb 0 (get_or p.remaining kind 0) then with_one p kind else p)
listed_step list i kind number p within here =
    ap (λ (xs : List ℕ). pick_listed xs number p) (drop_more list i 0 within ∙ ap (λ (k : ℕ). k ∷ drop (i + 1) list) here)

-- a tile of the list is taken
pub listed_take : (list : List ℕ) (i kind number : ℕ) (p q : Pick) → i < length list → get_or list i 0 ≡ kind → sum p.taken < number → 0 < get_or p.remaining kind 0
    → pick_listed (drop i list) number p ≡ q → pick_listed (drop (i + 1) list) number (with_one p kind) ≡ q
listed_take list i kind number p q within here wanting there e =
    let yes_more : ltb (sum p.taken) number ≡ true = lt-ltb (sum p.taken) number wanting in
    let yes_remaining : ltb 0 (get_or p.remaining kind 0) ≡ true = lt-ltb 0 (get_or p.remaining kind 0) there in
    sym (listed_step list i kind number p within here
    ∙ ap (λ (b : Bool). pick_listed (drop (i + 1) list) number (if b && ltb 0 (get_or p.remaining kind 0) then with_one p kind else p)) yes_more
    ∙ ap (λ (b : Bool). pick_listed (drop (i + 1) list) number (if b then with_one p kind else p)) yes_remaining)
    ∙ e

-- or it is not there
pub listed_skip : (list : List ℕ) (i kind number : ℕ) (p q : Pick) → i < length list → get_or list i 0 ≡ kind → get_or p.remaining kind 0 ≡ 0
    → pick_listed (drop i list) number p ≡ q → pick_listed (drop (i + 1) list) number p ≡ q
listed_skip list i kind number p q within here none e =
    let no_remaining : ltb 0 (get_or p.remaining kind 0) ≡ false = le-ltb 0 (get_or p.remaining kind 0) (omega arith) in
    let no_take : (ltb (sum p.taken) number && ltb 0 (get_or p.remaining kind 0)) ≡ false =
    ap (λ (b : Bool). ltb (sum p.taken) number && b) no_remaining ∙ and_false (ltb (sum p.taken) number) in
    sym (listed_step list i kind number p within here
    ∙ ap (λ (b : Bool). pick_listed (drop (i + 1) list) number (if b then with_one p kind else p)) no_take)
    ∙ e
