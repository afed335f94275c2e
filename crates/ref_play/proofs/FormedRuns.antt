-- The runs of a play without a gap: the one along its direction, and the cross run through each of its tiles.
use Rattle.std.proofs.Common.{◌≡◌, ℕ, zero, suc, ◌+◌, ◌-◌, ◌<◌, ◌≤◌, Bool, true, false, ◌==◌, nat_lt, List, [], ◌∷◌, ◌++◌, map, length, get_or, refl, sym, ap, ◌∙◌, subst, arith, ⊎_elim, Option}
use Rattle.std.specs.Prelude.{filter, Contains, All}
use Rattle.std.specs.List.{flat_map, range_with_len, list_all}
use Rattle.std.proofs.lemmas.List.Elements.{filter_agree, Contains-get_or}
use Rattle.std.proofs.lemmas.Bool.{cases_eq, cases_lt, and_parts, both_ways, eqb-true, eq-eqb, ltb-true, false_from_ne_true}
use Rattle.ref_tiles.specs.declared.tiles.Tile.{Tile}
use Rattle.ref_board.specs.declared.directions.Dir.{Dir}
use Rattle.ref_board.specs.declared.directions.Dir.TheVariants.{Across, Down}
use Rattle.ref_board.specs.Lines.{line_of, place_of, square_at, other_dir}
use Rattle.ref_board.specs.Cells.{holds, occupied_on}
use Rattle.ref_board.specs.Runs.{IsWhole, IsRunThrough}
use Rattle.ref_play.specs.declared.placed.Placed.{Placed}
use Rattle.ref_play.specs.declared.runs.Run.{Run}
use Rattle.ref_play.specs.Placements.{is_play, with_tiles, are_rising, are_in_line, covers, fresh_on}
use Rattle.ref_play.specs.Formed.{is_formed, stretches_on, run_of, runs_of_line, runs_along, runs_formed, runs_through}
use Rattle.ref_play.specs.Legality.{HasNoGap, IsLaid}
use Rattle.ref_play.proofs.RangeLaws.{flat_map-only, list_any-found, list_any-in, list_all-in, Contains-here, Contains-there, Contains-cases as Contains-split}
use Rattle.ref_play.proofs.LineLaws.{line_of-square_at, place_of-square_at, square_at-of, line_below, place_below, same_square, place_rises, is_formed-parts, is_formed-from, stretches_on-none, stretches_on-one, stretches_on-short}
use Rattle.ref_play.proofs.RunLaws.{runs_formed-meet}
use Rattle.ref_play.specs.Words.{IsWithin}
use Rattle.ref_play.proofs.PlaceLaws.{is_play-parts, on_board, on_one_line, with_tiles-holds}

-- two tests that say the same
pub same_test : (a b : Bool) → (a ≡ true → b ≡ true) → (b ≡ true → a ≡ true) → a ≡ b
same_test true b f g = sym (f refl)
same_test false true f g = g refl
same_test false false f g = refl

pub flat_map_agree : {X A : Type 0} (f g : X → List A) → ((x : X) → f x ≡ g x) → (xs : List X) → flat_map f xs ≡ flat_map g xs
flat_map_agree f g h [] = refl
flat_map_agree f g h (x ∷ xs) = ap (λ ys. ys ++ flat_map f xs) (h x) ∙ ap (λ ys. g x ++ ys) (flat_map_agree f g h xs)

-- the stretches of a line depend on which stretches are formed
pub stretches_same : (old new f g : ℕ → Bool) → ((k l : ℕ) → is_formed old f k l ≡ is_formed new g k l) → stretches_on old f ≡ stretches_on new g
unfolding stretches_on
stretches_same old new f g h =
    flat_map_agree (λ first. map (λ len. (first, len)) (filter (is_formed old f first) (range_with_len 2 14))) (λ first. map (λ len. (first, len)) (filter (is_formed new g first) (range_with_len 2 14)))
    (λ first. ap (map (λ (len : ℕ). (first, len))) (filter_agree (is_formed old f first) (is_formed new g first) (h first) (range_with_len 2 14)))
    (range_with_len 0 15)

-- new places that are the same on the line form the same stretches
stretches_agree : (occupied f g : ℕ → Bool) → ((place : ℕ) → place < 15 → f place ≡ g place) → stretches_on occupied f ≡ stretches_on occupied g
stretches_agree occupied f g h =
    let onto : (p q : ℕ → Bool) → ((place : ℕ) → place < 15 → p place ≡ q place) → (k l : ℕ) → is_formed occupied p k l ≡ true → is_formed occupied q k l ≡ true =
    λ p q same k l t.
    let parts = is_formed-parts occupied p k l t in
    let inside = parts.0.inside in
    is_formed-from occupied q k l parts.1.0 parts.0 parts.1.1 parts.1.2 (sym (same parts.1.0 (omega arith)) ∙ parts.1.3) in
    stretches_same occupied occupied f g (λ k l. same_test (is_formed occupied f k l) (is_formed occupied g k l) (onto f g h k l) (onto g f (λ place below. sym (h place below)) k l))

-- a whole stretch reaches as far as the tiles do
pub reach : (occupied : ℕ → Bool) (k l a b : ℕ) → IsWhole occupied k l → k ≤ a → a < k + l → b < 15 → occupied b ≡ true
    → ((x : ℕ) → a < x → x < b → occupied x ≡ true) → ((x : ℕ) → b < x → x < a → occupied x ≡ true) → (k ≤ b) × (b < k + l)
reach occupied k l a b w low high below here up down =
    let from : k ≤ b = ⊎_elim
    (λ (h : b < k). let filled : occupied (k - 1) ≡ true = ⊎_elim (λ (e : k - 1 ≡ b). ap occupied e ∙ here) (λ (ne : k - 1 ≡ b → ⊥). down (k - 1) (omega arith) (omega arith)) (cases_eq (k - 1) b) in
    absurd (both_ways (occupied (k - 1)) (w.before (omega arith)) filled))
    (λ (h : k ≤ b). h) (cases_lt b k) in
    let upto : b < k + l = ⊎_elim
    (λ (h : b < k + l). h)
    (λ (h : k + l ≤ b). let filled : occupied (k + l) ≡ true = ⊎_elim (λ (e : k + l ≡ b). ap occupied e ∙ here) (λ (ne : k + l ≡ b → ⊥). up (k + l) (omega arith) (omega arith)) (cases_eq (k + l) b) in
    absurd (both_ways (occupied (k + l)) (w.after (omega arith)) filled))
    (cases_lt b (k + l)) in
    (from, upto)

-- the tile that covers a square
pub covering : (ps : List Placed) (square : ℕ) → covers ps square ≡ true → (q : Placed) × Contains ps q × (q.square ≡ square)
covering ps square e =
    let found = list_any-found (λ (q : Placed). q.square == square) ps e in (found.0, found.1, eqb-true found.0.square square found.2)

pub covered : (ps : List Placed) (square : ℕ) (q : Placed) → Contains ps q → q.square ≡ square → covers ps square ≡ true
covered ps square q c e = list_any-in (λ (q : Placed). q.square == square) ps q c (eq-eqb q.square square e)

-- a tile that covers a place of a line lies there
covers_place : (d : Dir) (ps : List Placed) (line place : ℕ) → line < 15 → place < 15 → fresh_on d ps line place ≡ true
    → (q : Placed) × Contains ps q × (line_of d q.square ≡ line) × (place_of d q.square ≡ place)
covers_place d ps line place l p e =
    let found = covering ps (square_at d line place) e in
    (found.0, found.1, ap (line_of d) found.2 ∙ line_of-square_at d line place l p, ap (place_of d) found.2 ∙ place_of-square_at d line place l p)

-- a line without a new tile has no new run
no_runs : (d : Dir) (after : List (Option Tile)) (ps : List Placed) (line : ℕ) → line < 15 → ((q : Placed) → Contains ps q → line_of d q.square ≡ line → ⊥)
    → runs_of_line d after (fresh_on d ps line) line ≡ []
no_runs d after ps line l none =
    ap (map (run_of d line)) (stretches_on-none (occupied_on d after line) (fresh_on d ps line)
    (λ place p. false_from_ne_true (fresh_on d ps line place) (λ t. let at = covers_place d ps line place l p t in none at.0 at.1 at.2)))

along_line : (d : Dir) (after : List (Option Tile)) (p : Placed) (ps : List Placed) → IsLaid d after (p ∷ ps)
    → stretches_on (occupied_on d after (line_of d p.square)) (fresh_on d (p ∷ ps) (line_of d p.square)) ≡ stretches_on (occupied_on d after (line_of d p.square)) (λ place. place == place_of d p.square)
along_line d after p ps laid =
    let line = line_of d p.square in
    let start = place_of d p.square in
    let occupied = occupied_on d after line in
    let fresh = fresh_on d (p ∷ ps) line in
    let parts = is_play-parts d (p ∷ ps) laid.play in
    let in_line : are_in_line d (p ∷ ps) ≡ true = parts.3 in
    let on = on_board (p ∷ ps) p parts.1 (Contains-here p ps) in
    let line_in : line < 15 = line_below d p.square on in
    let start_in : start < 15 = place_below d p.square on in
    let start_is : square_at d line start ≡ p.square = square_at-of d p.square in
    let start_filled : occupied start ≡ true = ap (holds after) start_is ∙ laid.filled p (Contains-here p ps) in
    let onto : (k l : ℕ) → is_formed occupied fresh k l ≡ true → is_formed occupied (λ place. place == start) k l ≡ true =
    λ k l t.
    let formed = is_formed-parts occupied fresh k l t in
    let inside = formed.0.inside in
    let z = formed.1.0 in
    let at = covers_place d (p ∷ ps) line z line_in (omega (arith, formed.1.2)) formed.1.3 in
    let q = at.0 in
    let line_q : line_of d q.square ≡ line = at.2 in
    let place_q : place_of d q.square ≡ z = at.3 in
    let reached = reach occupied k l z start formed.0 formed.1.1 formed.1.2 start_in start_filled
    (λ x low high. ap (λ (m : ℕ). holds after (square_at d m x)) (sym line_q) ∙ laid.no_gap d q p x in_line at.1 (Contains-here p ps) (omega arith) high)
    (λ x low high. laid.no_gap d p q x in_line (Contains-here p ps) at.1 low (omega arith)) in
    is_formed-from occupied (λ place. place == start) k l start formed.0 reached.0 reached.1 (eq-eqb start start refl) in
    let back : (k l : ℕ) → is_formed occupied (λ place. place == start) k l ≡ true → is_formed occupied fresh k l ≡ true =
    λ k l t.
    let formed = is_formed-parts occupied (λ place. place == start) k l t in
    let z = formed.1.0 in
    let here : z ≡ start = eqb-true z start formed.1.3 in
    let is_new : fresh z ≡ true = covered (p ∷ ps) (square_at d line z) p (Contains-here p ps) (sym start_is ∙ ap (square_at d line) (sym here)) in
    is_formed-from occupied fresh k l z formed.0 formed.1.1 formed.1.2 is_new in
    stretches_same occupied occupied fresh (λ place. place == start) (λ k l. same_test (is_formed occupied fresh k l) (is_formed occupied (λ place. place == start) k l) (onto k l) (back k l))

-- along its direction a play without a gap forms the run through its first tile, and no other
pub along_runs : (d : Dir) (after : List (Option Tile)) (p : Placed) (ps : List Placed) → IsLaid d after (p ∷ ps) → runs_along d after (p ∷ ps) ≡ runs_through d after p.square
unfolding runs_along
along_runs d after p ps laid =
    let parts = is_play-parts d (p ∷ ps) laid.play in
    let line = line_of d p.square in
    let line_in : line < 15 = line_below d p.square (on_board (p ∷ ps) p parts.1 (Contains-here p ps)) in
    flat_map-only (λ l. runs_of_line d after (fresh_on d (p ∷ ps) l) l) 0 15 line (omega arith) (omega arith)
    (λ k low high ne. no_runs d after (p ∷ ps) k (omega arith) (λ q c e. ne (sym e ∙ on_one_line d p ps q parts.3 c)))
    ∙ ap (map (run_of d line)) (along_line d after p ps laid)

-- keys that rise along a list
abbrev pub KeysRise : (Placed → ℕ) → List Placed → Type 0
KeysRise key [] = Unit {0}
KeysRise key (p ∷ ps) = ((q : Placed) → Contains ps q → key p < key q) × KeysRise key ps

pub none_contained : (q : Placed) → Contains [] q → ⊥
none_contained q c = omega (arith, c.1)

-- a join over successive numbers is a join over the items that have them as keys
pub join_keys : {A : Type 0} (g : ℕ → List A) (h : Placed → List A) (key : Placed → ℕ) (from n : ℕ) (ps : List Placed)
    → ((q : Placed) → Contains ps q → from ≤ key q) → ((q : Placed) → Contains ps q → key q < from + n) → KeysRise key ps
    → ((q : Placed) → Contains ps q → g (key q) ≡ h q)
    → ((k : ℕ) → from ≤ k → k < from + n → ((q : Placed) → Contains ps q → key q ≡ k → ⊥) → g k ≡ [])
    → flat_map g (range_with_len from n) ≡ flat_map h ps
join_keys g h key from zero [] low high rise at none = refl
join_keys g h key from zero (p ∷ ps) low high rise at none =
    let a = low p (Contains-here p ps) in let b = high p (Contains-here p ps) in absurd (omega arith)
join_keys g h key from (suc n) [] low high rise at none =
    ap (λ ys. ys ++ flat_map g (range_with_len (from + 1) n)) (none from (omega arith) (omega arith) (λ q c e. none_contained q c))
    ∙ join_keys g h key (from + 1) n [] (λ q c. absurd (none_contained q c)) (λ q c. absurd (none_contained q c)) tt (λ q c. absurd (none_contained q c))
    (λ k a b f. none k (omega arith) (omega arith) f)
join_keys g h key from (suc n) (p ∷ ps) low high rise at none =
    let from_le = low p (Contains-here p ps) in
    ⊎_elim
    (λ (e : key p ≡ from).
    ap (λ ys. ys ++ flat_map g (range_with_len (from + 1) n)) (ap g (sym e) ∙ at p (Contains-here p ps))
    ∙ ap (λ ys. h p ++ ys) (join_keys g h key (from + 1) n ps
    (λ q c. let less = rise.0 q c in omega arith)
    (λ q c. let less = high q (Contains-there p ps q c) in omega arith)
    rise.1
    (λ q c. at q (Contains-there p ps q c))
    (λ k a b f. none k (omega arith) (omega arith)
    (λ q c same. ⊎_elim (λ (s : p ≡ q). let key_same = ap key s in omega arith) (λ (s : Contains ps q). f q s same) (Contains-split p ps q c)))))
    (λ (ne : key p ≡ from → ⊥).
    ap (λ ys. ys ++ flat_map g (range_with_len (from + 1) n))
    (none from (omega arith) (omega arith) (λ q c same. ⊎_elim (λ (s : p ≡ q). ne (ap key s ∙ same)) (λ (s : Contains ps q). let less = rise.0 q s in absurd (omega arith)) (Contains-split p ps q c)))
    ∙ join_keys g h key (from + 1) n (p ∷ ps)
    (λ q c. ⊎_elim (λ (s : p ≡ q). let key_same = ap key s in omega arith) (λ (s : Contains ps q). let less = rise.0 q s in omega arith) (Contains-split p ps q c))
    (λ q c. let less = high q c in omega arith) rise at (λ k a b f. none k (omega arith) (omega arith) f))
    (cases_eq (key p) from)

-- the place along a direction is the line in the other
other_line : (d : Dir) (square : ℕ) → line_of (other_dir d) square ≡ place_of d square
other_line Across square = refl
other_line Down square = refl

-- squares with the same line and the same place in the other direction are equal
pub same_by_lines : (d : Dir) (a b : ℕ) → line_of d a ≡ line_of d b → line_of (other_dir d) a ≡ line_of (other_dir d) b → a ≡ b
same_by_lines d a b l o = same_square d a b l (sym (other_line d a) ∙ o ∙ other_line d b)

-- in the other direction the lines of a play rise with its tiles
lines_rise : (d : Dir) (line : ℕ) (ps : List Placed) → ((q : Placed) → Contains ps q → line_of d q.square ≡ line) → are_rising ps ≡ true
    → KeysRise (λ q. line_of (other_dir d) q.square) ps
lines_rise d line [] in_line rising = tt
lines_rise d line (p ∷ ps) in_line rising =
    let parts = and_parts (list_all (λ (q : Placed). nat_lt p.square q.square) ps) (are_rising ps) rising in (
      λ q c.
          let less : p.square < q.square = ltb-true p.square q.square (list_all-in (λ (r : Placed). nat_lt p.square r.square) ps q parts.0 c) in
          let place_less = place_rises d p.square q.square (in_line p (Contains-here p ps) ∙ sym (in_line q (Contains-there p ps q c))) less in
          let a = other_line d p.square in
          let b = other_line d q.square in
          omega arith,
      lines_rise d line ps (λ q c. in_line q (Contains-there p ps q c)) parts.1,
    )

-- on the cross line of a tile only that tile is new
cross_line : (d : Dir) (after : List (Option Tile)) (p : Placed) (ps : List Placed) (q : Placed) → IsLaid d after (p ∷ ps) → Contains (p ∷ ps) q
    → runs_of_line (other_dir d) after (fresh_on (other_dir d) (p ∷ ps) (line_of (other_dir d) q.square)) (line_of (other_dir d) q.square) ≡ runs_through (other_dir d) after q.square
cross_line d after p ps q laid c =
    let e = other_dir d in
    let line = line_of e q.square in
    let parts = is_play-parts d (p ∷ ps) laid.play in
    let on = on_board (p ∷ ps) q parts.1 c in
    let line_in : line < 15 = line_below e q.square on in
    ap (map (run_of e line)) (stretches_agree (occupied_on e after line) (fresh_on e (p ∷ ps) line) (λ place. place == place_of e q.square)
    (λ z below. same_test (fresh_on e (p ∷ ps) line z) (z == place_of e q.square)
    (λ t.
    let at = covers_place e (p ∷ ps) line z line_in below t in
    let r = at.0 in
    let one_line = on_one_line d p ps r parts.3 at.1 ∙ sym (on_one_line d p ps q parts.3 c) in
    let same : r.square ≡ q.square = same_by_lines d r.square q.square one_line at.2 in
    eq-eqb z (place_of e q.square) (sym at.3 ∙ ap (place_of e) same))
    (λ t. covered (p ∷ ps) (square_at e line z) q c (sym (square_at-of e q.square) ∙ ap (square_at e line) (sym (eqb-true z (place_of e q.square) t))))))

-- in the other direction it forms the cross runs through its tiles, in their order
cross_runs : (d : Dir) (after : List (Option Tile)) (p : Placed) (ps : List Placed) → IsLaid d after (p ∷ ps)
    → runs_along (other_dir d) after (p ∷ ps) ≡ flat_map (λ q. runs_through (other_dir d) after q.square) (p ∷ ps)
unfolding runs_along
cross_runs d after p ps laid =
    let e = other_dir d in
    let parts = is_play-parts d (p ∷ ps) laid.play in
    join_keys (λ line. runs_of_line e after (fresh_on e (p ∷ ps) line) line) (λ q. runs_through e after q.square) (λ q. line_of e q.square) 0 15 (p ∷ ps)
    (λ q c. omega arith)
    (λ q c. let below = line_below e q.square (on_board (p ∷ ps) q parts.1 c) in omega arith)
    (lines_rise d (line_of d p.square) (p ∷ ps) (λ q c. on_one_line d p ps q parts.3 c) parts.2)
    (λ q c. cross_line d after p ps q laid c)
    (λ k low high none. no_runs e after (p ∷ ps) k (omega arith) none)

-- the runs of a play without a gap
pub runs_of_play : (d : Dir) (after : List (Option Tile)) (p : Placed) (ps : List Placed) → IsLaid d after (p ∷ ps)
    → runs_formed d after (p ∷ ps) ≡ runs_through d after p.square ++ flat_map (λ q. runs_through (other_dir d) after q.square) (p ∷ ps)
runs_of_play d after p ps laid =
    ap (λ rs. rs ++ runs_along (other_dir d) after (p ∷ ps)) (along_runs d after p ps laid)
    ∙ ap (λ rs. runs_through d after p.square ++ rs) (cross_runs d after p ps laid)

-- the run through a square, if it has two tiles
pub run_through : (d : Dir) (after : List (Option Tile)) (square start len : ℕ) → square < 225 → IsRunThrough after d square start len → 2 ≤ len
    → runs_through d after square ≡ record { start = start; dir = d; len = len } ∷ []
run_through d after square start len on run long =
    let line = line_of d square in
    let occupied = occupied_on d after line in
    let low = run.not_after in
    let high = run.reaches in
    ap (map (run_of d line)) (stretches_on-one occupied (λ place. place == place_of d square) (place_of d start) len (place_of d square) run.whole long low high
    (eq-eqb (place_of d square) (place_of d square) refl)
    (λ k below t. let here : k ≡ place_of d square = eqb-true k (place_of d square) t in (omega arith, omega arith)))
    ∙ ap (λ (n : ℕ). let r : Run = record { start = n; dir = d; len = len } in r ∷ []) (ap (λ l. square_at d l (place_of d start)) (sym run.same_line) ∙ square_at-of d start)

-- a tile without neighbours is not a run
pub no_run_through : (d : Dir) (after : List (Option Tile)) (square start len : ℕ) → IsRunThrough after d square start len → len < 2
    → runs_through d after square ≡ []
no_run_through d after square start len run short =
    let line = line_of d square in
    let low = run.not_after in
    let high = run.reaches in
    ap (map (run_of d line)) (stretches_on-short (occupied_on d after line) (λ place. place == place_of d square) (place_of d start) len run.whole short
    (λ k below t. let here : k ≡ place_of d square = eqb-true k (place_of d square) t in (omega arith, omega arith)))

-- the tiles of a legal play on the board
pub laid_from : (d : Dir) (board : List (Option Tile)) (ps : List Placed) → length board ≡ 225 → is_play d ps ≡ true → HasNoGap (with_tiles board ps) ps
    → IsLaid d (with_tiles board ps) ps
laid_from d board ps size play no_gap =
    let parts = is_play-parts d ps play in
    record {
      play = play;
      filled = λ q c. let on = on_board ps q parts.1 c in with_tiles-holds ps board q (omega arith) c;
      no_gap = no_gap;
    }

-- the same for a list given by its first tile and the others
pub runs_at : (d : Dir) (after : List (Option Tile)) (ps : List Placed) (p : Placed) (rest : List Placed) → ps ≡ p ∷ rest → IsLaid d after ps
    → runs_formed d after ps ≡ runs_through d after p.square ++ flat_map (λ q. runs_through (other_dir d) after q.square) ps
runs_at d after ps p rest e laid =
    subst (λ (qs : List Placed). IsLaid d after qs → runs_formed d after qs ≡ runs_through d after p.square ++ flat_map (λ q. runs_through (other_dir d) after q.square) qs) (sym e)
    (λ l. runs_of_play d after p rest l) laid

-- each run stays on its line
pub runs_within : (d : Dir) (after : List (Option Tile)) (ps : List Placed) → All IsWithin (runs_formed d after ps)
runs_within d after ps = λ k r h.
    ((runs_formed-meet d after ps (get_or (runs_formed d after ps) k r)).0 (Contains-get_or (runs_formed d after ps) k r h)).is_run.whole.inside
