-- The values that depend on the tiles of a play, tile by tile, and where on its line these lie.
use Rattle.std.proofs.Common.{◌≡◌, ℕ, ◌+◌, ◌-◌, ◌<◌, ◌≤◌, true, List, [], ◌∷◌, length, drop, get_or, refl, sym, ap, subst, ◌∙◌, arith, ◌⊎◌, ⊎_elim, inl, inr, Option}
use Rattle.std.specs.Prelude.{Contains}
use Rattle.std.proofs.lemmas.Bool.{cases_eq, false_from_ne_true}
use Rattle.std.proofs.lemmas.List.{at_drop_more, drop_all}
use Rattle.std.proofs.lemmas.List.Elements.{Contains-get_or}
use Rattle.ref_tiles.specs.declared.tiles.Tile.{Tile}
use Rattle.ref_tiles.specs.declared.rulebook.Rules.{Rules}
use Rattle.ref_board.specs.declared.directions.Dir.{Dir}
use Rattle.ref_board.specs.declared.directions.Dir.TheVariants.{Across, Down}
use Rattle.ref_board.specs.Lines.{line_of, place_of, other_dir}
use Rattle.ref_play.specs.declared.placed.Placed.{Placed}
use Rattle.ref_play.specs.Placements.{is_play, covers}
use Rattle.ref_play.specs.Legality.{last_square}
use Rattle.ref_play.proofs.RangeLaws.{Contains-cases, Contains-here, Contains-there}
use Rattle.ref_play.proofs.LineLaws.{line_of-square_at, place_of-square_at, line_below}
use Rattle.ref_play.proofs.LegalLaws.{place_follows}
use Rattle.ref_play.proofs.PlaceLaws.{is_play-parts, on_one_line, after_first, before_last, last_is_there}
use Rattle.ref_play.proofs.FormedRuns.{same_by_lines, covering, none_contained}
use Rattle.ref_play.proofs.Laying.{on_same_line}
use Rattle.gen_cross.specs.declared.crosses.Value.{Value}
use Rattle.gen_cross.specs.Values.{IsValue}
use Rattle.gen_cross.specs.Changes.{crossing, DifferOn, AgreeBut, AgreeOff, AreWithin}
use Rattle.gen_cross.specs.declared.stretches.Stretch.{Stretch}
use Rattle.gen_cross.proofs.Renewing.{value_on_line}

-- a value is that of the board after, or that of the board before on the line across the play of a tile that is still to come
abbrev pub IsRenewed : Rules → List (List ℕ) → Dir → List (Option Tile) → List (Option Tile) → List Placed → ℕ → Value → Type 0
IsRenewed rules words d before after rest s v =
    IsValue rules words d after s v
    ⊎ ((q : Placed) × Contains rest q × (line_of (other_dir d) q.square ≡ line_of (other_dir d) s) × IsValue rules words d before s v)

-- some tile lies on a line, or none does
on_some : (e : Dir) (ps : List Placed) (line : ℕ)
    → ((q : Placed) × Contains ps q × (line_of e q.square ≡ line)) ⊎ ((q : Placed) → Contains ps q → line_of e q.square ≡ line → ⊥)
on_some e [] line = inr (λ q c l. none_contained q c)
on_some e (p ∷ ps) line =
    ⊎_elim
    (λ (here : line_of e p.square ≡ line). inl (p, Contains-here p ps, here))
    (λ (not_here : line_of e p.square ≡ line → ⊥). ⊎_elim
    (λ (found : (q : Placed) × Contains ps q × (line_of e q.square ≡ line)). inl (found.0, Contains-there p ps found.0 found.1, found.2))
    (λ (none : (q : Placed) → Contains ps q → line_of e q.square ≡ line → ⊥).
    inr (λ q c l. ⊎_elim
    (λ (same : p ≡ q). not_here (ap (λ (x : Placed). line_of e x.square) same ∙ l))
    (λ (rest : Contains ps q). none q rest l)
    (Contains-cases p ps q c)))
    (on_some e ps line))
    (cases_eq (line_of e p.square) line)

-- what covers a square across the play through another
covers_crossing : (d : Dir) (ps : List Placed) (s place : ℕ) → s < 225 → place < 15 → covers ps (crossing d s place) ≡ true
    → (q : Placed) × Contains ps q × (q.square ≡ crossing d s place) × (line_of (other_dir d) q.square ≡ line_of (other_dir d) s)
covers_crossing d ps s place below p e =
    let found = covering ps (crossing d s place) e in
    (found.0, found.1, found.2, ap (line_of (other_dir d)) found.2 ∙ line_of-square_at (other_dir d) (line_of (other_dir d) s) place (line_below (other_dir d) s below) p)

module _ (rules : Rules) (words : List (List ℕ)) (d : Dir) (before after : List (Option Tile)) (ps : List Placed) (differ : DifferOn ps before after) where
  pub first_renewed : (s : ℕ) → length after ≡ 225 → s < 225 → (v : Value) → IsValue rules words d before s v → IsRenewed rules words d before after ps s v
  first_renewed s size below v is =
      ⊎_elim
      (λ (found : (q : Placed) × Contains ps q × (line_of (other_dir d) q.square ≡ line_of (other_dir d) s)). inr (found.0, found.1, found.2, is))
      (λ (none : (q : Placed) → Contains ps q → line_of (other_dir d) q.square ≡ line_of (other_dir d) s → ⊥).
      inl (value_on_line rules words d before after s (differ.size ∙ size) size below
      (λ place p. differ.same (crossing d s place) (false_from_ne_true (covers ps (crossing d s place))
      (λ t. let found = covers_crossing d ps s place below p t in none found.0 found.1 found.3)))
      v is))
      (on_some (other_dir d) ps (line_of (other_dir d) s))

  -- across the play through a square of its line only that tile is new
  agree_but : is_play d ps ≡ true → (p : Placed) → Contains ps p → (s : ℕ) → s < 225 → line_of (other_dir d) s ≡ line_of (other_dir d) p.square → AgreeBut d p.square s before after
  agree_but play p has s below on place in_line ne =
      differ.same (crossing d s place) (false_from_ne_true (covers ps (crossing d s place))
      (λ t. let found = covers_crossing d ps s place below in_line t in
      let line = on_same_line d ps found.0 p (is_play-parts d ps play).3 found.1 has in
      ne (sym found.2 ∙ same_by_lines d found.0.square p.square line (found.3 ∙ on))))

  pub next_renewed : is_play d ps ≡ true → (i : ℕ) (p : Placed) → i < length ps → p ≡ get_or ps i p → (s : ℕ) → s < 225 → (v w : Value)
      → ((b : List (Option Tile)) → length b ≡ length after → AgreeBut d p.square s b after → IsValue rules words d b s v → IsValue rules words d after s w)
      → ((line_of (other_dir d) s ≡ line_of (other_dir d) p.square → ⊥) → w ≡ v)
      → IsRenewed rules words d before after (drop i ps) s v → IsRenewed rules words d before after (drop (i + 1) ps) s w
  next_renewed play i p within is_p s below v w near far is =
      let at : drop i ps ≡ p ∷ drop (i + 1) ps = at_drop_more (λ qs. qs) ps i p within ∙ ap (λ q. q ∷ drop (i + 1) ps) (sym is_p) in
      let has : Contains ps p = subst (Contains ps) (sym is_p) (Contains-get_or ps i p within) in
      ⊎_elim
      (λ (done : IsValue rules words d after s v). inl (near after refl (λ place b ne. refl) done))
      (λ (to_come : (q : Placed) × Contains (drop i ps) q × (line_of (other_dir d) q.square ≡ line_of (other_dir d) s) × IsValue rules words d before s v). ⊎_elim
      (λ (on : line_of (other_dir d) s ≡ line_of (other_dir d) p.square). inl (near before differ.size (agree_but play p has s below on) to_come.3))
      (λ (off : line_of (other_dir d) s ≡ line_of (other_dir d) p.square → ⊥). ⊎_elim
      (λ (same : p ≡ to_come.0). absurd (off (sym to_come.2 ∙ ap (λ (x : Placed). line_of (other_dir d) x.square) (sym same))))
      (λ (rest : Contains (drop (i + 1) ps) to_come.0). inr (to_come.0, rest, to_come.2, subst (IsValue rules words d before s) (sym (far off)) to_come.3))
      (Contains-cases p (drop (i + 1) ps) to_come.0 (subst (λ qs. Contains qs to_come.0) at to_come.1)))
      (cases_eq (line_of (other_dir d) s) (line_of (other_dir d) p.square)))
      is

  pub all_renewed : (i : ℕ) → length ps ≤ i → (s : ℕ) (v : Value) → IsRenewed rules words d before after (drop i ps) s v → IsValue rules words d after s v
  all_renewed i past s v is =
      ⊎_elim
      (λ (done : IsValue rules words d after s v). done)
      (λ (to_come : (q : Placed) × Contains (drop i ps) q × (line_of (other_dir d) q.square ≡ line_of (other_dir d) s) × IsValue rules words d before s v).
      absurd (none_contained to_come.0 (subst (λ qs. Contains qs to_come.0) (drop_all i ps past) to_come.1)))
      is

-- ---- the line of the play

other_twice : (d : Dir) → d ≡ other_dir (other_dir d)
other_twice Across = refl
other_twice Down = refl

-- the direction across the direction across a direction is itself
pub other_back : (d e : Dir) → e ≡ other_dir d → d ≡ other_dir e
other_back d e is = other_twice d ∙ ap other_dir (sym is)

last_at : (first : Placed) (ps : List Placed) (d : Placed) → (get_or (first ∷ ps) (length ps) d).square ≡ last_square first ps
last_at first [] d = refl
last_at first (q ∷ ps) d = last_at q ps d

-- the tiles of a play lie on the line of the first, from its place to that of the last
spans : (d : Dir) (first : Placed) (ps : List Placed) (last : ℕ) → is_play d (first ∷ ps) ≡ true → last ≡ last_square first ps → (q : Placed) → Contains (first ∷ ps) q
    → (line_of d q.square ≡ line_of d first.square) × (place_of d first.square ≤ place_of d q.square) × (place_of d q.square ≤ place_of d last)
spans d first ps last play is_last q has =
    let parts = is_play-parts d (first ∷ ps) play in
    let on = on_one_line d first ps q parts.3 has in
    let there = last_is_there first ps in
    let on_last : line_of d last ≡ line_of d first.square = ap (line_of d) (is_last ∙ sym there.2) ∙ on_one_line d first ps there.0 parts.3 there.1 in
    let low = after_first first ps q parts.2 has in
    let high = before_last first ps q parts.2 has in (
      on,
      place_follows d first.square q.square (sym on) low,
      place_follows d q.square last (on ∙ sym on_last) (omega arith),
    )

-- the same for a list, by the places of its first and its last in it
pub spans_at : (d : Dir) (ps : List Placed) (a b : Placed) → is_play d ps ≡ true → (q : Placed) → Contains ps q
    → (line_of d q.square ≡ line_of d (get_or ps 0 a).square) × (place_of d (get_or ps 0 a).square ≤ place_of d q.square)
    × (place_of d q.square ≤ place_of d (get_or ps (length ps - 1) b).square)
spans_at d [] a b play q has = absurd (none_contained q has)
spans_at d (p ∷ ps) a b play q has =
    let one : length (p ∷ ps) - 1 ≡ length ps = omega arith in
    let end : (get_or (p ∷ ps) (length (p ∷ ps) - 1) b).square ≡ last_square p ps =
    ap (λ k. (get_or (p ∷ ps) k b).square) one ∙ last_at p ps b in
    spans d p ps (get_or (p ∷ ps) (length (p ∷ ps) - 1) b).square play end q has

-- a board with other contents of the squares of a play is the same outside its stretch of the line
pub agree_off : (d : Dir) (before after : List (Option Tile)) (ps : List Placed) (stretch : Stretch) → stretch.dir ≡ other_dir d → DifferOn ps before after
    → AreWithin ps stretch → (s : ℕ) → s < 225 → AgreeOff d stretch.line stretch.first stretch.end s before after
agree_off d before after ps stretch is_e differ within s below place p off =
    let o = other_dir d in
    let within_o : (q : Placed) → Contains ps q → (line_of o q.square ≡ stretch.line) × (stretch.first ≤ place_of o q.square) × (place_of o q.square < stretch.end) =
    subst (λ x. (q : Placed) → Contains ps q → (line_of x q.square ≡ stretch.line) × (stretch.first ≤ place_of x q.square) × (place_of x q.square < stretch.end)) is_e within in
    differ.same (crossing d s place) (false_from_ne_true (covers ps (crossing d s place))
    (λ t. let found = covers_crossing d ps s place below p t in
    let is = within_o found.0 found.1 in
    let at : place_of o found.0.square ≡ place = ap (place_of o) found.2 ∙ place_of-square_at o (line_of o s) place (line_below o s below) p in
    let low = is.1 in
    let high = is.2 in
    off (sym found.3 ∙ is.0) (omega arith) (omega arith)))

-- a play has a tile, and its first is not after its last
pub some_tile : (d : Dir) (ps : List Placed) → is_play d ps ≡ true → 0 < length ps
some_tile d ps play = (is_play-parts d ps play).0

pub in_order : (d : Dir) (ps : List Placed) (a b : Placed) → is_play d ps ≡ true → place_of d (get_or ps 0 a).square ≤ place_of d (get_or ps (length ps - 1) b).square
in_order d ps a b play =
    let some = some_tile d ps play in
    (spans_at d ps a b play (get_or ps (length ps - 1) b) (Contains-get_or ps (length ps - 1) b (omega arith))).1
