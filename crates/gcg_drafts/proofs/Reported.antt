-- What a line lacks is told, if its fields are those of an event with some of the last ones left out.
use Rattle.std.proofs.Common.{◌≡◌, ℕ, ◌≤◌, Bool, true, false, List, [], ◌∷◌, ◌++◌, length, Option, Some, None, Ok, Err, if◌then◌else◌, ◌⊎◌, inl, inr, arith, refl, sym, ap, subst, ◌∙◌}
use Rattle.std.specs.Option.{ok_or}
use Rattle.gcg_read.specs.declared.faults.Why.TheVariants as why
use Rattle.gcg_read.specs.declared.events.Event.{Event}
use Rattle.gcg_read.specs.declared.events.EventKind.{EventKind}
use Rattle.gcg_read.specs.declared.event_lines.Heading.{Heading}
use Rattle.gcg_read.specs.Codes.{code_of}
use Rattle.gcg_read.specs.EventLines.{scored_of, played_of, coded_of, has_digit, event_of}
use Rattle.gcg_read.specs.Faults.{◌>>=◌}
use Rattle.gcg_read.specs.Numerals.{points_of}
use Rattle.gcg_read.specs.Positions.{position_of}
use Rattle.gcg_read.specs.Racks.{rack_of}
use Rattle.gcg_write.proofs.Inversions.{stepped, given, ok_same}
use Rattle.gcg_drafts.specs.declared.missing.Missing.TheVariants as missing
use Rattle.gcg_drafts.specs.declared.amiss.Amiss.TheVariants as amiss
use Rattle.gcg_drafts.specs.Lacks.{is_code, is_place, needs_score, lacks_in}
use Rattle.gcg_drafts.specs.Laws.{IsOfChoice, IsReported, HasNoScore, LacksAreReported}
use Rattle.gcg_drafts.proofs.FirstBytes.{code_opens, needs_choice, place_opens, is_placed, not_placed, rack_opens}

abbrev Is : (fields more : List (List ℕ)) → Event → Type 0
Is fields more e = IsReported fields more ⊎ HasNoScore fields more e

-- ---- what the fields of an event are

-- a code, and if it needs its score, that of a challenge or a penalty
record IsCoded (code : List ℕ) (e : Event) : Type 0 where
  opens : is_code code ≡ true
  choice : needs_score code ≡ true → IsOfChoice e.kind

scored_kind : (heading : Heading) (rack : Option (List ℕ)) (what : EventKind) (s t : List ℕ) (e : Event) → scored_of heading rack what s t ≡ Ok e → what ≡ e.kind
unfolding scored_of
scored_kind heading rack what s t e read =
    let a = stepped (ok_or (points_of s) why.Number) _ e read in
    let b = stepped (ok_or (points_of t) why.Number) _ e a.1.1 in
    ap (λ (x : Event). x.kind) (ok_same _ e b.1.1)

coded : (heading : Heading) (rack : Option (List ℕ)) (code s t : List ℕ) (e : Event) → coded_of heading rack code s t ≡ Ok e → IsCoded code e
unfolding coded_of
coded heading rack code s t e read =
    let a = stepped (ok_or (code_of code) why.Code) _ e read in
    let is : code_of code ≡ Some a.0 = given (code_of code) why.Code a.0 a.1.0 in
    let same : a.0 ≡ e.kind = scored_kind heading rack a.0 s t e a.1.1 in
    record { opens = code_opens code a.0 is; choice = λ needs. subst IsOfChoice same (needs_choice code a.0 needs is) }

record IsPlaced (field : List ℕ) : Type 0 where
  opens : is_code field ≡ false
  digit : has_digit field ≡ true
  place : is_place field ≡ true

played : (heading : Heading) (rack : Option (List ℕ)) (position word s t : List ℕ) (e : Event) → played_of heading rack position word s t ≡ Ok e → IsPlaced position
unfolding played_of
played heading rack position word s t e read =
    let a = stepped (ok_or (position_of position) why.Position) _ e read in
    let is : position_of position ≡ Some a.0 = given (position_of position) why.Position a.0 a.1.0 in
    let opens = place_opens position a.0 is in
    record { opens = opens.0; digit = opens.1; place = is_placed position a.0 is }

record IsRacked (field : List ℕ) : Type 0 where
  opens : is_code field ≡ false
  digit : has_digit field ≡ false

racked : (a tiles : List ℕ) → ok_or (rack_of a) why.Rack ≡ Ok tiles → IsRacked a
racked a tiles e = let o = rack_opens a tiles (given (rack_of a) why.Rack tiles e) in record { opens = o.0; digit = o.1 }

three : (heading : Heading) (a b c : List ℕ) (e : Event) → event_of heading (a ∷ b ∷ c ∷ []) ≡ Ok e → IsCoded a e
unfolding event_of
three heading a b c e read = coded heading None a b c e read

-- a play without a rack, or a code with one
record IsRackedCode (a b : List ℕ) (e : Event) : Type 0 where
  rack : IsRacked a
  code : IsCoded b e

four_by : (heading : Heading) (a b c d : List ℕ) (e : Event) (digit : Bool)
    → (if digit then played_of heading None a b c d else (ok_or (rack_of a) why.Rack >>= λ rack. coded_of heading (Some rack) b c d)) ≡ Ok e
    → IsPlaced a ⊎ IsRackedCode a b e
four_by heading a b c d e true read = inl (played heading None a b c d e read)
four_by heading a b c d e false read =
    let r = stepped (ok_or (rack_of a) why.Rack) _ e read in
    inr (record { rack = racked a r.0 r.1.0; code = coded heading (Some r.0) b c d e r.1.1 })

four : (heading : Heading) (a b c d : List ℕ) (e : Event) → event_of heading (a ∷ b ∷ c ∷ d ∷ []) ≡ Ok e → IsPlaced a ⊎ IsRackedCode a b e
unfolding event_of
four heading a b c d e read = four_by heading a b c d e (has_digit a) read

record IsRackedPlay (a b : List ℕ) : Type 0 where
  rack : IsRacked a
  play : IsPlaced b

five : (heading : Heading) (a b c d f : List ℕ) (e : Event) → event_of heading (a ∷ b ∷ c ∷ d ∷ f ∷ []) ≡ Ok e → IsRackedPlay a b
unfolding event_of
five heading a b c d f e read =
    let r = stepped (ok_or (rack_of a) why.Rack) _ e read in
    record { rack = racked a r.0 r.1.0; play = played heading (Some r.0) b c d f e r.1.1 }

none : (heading : Heading) (e : Event) → event_of heading [] ≡ Ok e → ⊥
unfolding event_of
none heading e read = absurd cc

one : (heading : Heading) (a : List ℕ) (e : Event) → event_of heading (a ∷ []) ≡ Ok e → ⊥
unfolding event_of
one heading a e read = absurd cc

two : (heading : Heading) (a b : List ℕ) (e : Event) → event_of heading (a ∷ b ∷ []) ≡ Ok e → ⊥
unfolding event_of
two heading a b e read = absurd cc

six : (heading : Heading) (a b c d f g : List ℕ) (rest : List (List ℕ)) (e : Event) → event_of heading (a ∷ b ∷ c ∷ d ∷ f ∷ g ∷ rest) ≡ Ok e → ⊥
unfolding event_of
six heading a b c d f g rest e read = absurd cc

-- ---- a code

code_both_by : (a s t : List ℕ) (e : Event) (b : Bool) → needs_score a ≡ b → IsCoded a e → Is (a ∷ []) (s ∷ t ∷ []) e
unfolding lacks_in
code_both_by a s t e true n h = inr (record { reported = rw (h.opens, n) refl; many = refl; kind = h.choice n })
code_both_by a s t e false n h = inl (record { lacks = missing.Both; reported = rw (h.opens, n) refl; many = refl })

code_total : (a s t : List ℕ) (e : Event) → IsCoded a e → Is (a ∷ s ∷ []) (t ∷ []) e
unfolding lacks_in
code_total a s t e h = inl (record { lacks = missing.Total; reported = rw h.opens refl; many = refl })

code_whole : (a s t : List ℕ) (e : Event) → IsCoded a e → Is (a ∷ s ∷ t ∷ []) [] e
unfolding lacks_in
code_whole a s t e h = inl (record { lacks = missing.Nothing; reported = rw h.opens refl; many = refl })

-- ---- four fields

rack_both_by : (a b s t : List ℕ) (e : Event) (n : Bool) → needs_score b ≡ n → IsRackedCode a b e → Is (a ∷ b ∷ []) (s ∷ t ∷ []) e
unfolding lacks_in
rack_both_by a b s t e true n h =
    inr (record { reported = rw (h.rack.opens, h.rack.digit, not_placed b h.code.opens, n) refl; many = refl; kind = h.code.choice n })
rack_both_by a b s t e false n h =
    inl (record { lacks = missing.Both; reported = rw (h.rack.opens, h.rack.digit, not_placed b h.code.opens, n) refl; many = refl })

four_both : (a b s t : List ℕ) (e : Event) → IsPlaced a ⊎ IsRackedCode a b e → Is (a ∷ b ∷ []) (s ∷ t ∷ []) e
unfolding lacks_in
four_both a b s t e (inl p) = inl (record { lacks = missing.Both; reported = rw (p.opens, p.digit) refl; many = refl })
four_both a b s t e (inr h) = rack_both_by a b s t e (needs_score b) refl h

four_total : (a b s t : List ℕ) (e : Event) → IsPlaced a ⊎ IsRackedCode a b e → Is (a ∷ b ∷ s ∷ []) (t ∷ []) e
unfolding lacks_in
four_total a b s t e (inl p) = inl (record { lacks = missing.Total; reported = rw (p.opens, p.digit) refl; many = refl })
four_total a b s t e (inr h) = inl (record { lacks = missing.Total; reported = rw (h.rack.opens, h.rack.digit, not_placed b h.code.opens) refl; many = refl })

four_whole : (a b s t : List ℕ) (e : Event) → IsPlaced a ⊎ IsRackedCode a b e → Is (a ∷ b ∷ s ∷ t ∷ []) [] e
unfolding lacks_in
four_whole a b s t e (inl p) = inl (record { lacks = missing.Nothing; reported = rw (p.opens, p.digit) refl; many = refl })
four_whole a b s t e (inr h) = inl (record { lacks = missing.Nothing; reported = rw (h.rack.opens, h.rack.digit, not_placed b h.code.opens) refl; many = refl })

-- ---- five fields

five_both : (a b c s t : List ℕ) (e : Event) → IsRackedPlay a b → Is (a ∷ b ∷ c ∷ []) (s ∷ t ∷ []) e
unfolding lacks_in
five_both a b c s t e h = inl (record { lacks = missing.Both; reported = rw (h.rack.opens, h.rack.digit, h.play.place) refl; many = refl })

five_total : (a b c s t : List ℕ) (e : Event) → IsRackedPlay a b → Is (a ∷ b ∷ c ∷ s ∷ []) (t ∷ []) e
unfolding lacks_in
five_total a b c s t e h = inl (record { lacks = missing.Total; reported = rw (h.rack.opens, h.rack.digit, h.play.place) refl; many = refl })

five_whole : (a b c s t : List ℕ) (e : Event) → IsRackedPlay a b → Is (a ∷ b ∷ c ∷ s ∷ t ∷ []) [] e
unfolding lacks_in
five_whole a b c s t e h = inl (record { lacks = missing.Nothing; reported = rw (h.rack.opens, h.rack.digit, h.play.place) refl; many = refl })

-- ---- all

pub lacks_are_reported : LacksAreReported
lacks_are_reported heading [] [] e few read = absurd (none heading e read)
lacks_are_reported heading [] (s ∷ []) e few read = absurd (one heading s e read)
lacks_are_reported heading [] (s ∷ t ∷ []) e few read = absurd (two heading s t e read)
lacks_are_reported heading [] (s ∷ t ∷ u ∷ more) e few read = absurd (omega arith)
lacks_are_reported heading (a ∷ []) [] e few read = absurd (one heading a e read)
lacks_are_reported heading (a ∷ []) (s ∷ []) e few read = absurd (two heading a s e read)
lacks_are_reported heading (a ∷ []) (s ∷ t ∷ []) e few read = code_both_by a s t e (needs_score a) refl (three heading a s t e read)
lacks_are_reported heading (a ∷ []) (s ∷ t ∷ u ∷ more) e few read = absurd (omega arith)
lacks_are_reported heading (a ∷ b ∷ []) [] e few read = absurd (two heading a b e read)
lacks_are_reported heading (a ∷ b ∷ []) (s ∷ []) e few read = code_total a b s e (three heading a b s e read)
lacks_are_reported heading (a ∷ b ∷ []) (s ∷ t ∷ []) e few read = four_both a b s t e (four heading a b s t e read)
lacks_are_reported heading (a ∷ b ∷ []) (s ∷ t ∷ u ∷ more) e few read = absurd (omega arith)
lacks_are_reported heading (a ∷ b ∷ c ∷ []) [] e few read = code_whole a b c e (three heading a b c e read)
lacks_are_reported heading (a ∷ b ∷ c ∷ []) (s ∷ []) e few read = four_total a b c s e (four heading a b c s e read)
lacks_are_reported heading (a ∷ b ∷ c ∷ []) (s ∷ t ∷ []) e few read = five_both a b c s t e (five heading a b c s t e read)
lacks_are_reported heading (a ∷ b ∷ c ∷ []) (s ∷ t ∷ u ∷ more) e few read = absurd (omega arith)
lacks_are_reported heading (a ∷ b ∷ c ∷ d ∷ []) [] e few read = four_whole a b c d e (four heading a b c d e read)
lacks_are_reported heading (a ∷ b ∷ c ∷ d ∷ []) (s ∷ []) e few read = five_total a b c d s e (five heading a b c d s e read)
lacks_are_reported heading (a ∷ b ∷ c ∷ d ∷ []) (s ∷ t ∷ more) e few read = absurd (six heading a b c d s t more e read)
lacks_are_reported heading (a ∷ b ∷ c ∷ d ∷ f ∷ []) [] e few read = five_whole a b c d f e (five heading a b c d f e read)
lacks_are_reported heading (a ∷ b ∷ c ∷ d ∷ f ∷ []) (s ∷ more) e few read = absurd (six heading a b c d f s more e read)
lacks_are_reported heading (a ∷ b ∷ c ∷ d ∷ f ∷ g ∷ fields) more e few read = absurd (six heading a b c d f g (fields ++ more) e read)
