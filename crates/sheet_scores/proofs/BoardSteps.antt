-- The boards after the events, one by one.
use Rattle.std.proofs.Common.{◌≡◌, ℕ, ◌+◌, ◌<◌, List, [], ◌∷◌, ◌++◌, length, slice_get, Option, Some, None, is_some, true, refl, sym, ap, ◌∙◌, subst, arith}
use Rattle.ref_tiles.specs.declared.tiles.Tile.{Tile}
use Rattle.ref_play.specs.declared.faults.PlayFault.{PlayFault}
use Rattle.gcg_read.specs.declared.events.Event.{Event}
use Rattle.game_board.specs.Laying.{board_before, laying_fault, AreLaid}
use Rattle.sheet_scores.specs.declared.pictures.Picture.{Picture}
use Rattle.sheet_scores.specs.Pictures.{is_new, covered, IsPicture}
use Rattle.sheet_scores.specs.Boards.{CanBeLaid, IsBoardAfter, ArePictures, IsShownAt}
use Rattle.sheet_scores.proofs.SheetRows.{one_more, one_longer, none_yet}

-- the boards after the events before a place
pub record AreSoFar (events : List Event) (place : ℕ) (pictures : List Picture) : Type 0 where
  pub as_many : length pictures ≡ place
  pub each : (k : ℕ) (p : Picture) → slice_get pictures k ≡ Some p → IsBoardAfter events k p

pub none_so_far : (events : List Event) → AreSoFar events 0 []
none_so_far events = record { as_many = refl; each = none_yet (IsBoardAfter events) }

-- one more board, by the boards before and after the event
pub one_board : (events : List Event) (place : ℕ) (pictures more : List Picture) (p : Picture) (old laid : List (Option Tile)) → AreSoFar events place pictures → old ≡ board_before events place
    → laid ≡ board_before events (place + 1) → IsPicture laid (is_new old laid) p → more ≡ pictures ++ p ∷ [] → AreSoFar events (place + 1) more
one_board events place pictures more p old laid are before following is pushed =
    let at : IsBoardAfter events place p =
    subst (λ b. IsPicture b (is_new (board_before events place) b) p) following (subst (λ b. IsPicture laid (is_new b laid) p) before is) in
    subst (AreSoFar events (place + 1)) (sym pushed)
    (record {
      as_many = one_longer pictures p ∙ ap (λ n. n + 1) are.as_many;
      each = one_more (IsBoardAfter events) pictures p are.each (subst (λ n. IsBoardAfter events n p) (sym are.as_many) at);
    })

-- at a play that cannot be laid
pub stopped_at : (events : List Event) (place : ℕ) (pictures : List Picture) (why : PlayFault) → AreSoFar events place pictures → CanBeLaid events place → place < length events
    → laying_fault events place ≡ Some why → ArePictures events pictures
stopped_at events place pictures why are laid within fault =
    let many = are.as_many in
    record {
      laid = subst (CanBeLaid events) (sym many) laid;
      within = omega (arith, many, within);
      ended = λ further none. let both : Some why ≡ None = sym fault ∙ ap (laying_fault events) (sym many) ∙ none in cc;
      each = are.each;
    }

-- after the last event
pub went_through : (events : List Event) (place : ℕ) (pictures : List Picture) → AreSoFar events place pictures → CanBeLaid events place → place ≡ length events → ArePictures events pictures
went_through events place pictures are laid last =
    let many = are.as_many in
    record {
      laid = subst (CanBeLaid events) (sym many) laid;
      within = omega (arith, many, last);
      ended = λ further none. absurd (omega (arith, many, last, further));
      each = are.each;
    }

-- ---- the board at a place

-- laying that had no fault ended at the place that was given
ended_at : (events : List Event) (asked end : ℕ) (why : Option PlayFault) → AreLaid events asked end why → CanBeLaid events asked → end ≡ asked
ended_at events asked end None laid none = laid.ended
ended_at events asked end (Some why) laid none =
    let both : Some why ≡ None = sym laid.ended.1 ∙ none end laid.ended.0 in
    cc

can_be_laid : (events : List Event) (asked end : ℕ) → AreLaid events asked end None → CanBeLaid events asked
can_be_laid events asked end laid = subst (CanBeLaid events) laid.ended laid.laid

-- the board after the event at a place
pub shown_after : (events : List Event) (place end last : ℕ) (why : Option PlayFault) (old laid : List (Option Tile)) (p : Picture) → AreLaid events place end why → AreLaid events (place + 1) last None
    → old ≡ board_before events end → laid ≡ board_before events last → place < length events → IsPicture laid (is_new old laid) p → IsShownAt events place p
shown_after events place end last why old laid p before following was is within shows =
    let all : CanBeLaid events (place + 1) = can_be_laid events (place + 1) last following in
    let here : end ≡ place = ended_at events place end why before (λ k below. all k (omega (arith, below))) in
    let then : last ≡ place + 1 = following.ended in
    let own : old ≡ board_before events place = was ∙ ap (board_before events) here in
    let next : laid ≡ board_before events (place + 1) = is ∙ ap (board_before events) then in
    record {
      following = λ there can. subst (λ b. IsPicture b (is_new (board_before events place) b) p) next (subst (λ b. IsPicture laid (is_new b laid) p) own shows);
      before = λ cannot. absurd (cannot within all);
    }

-- the board before it
pub shown_before : (events : List Event) (place end : ℕ) (why : Option PlayFault) (old : List (Option Tile)) (o : Option Event) (p : Picture) → AreLaid events place end why
    → old ≡ board_before events end → o ≡ slice_get events place → (place < length events → CanBeLaid events (place + 1) → ⊥) → IsPicture old (covered o) p → IsShownAt events place p
shown_before events place end why old o p laid was at cannot shows =
    record {
      following = λ there can. absurd (cannot there can);
      before = λ also.
          record {
            end = end;
            why = why;
            laid = laid;
            shows = subst (λ x. IsPicture (board_before events end) (covered x) p) at (subst (λ b. IsPicture b (covered o) p) was shows);
          };
    }

pub cannot_be_laid : (events : List Event) (place last : ℕ) (fault : Option PlayFault) → is_some fault ≡ true → AreLaid events (place + 1) last fault → CanBeLaid events (place + 1) → ⊥
cannot_be_laid events place last None some laid can = cc
cannot_be_laid events place last (Some why) some laid can =
    let both : Some why ≡ None = sym laid.ended.1 ∙ can last laid.ended.0 in
    cc
