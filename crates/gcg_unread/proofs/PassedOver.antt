-- A line that is listed is neither an event nor a pragma.
use Rattle.std.proofs.Common.{◌≡◌, ℕ, Bool, true, false, not, ◌&&◌, ◌==◌, List, [], ◌∷◌, Option, Some, None, refl}
use Rattle.std.specs.Prelude.{if◌then◌else◌}
use Rattle.gcg_read.specs.Records.{with_line}
use Rattle.gcg_unread.specs.declared.reasons.UnreadWhy.{UnreadWhy}
use Rattle.gcg_unread.specs.Lines.{is_passed_over, why_unread}
use Rattle.gcg_unread.specs.Laws.{ArePassedOver}

there : (b : Bool) (why : Option UnreadWhy) (reason : UnreadWhy) → (if not b then None else why) ≡ Some reason → b ≡ true
there true why reason e = refl
there false why reason e = absurd cc

is_over : (in_note : Bool) (line : List ℕ) (reason : UnreadWhy) → why_unread in_note line ≡ Some reason → is_passed_over line ≡ true
unfolding why_unread
is_over in_note line reason e = there (is_passed_over line) _ reason e

not_first : (a b : Bool) → (not a && not b) ≡ true → a ≡ false
not_first true b e = absurd cc
not_first false b e = refl

not_second : (a b : Bool) → (not a && not b) ≡ true → b ≡ false
not_second a true e = absurd (both a e)
  where
    both : (a : Bool) → (not a && false) ≡ true → ⊥
    both true e = cc
    both false e = cc
not_second a false e = refl

pub passed_over : ArePassedOver
unfolding with_line
passed_over in_note [] reason e so_far number = refl
passed_over in_note (byte ∷ bytes) reason e so_far number =
    let over = is_over in_note (byte ∷ bytes) reason e in
    let no_event : (byte == 62) ≡ false = not_first (byte == 62) (byte == 35) over in
    let no_pragma : (byte == 35) ≡ false = not_second (byte == 62) (byte == 35) over in
    rw (no_event, no_pragma) refl
