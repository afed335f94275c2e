-- Which written numbers of a draft are wrong, computed. A play that scores 16 is written with 18, and its player passes.
use Rattle.std.proofs.Common.{◌≡◌, ℕ, ℤ, List, [], ◌∷◌, None, refl}
use Rattle.std.specs.Prelude.{pos}
use Rattle.gcg_read.specs.declared.events.Event.{Event}
use Rattle.gcg_read.specs.declared.events.EventKind.TheVariants as kind
use Rattle.gcg_read.specs.declared.events.Seat.TheVariants.{First}
use Rattle.game_corrections.specs.declared.wrong_numbers.WrongNumber.TheVariants as number
use Rattle.game_walk.specs.declared.numbers.Numbers.{Numbers}
use Rattle.gcg_drafts.specs.declared.missing.Missing.TheVariants as missing
use Rattle.draft_numbers.specs.Numbers.{wrong_written}

abbrev event_on : (line : ℕ) → (score total : ℤ) → Event
event_on line score total = record { line = line; player = First; rack = None; kind = kind.Pass; score = score; total = total }

abbrev right : List Numbers
right = record { score = pos 16; total = pos 16 } ∷ record { score = pos 0; total = pos 16 } ∷ []

-- a total that is missing is not wrong, and the score is
no_total : wrong_written (missing.Total ∷ missing.Both ∷ []) (event_on 1 (pos 18) (pos 0) ∷ event_on 2 (pos 0) (pos 0) ∷ []) right ≡ number.Score 1 (pos 18) (pos 16) ∷ []
unfolding wrong_written
no_total = refl

-- nothing is wrong where nothing is written
no_number : wrong_written (missing.Both ∷ missing.Both ∷ []) (event_on 1 (pos 0) (pos 0) ∷ event_on 2 (pos 0) (pos 0) ∷ []) right ≡ []
unfolding wrong_written
no_number = refl

-- a total that is written fits what the player has without those that are missing: 18 with the score that is written, and 16 with the right one
fits : wrong_written (missing.Total ∷ missing.Nothing ∷ []) (event_on 1 (pos 18) (pos 0) ∷ event_on 2 (pos 0) (pos 18) ∷ []) right ≡ number.Score 1 (pos 18) (pos 16) ∷ []
unfolding wrong_written
fits = refl

fits_right : wrong_written (missing.Both ∷ missing.Nothing ∷ []) (event_on 1 (pos 0) (pos 0) ∷ event_on 2 (pos 0) (pos 16) ∷ []) right ≡ []
unfolding wrong_written
fits_right = refl
