-- What a look-up in a list gives.
use Rattle.std.proofs.Common.{◌≡◌, ℕ, nat_lt, List, length, get_or, slice_get, Option, Some, None, refl, sym}
use Rattle.std.specs.Borrow.{Bor}
use Rattle.std.specs.Option.{option_copied, is_some, IfSome}
use Rattle.std.proofs.lemmas.Option.{slice_get_past, slice_get_read}
use Rattle.std.proofs.lemmas.Bool.{ltb-true, ltb-false}

pub looked_up : {T : Type 0} (items : List T) (place : ℕ) (o : Option (Bor T)) → is_some o ≡ nat_lt place (length items) → IfSome o (λ x. x.now ≡ get_or items place x.now)
    → option_copied o ≡ slice_get items place
looked_up items place None there item = sym (slice_get_past items place (ltb-false place (length items) (sym there)))
looked_up items place (Some x) there item = sym (slice_get_read items (length items) place x.now refl (ltb-true place (length items) (sym there)) item)
