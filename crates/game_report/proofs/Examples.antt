-- Lines as the definitions give them, computed.
use Rattle.std.proofs.Common.{◌≡◌, pos, [], ◌∷◌, Some, None, refl}
use Rattle.std.specs.Prelude.{codes}
use Rattle.std.specs.Fmt.{digits}
use Rattle.lex_list.specs.Words.{is_listed}
use Rattle.gcg_read.specs.declared.events.EventKind.TheVariants as kind
use Rattle.gcg_read.specs.declared.events.Seat.TheVariants.{Second}
use Rattle.gcg_write.specs.Fields.{kind_text}
use Rattle.gcg_write.specs.Normal.{event_text_of}
use Rattle.game_report.specs.EventLines.{unlisted_text, line_with}

-- words that are not in the list
nothing_unlisted : unlisted_text (codes "AT" ∷ codes "WORD" ∷ []) (codes "WORD" ∷ []) ≡ []
unfolding unlisted_text is_listed
nothing_unlisted = refl

two_unlisted : unlisted_text (codes "AT" ∷ []) (codes "RA" ∷ codes "AT" ∷ codes "DT" ∷ []) ≡ codes " unlisted RA DT"
unfolding unlisted_text is_listed
two_unlisted = refl

-- a line of a report
pass_is_reported : line_with (record { first = record { nick = codes "Ann"; full = [] }; second = record { nick = codes "Bo"; full = [] } })
    (Some (record { line = 7; player = Second; rack = None; kind = kind.Pass; score = pos 0; total = pos 41 })) [] ≡ codes "7 Bo - +0 41\n"
unfolding digits event_text_of kind_text
pass_is_reported = refl
