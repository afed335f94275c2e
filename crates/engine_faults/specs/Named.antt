-- Faults by their names, and the text that a report makes of one.
use Rattle.std.specs.Prelude.{ℕ, ℤ, List, [], ◌∷◌, ◌++◌, Option, Some, None}
use Rattle.std.specs.Fmt.{signed_decimal}
use Rattle.ref_tiles.specs.declared.kinds.Kind.{Kind}
use Rattle.ref_tiles.specs.Kinds.{kind_byte}
use Rattle.game_turns.specs.declared.faults.RuleFault.{RuleFault}
use Rattle.game_turns.specs.declared.faults.RuleFault.TheVariants as rule
use Rattle.engine_stages.specs.declared.verdicts.GameFault.{GameFault}
use Rattle.engine_stages.specs.declared.verdicts.GameFault.TheVariants as game
use Rattle.engine_faults.specs.declared.names.FaultName.{FaultName}
use Rattle.engine_faults.specs.declared.names.FaultName.TheVariants as fault
use Rattle.engine_faults.specs.Names.{name_text}
use Rattle.engine_faults.specs.declared.named.NamedFault.{NamedFault}

-- the name, and the number that was expected or the kind of tile that is short, after a space
abbrev pub text_with : (name : List ℕ) → (expected : Option ℤ) → (kind : Option Kind) → List ℕ
text_with name None None = name
text_with name (Some expected) kind = name ++ 32 ∷ signed_decimal expected
text_with name None (Some kind) = name ++ 32 ∷ kind_byte kind ∷ []

abbrev pub named_text : NamedFault → List ℕ
named_text named = text_with (name_text named.name) named.expected named.kind

-- a fault of this name, with nothing after it
abbrev pub bare : FaultName → NamedFault
bare name = record { name = name; expected = None; kind = None }

-- with the number that was expected
abbrev pub expecting : FaultName → ℤ → NamedFault
expecting name expected = record { name = name; expected = Some expected; kind = None }

-- with the kind of tile that is short
abbrev pub short_of : FaultName → Kind → NamedFault
short_of name kind = record { name = name; expected = None; kind = Some kind }

-- a fault of the rules by its name
abbrev pub named_rule : RuleFault → NamedFault
named_rule rule.NotYourTurn = bare fault.NotYourTurn
named_rule (rule.Play why) = bare (fault.Play why)
named_rule (rule.WrongScore expected) = expecting fault.WrongScore expected
named_rule (rule.WrongTotal expected) = expecting fault.WrongTotal expected
named_rule rule.NothingToWithdraw = bare fault.NothingToWithdraw
named_rule rule.WithdrawnValid = bare fault.WithdrawnValid
named_rule rule.BonusOnPhony = bare fault.BonusOnPhony
named_rule rule.BadBonus = bare fault.BadBonus
named_rule rule.ExchangeRefused = bare fault.ExchangeRefused
named_rule rule.ExchangeSize = bare fault.ExchangeSize
named_rule rule.GameOver = bare fault.GameOver
named_rule rule.NotOver = bare fault.NotOver
named_rule rule.LastRackSize = bare fault.LastRackSize
named_rule rule.BadTime = bare fault.BadTime
named_rule rule.TooManyUsed = bare fault.TooManyUsed

-- a fault of a game by its name
abbrev pub named_fault : GameFault → NamedFault
named_fault (game.Rule why) = named_rule why
named_fault game.RackTooBig = bare fault.RackTooBig
named_fault (game.TilesShort kind) = short_of fault.TilesShort kind
named_fault (game.NoDeal earlier) = bare fault.NoDeal
