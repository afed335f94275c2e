-- The bytes of a report.
use Rattle.std.specs.Prelude.{ℕ, ◌==◌, Bool, true, false, List, [], ◌∷◌, ◌++◌, codes, decimal, if◌then◌else◌, map}
use Rattle.std.specs.Fmt.{signed_decimal}
use Rattle.ref_tiles.specs.Kinds.{kind_byte}
use Rattle.ref_tiles.specs.declared.rules_faults.RulesFault.{RulesFault}
use Rattle.ref_tiles.specs.RulesFaults as stating
use Rattle.ref_play.specs.Faults as play
use Rattle.gcg_read.specs.declared.faults.ReadFault.{ReadFault}
use Rattle.lex_list.specs.declared.faults.ListFault.{ListFault}
use Rattle.lex_list.specs.Faults as listing
use Rattle.lex_file.specs.Faults as file
use Rattle.lex_check.specs.Checks.{symbol_of}
use Rattle.gcg_read.specs.Faults as read
use Rattle.game_turns.specs.declared.faults.RuleFault.{RuleFault}
use Rattle.game_turns.specs.declared.faults.RuleFault.TheVariants as rule
use Rattle.engine_stages.specs.declared.lexicons.LexiconFault.{LexiconFault}
use Rattle.engine_stages.specs.declared.lexicons.LexiconFault.TheVariants as lexicon
use Rattle.engine_stages.specs.declared.verdicts.GameFault.{GameFault}
use Rattle.engine_stages.specs.declared.verdicts.GameFault.TheVariants as game

-- the name of a fault of the rules, and the number that was expected
abbrev pub rule_text : RuleFault → List ℕ
rule_text rule.NotYourTurn = codes "NotYourTurn"
rule_text (rule.Play why) = play.name_of why
rule_text (rule.WrongScore expected) = codes "WrongScore " ++ signed_decimal expected
rule_text (rule.WrongTotal expected) = codes "WrongTotal " ++ signed_decimal expected
rule_text rule.NothingToWithdraw = codes "NothingToWithdraw"
rule_text rule.WithdrawnValid = codes "WithdrawnValid"
rule_text rule.BonusOnPhony = codes "BonusOnPhony"
rule_text rule.BadBonus = codes "BadBonus"
rule_text rule.ExchangeRefused = codes "ExchangeRefused"
rule_text rule.ExchangeSize = codes "ExchangeSize"
rule_text rule.GameOver = codes "GameOver"
rule_text rule.NotOver = codes "NotOver"
rule_text rule.LastRackSize = codes "LastRackSize"
rule_text rule.BadTime = codes "BadTime"
rule_text rule.TooManyUsed = codes "TooManyUsed"

abbrev pub fault_text : GameFault → List ℕ
fault_text (game.Rule why) = rule_text why
fault_text game.RackTooBig = codes "RackTooBig"
fault_text (game.TilesShort k) = codes "TilesShort " ++ kind_byte k ∷ []
fault_text (game.NoDeal earlier) = codes "NoDeal"

-- the line of a fault, missing if it is 0
abbrev pub line_text : ℕ → List ℕ
line_text line = if line == 0 then [] else codes " line " ++ decimal line

unfoldable pub illegal_line : ℕ → GameFault → List ℕ
illegal_line line fault = codes "illegal line " ++ decimal line ++ codes ": " ++ fault_text fault ++ 10 ∷ []

-- the line for a game for which no deal was found
unfoldable pub unsettled_line : List ℕ
unsettled_line = codes "unsettled\n"

unfoldable pub bad_record_line : ReadFault → List ℕ
bad_record_line fault = codes "bad record" ++ line_text fault.line ++ codes ": " ++ read.name_of fault.why ++ 10 ∷ []

unfoldable pub bad_rules_line : RulesFault → List ℕ
bad_rules_line fault = codes "bad rules" ++ line_text fault.line ++ codes ": " ++ stating.name_of fault.why ++ 10 ∷ []

unfoldable pub bad_list_line : ListFault → List ℕ
bad_list_line fault = codes "bad word list" ++ line_text fault.line ++ codes ": " ++ listing.name_of fault.why ++ 10 ∷ []

-- the name of a fault of a lexicon, and the path of a difference
abbrev pub lexicon_text : LexiconFault → List ℕ
lexicon_text (lexicon.Form first) = file.name_of first
lexicon_text (lexicon.Missing path) = codes "Missing " ++ map symbol_of path.items
lexicon_text (lexicon.Extra path) = codes "Extra " ++ map symbol_of path.items
lexicon_text lexicon.WordCount = codes "WordCount"

unfoldable pub bad_file_line : LexiconFault → List ℕ
bad_file_line fault = codes "bad lexicon: " ++ lexicon_text fault ++ 10 ∷ []

-- the line that says that the file to be made would have more arcs, or words, than its format can number
unfoldable pub too_many_arcs_line : List ℕ
too_many_arcs_line = codes "bad lexicon: TooManyArcs\n"

-- the line that says that the bytes are not a rack
unfoldable pub bad_rack_line : List ℕ
bad_rack_line = codes "bad rack\n"

-- the line that says that no event is on the given line or after it
unfoldable pub bad_line_line : List ℕ
bad_line_line = codes "bad line: no event is on it or after it\n"

-- the line that gives the number of the words
unfoldable pub ok_line : ℕ → List ℕ
ok_line words = codes "ok " ++ decimal words ++ 10 ∷ []

abbrev pub legal_line : Bool → List ℕ
legal_line true = codes "legal complete\n"
legal_line false = codes "legal unfinished\n"
