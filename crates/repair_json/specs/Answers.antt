-- What repairs a record, as an object.
use Rattle.std.specs.Prelude.{ℕ, ◌==◌, List, [], ◌∷◌, ◌++◌, codes, length, map, slice_get, Option, Some, None, option_map, if◌then◌else◌}
use Rattle.std.specs.List.{filter_map}
use Rattle.std.specs.Option.{option_and_then}
use Rattle.json.specs.Json.{Json, boolean, null, string}
use Rattle.json_trees.specs.Values.{Field, array_of, count, field_if, object_of, or_null}
use Rattle.engine_stages.specs.declared.verdicts.Verdict.{Verdict}
use Rattle.gcg_read.specs.declared.events.Event.{Event}
use Rattle.gcg_read.specs.declared.records.Record.{Record}
use Rattle.gcg_drafts.specs.declared.missing.Missing.{Missing}
use Rattle.draft_numbers.specs.Counting.{count_written}
use Rattle.repair_single.specs.declared.repair.Repair.{Repair}
use Rattle.repair_pairs.specs.declared.chains.Chain.{Chain}
use Rattle.repair_pairs.specs.declared.found.Pair.{Pair}
use Rattle.repair_pairs.specs.declared.found.Pairs.{Pairs}
use Rattle.repair_answers.specs.declared.answers.Faulty.{Faulty}
use Rattle.repair_answers.specs.declared.answers.RepairAnswer.{RepairAnswer}
use Rattle.repair_answers.specs.declared.evidence.Reported.{Reported}
use Rattle.repair_answers.specs.declared.numbers_alone.NumbersAlone.{NumbersAlone}
use Rattle.gcg_unread.specs.declared.lines.UnreadLine.{UnreadLine}
use Rattle.json_base.specs.Values.{unread_value}
use Rattle.json_base.specs.Verdicts.{ending_value, fault_line_value, fault_value, verdict_word}
use Rattle.repair_json.specs.Chains.{chain_value}
use Rattle.repair_json.specs.Changes.{repair_object}
use Rattle.repair_json.specs.Evidence.{evidence_object}
use Rattle.repair_json.specs.Pairs.{pair_object}
use Rattle.repair_json.specs.Sheets.{sheet_object}

-- what stays wrong once the numbers alone are corrected, if the record is a game then or may be one
abbrev pub alone_object : (events : List Event) → (lacks : List Missing) → NumbersAlone → Json
alone_object events lacks alone = evidence_object alone.remains (count_written lacks (length events))

abbrev pub alone_value : (events : List Event) → (lacks : List Missing) → Option NumbersAlone → Json
alone_value events lacks alone = or_null (option_map (alone_object events lacks) alone)

-- whether a deal was found then
abbrev pub settled_value : Option NumbersAlone → Json
settled_value alone = or_null (option_map (λ it. boolean it.is_game) alone)

-- the repairs, one for each line that is told
abbrev pub reported_repair : Record → (lacks : List Missing) → List Repair → Reported → Option Json
reported_repair r lacks repairs reported =
    option_map (λ repair. repair_object r.players r.events lacks repairs repair reported.others.items) (slice_get repairs reported.first)

abbrev pub repairs_value : Record → (lacks : List Missing) → (repairs : List Repair) → (lines : List Reported) → Json
repairs_value r lacks repairs lines = array_of (filter_map (reported_repair r lacks repairs) lines)

-- the pairs, one for each line that is told
abbrev pub pair_with : Record → Pairs → (others : List ℕ) → Pair → Option Json
pair_with r pairs others pair = option_map (λ head. pair_object r pairs.reported.items head pair others) (slice_get pairs.heads.items pair.head)

abbrev pub reported_pair : Record → Pairs → Reported → Option Json
reported_pair r pairs reported = option_and_then (pair_with r pairs reported.others.items) (slice_get pairs.reported.items reported.first)

abbrev pub pairs_value : Record → Pairs → (lines : List Reported) → Json
pairs_value r pairs lines = array_of (filter_map (reported_pair r pairs) lines)

-- of a draft, whose lines lack these numbers, how many there are to go by
abbrev pub to_go_by : (lacks : List Missing) → Option Json
to_go_by lacks = if length lacks == 0 then None else Some (count (count_written lacks (length lacks)))

-- of an illegal record its verdict, whether its numbers alone may be wrong, the repairs, the pairs, the chain, how many changes are left open, how many were
-- tried and how many not, the slips of the whole sheet, and the lines that are not read; and of a draft how many numbers there are to go by
abbrev pub faulty_fields : Record → (lacks : List Missing) → Verdict → Faulty → Option Chain → List UnreadLine → List Field
faulty_fields r lacks v faulty chain unread =
    ((codes "verdict", string (verdict_word v))
    ∷ (codes "line", fault_line_value v)
    ∷ (codes "fault", fault_value v)
    ∷ (codes "ending", ending_value v)
    ∷ (codes "numbers_alone", alone_value r.events lacks faulty.alone)
    ∷ (codes "repairs", repairs_value r lacks faulty.found.reported.items faulty.lines.items)
    ∷ (codes "pairs", pairs_value r faulty.pairs faulty.pair_lines.items)
    ∷ (codes "chain", chain_value r chain)
    ∷ (codes "left", count (length faulty.found.remaining.items))
    ∷ (codes "tried", count faulty.tried)
    ∷ (codes "untried", count faulty.untried)
    ∷ (codes "numbers_alone_settled", settled_value faulty.alone)
    ∷ (codes "sheet_slips", array_of (map (sheet_object r.players) faulty.sheets.items))
    ∷ (codes "unread_lines", unread_value unread)
    ∷ []) ++ field_if (codes "to_go_by") (to_go_by lacks)

-- of any other record no repairs, and null for what is not said of it
abbrev pub sound_fields : (lacks : List Missing) → Verdict → List UnreadLine → List Field
sound_fields lacks v unread =
    ((codes "verdict", string (verdict_word v))
    ∷ (codes "line", fault_line_value v)
    ∷ (codes "fault", fault_value v)
    ∷ (codes "ending", ending_value v)
    ∷ (codes "numbers_alone", null)
    ∷ (codes "repairs", array_of [])
    ∷ (codes "pairs", array_of [])
    ∷ (codes "chain", null)
    ∷ (codes "left", null)
    ∷ (codes "tried", null)
    ∷ (codes "untried", null)
    ∷ (codes "numbers_alone_settled", null)
    ∷ (codes "sheet_slips", array_of [])
    ∷ (codes "unread_lines", unread_value unread)
    ∷ []) ++ field_if (codes "to_go_by") (to_go_by lacks)

abbrev pub repairs_object : Record → (lacks : List Missing) → Verdict → Option Faulty → Option Chain → List UnreadLine → Json
repairs_object r lacks v None chain unread = object_of (sound_fields lacks v unread)
repairs_object r lacks v (Some faulty) chain unread = object_of (faulty_fields r lacks v faulty chain unread)

-- of a record nothing is missing
abbrev pub answer_object : Record → (lacks : List Missing) → RepairAnswer → List UnreadLine → Json
answer_object r lacks answer unread = repairs_object r lacks answer.verdict answer.faulty answer.chain unread
