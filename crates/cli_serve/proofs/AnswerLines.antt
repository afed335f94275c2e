-- The lines of answers.
use Rattle.std.proofs.Common.{◌≡◌, ◌≤◌, ◌++◌, inl, inr, ℕ, Bool, false, IsTrue, IsUtf8, List, [], codes, Option, Some, None, Result, Ok, Err, OnOk, sym, subst, ◌∙◌}
use Rattle.page_answers.specs.declared.makers.Maker.{Maker}
use Rattle.ref_tiles.specs.declared.rulebook.Rules.{Rules}
use Rattle.serde_json.specs.Data.{Data, depth}
use Rattle.serde_json.specs.Read.{read, max_depth}
use Rattle.serde_json.specs.Written.{has_float, compact_text}
use Rattle.game_exits.specs.declared.exits.Exit.{Exit}
use Rattle.game_exits.specs.Exits.{status_of}
use Rattle.json.specs.Json.{Json}
use Rattle.cli_serve.specs.AnswerLines.{answer_line, no_memory_line, refused_line, IsAnswerLine, IsIdText, IsLineBy, IsLineOf, IsLineOfText, IsRefusedLine, IsRefusedWith}
use Rattle.cli_serve.specs.Responses.{IsAnswerTo}
use Rattle.reply_requests.specs.declared.refusals.Refusal.{Refusal}
use Rattle.reply_requests.specs.declared.requests.Request.{Request}
use Rattle.reply_requests.specs.Asked.{IsRequestIn}
use Rattle.reply_requests.specs.Reasons.{IsReason, IsReasonOfId}
use Rattle.reply_requests.specs.Said.{value_at}

-- the line of an answer, and one that says why a line is not a request
pub reported : {E : Type 0} (maker : Maker) (rules : Rules) (list : List (List ℕ)) (asked : Request) (exit : Exit) (object : Option Json) (said : Option (List ℕ)) (id old new : List ℕ) (result : Result Unit E)
    → IsAnswerTo maker rules list asked exit object said → OnOk result (new ≡ old ++ answer_line id (status_of exit) object said) → OnOk result (IsAnswerLine maker rules list asked id old new)
reported maker rules list asked exit object said id old new (Ok done) is line = record { exit = exit; object = object; said = said; answer = is; line = line }
reported maker rules list asked exit object said id old new (Err why) is line = tt

pub refused_with : {E : Type 0} (id error old new : List ℕ) (result : Result Unit E) → OnOk result (new ≡ old ++ refused_line id error) → OnOk result (IsRefusedWith id old new)
refused_with id error old new (Ok done) line = record { error = error; line = line }
refused_with id error old new (Err why) line = tt

pub refused_by : {E : Type 0} (id old new : List ℕ) (result : Result Unit E) → OnOk result (IsRefusedWith id old new) → OnOk result (IsRefusedLine old new)
refused_by id old new (Ok done) is = record { id = id; refused = is }
refused_by id old new (Err why) is = tt

pub answered : {E : Type 0} (maker : Maker) (rules : Rules) (list : List (List ℕ)) (d : Data) (asked : Request) (id old new : List ℕ) (result : Result Unit E) → IsIdText (value_at (codes "id") d) id
    → IsRequestIn d asked → OnOk result (IsAnswerLine maker rules list asked id old new) → OnOk result (IsLineOf maker rules list d old new)
answered maker rules list d asked id old new (Ok done) is request line = inl (record { id = id; id_is = is; asked = asked; request = request; answered = line })
answered maker rules list d asked id old new (Err why) is request line = tt

pub refused : {E : Type 0} (maker : Maker) (rules : Rules) (list : List (List ℕ)) (d : Data) (why : Refusal) (old new : List ℕ) (result : Result Unit E) → IsReason d why
    → OnOk result (IsRefusedLine old new) → OnOk result (IsLineOf maker rules list d old new)
refused maker rules list d why old new (Ok done) reason line = inr (inr (record { why = why; reason = inl reason; refused = line }))
refused maker rules list d why old new (Err error) reason line = tt

pub no_memory : {E : Type 0} (maker : Maker) (rules : Rules) (list : List (List ℕ)) (d : Data) (id old new : List ℕ) (result : Result Unit E) → IsIdText (value_at (codes "id") d) id
    → OnOk result (new ≡ old ++ no_memory_line id) → OnOk result (IsLineOf maker rules list d old new)
no_memory maker rules list d id old new (Ok done) is line = inr (inl (record { id = id; id_is = is; line = line }))
no_memory maker rules list d id old new (Err error) is line = tt

pub id_refused : {E : Type 0} (maker : Maker) (rules : Rules) (list : List (List ℕ)) (d : Data) (why : Refusal) (id old new : List ℕ) (result : Result Unit E) → IsReasonOfId d why
    → OnOk result (IsRefusedWith id old new) → OnOk result (IsLineOf maker rules list d old new)
id_refused maker rules list d why id old new (Ok done) reason line = inr (inr (record { why = why; reason = inr reason; refused = record { id = id; refused = line } }))
id_refused maker rules list d why id old new (Err error) reason line = tt

pub with_id : (o : Option Data) (v : Data) (id : List ℕ) → Some v ≡ o → (has_float v ≡ false → id ≡ compact_text v) → (depth v ≤ max_depth → read id ≡ Some v) → IsIdText o id
with_id o v id is text back = subst (λ (x : Option Data). IsIdText x id) is (text, back)

pub without_id : (o : Option Data) (id : List ℕ) → None ≡ o → id ≡ codes "null" → IsIdText o id
without_id o id is null = subst (λ (x : Option Data). IsIdText x id) is null

pub of_text : {E : Type 0} (maker : Maker) (rules : Rules) (list : List (List ℕ)) (d : Data) (o : Option Data) (new : List ℕ) (result : Result Unit E) → o ≡ Some d → OnOk result (IsLineOf maker rules list d [] new)
    → OnOk result (IsLineBy maker rules list o new)
of_text maker rules list d o new result is line = subst (λ (x : Option Data). OnOk result (IsLineBy maker rules list x new)) (sym is) line

pub no_text : {E : Type 0} (maker : Maker) (rules : Rules) (list : List (List ℕ)) (o : Option Data) (id new : List ℕ) (result : Result Unit E) → o ≡ None
    → OnOk result (IsRefusedWith id [] new) → OnOk result (IsLineBy maker rules list o new)
no_text maker rules list o id new (Ok done) is line = subst (λ (x : Option Data). IsLineBy maker rules list x new) (sym is) (record { id = id; refused = line })
no_text maker rules list o id new (Err error) is line = tt

-- a line that says that a line is not a request, where nothing was written before it
pub refused_first : {E : Type 0} (id old new : List ℕ) (result : Result Unit E) → old ≡ [] → OnOk result (IsRefusedWith id old new) → OnOk result (IsRefusedWith id [] new)
refused_first id old new result empty line = subst (λ (o : List ℕ). OnOk result (IsRefusedWith id o new)) empty line

pub id_refused_first : {E : Type 0} (maker : Maker) (rules : Rules) (list : List (List ℕ)) (d : Data) (why : Refusal) (id old new : List ℕ) (result : Result Unit E) → old ≡ [] → IsReasonOfId d why
    → OnOk result (IsRefusedWith id old new) → OnOk result (IsLineOf maker rules list d [] new)
id_refused_first maker rules list d why id old new result empty reason line = id_refused maker rules list d why id [] new result reason (refused_first id old new result empty line)

not_true : (b : Bool) → b ≡ false → IsTrue b → ⊥
not_true b e holds =
    let both = sym e ∙ holds in
    absurd cc

-- a text that is no object, for another reason than that memory was refused
pub not_json : {E : Type 0} (Memory : Type 0) (maker : Maker) (rules : Rules) (list : List (List ℕ)) (text : List ℕ) (b : Bool) (id old new : List ℕ) (result : Result Unit E) → b ≡ false
    → (Memory → IsTrue b) → ((Memory → ⊥) → IsUtf8 text → read text ≡ None) → old ≡ [] → OnOk result (IsRefusedWith id old new)
    → OnOk result (IsLineOfText maker rules list text new)
not_json Memory maker rules list text b id old new (Ok done) none test fails empty line =
    λ utf8.
    subst (λ (x : Option Data). IsLineBy maker rules list x new) (sym (fails (λ memory. not_true b none (test memory)) utf8))
    (record { id = id; refused = subst (λ (o : List ℕ). IsRefusedWith id o new) empty line })
not_json Memory maker rules list text b id old new (Err error) none test fails empty line = tt
