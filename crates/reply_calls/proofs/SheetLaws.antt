-- What is found of sheets that are read.
use Rattle.std.proofs.Common.{◌≡◌, ℕ, List, [], ◌∷◌, ◌++◌, map, Result, Ok, Err, ap, refl, sym, subst}
use Rattle.gcg_read.specs.Records.{most_bytes}
use Rattle.io_devices.specs.Devices.{Device}
use Rattle.engine_stages.specs.declared.decisions.Decision.{Decision}
use Rattle.engine_stages.specs.declared.faults.RunFault.{RunFault}
use Rattle.engine_stages.specs.declared.faults.RunFault.TheVariants as run
use Rattle.engine_stages.specs.declared.verdicts.Verdict.{Verdict}
use Rattle.engine_stages.specs.declared.verdicts.Verdict.TheVariants as verdict
use Rattle.engine_stages.specs.Reporting.{IsLater}
use Rattle.engine_stages.specs.Runs.{Gives, outcomes}
use Rattle.engine_stages.specs.Sources.{game_source}
use Rattle.engine_stages.specs.Stages.{IsRead}
use Rattle.engine_stages.proofs.Giving.{gives_failed, gives_stopped, gives_last, gives_good}
use Rattle.reply_calls.specs.Found.{IsFoundOn, IsFoundAfter, IsFoundOnOne}
use Rattle.reply_calls.specs.Sheets.{sheet_sources}
use Rattle.reply_calls.specs.laws.Later.{later_as, still_sheets}

-- what a sheet gives: its bytes
abbrev AreItems : {B : Type 0} → (items : B → List ℕ) → List ℕ → B → Type 0
AreItems items text bytes = items bytes ≡ text

-- ---- all sheets are read

with_none : (before : List (List ℕ)) → before ++ [] ≡ before
with_none [] = refl
with_none (text ∷ texts) = ap (λ (more : List (List ℕ)). text ∷ more) (with_none texts)

pub replied : {A : Type 0} (IsReply : (texts : List (List ℕ)) → A → Type 0) (before : List (List ℕ)) (reply : A) → IsReply before reply → Gives outcomes [] (IsFoundAfter IsReply before) (Ok (Ok reply))
replied IsReply before reply is =
    record {
      answered = record {
        texts = [];
        given = tt;
        answer = (subst (λ (texts : List (List ℕ)). IsReply texts reply) (sym (with_none before)) is, record { verdict_is = refl; reported = refl });
      };
      worked = tt;
      gave_up = tt;
      within = tt;
      ended = tt;
    }

pub not_replied : {A : Type 0} (IsReply : (texts : List (List ℕ)) → A → Type 0) (before : List (List ℕ)) (fault : RunFault) → fault ≡ run.NoMemory
    → Gives outcomes [] (IsFoundAfter IsReply before) (Err fault)
not_replied IsReply before fault refused =
    subst (λ f. Gives outcomes [] (IsFoundAfter IsReply before) (Err f)) (sym refused) (record { answered = tt; worked = tt; gave_up = tt; within = tt; ended = tt })

-- ---- one more sheet is read

joined : {B : Type 0} (items : B → List ℕ) (before : List B) (bytes : B) (rest : List (List ℕ)) → map items (before ++ bytes ∷ []) ++ rest ≡ map items before ++ items bytes ∷ rest
joined items [] bytes rest = refl
joined items (one ∷ more) bytes rest = ap (λ (texts : List (List ℕ)). items one ∷ texts) (joined items more bytes rest)

is_done : {A : Type 0} (IsReply : (texts : List (List ℕ)) → A → Type 0) (found : Result A Decision) (texts : List (List ℕ)) (v : Verdict) (report : List ℕ) → IsFoundOn IsReply found texts v report
    → v ≡ verdict.Done
is_done IsReply (Ok reply) texts v report is = is.1.verdict_is
is_done IsReply (Err d) texts v report is = absurd is

done_is_not_bad : (v : Verdict) → v ≡ verdict.Done → v ≡ verdict.BadRecord → ⊥
done_is_not_bad v done bad = let both = subst (λ w. w ≡ verdict.BadRecord) done bad in cc

extends : {A B : Type 0} (items : B → List ℕ) (IsReply : (texts : List (List ℕ)) → A → Type 0) (before : List B) (bytes : B) (found : Result A Decision) (text : List ℕ) (rest : List (List ℕ)) (v : Verdict)
    (report : List ℕ) → items bytes ≡ text → IsFoundAfter IsReply (map items (before ++ bytes ∷ [])) found rest v report → IsFoundAfter IsReply (map items before) found (text ∷ rest) v report
extends items IsReply before bytes found text rest v report means is =
    let joint = subst (λ (texts : List (List ℕ)). IsFoundOn IsReply found texts v report) (joined items before bytes rest) is in
    subst (λ (t : List ℕ). IsFoundOn IsReply found (map items before ++ t ∷ rest) v report) means joint

pub one_more : {A B : Type 0} (items : B → List ℕ) (old new : Device) (olds news : List Device) (IsReply : (texts : List (List ℕ)) → A → Type 0) (before : List B) (bytes : B)
    (result : Result (Result A Decision) RunFault) → IsRead most_bytes old new (AreItems items) (Ok bytes)
    → Gives outcomes (sheet_sources olds news) (IsFoundAfter IsReply (map items (before ++ bytes ∷ []))) result
    → Gives outcomes (sheet_sources (old ∷ olds) (new ∷ news)) (IsFoundAfter IsReply (map items before)) result
one_more items old new olds news IsReply before bytes result read next =
    gives_good outcomes (game_source old new) (sheet_sources olds news) (AreItems items) (IsFoundAfter IsReply (map items (before ++ bytes ∷ []))) (IsFoundAfter IsReply (map items before)) bytes result
    read next
    (λ found text rest v report means is. extends items IsReply before bytes found text rest v report means is)
    (λ found rest v report is. done_is_not_bad v (is_done IsReply found (map items (before ++ bytes ∷ []) ++ rest) v report is))

-- there is no memory to keep it
pub no_memory : {A B : Type 0} (items : B → List ℕ) (old new : Device) (olds : List Device) (IsReply : (texts : List (List ℕ)) → A → Type 0) (before : List (List ℕ)) (bytes : B)
    → IsRead most_bytes old new (AreItems items) (Ok bytes) → Gives outcomes (sheet_sources (old ∷ olds) (new ∷ olds)) (IsFoundAfter IsReply before) (Err run.NoMemory)
no_memory items old new olds IsReply before bytes read =
    gives_stopped outcomes (game_source old new) (sheet_sources olds olds) (AreItems items) (IsFoundAfter IsReply before) bytes (Err run.NoMemory) read (still_sheets olds) refl

-- it is not read
pub no_sheet : {A B : Type 0} (items : B → List ℕ) (old new : Device) (olds : List Device) (IsReply : (texts : List (List ℕ)) → A → Type 0) (before : List (List ℕ)) (fault : RunFault)
    → IsRead most_bytes old new (AreItems items) (Err fault) → Gives outcomes (sheet_sources (old ∷ olds) (new ∷ olds)) (IsFoundAfter IsReply before) (Err fault)
no_sheet items old new olds IsReply before fault read =
    gives_failed outcomes (game_source old new) (sheet_sources olds olds) (AreItems items) (IsFoundAfter IsReply before) fault read (still_sheets olds)

-- ---- one sheet by rules alone

pub on_one : {A B : Type 0} (items : B → List ℕ) (old new : Device) (IsReply : (text : List ℕ) → A → Type 0) (bytes : B) (reply : A)
    → IsRead most_bytes old new (AreItems items) (Ok bytes) → IsReply (items bytes) reply → Gives outcomes (game_source old new ∷ []) (IsFoundOnOne IsReply) (Ok (Ok reply))
on_one items old new IsReply bytes reply read is =
    gives_last outcomes (game_source old new) (AreItems items) (IsFoundOnOne IsReply) bytes (Ok reply) read
    (λ text means. (subst (λ t. IsReply t reply) means is, record { verdict_is = refl; reported = refl }))

pub not_on_one : {A B : Type 0} (items : B → List ℕ) (old new : Device) (IsReply : (text : List ℕ) → A → Type 0) (bytes : B) (fault : RunFault)
    → IsRead most_bytes old new (AreItems items) (Ok bytes) → fault ≡ run.NoMemory → Gives outcomes (game_source old new ∷ []) (IsFoundOnOne IsReply) (Err fault)
not_on_one items old new IsReply bytes fault read refused =
    gives_stopped outcomes (game_source old new) [] (AreItems items) (IsFoundOnOne IsReply) bytes (Err fault) read tt refused

pub no_one : {A B : Type 0} (items : B → List ℕ) (old new : Device) (IsReply : (text : List ℕ) → A → Type 0) (fault : RunFault)
    → IsRead most_bytes old new (AreItems items) (Err fault) → Gives outcomes (game_source old new ∷ []) (IsFoundOnOne IsReply) (Err fault)
no_one items old new IsReply fault read = gives_failed outcomes (game_source old new) [] (AreItems items) (IsFoundOnOne IsReply) fault read tt

-- what is found of it does not say that an input that is read before it is bad
pub one_later : {A : Type 0} (IsReply : (text : List ℕ) → A → Type 0) (found : Result A Decision) (texts : List (List ℕ)) (v : Verdict) (report : List ℕ)
    → IsFoundOnOne IsReply found texts v report → IsLater v
one_later IsReply (Ok reply) [] v report is = absurd is
one_later IsReply (Ok reply) (text ∷ []) v report is = later_as v is.1.verdict_is
one_later IsReply (Ok reply) (text ∷ more ∷ rest) v report is = absurd is
one_later IsReply (Err d) texts v report is = absurd is
