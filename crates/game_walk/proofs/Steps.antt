-- A walk, place by place.
use Rattle.std.proofs.Common.{◌≡◌, ℕ, ◌+◌, ◌<◌, List, [], ◌∷◌, ◌++◌, length, get_or, slice_get, Option, Some, None, refl, sym, ap, ◌∙◌, subst, arith}
use Rattle.std.specs.List.{list_all}
use Rattle.std.proofs.lemmas.Option.{slice_get_read}
use Rattle.first_faults.proofs.CheckLaws.{some_fault}
use Rattle.ref_tiles.specs.declared.rulebook.Rules.{Rules}
use Rattle.lex_list.specs.Words.{is_listed}
use Rattle.gcg_read.specs.declared.events.Event.{Event}
use Rattle.game_turns.specs.declared.faults.RuleFault.{RuleFault}
use Rattle.game_turns.specs.declared.machine.Machine.{Machine}
use Rattle.game_turns.specs.Laws.{NextTallyIsAfter}
use Rattle.game_turns.specs.Machines.{rules_of, state_of}
use Rattle.game_turns.specs.Tallies.{State, tally_at}
use Rattle.game_turns.specs.LatestEvents.{standing_words}
use Rattle.game_turns.specs.Places.{fault_of_event, fault_at, AreAllowed, IsFirstRefusal}
use Rattle.game_corrections.specs.Corrections.{AreRenumbered, KeepPoints, IsRemaining, StopsAt}
use Rattle.game_corrections.specs.Mending.{IsMendedAt, state_after}
use Rattle.game_corrections.proofs.Fronts.{all_through}
use Rattle.game_corrections.proofs.Mends.{points_through}
use Rattle.game_corrections.proofs.Sheets.{IsUpTo, at_start, before_kept, fault_mended, one_more, state_more, some_event, numbers_there, none_remaining, whole}
use Rattle.game_walk.specs.declared.refusals.Refusal.{Refusal}
use Rattle.game_walk.specs.declared.refusals.Stop.{Stop}
use Rattle.game_walk.specs.declared.rows.Row.{Row}
use Rattle.game_walk.specs.declared.walking.Walk.{Walk}
use Rattle.game_walk.specs.Numbers.{numbers_in}
use Rattle.game_walk.specs.Refusals.{first_refusal, IsReportedRefusal, StopsThere, EndsAt}
use Rattle.game_walk.specs.Rows.{IsRowAt, AreRowsTo}
use Rattle.game_walk.specs.Taking.{LeavesIt}
use Rattle.game_walk.specs.Walks.{IsWalk}
use Rattle.game_walk.proofs.RowLaws.{no_rows, rows_more, rows_kept}

-- ---- the first refusal so far

-- the first event that is refused as it is written; if there was none, the events are still as they are written
abbrev pub IsReportedSoFar : Rules → (list : List (List ℕ)) → (written events : List Event) → Option Refusal → Type 0
IsReportedSoFar rules list written events None = events ≡ written
IsReportedSoFar rules list written events (Some refusal) = IsFirstRefusal rules list written refusal.line refusal.why

-- what is said about one more event
reported_more : (rules : Rules) (list : List (List ℕ)) (written a b : List Event) (place : ℕ) (e : Event) (earlier : Option Refusal) (why : Option RuleFault)
    → IsUpTo rules list written a place → IsMendedAt a b place → slice_get b place ≡ Some e → IsReportedSoFar rules list written a earlier
    → fault_at rules list a place ≡ why → (why ≡ None → b ≡ a) → place < length written → IsReportedSoFar rules list written b (first_refusal earlier e.line why)
reported_more rules list written a b place e (Some refusal) why up is stands so_far reported same within = so_far
reported_more rules list written a b place e None None up is stands so_far reported same within = same refl ∙ so_far
reported_more rules list written a b place e None (Some why) up is stands so_far reported same within =
    let own = some_event written place within in
    let stood : slice_get a place ≡ Some own.event = ap (λ es. slice_get es place) so_far ∙ own.stands in
    record {
      place = place;
      event = own.event;
      stands = own.stands;
      on_line = sym (is.renumbered.each place own.event e stood stands).line;
      fails = ap (λ es. fault_at rules list es place) (sym so_far) ∙ reported;
      earlier = λ k below. ap (λ es. fault_at rules list es k) (sym so_far) ∙ up.allowed k below;
    }

-- ---- a walk under way

-- The events before a place were taken: each has its right numbers, and there is a row for each.
pub record IsUnderWay (rules : Rules) (list : List (List ℕ)) (written events : List Event) (place : ℕ) (machine : Machine) (rows : List Row) (refused : Option Refusal) : Type 0 where
  pub by : rules_of machine ≡ rules
  pub state : state_of machine ≡ tally_at rules events place
  pub up : IsUpTo rules list written events place
  pub kept : AreRowsTo rules list written events place rows
  pub so_far : IsReportedSoFar rules list written events refused
  pub points : KeepPoints written events

-- the outcome of the event at the place
pub record IsTakenAt (list : List (List ℕ)) (a b : List Event) (place : ℕ) (old new : Machine) (as_written remaining : Option RuleFault) : Type 0 where
  pub mended : IsMendedAt a b place
  pub points : KeepPoints a b
  pub fails : as_written ≡ fault_of_event (rules_of old) list (state_of old) (slice_get a place)
  pub same : as_written ≡ None → b ≡ a
  pub reported : remaining ≡ fault_of_event (rules_of old) list (state_of old) (slice_get b place)
  pub leaves : LeavesIt (rules_of old) list (state_of old) a b place remaining
  pub state : remaining ≡ None → state_of new ≡ state_after (rules_of old) (state_of old) b place
  pub rules : rules_of new ≡ rules_of old

-- the fault of the event as it is written
fault_before : (rules own : Rules) (list : List (List ℕ)) (a : List Event) (place : ℕ) (s : State) (o : Option RuleFault) → own ≡ rules → s ≡ tally_at rules a place
    → o ≡ fault_of_event own list s (slice_get a place) → fault_at rules list a place ≡ o
unfolding fault_at
fault_before rules own list a place s o same_rules same_state reported =
    ap (λ t. fault_of_event rules list t (slice_get a place)) (sym same_state) ∙ ap (λ r. fault_of_event r list s (slice_get a place)) (sym same_rules) ∙ sym reported

refused_now : (rules : Rules) (list : List (List ℕ)) (written a b : List Event) (place : ℕ) (old new : Machine) (rows : List Row) (refused : Option Refusal) (as_written remaining : Option RuleFault) (e : Event)
    → IsUnderWay rules list written a place old rows refused → IsTakenAt list a b place old new as_written remaining → place < length written → slice_get b place ≡ Some e
    → IsReportedSoFar rules list written b (first_refusal refused e.line as_written)
refused_now rules list written a b place old new rows refused as_written remaining e under taken within stands =
    reported_more rules list written a b place e refused as_written under.up taken.mended stands under.so_far
    (fault_before rules (rules_of old) list a place (state_of old) as_written under.by under.state taken.fails) taken.same within

-- ---- one more event

-- the row of the event at a place, by the machine that took it
pub record IsRowBy (list : List (List ℕ)) (own event : Event) (machine : Machine) (row : Row) : Type 0 where
  pub written : row.written ≡ numbers_in own
  pub right : row.right ≡ numbers_in event
  pub by : rules_of row.following ≡ rules_of machine
  pub following : state_of row.following ≡ state_of machine
  pub listed : row.listed ≡ list_all (is_listed list) (standing_words (state_of machine).latest)

row_there : (rules : Rules) (list : List (List ℕ)) (written b : List Event) (place : ℕ) (own e : Event) (machine : Machine) (row : Row) → slice_get written place ≡ Some own
    → slice_get b place ≡ Some e → rules_of machine ≡ rules → state_of machine ≡ tally_at rules b (place + 1) → IsRowBy list own e machine row → IsRowAt rules list written b place row
row_there rules list written b place own e machine row stood stands by state is =
    record {
      own = own;
      event = e;
      stood = stood;
      stands = stands;
      own_numbers = is.written;
      right_numbers = is.right;
      by = is.by ∙ by;
      following = is.following ∙ state;
      listed = is.listed ∙ ap (λ (s : State). list_all (is_listed list) (standing_words s.latest)) state;
    }

pub step_more : NextTallyIsAfter → (rules : Rules) (list : List (List ℕ)) (written a b : List Event) (place : ℕ) (old new : Machine) (rows more : List Row) (refused : Option Refusal)
    (next : Option Refusal) (as_written remaining : Option RuleFault) (own e : Event) (row : Row)
    → IsUnderWay rules list written a place old rows refused → IsTakenAt list a b place old new as_written remaining → remaining ≡ None → place < length written
    → slice_get a place ≡ Some own → slice_get b place ≡ Some e → IsRowBy list own e new row → more ≡ rows ++ row ∷ [] → next ≡ first_refusal refused e.line as_written
    → IsUnderWay rules list written b (place + 1) new more next
step_more law rules list written a b place old new rows more refused next as_written remaining own e row under taken none within stood stands is pushed first =
    let allowed : fault_at rules list b place ≡ None =
    fault_mended rules (rules_of old) list a b place (state_of old) None taken.mended under.by under.state (sym none ∙ taken.reported) in
    let by = taken.rules ∙ under.by in
    let state = state_more law rules (rules_of old) list written a b place (state_of old) (state_of new) e under.up taken.mended stands allowed under.by under.state (taken.state none) in
    record {
      by = by;
      state = state;
      up = one_more rules list written a b place under.up taken.mended allowed;
      kept = rows_more rules list written a b place rows more row under.kept taken.mended
          (row_there rules list written b place own e new row (sym (under.up.untouched place (omega arith)) ∙ stood) stands by state is) pushed;
      so_far = subst (IsReportedSoFar rules list written b) (sym first) (refused_now rules list written a b place old new rows refused as_written remaining e under taken within stands);
      points = points_through written a b under.points taken.points;
    }

-- ---- where the walk ends

pub at_first : (rules : Rules) (list : List (List ℕ)) (events : List Event) (machine : Machine) → rules_of machine ≡ rules → state_of machine ≡ tally_at rules events 0 → KeepPoints events events
    → IsUnderWay rules list events events 0 machine [] None
at_first rules list events machine by state points =
    record { by = by; state = state; up = at_start rules list events; kept = no_rows rules list events; so_far = refl; points = points }

-- the start of the game, whatever its events are
pub record IsStart (rules : Rules) (start : Machine) : Type 0 where
  pub by : rules_of start ≡ rules
  pub state : (events : List Event) → state_of start ≡ tally_at rules events 0

some_refusal : (refusal : Refusal) → Some refusal ≡ None → ⊥
some_refusal refusal none = cc

reported_at_end : (rules : Rules) (list : List (List ℕ)) (written events : List Event) (refused : Option Refusal) → IsReportedSoFar rules list written events refused
    → AreAllowed rules list events → IsReportedRefusal rules list written refused
reported_at_end rules list written events None so_far allowed = subst (λ es. AreAllowed rules list es) so_far allowed
reported_at_end rules list written events (Some refusal) so_far allowed = so_far

unchanged_so_far : (rules : Rules) (list : List (List ℕ)) (written events : List Event) (refused : Option Refusal) → IsReportedSoFar rules list written events refused → refused ≡ None → events ≡ written
unchanged_so_far rules list written events None so_far none = so_far
unchanged_so_far rules list written events (Some refusal) so_far none = absurd (some_refusal refusal none)

pub walked_through : (rules : Rules) (list : List (List ℕ)) (written events : List Event) (end : ℕ) (machine : Machine) (refused : Option Refusal) (walk : Walk)
    → IsStart rules walk.start → IsUnderWay rules list written events end machine walk.rows.items refused → end ≡ length written → walk.refused ≡ refused → walk.stopped ≡ None
    → IsWalk rules list written events walk
walked_through rules list written events end machine refused walk start under all same none =
    let right = whole rules list written events end under.up all in
    record {
      end = end;
      allowed = under.up.allowed;
      by = start.by;
      start = start.state events;
      rows = under.kept;
      refused = subst (IsReportedRefusal rules list written) (sym same) (reported_at_end rules list written events refused under.so_far right.allowed);
      ends = subst (EndsAt rules list written events end) (sym none) (all, right);
      unchanged = λ unrefused. (unchanged_so_far rules list written events refused under.so_far (sym same ∙ unrefused), none);
    }

-- an event that is refused whatever its numbers are is refused as it is written
reported_at_stop : (rules : Rules) (list : List (List ℕ)) (written a b : List Event) (place : ℕ) (refused : Option Refusal) (as_written : Option RuleFault) (line : ℕ) (why : RuleFault)
    → (as_written ≡ None → b ≡ a) → fault_at rules list a place ≡ as_written → fault_at rules list b place ≡ Some why
    → IsReportedSoFar rules list written b (first_refusal refused line as_written) → IsReportedRefusal rules list written (first_refusal refused line as_written)
reported_at_stop rules list written a b place (Some refusal) as_written line why same before following so_far = so_far
reported_at_stop rules list written a b place None (Some f) line why same before following so_far = so_far
reported_at_stop rules list written a b place None None line why same before following so_far =
    absurd (some_fault why (sym following ∙ ap (λ es. fault_at rules list es place) (same refl) ∙ before))

refused_at_stop : (rules : Rules) (list : List (List ℕ)) (a b : List Event) (place : ℕ) (refused : Option Refusal) (as_written : Option RuleFault) (line : ℕ) (why : RuleFault)
    → (as_written ≡ None → b ≡ a) → fault_at rules list a place ≡ as_written → fault_at rules list b place ≡ Some why → first_refusal refused line as_written ≡ None → ⊥
refused_at_stop rules list a b place (Some refusal) as_written line why same before following none = some_refusal refusal none
refused_at_stop rules list a b place None (Some f) line why same before following none = cc
refused_at_stop rules list a b place None None line why same before following none =
    some_fault why (sym following ∙ ap (λ es. fault_at rules list es place) (same refl) ∙ before)

stop_there : (rules : Rules) (list : List (List ℕ)) (written a b : List Event) (place : ℕ) (old new : Machine) (as_written : Option RuleFault) (why : RuleFault) (own e : Event) (stop : Stop)
    → rules_of old ≡ rules → state_of old ≡ tally_at rules a place → IsUpTo rules list written a place → IsTakenAt list a b place old new as_written (Some why)
    → slice_get a place ≡ Some own → slice_get b place ≡ Some e → fault_at rules list b place ≡ Some why
    → stop.refusal.line ≡ e.line → stop.refusal.why ≡ why → stop.numbers ≡ numbers_in e → StopsThere rules list written b place stop
stop_there rules list written a b place old new as_written why own e stop by state up taken stood stands fails line same numbers =
    let is = taken.mended in
    let at : StopsAt rules list written b stop.refusal.line stop.refusal.why =
    record {
      place = place;
      event = e;
      own = own;
      stands = stands;
      stood = sym (up.untouched place (omega arith)) ∙ stood;
      on_line = sym line;
      fails = fails ∙ ap Some (sym same);
      remaining = subst IsRemaining (sym same) taken.leaves.0;
      numbers = numbers_there rules (rules_of old) list a b place (state_of old) own e is by state taken.leaves.1 stood stands;
      before = record {
        renumbered = all_through written a b up.renumbered is.renumbered;
        allowed = before_kept rules list written a b place up is;
        following = λ k following. is.others k (λ same_place. absurd (omega (arith, same_place))) ∙ up.untouched k (omega arith);
      };
    } in
    record {
      stops = at;
      there = refl;
      numbers = numbers;
      none = λ other points correction. none_remaining rules list written b stop.refusal.line stop.refusal.why at other points correction;
    }

pub walk_stopped : (rules : Rules) (list : List (List ℕ)) (written a b : List Event) (place : ℕ) (old new : Machine) (refused : Option Refusal) (as_written remaining : Option RuleFault) (why : RuleFault)
    (own e : Event) (stop : Stop) (walk : Walk)
    → IsStart rules walk.start → IsUnderWay rules list written a place old walk.rows.items refused → IsTakenAt list a b place old new as_written remaining → remaining ≡ Some why → place < length written
    → slice_get a place ≡ Some own → slice_get b place ≡ Some e
    → stop.refusal.line ≡ e.line → stop.refusal.why ≡ why → stop.numbers ≡ numbers_in e
    → walk.refused ≡ first_refusal refused e.line as_written → walk.stopped ≡ Some stop
    → IsWalk rules list written b walk
walk_stopped rules list written a b place old new refused as_written remaining why own e stop walk start under taken_remaining some within stood stands line same numbers first stopped =
    let taken : IsTakenAt list a b place old new as_written (Some why) = subst (IsTakenAt list a b place old new as_written) some taken_remaining in
    let fails = fault_mended rules (rules_of old) list a b place (state_of old) (Some why) taken.mended under.by under.state taken.reported in
    record {
      end = place;
      allowed = before_kept rules list written a b place under.up taken.mended;
      by = start.by;
      start = start.state b;
      rows = rows_kept rules list written a b place walk.rows.items under.kept taken.mended;
      refused =
          subst (IsReportedRefusal rules list written) (sym first)
          (reported_at_stop rules list written a b place refused as_written e.line why taken.same
          (fault_before rules (rules_of old) list a place (state_of old) as_written under.by under.state taken.fails) fails
          (refused_now rules list written a b place old new walk.rows.items refused as_written (Some why) e under taken within stands));
      ends = subst (EndsAt rules list written b place) (sym stopped)
          (stop_there rules list written a b place old new as_written why own e stop under.by under.state under.up taken stood stands fails line same numbers);
      unchanged = λ unrefused.
          absurd (refused_at_stop rules list a b place refused as_written e.line why taken.same
          (fault_before rules (rules_of old) list a place (state_of old) as_written under.by under.state taken.fails) fails (sym first ∙ unrefused));
    }

-- the events of a walk are the same with other numbers
ends_renumbered : (rules : Rules) (list : List (List ℕ)) (written right : List Event) (end : ℕ) (stopped : Option Stop) → EndsAt rules list written right end stopped → AreRenumbered written right
ends_renumbered rules list written right end None ends = ends.1.renumbered
ends_renumbered rules list written right end (Some stop) ends = ends.stops.before.renumbered

pub walk_renumbered : (rules : Rules) (list : List (List ℕ)) (written right : List Event) (walk : Walk) → IsWalk rules list written right walk → AreRenumbered written right
walk_renumbered rules list written right walk is = ends_renumbered rules list written right is.end walk.stopped is.ends

-- ---- what is read from the events

pub first_item : (events items : List Event) (place : ℕ) (e : Event) → place < length events → items ≡ events → e ≡ get_or items place e → slice_get events place ≡ Some e
first_item events items place e within same read = slice_get_read events (length events) place e refl within (read ∙ ap (λ es. get_or es place e) same)

-- an event of a walk under way
pub record IsOwn (events : List Event) (place : ℕ) : Type 0 where
  pub event : Event
  pub stands : slice_get events place ≡ Some event

pub own_there : (rules : Rules) (list : List (List ℕ)) (written a : List Event) (place : ℕ) (machine : Machine) (rows : List Row) (refused : Option Refusal)
    → IsUnderWay rules list written a place machine rows refused → place < length written → IsOwn a place
own_there rules list written a place machine rows refused under within =
    let own = some_event a place (subst (λ n. place < n) (sym under.up.renumbered.as_many) within) in
    record { event = own.event; stands = own.stands }

pub item_there : (rules : Rules) (list : List (List ℕ)) (written a b items : List Event) (place : ℕ) (machine : Machine) (rows : List Row) (refused : Option Refusal) (e : Event)
    → IsUnderWay rules list written a place machine rows refused → IsMendedAt a b place → place < length written → items ≡ b → e ≡ get_or items place e → slice_get b place ≡ Some e
item_there rules list written a b items place machine rows refused e under is within same read =
    first_item b items place e (subst (λ n. place < n) (sym (is.renumbered.as_many ∙ under.up.renumbered.as_many)) within) same read

-- the game after a row
pub after_row : (rules : Rules) (list : List (List ℕ)) (written right : List Event) (walk : Walk) (place : ℕ) (row : Row) → IsWalk rules list written right walk → slice_get walk.rows.items place ≡ Some row
    → state_of row.following ≡ tally_at rules right (place + 1)
after_row rules list written right walk place row is there = (is.rows.each place row there).following
