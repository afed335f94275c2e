use Rattle.std.proofs.Common.{List}
use Rattle.gcg_read.specs.declared.events.Event.{Event}
use Rattle.lex_check.specs.Pairs.{list_in}
use Rattle.game_known.specs.Besides.{IsBeside}
use Rattle.game_known.specs.Known.{AreKnown}
use Rattle.game_walk.specs.Walks.{IsWalk}
use Rattle.sheet_scores.specs.Rows.{AreSheetRows}
use Rattle.sheet_scores.proofs.rows.rows_of.Given as goal

abbrev pub invariant-loop-place : goal.invariant-loop-place
invariant-loop-place l =
    record {
      beside : IsBeside l.rules (list_in l.pair) l.beside;
      known : AreKnown l.rules (list_in l.pair) l.known;
      rows : (right : List Event) → IsWalk l.rules (list_in l.pair) l.events right l.walk → AreSheetRows l.rules (list_in l.pair) l.events right l.place l.rows.items;
    }
