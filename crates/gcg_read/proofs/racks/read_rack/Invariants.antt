use Rattle.std.proofs.Common.{◌≡◌, take, true}
use Rattle.std.specs.List.{list_all, filter_map}
use Rattle.ref_tiles.specs.Counting.{counted}
use Rattle.gcg_read.specs.Racks.{kind_of, is_tile}
use Rattle.gcg_read.proofs.racks.read_rack.Given as goal

abbrev pub invariant-loop-byte : goal.invariant-loop-byte
invariant-loop-byte l =
    record {
      counts : l.counts ≡ counted (filter_map kind_of (take l.byte-index l.bytes));
      each : list_all is_tile (take l.byte-index l.bytes) ≡ true;
    }
