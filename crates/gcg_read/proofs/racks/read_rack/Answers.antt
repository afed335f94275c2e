use Rattle.std.proofs.Common.{◌≡◌, ◌<◌, ◌+◌, Some, take, length, get_or, arith, ◌∙◌, sym, ap, refl}
use Rattle.std.specs.List.{filter_map}
use Rattle.std.proofs.lemmas.List.{length-take}
use Rattle.ref_tiles.specs.Counting.{count_of, counted, with_count}
use Rattle.ref_tiles.proofs.Counted.{counted_none, counted_small, counted_push}
use Rattle.gcg_read.specs.Racks.{kind_of, is_tile}
use Rattle.gcg_read.proofs.Lists.{filter_map_step, list_all_step, filter_map_len}
use Rattle.gcg_read.proofs.racks.read_rack.Goals as goal

pub loop-byte-init : goal.loop-byte-init
loop-byte-init c = record { counts = c.new-counts.ensures ∙ counted_none; each = refl }

pub add-requires : goal.add-requires
add-requires c =
    let front = take c.loop-byte.byte-index c.args.bytes.now in
    let kinds = filter_map kind_of front in
    let kind = c.in_ok-of_byte.field-0 in
    let same : count_of c.loop-byte.counts kind ≡ count_of (counted kinds) kind = ap (λ counts. count_of counts kind) c.loop-byte.invariant.counts in
    omega (arith, same, counted_small kinds kind, filter_map_len kind_of front, length-take c.loop-byte.byte-index c.args.bytes.now)

pub loop-byte-preserved : goal.loop-byte-preserved
loop-byte-preserved c =
    let bytes = c.args.bytes.now in
    let place = c.loop-byte.byte-index in
    let kinds = filter_map kind_of (take place bytes) in
    let kind = c.in_ok-of_byte.field-0 in
    let lt : place < length bytes = c.loop-byte-test.true in
    let found : kind_of (get_or bytes place 0) ≡ Some kind = sym c.of_byte.ensures ∙ c.in_ok-of_byte.was in
    let more = ap (λ counts. with_count counts kind (count_of counts kind + 1)) c.loop-byte.invariant.counts in
    record {
      counts = c.add.ensures ∙ more ∙ counted_push kinds kind ∙ ap counted (sym (filter_map_step kind_of bytes place 0 kind lt found));
      each = list_all_step is_tile bytes place 0 lt c.loop-byte.invariant.each (rw found refl);
    }
