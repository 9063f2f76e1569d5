use Rattle.std.proofs.Common.{◌≡◌, map, drop, fold}
use Rattle.names_out.specs.Told.{label_seen, taking, offers_rows}
use Rattle.names_out.proofs.offering.offer_names.Given as goal

abbrev pub invariant-loop-o : goal.invariant-loop-o
invariant-loop-o l =
    fold taking (map label_seen l.table) (offers_rows l.numbering.functions (drop l.o-index l.objects) l.left)
    ≡ fold taking (map label_seen l.fn.table) (offers_rows l.numbering.functions l.objects l.symbols)
