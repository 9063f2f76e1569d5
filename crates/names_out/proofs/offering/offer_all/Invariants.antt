use Rattle.std.proofs.Common.{◌≡◌, map, drop, fold}
use Rattle.names_out.specs.Told.{label_seen, taking, offers_told}
use Rattle.names_out.proofs.offering.offer_all.Given as goal

abbrev pub invariant-loop-at : goal.invariant-loop-at
invariant-loop-at l =
    fold taking (map label_seen l.table) (offers_told l.numbering.functions l.o.input l.imported (drop l.at l.o.symbols) (drop l.at l.symbols))
    ≡ fold taking (map label_seen l.fn.table) (offers_told l.numbering.functions l.o.input l.imported l.o.symbols l.symbols)
