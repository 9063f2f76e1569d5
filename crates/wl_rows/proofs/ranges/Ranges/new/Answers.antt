use Rattle.std.proofs.Common.{sym, subst}
use Rattle.wl_rows.specs.Ranges.{AreRanges}
use Rattle.wl_rows.proofs.Cuts.{none_cut}
use Rattle.wl_rows.proofs.ranges.Ranges.new.Goals as goal

pub returns-clause-ranges : goal.returns-clause-ranges
returns-clause-ranges c = subst (λ cuts. AreRanges 0 cuts 0) (sym c.new.ensures) (none_cut 0)
