use Rattle.std.proofs.Common.{map, slice_get, ap, ◌∙◌}
use Rattle.std.specs.Prelude.{option_and_then}
use Rattle.sym_parts.specs.Sought.{place_code}
use Rattle.sym_parts.proofs.Found.{found_at}
use Rattle.sym_parts.proofs.rows.named_at.Goals as goal

pub returns : goal.returns
returns c = c.item_at.ensures ∙ ap (option_and_then (slice_get c.args.row.now)) (c.find.ensures (map place_code c.args.row.now) c.requires) ∙ found_at c.args.row.now c.args.place
