use Rattle.std.proofs.Common.{map, sym, ap, ◌∙◌}
use Rattle.std.specs.Option.{option_map}
use Rattle.name_meanings.specs.name_entries.object_columns.Seen.{segment_seen}
use Rattle.name_unresolved.specs.Refers.{at, segment_names}
use Rattle.name_unresolved.specs.Search.{rows_in, least_open}
use Rattle.name_unresolved.proofs.Pieces.{windows_are}
use Rattle.name_unresolved.proofs.piece.Piece.in_segment.Goals as goal

pub returns-in-Some : goal.returns-in-Some
returns-in-Some c =
    let p = c.args.self.now in
    c.in_windows.ensures ∙ windows_are p c.in-Some.segment.windows.now
    ∙ ap (λ g. least_open (rows_in p) (map (at p.object.now) (segment_names g))) (ap (option_map segment_seen) (sym c.in-Some.is) ∙ c.get.ensures)
