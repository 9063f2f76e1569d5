use Rattle.std.proofs.Common.{◌≡◌, ◌∙◌, ◌++◌, true, false, map, filter, sym, ap, rules}
use Rattle.link_program.specs.Live.{AreLive}
use Rattle.link_program.specs.made_symbols.declared.mode.Mode.TheVariants.{Plain}
use Rattle.link_layout.specs.Layout.{IsLayoutIn}
use Rattle.sym_functions.specs.sym_parts.Sought.{known}
use Rattle.sym_functions.specs.sym_parts.Data.{segment_seen, segment_numbers, is_so}
use Rattle.sym_world.proofs.Composed.{segments_are}
use Rattle.sym_world.proofs.objects.segments.Goals as goal

pub returns : goal.returns
returns g c =
    let layout : IsLayoutIn Plain g.s.program g.s.parts g.s.exports c.args.layout = c.requires.0 in
    let lives : AreLive g.s.program c.args.live.now g.s.parts = c.requires.1.1.1 in
    let t = c.args.k.tables.now in
    let files = c.args.files.now in
    let ns = segment_numbers t c.args.live.now in
    let numbers : c.deref.result.now ≡ filter (is_so t files false) ns ++ filter (is_so t files true) ns = search rules in
    segments_are g.s.program g.s.parts g.s.exports c.args.layout layout c.args.k c.requires.1.0 files c.requires.1.1.0 c.args.live.now lives c.in_ok-segments.segments
    (ap (map (segment_seen (known c.args.k) files c.args.layout.placed.now.addresses)) (sym numbers)
    ∙ ap (λ xs. map (segment_seen (known c.args.k) files xs) c.deref.result.now) (sym c.as_slice-addresses.ensures) ∙ c.in_ok-segments.ensures)
