use Rattle.std.proofs.Common.{◌≡◌, ◌∙◌, List, map, length, replicate, Option, None, sym, ap, rules}
use Rattle.link_program.specs.name_entries.Fits.{FitsObjects}
use Rattle.link_keys.specs.declared.firsts.At.{At}
use Rattle.link_keys.specs.Firsts.{firsts_rows}
use Rattle.link_program.specs.made_symbols.declared.mode.Mode.TheVariants.{Plain}
use Rattle.link_image.specs.link_layout.Layout.{IsLayoutIn}
use Rattle.sym_parts.specs.Sought.{known}
use Rattle.sym_parts.specs.Code.{function_seen}
use Rattle.sym_functions.proofs.Composed.{rows_counted, functions_are}
use Rattle.sym_functions.proofs.runs.functions.Goals as goal

pub least_entries-requires : goal.least_entries-requires
least_entries-requires g c =
    let fits : FitsObjects c.args.entries = search rules in
    rows_counted c.args.entries c.args.layout.program.names.now.symbols c.count.result fits (search rules) c.count.ensures

pub returns : goal.returns
returns g c =
    let layout : IsLayoutIn Plain g.s.program g.s.parts g.s.exports c.args.layout = search rules in
    let fits : FitsObjects c.args.entries = search rules in
    let column : List (Option At) = firsts_rows 0 (replicate (length c.args.layout.program.names.now.names) None) c.args.layout.program.names.now.symbols in
    let firsts : c.deref.result.now ≡ column = search rules in
    functions_are g.s.program g.s.parts g.s.exports c.args.layout layout c.args.k (search rules) c.args.files.now (search rules) c.args.entries fits (search rules) (search rules)
    c.in_ok-functions.functions
    (ap (λ xs. map (function_seen (known c.args.k) c.args.files.now c.args.layout.program.resolution.now.imports c.args.entries.objects.now xs) c.args.k.functions.now) (sym firsts) ∙ c.in_ok-functions.ensures)
