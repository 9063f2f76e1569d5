use Rattle.std.proofs.Common.{◌<◌, List, length, get_or, flat_map, Result, arith}
use Rattle.std.proofs.lemmas.Result.{err_from_is_err_and}
use Rattle.std.proofs.lemmas.Option.{slice_get-get_or}
use Rattle.link_program.specs.wl_base.declared.layout_error.LayoutError.{LayoutError}
use Rattle.link_program.specs.reloc_apply.declared.window.Patch.{Patch}
use Rattle.link_program.specs.made_symbols.declared.mode.Mode.TheVariants.{Plain}
use Rattle.link_layout.specs.declared.gathering.Source.{Source}
use Rattle.link_layout.specs.Put.{written_on}
use Rattle.link_layout.specs.Sources.{plain_windows}
use Rattle.link_layout.specs.Layout.{looked}
use Rattle.link_layout.proofs.Patched.{puts_fault, source_step, source_stops, source_end}
use Rattle.link_layout.proofs.patches.push_plain_sources.Goals as goal

abbrev nowhere : Source
nowhere = record { place = 0; number = 0 }

pub loop-source-preserved : goal.loop-source-preserved
loop-source-preserved c =
    let k = looked c.args.layout in
    let sources = c.args.sources.now in
    let i = c.loop-source.source-index in
    let lt : i < length sources = omega arith in
    let all : Result (List Patch) LayoutError = written_on Plain c.args.patches.now.patches (flat_map (plain_windows k) sources) in
    source_step Plain (plain_windows k) sources i (get_or sources i nowhere) c.loop-source.patches.patches c.push_source.new.patches.patches all (slice_get-get_or sources i nowhere lt) c.loop-source.invariant c.in_ok-push_source.ensures

pub returns-in_err-push_source : goal.returns-in_err-push_source
returns-in_err-push_source c =
    let p = err_from_is_err_and c.from_residual.result c.from_residual.ensures.1 in
    let k = looked c.args.layout in
    let sources = c.args.sources.now in
    let i = c.loop-source.source-index in
    let now = c.loop-source.patches.patches in
    let source = get_or sources i nowhere in
    let lt : i < length sources = omega arith in
    let all : Result (List Patch) LayoutError = written_on Plain c.args.patches.now.patches (flat_map (plain_windows k) sources) in
    rw (p.1) (puts_fault c.in_err-push_source.field-0.0 p.0 c.push_source.new.patches.patches c.push_source.new.patches.patches (written_on Plain now (plain_windows k source)) all (p.2) c.in_err-push_source.ensures
    (source_stops Plain (plain_windows k) sources i source now all c.in_err-push_source.field-0.0 (slice_get-get_or sources i nowhere lt) c.loop-source.invariant))

pub returns : goal.returns
returns c =
    let k = looked c.args.layout in
    let sources = c.args.sources.now in
    source_end Plain (plain_windows k) sources c.loop-source.source-index c.loop-source.patches.patches (written_on Plain c.args.patches.now.patches (flat_map (plain_windows k) sources)) (omega arith) c.loop-source.invariant
