use Rattle.std.proofs.Common.{arith, [], ap, ◌∙◌}
use Rattle.std.proofs.lemmas.Option.{get_or_from_slice_get}
use Rattle.program_tables.specs.Views.{view_seen}
use Rattle.program_tables.specs.Rows.{window_named}
use Rattle.program_tables.proofs.Steps.{kept_more}
use Rattle.program_tables.proofs.view.ObjectView.name_windows.Goals as goal

pub loop-window-preserved : goal.loop-window-preserved
loop-window-preserved c =
    let g = window_named (view_seen c.args.self) in
    kept_more g c.args.windows.now c.loop-window.window-index [] c.loop-window.row c.push_some.new.items c.window_named.result (omega arith) c.loop-window.invariant
    (λ w at. c.window_named.ensures ∙ ap g (get_or_from_slice_get c.args.windows.now c.loop-window.window-index w _ at)) c.in_ok-push_some.ensures
