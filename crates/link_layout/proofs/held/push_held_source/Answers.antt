use Rattle.std.proofs.Common.{◌<◌, length, arith}
use Rattle.link_program.specs.made_symbols.declared.mode.Mode.TheVariants.{Shared}
use Rattle.link_layout.specs.Rows.{shared_window}
use Rattle.link_layout.specs.Layout.{looked}
use Rattle.link_layout.proofs.Patched.{window_step}
use Rattle.link_layout.proofs.held.push_held_source.Goals as goal

pub loop-named-preserved : goal.loop-named-preserved
loop-named-preserved c =
    let row = c.row_at-row.result.now in
    let i = c.loop-named.named-index in
    let lt : i < length row = omega arith in
    window_step Shared (shared_window (looked c.args.layout)) c.args.source.place row i _ c.loop-named.patches.patches c.put_moved.new.patches.patches c.shared_window-window.result _ lt
    c.shared_window-window.ensures.is c.loop-named.invariant c.in_ok-put_moved.ensures
