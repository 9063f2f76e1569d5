use Rattle.std.proofs.Common.{◌≡◌, get_or, sym, ◌∙◌}
use Rattle.std.proofs.lemmas.List.{take_more}
use Rattle.link_command.proofs.Loads.{so_far_more}
use Rattle.driver_command.proofs.names.load_again.Goals as goal

pub loop-file-preserved : goal.loop-file-preserved
loop-file-preserved g c =
    let more = so_far_more _ _ _ _ _ _ _ c.loop-file.invariant c.load.ensures.held c.load.ensures.counts c.in_ok-load.ensures.bytes in
    let names = take_more c.args.files.now c.loop-file.file-index c.file-item.result c.loop-file-test.true in
    let at : get_or c.args.files.now c.loop-file.file-index c.file-item.result ≡ c.as_str.result.now = sym c.file-item.is ∙ sym c.as_str.ensures in
    rw (names, c.in_ok-push.ensures.ok, at) more
