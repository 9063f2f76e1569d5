use Rattle.std.proofs.Common.{◌≡◌, sym, ◌∙◌, ap, true, false}
use Rattle.std.specs.Str.{bytes_eq}
use Rattle.std.specs.Option.{option_copied}
use Rattle.wl_outside.proofs.Found.{found_more_same, found_more_other}
use Rattle.wl_outside.proofs.mem_shelf.find.Goals as goal
use Rattle.wl_outside.proofs.mem_shelf.find.Goals.{then-eq, else-eq}

pub loop-file-preserved : goal.loop-file-preserved
loop-file-preserved c =
    let it = c.file-item.result in
    elim c.if-eq.branch [
      | then-eq w ↦ let same : bytes_eq it.name c.args.name.now ≡ true = cc in
          ap option_copied w.newest-is ∙ sym (found_more_same c.args.files.now c.loop-file.file-index it c.args.name.now c.loop-file-test.true c.file-item.is same)
      | else-eq w ↦ let other : bytes_eq it.name c.args.name.now ≡ false = cc in
          ap option_copied w.newest-is ∙ c.loop-file.invariant ∙ sym (found_more_other c.args.files.now c.loop-file.file-index it c.args.name.now c.loop-file-test.true c.file-item.is other)
    ]
