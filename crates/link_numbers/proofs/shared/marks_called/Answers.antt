use Rattle.link_numbers.proofs.SharedComposed.{noted_is}
use Rattle.link_numbers.proofs.shared.marks_called.Goals as goal

pub returns : goal.returns
returns g c =
    let noted = rw (c.imports-imports.ensures, c.count-names.ensures) at c.in_ok-marks.ensures in
    noted_is c.args.program c.args.live.now c.in_ok-marks.marks c.set_imports.new.self c.in_ok-called.called.items noted c.set_imports.ensures c.in_ok-called.ensures
