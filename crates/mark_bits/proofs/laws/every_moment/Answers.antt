use Rattle.mark_bits.specs.Marks.{opening_marks}
use Rattle.mark_bits.proofs.Keeps.{starts, keeps_fits}
use Rattle.mark_bits.proofs.laws.every_moment.Goals as goal

pub returns : goal.returns
returns c = λ width chunks es fit. keeps_fits width chunks (opening_marks width chunks) es (starts width chunks) fit
