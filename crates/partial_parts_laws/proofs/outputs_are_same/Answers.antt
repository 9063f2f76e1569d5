use Rattle.partial_parts_laws.specs.Linked.{alone_program, whole_program, later_program}
use Rattle.partial_parts_laws.specs.Moves.{moving, is_part}
use Rattle.partial_parts_laws.specs.Alike.{is_definition}
use Rattle.partial_parts_laws.proofs.MovingLaws.{parts_are_moved}
use Rattle.partial_parts_laws.proofs.Final.{programs_are_alike}
use Rattle.partial_parts_laws.proofs.outputs_are_same.Goals as goal

pub returns : goal.returns
returns c = λ run os ls s w meant bytes linked.
    c.alike_programs_give_the_same_output.ensures (moving run os (alone_program run os ls)) (is_part (whole_program run os ls)) (is_definition run os ls) (whole_program run os ls) (later_program run os ls) bytes
    (parts_are_moved run os ls s) (programs_are_alike run os ls s w) meant linked
