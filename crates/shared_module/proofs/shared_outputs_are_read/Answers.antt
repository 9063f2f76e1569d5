use Rattle.shared_module.proofs.shared_outputs_are_read.Goals as goal
use Rattle.shared_module.proofs.Outputs.{output_is_read}

pub returns : goal.returns
returns c = output_is_read c.numbered_bodies_are_read.ensures
    (record { spelled = c.bytes_are_the_module.ensures.spelled; read = c.bytes_are_the_module.ensures.read; only = c.bytes_are_no_other.ensures })
