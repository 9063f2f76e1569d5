use Rattle.std.proofs.Common.{rules}
use Rattle.debug_out.specs.Inputs.{inputs_of}
use Rattle.debug_out.proofs.Stands.{all_stand}
use Rattle.debug_out.proofs.joining.prepared.Goals as goal

pub tail_of-requires : goal.tail_of-requires
tail_of-requires c = all_stand 0 (inputs_of c.args.files.now c.args.objects.now c.args.places.now.inputs) _ (search rules)
