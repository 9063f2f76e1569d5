use Rattle.std.proofs.Common.{rules}
use Rattle.debug_out.specs.Inputs.{inputs_of, places_of}
use Rattle.debug_out.proofs.Live.{live_offsets, dead_offsets}
use Rattle.debug_out.proofs.joining.join_debug_by.Goals as goal

pub returns-clause-live : goal.returns-clause-live
returns-clause-live g c =
    live_offsets c.args.places.now.length (inputs_of c.args.files.now c.args.objects.now c.args.places.now.inputs) (places_of c.args.places.now) c.in_ok-tail.tail (search rules)

pub returns-clause-dead : goal.returns-clause-dead
returns-clause-dead g c =
    dead_offsets c.args.places.now.length (inputs_of c.args.files.now c.args.objects.now c.args.places.now.inputs) (places_of c.args.places.now) c.in_ok-tail.tail (search rules)
