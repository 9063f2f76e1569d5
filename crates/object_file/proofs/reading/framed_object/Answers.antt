use Rattle.object_file.proofs.Made.{few_in_frame}
use Rattle.object_file.proofs.reading.framed_object.Goals as goal

pub spelled_object-requires-clause-few : goal.spelled_object-requires-clause-few
spelled_object-requires-clause-few c = rw c.as_slice.ensures (few_in_frame c.in-Ok.all c.args.bytes.now c.in-Ok.ensures.found)
