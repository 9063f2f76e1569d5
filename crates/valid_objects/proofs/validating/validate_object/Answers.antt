use Rattle.valid_objects.proofs.validating.validate_object.Goals as goal

pub judge-requires-clause-sound : goal.judge-requires-clause-sound
judge-requires-clause-sound c = c.read_objects_are_sound.ensures.sound c.args.o.now.input c.args.bytes.now c.args.o.now c.requires.read
