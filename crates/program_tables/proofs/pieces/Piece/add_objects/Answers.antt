use Rattle.std.proofs.Common.{arith}
use Rattle.program_tables.specs.Views.{view_seen}
use Rattle.program_tables.proofs.Turning.{none_gained, object_gained}
use Rattle.program_tables.proofs.pieces.Piece.add_objects.Goals as goal

pub loop-object-init : goal.loop-object-init
loop-object-init c = none_gained c.args.lookups c.args.from c.args.self.now

pub loop-object-preserved : goal.loop-object-preserved
loop-object-preserved c =
    object_gained c.args.lookups c.args.from c.loop-object.object (view_seen c.in_ok-view.view) c.args.self.now c.loop-object.self c.add_object.new.self (omega arith)
    c.in_ok-view.ensures.view c.loop-object.invariant c.in_ok-add_object.ensures
