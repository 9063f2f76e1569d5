use Rattle.std.proofs.Common.{subst}
use Rattle.object_file.specs.ObjectOf.{Answers}
use Rattle.object_file.proofs.Read.{is_object, object_again}
use Rattle.object_file.proofs.reading.read_object.Goals as goal

pub returns-clause-found : goal.returns-clause-found
returns-clause-found c = is_object c.args.input c.args.bytes.now c.object_of.result c.object_of.ensures

pub returns-clause-only : goal.returns-clause-only
returns-clause-only c = λ o is. subst (Answers c.object_of.result) (object_again c.args.input c.args.bytes.now o is) c.object_of.ensures
