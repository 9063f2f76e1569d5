use Rattle.std.proofs.Common.{◌≡◌, Some, None, slice_get}
use Rattle.link_marks.proofs.Steps.{found_given, not_found, one_given}
use Rattle.link_marks.proofs.repeated.GivenNames.give.Goals as goal

pub returns-in-Some-clause-found : goal.returns-in-Some-clause-found
returns-in-Some-clause-found c = λ earlier are.
    let a = c.as_slice.ensures in
    let b = c.input_at.ensures in
    let d = c.in-Some.is in
    let at : slice_get c.args.self.now.inputs c.in-Ok.number ≡ Some c.in-Some.first = cc in
    found_given c.args.self.now.names c.intern.new.self c.args.name.now c.args.input c.in-Ok.number c.args.self.now.inputs c.in-Ok.ensures earlier are c.in-Some.first at

pub returns-in_ok-push-in-None-clause-found : goal.returns-in_ok-push-in-None-clause-found
returns-in_ok-push-in-None-clause-found c = λ earlier are.
    let a = c.as_slice.ensures in
    let b = c.input_at.ensures in
    let d = c.in-None.is in
    let at : slice_get c.args.self.now.inputs c.in-Ok.number ≡ None = cc in
    not_found c.args.self.now.names c.intern.new.self c.args.name.now c.args.input c.in-Ok.number c.args.self.now.inputs c.in-Ok.ensures earlier are at

pub returns-in_ok-push-in-None-clause-given : goal.returns-in_ok-push-in-None-clause-given
returns-in_ok-push-in-None-clause-given c = λ earlier are none.
    let a = c.as_slice.ensures in
    let b = c.input_at.ensures in
    let d = c.in-None.is in
    let at : slice_get c.args.self.now.inputs c.in-Ok.number ≡ None = cc in
    one_given c.args.self.now.names c.intern.new.self c.args.name.now c.args.input c.in-Ok.number c.args.self.now.inputs c.in-Ok.ensures earlier are at c.push.new.self c.in_ok-push-in-None.ensures.ok
