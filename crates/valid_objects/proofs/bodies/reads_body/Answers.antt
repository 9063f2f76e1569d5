use Rattle.std.proofs.Common.{◌≡◌, ◌<◌, Some, None, length, get_or, refl, ap, ◌∙◌, rules}
use Rattle.std.specs.Prelude.{not}
use Rattle.std.proofs.lemmas.Option.{slice_get_read}
use Rattle.valid_bodies.specs.Steps.{step_on}
use Rattle.valid_objects.specs.Merging.{merged_shape}
use Rattle.valid_objects.proofs.Steps.{reads_on, reads_not, is_read}
use Rattle.valid_objects.proofs.bodies.reads_body.Goals as goal

pub returns-then-not-went : goal.returns-then-not-went
returns-then-not-went c =
    let l = c.loop-placed in
    let body = c.args.body.now in
    let x = c.placed-item.result in
    let left = c.left_at-left.result.now in
    let within : l.placed-index < length body.code = search rules in
    let here = slice_get_read body.code (length body.code) l.placed-index x refl within (c.placed-item.is ∙ ap (λ xs. get_or xs l.placed-index x) c.as_slice-placed-items.ensures) in
    let none : step_on l.blocks (merged_shape c.args.o.now c.args.kind.now body.locals left x) ≡ None = search rules in
    reads_not c.args.o.now c.args.kind.now body.locals l.left.now left body.code x l.placed-index l.blocks _ here c.left_at-left.ensures l.invariant none

pub loop-placed-preserved : goal.loop-placed-preserved
loop-placed-preserved c =
    let l = c.loop-placed in
    let body = c.args.body.now in
    let x = c.placed-item.result in
    let left = c.left_at-left.result.now in
    let within : l.placed-index < length body.code = search rules in
    let here = slice_get_read body.code (length body.code) l.placed-index x refl within (c.placed-item.is ∙ ap (λ xs. get_or xs l.placed-index x) c.as_slice-placed-items.ensures) in
    let went : step_on l.blocks (merged_shape c.args.o.now c.args.kind.now body.locals left x) ≡ Some c.reads_one.new.blocks = search rules in
    reads_on c.args.o.now c.args.kind.now body.locals l.left.now left body.code x l.placed-index l.blocks _ here c.left_at-left.ensures l.invariant c.reads_one.new.blocks went

pub returns : goal.returns
returns c =
    let l = c.loop-placed in
    let body = c.args.body.now in
    ap not c.is_open.ensures
    ∙ is_read c.args.o.now c.args.kind.now body.locals l.left.now body.code l.placed-index l.blocks _ (search rules) l.invariant
