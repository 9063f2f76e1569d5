use Rattle.std.proofs.Common.{◌+◌, List, [], ◌++◌, drop, ap, subst, get_or}
use Rattle.std.proofs.lemmas.List.{drop_all}
use Rattle.std.proofs.lemmas.Option.{slice_get-get_or}
use Rattle.std.proofs.lemmas.Result.{err_from_is_err_and}
use Rattle.lib_index.specs.Table.{shown}
use Rattle.round_rules.specs.Rounds.{Candidate}
use Rattle.round_rules.specs.Inputs.{members_of}
use Rattle.lib_rounds.proofs.Whole.{Loading, loading_start, loading_end, loading_many, loading_fails, loading_hold, whole_members, whole_here, whole_past}
use Rattle.lib_rounds.proofs.begin.load_whole.Goals.{then-inputs-at+in_ok-load_library, else-inputs-at}
use Rattle.lib_rounds.proofs.begin.load_whole.Goals as goal

pub loop-at-init : goal.loop-at-init
loop-at-init g c = (
  [],
  loading_start g.w c.args.slots.now.items (whole_members c.args.inputs.files.now c.args.inputs.libraries.now)
      (shown c.args.definers.now) c.requires.1.1,
)

pub load_library-requires : goal.load_library-requires
load_library-requires g c =
    let going = c.loop-at.invariant in (
      c.loop-at-test.true,
      (
        c.requires.0,
        (
          loading_hold g.w c.args.slots.now.items (whole_members c.args.inputs.files.now c.args.inputs.libraries.now) c.loop-at.slots.items
              (shown c.loop-at.definers) going.0
              (whole_members c.args.inputs.files.now (drop c.loop-at.at c.args.inputs.libraries.now)) going.1 c.requires.0.numbered c.requires.1.0,
          going.1.defines,
        ),
      ),
    )

pub returns-in_err-load_library : goal.returns-in_err-load_library
returns-in_err-load_library g c =
    let libraries = c.args.inputs.libraries.now in
    let files = c.args.inputs.files.now in
    let at = c.loop-at.at in
    let x = get_or libraries at c.index-inputs-at.result in
    let at_x = slice_get-get_or libraries at c.index-inputs-at.result c.loop-at-test.true in
    let going = c.loop-at.invariant in
    let p = err_from_is_err_and c.from_residual.result c.from_residual.ensures.1 in
    let f = loading_fails g.w c.args.slots.now.items (whole_members files libraries) c.loop-at.slots.items (shown c.loop-at.definers) going.0
    (whole_members files (drop at libraries)) going.1
    c.in_err-load_library.field-0.0 (members_of files x) (whole_members files (drop (at + 1) libraries))
    (whole_here files libraries at x at_x c.if-inputs-at.true) (c.in_err-load_library.ensures x at_x) in
    rw (p.1, p.2) f

pub loop-at-preserved : goal.loop-at-preserved
loop-at-preserved g c =
    let libraries = c.args.inputs.libraries.now in
    let files = c.args.inputs.files.now in
    let at = c.loop-at.at in
    let x = get_or libraries at c.index-inputs-at.result in
    let at_x = slice_get-get_or libraries at c.index-inputs-at.result c.loop-at-test.true in
    let going = c.loop-at.invariant in
    elim c.if-inputs-at.branch [
      | then-inputs-at+in_ok-load_library w ↦
          rw (w.slots-is, w.definers-is) (
            going.0 ++ members_of files x,
            loading_many g.w c.args.slots.now.items (whole_members files libraries) c.loop-at.slots.items (shown c.loop-at.definers) going.0
                (whole_members files (drop at libraries)) going.1
                (members_of files x) (whole_members files (drop (at + 1) libraries)) w.load_library.new.slots.items
                (shown w.load_library.new.definers) (whole_here files libraries at x at_x w.if-inputs-at.true)
                (w.in_ok-load_library.ensures x at_x),
          )
      | else-inputs-at w ↦
          rw (w.slots-is, w.definers-is) (
            going.0,
            subst (λ (left : List Candidate). Loading g.w c.args.slots.now.items c.loop-at.slots.items (shown c.loop-at.definers) going.0 left
                (whole_members files libraries))
                (whole_past files libraries at x at_x w.if-inputs-at.false) going.1,
          )
    ]

pub returns : goal.returns
returns g c =
    let libraries = c.args.inputs.libraries.now in
    let files = c.args.inputs.files.now in
    let at = c.loop-at.at in
    let going = c.loop-at.invariant in
    loading_end g.w c.args.slots.now.items (whole_members files libraries) c.loop-at.slots.items (shown c.loop-at.definers) going.0
    (whole_members files (drop at libraries)) going.1
    (ap (whole_members files) (drop_all at libraries c.loop-at-test.false))
