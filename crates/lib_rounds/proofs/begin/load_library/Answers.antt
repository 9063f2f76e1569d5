use Rattle.std.proofs.Common.{map, ◌≡◌, ◌∙◌, ◌+◌, ◌-◌, ◌<◌, List, [], ◌∷◌, ◌++◌, Some, length, drop, ap, sym, subst, arith, get_or, false}
use Rattle.std.specs.Prelude.{slice_index_or}
use Rattle.std.proofs.lemmas.List.{get_or_read, drop_all}
use Rattle.std.proofs.lemmas.Option.{slice_get-get_or, get_or_from_slice_get}
use Rattle.std.proofs.lemmas.Result.{err_from_is_err_and}
use Rattle.object_file.specs.wl_base.Choice.{first_some}
use Rattle.lib_index.specs.Table.{shown}
use Rattle.round_rules.specs.declared.given.LibraryFile.{LibraryFile}
use Rattle.round_rules.specs.Rounds.{Candidate, object_fault}
use Rattle.lib_rounds.specs.State.{IsOffer, Fails, FailsBy}
use Rattle.round_rules.specs.Inputs.{members_of}
use Rattle.lib_rounds.specs.Held.{absent, held_as, is_loaded_slot}
use Rattle.lib_rounds.proofs.Whole.{Loading, loading_start, loading_end, loading_refused, loading_more, loading_skip, loading_unloaded, loading_long, member_here, member_fits, member_is, members_long, drop_at}
use Rattle.lib_rounds.proofs.begin.load_library.Goals.{then-not-is_loaded+in_ok-load, else-not-is_loaded}
use Rattle.lib_rounds.proofs.begin.load_library.Goals as goal

pub loop-member-init : goal.loop-member-init
loop-member-init g c x at_x = (
  [],
  loading_start g.w c.args.slots.now.items (members_of c.args.inputs.files.now x)
      (shown c.args.definers.now) c.requires.1.1.1,
)

pub overflow_add-input : goal.overflow_add-input
overflow_add-input g c =
    let libraries = c.args.inputs.libraries.now in
    let x = get_or libraries c.args.at c.index-inputs-at.result in
    let at_x = slice_get-get_or libraries c.args.at c.index-inputs-at.result c.requires.0 in
    let f = member_fits g.w.all libraries c.args.inputs.files.now c.requires.1.0 c.args.at c.loop-member.member x at_x (omega
    (arith, c.loop-member-test.true, c.count-member-end.ensures)) in
    omega (arith, f)

pub overflow_sub-input : goal.overflow_sub-input
overflow_sub-input g c =
    let libraries = c.args.inputs.libraries.now in
    let x = get_or libraries c.args.at c.index-inputs-at.result in
    let at_x = slice_get-get_or libraries c.args.at c.index-inputs-at.result c.requires.0 in
    (member_fits g.w.all libraries c.args.inputs.files.now c.requires.1.0 c.args.at c.loop-member.member x at_x (omega
    (arith, c.loop-member-test.true, c.count-member-end.ensures))).1

pub index-requires : goal.index-requires
index-requires g c =
    let libraries = c.args.inputs.libraries.now in
    let x = get_or libraries c.args.at c.index-inputs-at.result in
    let at_x = slice_get-get_or libraries c.args.at c.index-inputs-at.result c.requires.0 in
    let f = member_fits g.w.all libraries c.args.inputs.files.now c.requires.1.0 c.args.at c.loop-member.member x at_x (omega
    (arith, c.loop-member-test.true, c.count-member-end.ensures)) in
    let going = c.loop-member.invariant x at_x in
    let long = loading_long g.w c.args.slots.now.items c.loop-member.slots.items (shown c.loop-member.definers) going.0 (drop c.loop-member.member
    (members_of c.args.inputs.files.now x)) (members_of c.args.inputs.files.now x) going.1 c.requires.1.1.0 in
    omega (arith, f, long, c.loop-member.slots.ok)

pub load-requires : goal.load-requires
load-requires g c =
    let libraries = c.args.inputs.libraries.now in
    let files = c.args.inputs.files.now in
    let k = c.loop-member.member in
    let x = get_or libraries c.args.at c.index-inputs-at.result in
    let cs = members_of files x in
    let slots = c.loop-member.slots.items in
    let at_x = slice_get-get_or libraries c.args.at c.index-inputs-at.result c.requires.0 in
    let within : k < length x.library.members = omega (arith, c.loop-member-test.true, c.count-member-end.ensures) in
    let m = member_here g.w.all libraries files c.requires.1.0 c.args.at k x at_x within in
    let is = member_is g.w.all libraries files c.requires.1.0 c.args.at k x at_x within in
    let f = member_fits g.w.all libraries files c.requires.1.0 c.args.at k x at_x within in
    let going = c.loop-member.invariant x at_x in
    let long = loading_long g.w c.args.slots.now.items slots (shown c.loop-member.definers) going.0 (drop k cs) cs going.1 c.requires.1.1.0 in
    let read = get_or_read slots (x.first + k - 1) c.index.result.now (omega (arith, f, long)) c.index.ensures absent in
    let slot = loading_unloaded g.w c.args.slots.now.items cs slots (shown c.loop-member.definers) going.0 (drop k cs) going.1
    c.requires.1.0.numbered c.requires.1.1.0 m.0 (drop (k + 1) cs) (drop_at cs k m.0 m.1) (x.first + k) m.2 m.3.input (sym
    (ap is_loaded_slot read) ∙ sym c.is_loaded.ensures ∙ c.if-not-is_loaded.true) in (
      subst (IsOffer libraries files (record { input = x.first + k; library = c.args.at; member = k })) (sym is) m.3,
      (omega (arith, f), slot ∙ ap (λ (y : Candidate). Some (held_as false y.is_member y.object)) (sym is)),
    )

pub returns-in_err-load : goal.returns-in_err-load
returns-in_err-load g c x' at_x' =
    let libraries = c.args.inputs.libraries.now in
    let files = c.args.inputs.files.now in
    let k = c.loop-member.member in
    let x = get_or libraries c.args.at c.index-inputs-at.result in
    let cs = members_of files x in
    let slots = c.loop-member.slots.items in
    let at_x = slice_get-get_or libraries c.args.at c.index-inputs-at.result c.requires.0 in
    let within : k < length x.library.members = omega (arith, c.loop-member-test.true, c.count-member-end.ensures) in
    let m = member_here g.w.all libraries files c.requires.1.0 c.args.at k x at_x within in
    let is = member_is g.w.all libraries files c.requires.1.0 c.args.at k x at_x within in
    let f = member_fits g.w.all libraries files c.requires.1.0 c.args.at k x at_x within in
    let going = c.loop-member.invariant x at_x in
    let own = get_or_from_slice_get libraries c.args.at x' c.index-inputs-at.result at_x' in
    let p = err_from_is_err_and c.from_residual.result c.from_residual.ensures.1 in
    let f = subst (λ (y : LibraryFile). FailsBy c.in_err-load.field-0.0 (first_some (map object_fault (members_of files y)))) own
    (loading_refused g.w c.args.slots.now.items cs slots (shown c.loop-member.definers) going.0 (drop k cs) going.1 c.in_err-load.field-0.0 m.0
    (drop (k + 1) cs) (drop_at cs k m.0 m.1) (subst (λ (y : Candidate). Fails c.in_err-load.field-0.0 y.object) is c.in_err-load.ensures)) in
    rw (p.1, p.2) f

pub loop-member-preserved : goal.loop-member-preserved
loop-member-preserved g c x' at_x' =
    let libraries = c.args.inputs.libraries.now in
    let files = c.args.inputs.files.now in
    let k = c.loop-member.member in
    let x = get_or libraries c.args.at c.index-inputs-at.result in
    let cs = members_of files x in
    let slots = c.loop-member.slots.items in
    let at_x = slice_get-get_or libraries c.args.at c.index-inputs-at.result c.requires.0 in
    let within : k < length x.library.members = omega (arith, c.loop-member-test.true, c.count-member-end.ensures) in
    let m = member_here g.w.all libraries files c.requires.1.0 c.args.at k x at_x within in
    let is = member_is g.w.all libraries files c.requires.1.0 c.args.at k x at_x within in
    let f = member_fits g.w.all libraries files c.requires.1.0 c.args.at k x at_x within in
    let going = c.loop-member.invariant x at_x in
    let long = loading_long g.w c.args.slots.now.items slots (shown c.loop-member.definers) going.0 (drop k cs) cs going.1 c.requires.1.1.0 in
    let read = get_or_read slots (x.first + k - 1) c.index.result.now (omega (arith, f, long)) c.index.ensures absent in
    let own = get_or_from_slice_get libraries c.args.at x' c.index-inputs-at.result at_x' in
    subst (λ (y : LibraryFile). (done : List Candidate) × Loading g.w c.args.slots.now.items c.if-not-is_loaded.slots.items
    (shown c.if-not-is_loaded.definers) done (drop (k + 1) (members_of files y)) (members_of files y)) own (
      going.0 ++ m.0 ∷ [],
      elim c.if-not-is_loaded.branch [
        | then-not-is_loaded+in_ok-load w ↦
            let r = w.in_ok-load.ensures in
            rw (w.slots-is, w.definers-is)
            (loading_more g.w c.args.slots.now.items cs slots (shown c.loop-member.definers) going.0 (drop k cs) going.1
            c.requires.1.0.numbered c.requires.1.1.0 m.0 (drop (k + 1) cs) (drop_at cs k m.0 m.1)
            (x.first + k) m.2 m.3.input w.load.new.slots.items (shown w.load.new.definers) r.0
            (sym (ap is_loaded_slot read) ∙ sym c.is_loaded.ensures ∙ w.if-not-is_loaded.true) (sym (ap (λ (y : Candidate). y.object) is)
            ∙ r.1) r.2 r.3)
        | else-not-is_loaded w ↦
            rw (w.slots-is, w.definers-is)
            (loading_skip g.w c.args.slots.now.items cs slots (shown c.loop-member.definers) going.0 (drop k cs) going.1
            c.requires.1.0.numbered c.requires.1.1.0 m.0 (drop (k + 1) cs) (drop_at cs k m.0 m.1) (x.first + k) m.2 m.3.input (sym
            (ap is_loaded_slot read) ∙ sym c.is_loaded.ensures ∙ w.if-not-is_loaded.false))
      ],
    )

pub returns : goal.returns
returns g c x at_x =
    let cs = members_of c.args.inputs.files.now x in
    let going = c.loop-member.invariant x at_x in
    let own = get_or_from_slice_get c.args.inputs.libraries.now c.args.at x c.index-inputs-at.result at_x in
    let long : length cs ≡ length x.library.members = members_long x (slice_index_or c.args.inputs.files.now x.file []) x.first 0 x.library.members in
    let count : length (get_or c.args.inputs.libraries.now c.args.at c.index-inputs-at.result).library.members ≡ length x.library.members = ap (λ
    (y : LibraryFile). length y.library.members) own in
    loading_end g.w c.args.slots.now.items cs c.loop-member.slots.items (shown c.loop-member.definers) going.0 (drop c.loop-member.member cs) going.1
    (drop_all c.loop-member.member cs (omega (arith, long, count, c.loop-member-test.false, c.count-member-end.ensures)))
