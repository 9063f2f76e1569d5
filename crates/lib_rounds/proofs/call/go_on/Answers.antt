use Rattle.std.proofs.Common.{◌∙◌, ◌+◌, ap, sym, subst, ℕ, List, length, Result, Ok}
use Rattle.std.proofs.lemmas.Result.{err_from_is_err_and}
use Rattle.object_file.specs.wl_base.declared.fault.Fault.{Fault}
use Rattle.object_file.specs.declared.object.Object.{Object}
use Rattle.lib_index.specs.Table.{shown}
use Rattle.round_rules.specs.Rounds.{is_loaded, at_once, objects_of}
use Rattle.lib_rounds.specs.Lean.{first_names, lean}
use Rattle.lib_rounds.specs.Held.{Held, loaded_objects}
use Rattle.lib_rounds.specs.State.{Shows, Defines, Fails, IsEntry}
use Rattle.std.specs.Prelude.{All}
use Rattle.lib_rounds.proofs.Rising.{numbers_rise}
use Rattle.lib_rounds.proofs.Adding.{holds_by}
use Rattle.lib_rounds.proofs.Round.{first_is, load_lean, ends_loaded, fails_loaded}
use Rattle.lib_rounds.proofs.call.go_on.Goals as goal

pub run-requires : goal.run-requires
run-requires g c =
    let b = c.requires in
    let kept = c.put_early.ensures in (
      b.knows,
      (
        holds_by g.w.all b.knows.numbered c.put_early.new.slots.items (is_loaded (at_once g.w.all)) (kept ∙ b.shows.slots_are),
        (
          subst (λ (ds : List (List ℕ × ℕ)). Defines g.w.mode c.put_early.new.slots.items ds) (sym c.make_room.ensures)
              (subst (λ (hs : List Held). Defines g.w.mode hs (shown c.args.begun.start.definers)) (sym kept) b.defines),
          (
            b.looked.ordered,
            subst (λ (hs : List Held). All (λ e. IsEntry g.w.all c.args.inputs.libraries.now c.args.inputs.files.now hs e.0 e.1)
                c.args.begun.adds.entries) (sym kept) b.looked.entries,
          ),
        ),
      ),
    )

pub returns-in_err-run : goal.returns-in_err-run
returns-in_err-run g c =
    let b = c.requires in
    let names = first_names c.args.wanted.now (objects_of g.w.all (at_once g.w.all)) in
    let p = err_from_is_err_and c.from_residual-in_err-run.result c.from_residual-in_err-run.ensures.1 in
    let f = c.in_err-run.ensures (at_once g.w.all) names (subst (λ (hs : List Held). Shows g.w.all hs (at_once g.w.all)) (sym
    c.put_early.ensures) b.shows) (first_is g.w b.knows.numbered c.args.inputs.libraries.now c.args.inputs.files.now
    c.args.begun.start.slots.items (at_once g.w.all) c.args.wanted.now c.args.begun.adds b.shows b.looked) in
    let h = subst (λ (r : Result (List Object) Fault). Fails c.in_err-run.field-0.0 r) (sym (load_lean g.w.mode c.args.wanted.now g.w.all
    (numbers_rise g.w.all b.knows.numbered) b.fine)) (fails_loaded g.w.all (lean g.w.mode g.w.all (length g.w.all + 1)
    (at_once g.w.all) names) c.in_err-run.field-0.0 f) in
    rw (p.1, p.2) h

pub returns : goal.returns
returns g c =
    let b = c.requires in
    let names = first_names c.args.wanted.now (objects_of g.w.all (at_once g.w.all)) in
    let h = c.in_ok-run.ensures (at_once g.w.all) names (subst (λ (hs : List Held). Shows g.w.all hs (at_once g.w.all)) (sym
    c.put_early.ensures) b.shows) (first_is g.w b.knows.numbered c.args.inputs.libraries.now c.args.inputs.files.now
    c.args.begun.start.slots.items (at_once g.w.all) c.args.wanted.now c.args.begun.adds b.shows b.looked) in
    (load_lean g.w.mode c.args.wanted.now g.w.all (numbers_rise g.w.all b.knows.numbered) b.fine) ∙ ends_loaded g.w.all
    (lean g.w.mode g.w.all (length g.w.all + 1) (at_once g.w.all) names) c.run.new.slots.items h
    ∙ ap (λ (os : List Object). let r : Result (List Object) Fault = Ok os in r) (sym c.in_ok-loaded.ensures)
