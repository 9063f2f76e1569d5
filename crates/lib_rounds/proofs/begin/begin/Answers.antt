use Rattle.std.proofs.Common.{◌∙◌, ◌<◌, ◌^◌, ℕ, List, length, map, ap, sym, subst}
use Rattle.std.specs.Prelude.{replicate}
use Rattle.std.specs.Map.{lookup}
use Rattle.std.specs.Str.{bytes_eq}
use Rattle.std.proofs.lemmas.Result.{err_from_is_err_and}
use Rattle.lib_index.specs.Table.{shown}
use Rattle.made_symbols.specs.declared.mode.Mode.{Mode}
use Rattle.lib_rounds.specs.Held.{Held, absent}
use Rattle.lib_rounds.specs.State.{Defines, FailsBy}
use Rattle.lib_rounds.specs.Begin.{input_count, starts}
use Rattle.lib_rounds.proofs.Adding.{holds_by}
use Rattle.lib_rounds.proofs.AtOnce.{always_read_fault_is}
use Rattle.lib_rounds.proofs.Starting.{count_is, knows_given, knows_members, knows_all, start_defines, put_all, shows_at_once}
use Rattle.lib_rounds.proofs.begin.begin.Goals as goal

pub count_inputs-requires : goal.count_inputs-requires
count_inputs-requires g c =
    let are = c.requires.1.0 in
    let is = ap (λ (n : ℕ). input_count n c.args.inputs.libraries.now) c.len.ensures ∙ count_is g.w.all c.args.given c.args.inputs.libraries.now
    c.args.inputs.files.now are in
    subst (λ (n : ℕ). n < 2 ^ 20) (sym is) are.few

pub put_given-requires : goal.put_given-requires
put_given-requires g c =
    let are = c.requires.1.0 in
    let count = c.count_inputs.ensures ∙ ap (λ (n : ℕ). input_count n c.args.inputs.libraries.now) c.len.ensures
    ∙ count_is g.w.all c.args.given c.args.inputs.libraries.now c.args.inputs.files.now are in
    let slots = c.in_ok-slots.ensures ∙ ap (λ (n : ℕ). replicate n absent) count in (
      knows_given g.w.all c.args.given c.args.inputs.libraries.now c.args.inputs.files.now are,
      (
        slots,
        (
          subst (λ (hs : List Held). Defines g.w.mode hs (shown c.in_ok-definers.definers)) (sym slots)
              (subst (λ (m : Mode). Defines m (replicate (length g.w.all) absent) (shown c.in_ok-definers.definers)) (sym c.requires.0)
              (start_defines c.args.mode (length g.w.all) (shown c.in_ok-definers.definers) c.in_ok-definers.ensures)),
          λ n. ap (lookup (bytes_eq n)) c.new-lazies.ensures.empty,
        ),
      ),
    )

pub load_whole-requires : goal.load_whole-requires
load_whole-requires g c =
    let are = c.requires.1.0 in
    let puts = c.in_ok-put_given.ensures in (
      knows_members g.w.all c.args.given c.args.inputs.libraries.now c.args.inputs.files.now are c.requires.1.1,
      (
        holds_by g.w.all are.numbered c.put_given.new.slots.items starts (puts.slots_are ∙ put_all g.w c.args.given c.args.inputs.libraries.now
            c.args.inputs.files.now are),
        puts.defines,
      ),
    )

pub returns-in_err-load_whole : goal.returns-in_err-load_whole
returns-in_err-load_whole g c =
    let p = err_from_is_err_and c.from_residual-in_err-load_whole.result c.from_residual-in_err-load_whole.ensures.1 in
    let f = subst (FailsBy c.in_err-load_whole.field-0.0) (sym (always_read_fault_is g.w.all c.args.given c.args.inputs.libraries.now
    c.args.inputs.files.now c.requires.1.0)) c.in_err-load_whole.ensures in
    rw (p.1, p.2) f

pub returns : goal.returns
returns g c =
    let are = c.requires.1.0 in
    let puts = c.in_ok-put_given.ensures in
    let loads = c.in_ok-load_whole.ensures in
    let no_fault = always_read_fault_is g.w.all c.args.given c.args.inputs.libraries.now c.args.inputs.files.now are ∙ loads.no_fault in (
      no_fault,
      shows_at_once g.w c.args.given c.args.inputs.libraries.now c.args.inputs.files.now are c.put_given.new.slots.items
          c.load_whole.new.slots.items puts.slots_are loads.slots no_fault,
      knows_all g.w.all c.args.given c.args.inputs.libraries.now c.args.inputs.files.now (shown c.put_given.new.lazies) are c.requires.1.1 puts.lazy,
      subst (λ (m : Mode). Defines m c.load_whole.new.slots.items (shown c.load_whole.new.definers)) c.requires.0 loads.defines,
    )
