use Rattle.std.proofs.Common.{sym, subst, ℕ, List}
use Rattle.std.proofs.lemmas.Result.{err_from_is_err_and}
use Rattle.made_symbols.specs.declared.mode.Mode.{Mode as Kind}
use Rattle.lib_index.specs.Table.{shown}
use Rattle.round_rules.specs.Rounds.{is_loaded, at_once}
use Rattle.lib_rounds.specs.Lean.{first_names}
use Rattle.lib_rounds.specs.Held.{Held, loaded_objects}
use Rattle.lib_rounds.specs.State.{Shows, Looked, Hold, Defines}
use Rattle.lib_rounds.proofs.Adding.{holds_by}
use Rattle.lib_rounds.proofs.Round.{load_refused}
use Rattle.lib_rounds.proofs.call.begin_rounds.Goals as goal

pub returns-in_err-start : goal.returns-in_err-start
returns-in_err-start g c =
    let p = err_from_is_err_and c.from_residual.result c.from_residual.ensures.1 in
    let f = load_refused g.w.mode c.args.wanted.now g.w.all c.in_err-start.field-0.0 c.in_err-start.ensures in
    rw (p.1, p.2) f

pub first_adds-requires : goal.first_adds-requires
first_adds-requires g c =
    let s = c.in_ok-start.ensures in (
      s.2,
      (
        subst (λ (hs : List Held). Defines g.w.mode hs (shown c.in_ok-start.start.definers)) (sym c.as_slice.ensures.value)
            (subst (λ (m : Kind). Defines m c.in_ok-start.start.slots.items (shown c.in_ok-start.start.definers)) (sym c.requires.0) s.3),
        subst (λ (hs : List Held). Hold g.w.all hs) (sym c.as_slice.ensures.value) (holds_by g.w.all s.2.numbered c.in_ok-start.start.slots.items
            (is_loaded (at_once g.w.all)) s.1.slots_are),
      ),
    )

pub returns : goal.returns
returns g c =
    let s = c.in_ok-start.ensures in
    record {
      knows = s.2;
      shows = s.1;
      defines = subst (λ (m : Kind). Defines m c.in_ok-start.start.slots.items (shown c.in_ok-start.start.definers)) (sym c.requires.0) s.3;
      fine = s.0;
      looked = subst (λ (hs : List Held). (inputs : List ℕ) → Shows g.w.all hs inputs → Looked g.w c.args.inputs.libraries.now
          c.args.inputs.files.now hs inputs (first_names c.args.wanted.now (loaded_objects hs)) c.in_ok-adds.adds) c.as_slice.ensures.value
          c.in_ok-adds.ensures (at_once g.w.all) s.1;
    }
