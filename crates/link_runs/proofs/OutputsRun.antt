-- From what a link makes sure of to one equation of traces.
use Rattle.std.specs.Prelude.{List}
use Rattle.std.proofs.Common.{sym, ◌∙◌, subst}
use Rattle.wasm_instr.specs.BodyLaws.{body_again}
use Rattle.name_rules.specs.Entries.{InputSymbol}
use Rattle.link_output.specs.link_rules.Program.{Program, Part}
use Rattle.link_output.specs.link_rules.Values.{part_bytes}
use Rattle.link_facts.specs.link_worlds.Worlds.{layout_of, linked_module}
use Rattle.link_facts.specs.link_worlds.Sound.{IsShaped, Shaped, Takes}
use Rattle.link_facts.specs.link_worlds.Statements.{LinkedBy, RunsAgree}
use Rattle.link_facts.specs.output_module.Filled.{TakenBody}
use Rattle.link_facts.specs.output_module.Outputs.{OutputIsRead}
use Rattle.link_facts.specs.Faults.{ValuesFit, MemoryHolds}
use Rattle.link_runs.specs.Runs.{IsRun, IsAccepted, OutputRuns}
use Rattle.link_runs.proofs.Fitting.{linked_fits, fits_but_places}

shaped : TakenBody → (p : Program) (exports : List InputSymbol) (part : Part) → IsRun p part → IsShaped p part
shaped taken p exports part r =
    let c = r.coded in
    subst (Shaped part.named) (sym (body_again (part_bytes p part) c.body c.spelled))
    (λ x h. subst (λ ns. Takes ns x) (sym c.named) (taken p (layout_of p exports) c.body c.stands (part_bytes p part) c.spelled c.on r.reads x h))

linked : TakenBody → ValuesFit → (p : Program) (exports : List InputSymbol) → IsAccepted p exports → LinkedBy p exports (layout_of p exports)
linked taken fit p exports a =
    let v = fit p exports a.sound a.exported a.measured a.no_fault in
    record {
      sound = a.sound;
      exported = a.exported;
      shaped = λ part h k i. shaped taken p exports part (a.functions part h k i);
      calls = a.calls;
      constants = a.constants;
      resolved = a.no_fault.resolved;
      in_range = v.0;
      small = v.1;
    }

pub output_law : RunsAgree → OutputIsRead → TakenBody → ValuesFit → MemoryHolds → OutputRuns
output_law agree read taken fit hold p exports a =
    let r = read p exports (record { sound = a.sound; coded = λ part h k i. (a.functions part h k i).coded; made = a.made; few = a.few; spellable = a.spellable }) in
    record {
      is = r.is;
      read = r.read;
      spelled = r.spelled;
      only = r.only;
      linked = r.linked;
      runs = λ s n e. agree s p exports n (linked taken fit p exports a) (hold s p exports a.sound a.measured a.no_fault e) ∙ sym (r.runs s n);
      fits = λ s e. fits_but_places s (linked_module p exports) r.is r.linked (linked_fits s p exports (hold s p exports a.sound a.measured a.no_fault e));
      holds = λ s. hold s p exports a.sound a.measured a.no_fault;
    }
