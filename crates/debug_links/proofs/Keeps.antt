-- Custom sections behind an output leave what it is.
use Rattle.std.proofs.Common.{◌≡◌, ◌∙◌, ℕ, false, List, [], ◌++◌, length, Result, Ok, refl, ap, subst}
use Rattle.std.proofs.lemmas.List.{append-nil}
use Rattle.object_file.specs.wl_base.Choice.{◌>>=◌}
use Rattle.object_file.specs.wl_base.declared.fault.Fault.{Fault}
use Rattle.object_file.specs.declared.object.Object.{Object}
use Rattle.object_file.specs.wasm_module.declared.structure.Module.{Module}
use Rattle.object_file.specs.wasm_module.Modules.{IsModule}
use Rattle.object_file.specs.wasm_module.Sections.{AreCustoms}
use Rattle.module_tails.specs.Tails.{CustomsSayNothing}
use Rattle.valid_links.specs.link_runs.link_program.made_symbols.declared.mode.Mode.{Mode}
use Rattle.valid_links.specs.link_runs.link_program.link_plan.declared.plan.Plan.{Plan}
use Rattle.valid_links.specs.link_runs.link_program.round_rules.Rounds.{Candidate, load}
use Rattle.valid_links.specs.link_runs.link_program.link_rules.ModeOf.{mode_of}
use Rattle.valid_links.specs.link_runs.link_program.link_rules.Candidates.{candidates_of}
use Rattle.valid_links.specs.link_runs.link_program.link_rules.Program.{program_of}
use Rattle.valid_links.specs.link_runs.link_program.link_rules.LinkOf.{asked_names, the_readers, link_program, link_by, link_of}
use Rattle.valid_links.specs.link_runs.Links.{Runs}
use Rattle.valid_links.specs.output_check.Check.{IsValidOutput}
use Rattle.debug_tails.specs.Tails.{laid_tail, program_tail, debug_tail_by, debug_tail, with_debug}
use Rattle.debug_links.specs.Keeps.{TailIsCustoms, ValidStays, TailsRun, RunsStay, NoWord}
use Rattle.debug_links.proofs.Candidates.{bind_ok, ok_is}

-- ---- behind an output

-- what stands behind the bytes
pub tail_of : (plan : Plan) (files : List (List ℕ)) (bytes whole : List ℕ) → with_debug plan files bytes ≡ Ok whole → (tail : List ℕ) × (debug_tail plan files (length bytes) ≡ Ok tail) × (bytes ++ tail ≡ whole)
tail_of plan files bytes whole e =
    let a = bind_ok (debug_tail plan files (length bytes)) (λ (tail : List ℕ). (let y : Result (List ℕ) Fault = Ok (bytes ++ tail) in y)) whole e in
    (a.0, a.1, ok_is a.2)

valid_with : CustomsSayNothing → (bytes tail : List ℕ) → AreCustoms tail → IsValidOutput bytes → IsValidOutput (bytes ++ tail)
valid_with nothing bytes tail customs v =
    let still = nothing v.is bytes tail v.spelled customs in
    record { is = v.is; read = still.1; spelled = still.0; valid = v.valid; no_fault = v.no_fault }

pub tails_law : CustomsSayNothing → ((a b : Module) (bytes : List ℕ) → IsModule a bytes → IsModule b bytes → a ≡ b) → TailsRun
tails_law nothing one plan files bytes tail r customs =
    let g = r.gives in
    let still = nothing g.is bytes tail g.spelled customs in
    record {
      all = r.all;
      objects = r.objects;
      found = r.found;
      loaded = r.loaded;
      gives = record {
        is = g.is;
        read = still.1;
        spelled = still.0;
        only = λ other spelled. one other g.is (bytes ++ tail) spelled still.0;
        linked = g.linked;
        runs = g.runs;
        fits = g.fits;
        holds = g.holds;
      };
    }

pub valid_law : TailIsCustoms → CustomsSayNothing → ValidStays
valid_law tails nothing plan files bytes whole v e =
    let t = tail_of plan files bytes whole e in
    subst IsValidOutput t.2 (valid_with nothing bytes t.0 (tails plan files (length bytes) t.0 t.1) v)

pub runs_law : TailIsCustoms → TailsRun → RunsStay
runs_law tails run plan files bytes whole r e =
    let t = tail_of plan files bytes whole e in
    subst (Runs plan files) t.2 (run plan files bytes t.0 r (tails plan files (length bytes) t.0 t.1))

-- ---- without the word

module _ (mode : Mode) (plan : Plan) (files : List (List ℕ)) where
  -- what a link that gives bytes found and loaded
  pub loads_of : (bytes : List ℕ) → link_by mode the_readers plan files ≡ Ok bytes
      → (all : List Candidate) × (objects : List Object) × (candidates_of the_readers plan files ≡ Ok all) × (load mode (asked_names plan) all ≡ Ok objects)
  unfolding link_by
  loads_of bytes e =
      let a = bind_ok (candidates_of the_readers plan files) (λ all. load mode (asked_names plan) all >>= λ objects. link_program mode (program_of mode plan files all objects)) bytes e in
      let b = bind_ok (load mode (asked_names plan) a.0) (λ objects. link_program mode (program_of mode plan files a.0 objects)) bytes a.2 in
      (a.0, b.0, a.1, b.1)

  -- of what was found and loaded
  pub tail_by : (all : List Candidate) (objects : List Object) (len : ℕ) → candidates_of the_readers plan files ≡ Ok all → load mode (asked_names plan) all ≡ Ok objects
      → debug_tail_by mode the_readers plan files len ≡ program_tail mode (program_of mode plan files all objects) all len
  unfolding debug_tail_by
  tail_by all objects len found loaded = rw (found, loaded) refl

  no_tail : (all : List Candidate) (objects : List Object) (len : ℕ) → plan.keep_debug ≡ false → program_tail mode (program_of mode plan files all objects) all len ≡ Ok []
  unfolding program_tail laid_tail program_of
  no_tail all objects len off = rw off refl

  no_tail_by : (bytes : List ℕ) (len : ℕ) → plan.keep_debug ≡ false → link_by mode the_readers plan files ≡ Ok bytes → debug_tail_by mode the_readers plan files len ≡ Ok []
  no_tail_by bytes len off e =
      let l = loads_of bytes e in
      tail_by l.0 l.1 len l.2 l.3 ∙ no_tail l.0 l.1 len off

none_behind : (plan : Plan) (files : List (List ℕ)) (bytes : List ℕ) → plan.keep_debug ≡ false → link_of plan files ≡ Ok bytes → debug_tail plan files (length bytes) ≡ Ok []
unfolding link_of debug_tail
none_behind plan files bytes off e = no_tail_by (mode_of plan) plan files bytes (length bytes) off e

pub word_law : NoWord
word_law plan files bytes off e =
    ap (λ (r : Result (List ℕ) Fault). r >>= λ tail. (let y : Result (List ℕ) Fault = Ok (bytes ++ tail) in y)) (none_behind plan files bytes off e) ∙ ap Ok (append-nil bytes)
