-- From what runs come to, to their traces.
use Rattle.std.proofs.Common.{◌≡◌, ℕ, ◌+◌, ◌≤◌, List, [], ◌∷◌, length, map, Option, Some, None, Ok, true, refl, sym, ap, ◌∙◌, arith}
use Rattle.std.specs.Prelude.{◌↔◌, ◌*◌, if◌then◌else◌}
use Rattle.std.proofs.lemmas.Bool.{le-leb}
use Rattle.wasm_module.specs.declared.structure.Module.{Module}
use Rattle.wasm_module.specs.ModuleReading.{module_of}
use Rattle.made_symbols.specs.declared.mode.Mode.TheVariants.{Plain}
use Rattle.name_rules.specs.Entries.{InputSymbol}
use Rattle.image_emit.specs.Bytes.{Block}
use Rattle.image_emit.specs.Stored.{Rise}
use Rattle.run_rules.specs.declared.session.Session.{Session}
use Rattle.run_rules.specs.declared.trace.Trace.{Trace}
use Rattle.run_rules.specs.Modules.{module_trace, fits_session}
use Rattle.run_modules.specs.Fits.{first_not, first_outside}
use Rattle.link_rules.specs.Marks.{exported, live}
use Rattle.link_rules.specs.Program.{Program, program_of}
use Rattle.link_rules.specs.Values.{Layout}
use Rattle.link_worlds.specs.Worlds.{layout_of, pages_at_first}
use Rattle.link_worlds.specs.Statements.{Holds}
use Rattle.link_runs.specs.Runs.{Gives}
use Rattle.link_runs.specs.Links.{Runs, LinksRun}
use Rattle.run_machines.specs.declared.sym.SymWorld.{SymWorld}
use Rattle.run_machines.specs.declared.outcome.Run.TheVariants.{Traced}
use Rattle.run_machines.specs.Runs.{if_all_fit, run_of_module, run_of_read, run_of_bytes}
use Rattle.run_machines.specs.Sym.{segment_fits, sym_outside, sym_pages, sym_trace, run_of_sym}
use Rattle.run_laws.specs.Objects.{sym_segment, blocks_of, objects_of}
use Rattle.run_laws.specs.Agree.{ModuleRuns, ObjectsRun, TracesAgree}
use Rattle.run_laws.proofs.Begun.{trace_is}

-- which segments fit, in both words for it
abbrev FitsLaw : Type 0
FitsLaw = (s : Session) (m : Module) → (first_outside s m ≡ None) ↔ (fits_session s m ≡ true)

-- a module whose segments fit comes to its trace
fitting : (o : Option ℕ) (t : Trace) → o ≡ None → if_all_fit o t ≡ Traced t
fitting o t e = ap (λ o. if_all_fit o t) e

of_module : FitsLaw → (s : Session) (m : Module) (n : ℕ) → fits_session s m ≡ true → run_of_module s m n ≡ Traced (module_trace s m n)
unfolding run_of_module
of_module law s m n fits = fitting (first_outside s m) (module_trace s m n) ((law s m).1 fits)

of_bytes : FitsLaw → (s : Session) (bytes : List ℕ) (m : Module) (n : ℕ) → module_of bytes ≡ Ok m → fits_session s m ≡ true → run_of_bytes s bytes n ≡ Traced (module_trace s m n)
unfolding run_of_bytes
of_bytes law s bytes m n read fits = ap (λ r. run_of_read s r n) read ∙ of_module law s m n fits

module_runs : FitsLaw → (p : Program) (exports : List InputSymbol) (bytes : List ℕ) → Gives p exports bytes → ModuleRuns p exports bytes
module_runs law p exports bytes g = λ s n enough. of_bytes law s bytes g.is n g.read (g.fits s enough) ∙ ap Traced (sym (g.runs s n enough))

-- ---- the objects

-- a block that rises ends below the end of memory
rise_end : (at end : ℕ) (blocks : List Block) → Rise at end blocks → at ≤ end
rise_end at end [] rises = rises
rise_end at end (b ∷ bs) rises = let later = rise_end (b.address + length b.bytes) end bs rises.1 in omega (arith, rises.0, later)

none_outside : (room at number : ℕ) (blocks : List Block) → Rise at room blocks → first_not (segment_fits room) number (map sym_segment blocks) ≡ None
none_outside room at number [] rises = refl
none_outside room at number (b ∷ bs) rises =
    let next : ℕ = b.address + length b.bytes in
    ap (λ fits. if fits then first_not (segment_fits room) (number + 1) (map sym_segment bs) else Some number) (le-leb next room (rise_end next room bs rises.1))
    ∙ none_outside room next (number + 1) bs rises.1

all_inside : (s : Session) (p : Program) (exports : List InputSymbol) → Holds s p exports (layout_of p exports)
    → sym_outside (sym_pages s (objects_of p exports)) (objects_of p exports).segments ≡ None
unfolding objects_of
all_inside s p exports holds =
    let l : Layout = layout_of p exports in
    none_outside (65536 * pages_at_first s p l) 0 0 (blocks_of p (live p exports) l) holds.rises

of_sym : (s : Session) (w : SymWorld) (n : ℕ) → sym_outside (sym_pages s w) w.segments ≡ None → run_of_sym s w n ≡ Traced (sym_trace s w n)
unfolding run_of_sym
of_sym s w n none = fitting (sym_outside (sym_pages s w) w.segments) (sym_trace s w n) none

objects_run : (p : Program) (exports : List InputSymbol) (bytes : List ℕ) → Gives p exports bytes → ObjectsRun p exports
objects_run p exports bytes g = λ s n enough. of_sym s (objects_of p exports) n (all_inside s p exports (g.holds s enough)) ∙ ap Traced (trace_is s p exports n)

pub agree_law : LinksRun → FitsLaw → TracesAgree
agree_law links law = λ plan files bytes is count plain given.
    let r : Runs plan files bytes = links plan files bytes is count given plain in
    let p : Program = program_of Plain plan files r.all r.objects in
    record {
      all = r.all;
      objects = r.objects;
      found = r.found;
      loaded = r.loaded;
      runs = module_runs law p (exported Plain p) bytes r.gives;
      same = objects_run p (exported Plain p) bytes r.gives;
    }
