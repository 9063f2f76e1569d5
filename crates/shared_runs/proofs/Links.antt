-- What a link that gives bytes of a shared output runs as.
use Rattle.std.proofs.Common.{◌≡◌, ℕ, List, ◌++◌, map, Some, Bool, true, false, refl, sym, ap, ◌∙◌, subst, inl, inr, ⊎_elim, arith}
use Rattle.std.specs.Prelude.{◌⊎◌, ◌==◌, slice_get, IsTrue}
use Rattle.std.proofs.lemmas.Bool.{false≢true}
use Rattle.list_places.specs.Has.{Has}
use Rattle.list_places.proofs.Lists.{pick_has}
use Rattle.linking_section.specs.declared.symbol.SymbolKind.{SymbolKind}
use Rattle.linking_section.specs.declared.symbol.SymbolKind.TheVariants.{Function, Datum, GlobalVar, Section, Table}
use Rattle.linking_section.specs.Flags.{kind_code}
use Rattle.object_rules.specs.Relocs.{may_name}
use Rattle.made_symbols.specs.declared.mode.Mode.TheVariants.{Shared}
use Rattle.live_mark.specs.Live.{ReachedLaw}
use Rattle.name_rules.specs.Entries.{is_kind}
use Rattle.link_program.specs.Loaded.{home_of}
use Rattle.link_inputs.specs.Loaded.{LoadedAreSound}
use Rattle.program_build.specs.Standing.{LoadedPartsStand}
use Rattle.link_rules.specs.Program.{Program, Part, Ref, refs, a_symbol, named_ref, program_of}
use Rattle.link_rules.specs.Marks.{live, exported}
use Rattle.link_rules.specs.LinkOf.{asked_names}
use Rattle.link_worlds.proofs.Live.{live_part}
use Rattle.link_worlds.proofs.Functions.{picks_apart}
use Rattle.shared_laws.specs.Placed.{SharedWordsAreLoaded}
use Rattle.shared_laws.proofs.Named.{NamesByKind}
use Rattle.shared_laws.proofs.Steps.{link_fits}
use Rattle.shared_laws.proofs.Programs.{shared_stands, functions_stand}
use Rattle.shared_module.specs.Outputs.{shared_module}
use Rattle.shared_worlds.specs.Statements.{IsLoadable, SharedRunsAgree}
use Rattle.shared_runs.specs.Links.{SharedMemoryHolds, PlacesDoNotCount, SharedOutputsRun}
use Rattle.shared_runs.proofs.Standing.{data_starts}
use Rattle.shared_runs.proofs.Exported.{exports_fit}

-- what stands under `global.get` and is no global is a function or a datum
addressed : (kind : SymbolKind) → IsTrue (may_name 7 kind) → (kind_code kind == kind_code GlobalVar) ≡ false → (kind ≡ Function) ⊎ (kind ≡ Datum)
addressed Function t g = inl refl
addressed Datum t g = inr refl
addressed GlobalVar t g = absurd (grind arith)
addressed Section t g = absurd (false≢true t)
addressed Table t g = absurd (false≢true t)

by_kind : (ref : Ref) → NamesByKind ref → ref.kind ≡ 7 → is_kind GlobalVar ref.entry ≡ false → (ref.entry.symbol.kind ≡ Function) ⊎ (ref.entry.symbol.kind ≡ Datum)
by_kind ref n seven g =
    ⊎_elim (λ z. absurd (omega (arith, z, seven)))
    (λ t. addressed ref.entry.symbol.kind (subst (λ k. IsTrue (may_name k ref.entry.symbol.kind)) seven t) g) n

pub outputs_run : ReachedLaw → PlacesDoNotCount → SharedMemoryHolds → SharedRunsAgree → SharedWordsAreLoaded → LoadedAreSound → LoadedPartsStand → SharedOutputsRun
unfolding program_of
outputs_run law places holds agree words loads stand plan files bytes all objects long shared c l e lk define read x n bases =
    let p = program_of Shared plan files all objects in
    let exports = exported Shared p in
    let loaded = (loads Shared plan files (asked_names plan) all objects long c l).1 in
    let s = shared_stands stand plan files all objects (map home_of all) loaded in
    let fits = link_fits plan files bytes all objects shared c l e in
    let names = (functions_stand stand plan files all objects (map home_of all) loaded fits.clear).names in
    let w = words plan files bytes all objects long shared c l e in
    let ready : IsLoadable p exports = record {
      linked = lk;
      memory_base = ap (λ gs. slice_get gs 1) w.bases.1;
      table_base = ap (λ gs. slice_get gs 2) w.bases.1;
      foreign = w.foreign;
      addressed = λ part ref h k z m. by_kind ref (names part ref (live_part p exports part h) (pick_has named_ref part.named (a_symbol ref) ref m refl));
      small = exports_fit law stand plan files all objects (map home_of all) loaded exports s fits.fits.memory lk define;
      starts = data_starts p exports (picks_apart p exports s.apart);
    } in
    agree x p exports n ready (holds x p exports s bases) ∙ sym (places x (shared_module p exports) read.is n read.linked)
