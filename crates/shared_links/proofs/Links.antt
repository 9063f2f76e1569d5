-- A link that gives the bytes of a shared output makes sure of all that reading them asks.
use Rattle.std.proofs.Common.{◌≡◌, ℕ, List, map, sym, ◌∙◌, subst}
use Rattle.std.specs.Prelude.{Result, Ok, IsUtf8, ◌==◌, false}
use Rattle.wl_base.specs.Choice.{◌>>=◌}
use Rattle.wl_base.specs.declared.fault.Fault.{Fault}
use Rattle.list_places.specs.Has.{Has}
use Rattle.object_file.specs.declared.object.Object.{Object}
use Rattle.object_file.specs.Spellable.{IsSpellable}
use Rattle.object_file.specs.ObjectOf.{IsObject}
use Rattle.round_rules.specs.Rounds.{Candidate, load}
use Rattle.link_plan.specs.declared.plan.Plan.{Plan}
use Rattle.made_symbols.specs.declared.mode.Mode.TheVariants.{Shared}
use Rattle.name_rules.specs.Entries.{InputSymbol, name_of}
use Rattle.name_rules.specs.Meanings.{uses_of}
use Rattle.link_rules.specs.Candidates.{candidates_of}
use Rattle.link_rules.specs.Program.{Program, Part, Ref, refs, program_of}
use Rattle.link_rules.specs.Marks.{live, exported}
use Rattle.link_rules.specs.Output.{layout}
use Rattle.link_rules.specs.LinkOf.{asked_names, the_readers, link_by, link_program}
use Rattle.link_runs.specs.link_program.Loaded.{home_of, IsLoaded}
use Rattle.shared_laws.specs.program_build.Standing.{StrictPartsStand, LoadedPartsStand}
use Rattle.link_runs.specs.link_inputs.Loaded.{LoadedAreSound}
use Rattle.link_runs.proofs.link_worlds_lemmas.Live.{live_part}
use Rattle.link_runs.proofs.link_worlds_lemmas.Functions.{picks_apart}
use Rattle.link_runs.specs.link_facts.Facts.{IsFrom, bytes_of}
use Rattle.link_runs.proofs.LinksRun.{is_from, step_gives}
use Rattle.shared_laws.proofs.Programs.{shared_stands}
use Rattle.shared_laws.proofs.Solid.{end_small}
use Rattle.shared_laws.proofs.Steps.{Fits, link_fits, shared_link}
use Rattle.shared_module.specs.Outputs.{IsSharedRead, SharedOutputIsRead}
use Rattle.shared_module.specs.Fit.{IsSharedFit, SharedOutputIsWritten}
use Rattle.shared_links.specs.Links.{SharedLinksAreRead}
use Rattle.shared_links.proofs.Keys.{function_named, global_named, export_named}
use Rattle.shared_links.proofs.Programs.{SoundLaw, BodiesLaw, entries_are, resolved_are, coded, contents, constants, ref_named, addends, exports_listed}
use Rattle.shared_links.proofs.Short.{short}

abbrev pub SpellLaw : Type 0
SpellLaw = (input : ℕ) (bytes : List ℕ) (object : Object) → IsObject input bytes object → IsSpellable object

module _ (sound_law : SoundLaw) (bodies_law : BodiesLaw) (strict_law : StrictPartsStand) (stand_law : LoadedPartsStand) (plan : Plan) (files : List (List ℕ)) (all : List Candidate) (objects : List Object)
    (loaded : IsLoaded files all objects (map home_of all)) (from : (o : Object) → Has objects o → IsFrom files all o) (are : (o : Object) → Has objects o → IsSpellable o) where
  abbrev p : Program
  p = program_of Shared plan files all objects

  abbrev x : List InputSymbol
  x = exported Shared (program_of Shared plan files all objects)

  fits : (bytes : List ℕ) → Fits p x bytes → IsSharedFit p x
  unfolding layout
  fits bytes f =
      let s = shared_stands stand_law plan files all objects (map home_of all) loaded in
      let e = entries_are sound_law bodies_law strict_law plan files all objects (map home_of all) loaded from are in
      let r = resolved_are sound_law bodies_law strict_law plan files all objects (map home_of all) loaded from are in
      let u = uses_of Shared objects in
      let named : (part : Part) (ref : Ref) → Has (live p x) part → Has (refs part) ref → (ref.kind == 0) ≡ false → IsUtf8 (name_of ref.entry) = λ part ref h. ref_named sound_law bodies_law strict_law plan files all objects (map home_of all) loaded from are part ref (live_part p x part h) in
      record {
        short = short p x s.stand f.output;
        functions = function_named u plan.allow_undefined objects are p e r (live p x) x named;
        globals = global_named u plan.allow_undefined objects are p e r (live p x) x named;
        names = λ y h. export_named u plan.allow_undefined objects are p e r y (exports_listed sound_law bodies_law strict_law plan files all objects (map home_of all) loaded from are y h);
        constants = λ part h. constants sound_law bodies_law strict_law plan files all objects (map home_of all) loaded from are part (live_part p x part h);
        contents = λ part h. contents sound_law bodies_law strict_law plan files all objects (map home_of all) loaded from are part (live_part p x part h);
        addends = λ part ref h. addends sound_law bodies_law strict_law plan files all objects (map home_of all) loaded from are part ref (live_part p x part h);
        ends = end_small p x (picks_apart p x s.apart) f.memory;
      }

  reads : SharedOutputIsRead → SharedOutputIsWritten → (bytes : List ℕ) → Fits p x bytes → IsSharedRead p x bytes
  reads read write bytes f =
      let s = shared_stands stand_law plan files all objects (map home_of all) loaded in
      subst (IsSharedRead p x) f.is
      (read p x (write p x s.apart (λ part h. coded sound_law bodies_law strict_law plan files all objects (map home_of all) loaded from are part (live_part p x part h)) (fits bytes f)))

-- what a link that gives bytes found and loaded
loads_of : (plan : Plan) (files : List (List ℕ)) (bytes : List ℕ) → link_by Shared the_readers plan files ≡ Ok bytes
    → (all : List Candidate) × (objects : List Object) × (candidates_of the_readers plan files ≡ Ok all) × (load Shared (asked_names plan) all ≡ Ok objects)
unfolding link_by
loads_of plan files bytes e =
    let linked : List Candidate → List Object → Result (List ℕ) Fault = λ all objects. link_program Shared (program_of Shared plan files all objects) in
    let a = step_gives (candidates_of the_readers plan files) (λ all. load Shared (asked_names plan) all >>= linked all) bytes e in
    let b = step_gives (load Shared (asked_names plan) a.0) (linked a.0) bytes a.2 in
    (a.0, b.0, a.1, b.1)

pub links_are_read : SharedOutputIsRead → SharedOutputIsWritten → SoundLaw → SpellLaw → BodiesLaw → StrictPartsStand → LoadedPartsStand → LoadedAreSound → SharedLinksAreRead
links_are_read read write sound_law spell_law bodies_law strict_law stand_law loads plan files bytes long shared e =
    let l = loads_of plan files bytes (sym (shared_link plan files shared) ∙ e) in
    let all = l.0 in
    let objects = l.1 in
    let loaded = (loads Shared plan files (asked_names plan) all objects long l.2 l.3).1 in
    let from = is_from plan files all objects l.2 loaded in
    let are : (o : Object) → Has objects o → IsSpellable o = λ o h. spell_law o.input (bytes_of files (from o h).candidate) o (from o h).is in
    let f = link_fits plan files bytes all objects shared l.2 l.3 e in
    record {
      all = all;
      objects = objects;
      found = l.2;
      loaded = l.3;
      read = reads sound_law bodies_law strict_law stand_law plan files all objects loaded from are read write bytes f.fits;
    }
