-- A shared link that gives bytes makes sure of all that its output's validity asks.
use Rattle.std.proofs.Common.{◌≡◌, ℕ, zero, suc, List, [], ◌∷◌, ◌++◌, length, map, Some, None, Bool, true, false, refl, sym, ap, ◌∙◌, subst, inl, inr, arith}
use Rattle.std.specs.Prelude.{◌==◌, codes, slice_get, find, unwrap_or, Ok}
use Rattle.std.specs.List.{list_all}
use Rattle.std.proofs.lemmas.Bool.{and_parts}
use Rattle.list_places.proofs.Lists.{some_is}
use Rattle.list_places.specs.Has.{Has}
use Rattle.object_parts.specs.declared.parts.GlobalDef.{GlobalDef}
use Rattle.object_file.specs.declared.object.Object.{Object}
use Rattle.object_file.specs.ObjectOf.{IsObject}
use Rattle.object_file.specs.Sound.{Sound as ObjectSound}
use Rattle.object_file.specs.Spellable.{IsSpellable}
use Rattle.round_rules.specs.Rounds.{Candidate, load}
use Rattle.link_plan.specs.declared.plan.Plan.{Plan}
use Rattle.shared_facts.specs.shared_links.link_program.declared.home.Home.{Home}
use Rattle.shared_facts.specs.shared_links.link_program.Loaded.{home_of}
use Rattle.made_symbols.specs.declared.mode.Mode.TheVariants.{Shared}
use Rattle.live_mark.specs.Live.{ReachedLaw}
use Rattle.name_rules.specs.Entries.{InputSymbol, ImportKey, entries, of_global}
use Rattle.name_rules.specs.Cases.{clash_by}
use Rattle.shared_facts.specs.shared_links.program_build.Standing.{StrictPartsStand, LoadedPartsStand}
use Rattle.shared_facts.specs.shared_links.link_inputs.Loaded.{LoadedAreSound}
use Rattle.link_rules.specs.ModeOf.{mode_of}
use Rattle.link_rules.specs.Candidates.{candidates_of}
use Rattle.link_rules.specs.Program.{Program, program_of}
use Rattle.link_rules.specs.Marks.{live, exported}
use Rattle.link_rules.specs.Keys.{GlobalKey, outside_global, global_imports_in, defined_globals, globals}
use Rattle.link_rules.specs.Output.{layout, global_import}
use Rattle.link_rules.specs.LinkOf.{asked_names, the_readers, link_of}
use Rattle.shared_facts.proofs.shared_links_lemmas.link_worlds_lemmas.Live.{live_part}
use Rattle.shared_facts.proofs.shared_links_lemmas.link_worlds_lemmas.Functions.{picks_apart}
use Rattle.shared_facts.specs.shared_links.link_facts.Facts.{bytes_of}
use Rattle.shared_facts.proofs.shared_links_lemmas.link_runs_lemmas.LinksRun.{is_from}
use Rattle.output_types.specs.Types.{constant_cell}
use Rattle.output_types.specs.Statements.{PlacesDontCount}
use Rattle.shared_facts.specs.shared_links.shared_module.Outputs.{shared_module}
use Rattle.wasm_valid.specs.Rules.{has_type}
use Rattle.wasm_valid.specs.Valid.{IsValid}
use Rattle.wasm_valid.proofs.Computed.{judged_is_computed}
use Rattle.valid_objects.specs.Objects.{IsValidObject}
use Rattle.shared_facts.specs.shared_links.shared_laws.Linked.{linkers, the_linkers}
use Rattle.shared_facts.specs.shared_links.shared_laws.Placed.{WordsAreLoaded, SharedWordsAreLoaded}
use Rattle.shared_facts.proofs.shared_links_lemmas.shared_laws_lemmas.Solid.{end_small}
use Rattle.shared_facts.proofs.shared_links_lemmas.shared_laws_lemmas.Steps.{link_fits}
use Rattle.shared_facts.specs.shared_links.Links.{SharedLinksAreRead}
use Rattle.shared_facts.specs.shared_types.Linked.{SharedLinkedBy}
use Rattle.shared_facts.specs.shared_types.Checked.{IsBase}
use Rattle.shared_facts.specs.shared_types.Statements.{SharedOutputsAreValid}
use Rattle.shared_facts.proofs.shared_types_lemmas.Spaces.{no_global}
use Rattle.shared_facts.specs.Facts.{SharedFactsHold}
use Rattle.valid_shared_links.specs.Types.{SharedNamesHaveOneType}
use Rattle.valid_shared_links.specs.Links.{SharedLinksAreValid}
use Rattle.valid_shared_links.proofs.Parts.{of_some_object, of_global as global_of, function_is, typed_function, calls_plain}
use Rattle.valid_shared_links.proofs.OneTypes.{one_types}

-- ---- one type a name

pub one_type_law : ReachedLaw → StrictPartsStand → LoadedPartsStand → SharedNamesHaveOneType
unfolding program_of
one_type_law law strict_law stand_law plan files all objects homes exports loaded clear text lk = one_types strict_law stand_law plan files all objects homes loaded clear text law exports lk

-- ---- the linker's imports come first

outside_is : (a b : ImportKey) → outside_global a ≡ outside_global b → a ≡ b
outside_is a b h = grind arith

-- an import at a place of all globals, where at least as many globals are imported
behind_imports : (ks : List ImportKey) (ds : List GlobalKey) (n : ℕ) (k : ImportKey) → slice_get (map outside_global ks ++ ds) n ≡ Some (outside_global k) → ((d : GlobalKey) → Has ds d → (j : ImportKey) → d ≡ outside_global j → ⊥) → slice_get ks n ≡ Some k
behind_imports [] [] n k h apart = absurd (grind arith)
behind_imports [] (d ∷ ds) zero k h apart = absurd (apart d (inl refl) k (some_is d (outside_global k) h))
behind_imports [] (d ∷ ds) (suc n) k h apart = behind_imports [] ds n k h (λ d m. apart d (inr m))
behind_imports (j ∷ ks) ds zero k h apart = ap Some (outside_is j k (some_is (outside_global j) (outside_global k) h))
behind_imports (j ∷ ks) ds (suc n) k h apart = behind_imports ks ds n k h apart

-- ---- from what is asked of objects

every : {A : Type 0} (test : A → Bool) (xs : List A) → list_all test xs ≡ true → (x : A) → Has xs x → test x ≡ true
every test [] e x h = absurd h
every test (y ∷ ys) e x (inl q) = sym (ap test q) ∙ (and_parts (test y) (list_all test ys) e).0
every test (y ∷ ys) e x (inr h) = every test ys (and_parts (test y) (list_all test ys) e).1 x h

global_has : (o : Object) (bytes : List ℕ) → IsValidObject o bytes → (g : GlobalDef) → Has o.globals g → has_type [] g.kind.kind g.value ≡ true
global_has o bytes valid g h = every (λ (g : GlobalDef). has_type [] g.kind.kind g.value) o.globals valid.globals g h

module _ (p : Program) (x : List InputSymbol) (lk : SharedLinkedBy p x) (w : WordsAreLoaded p x) where
  no_outside : (d : GlobalKey) → Has (defined_globals Shared (live p x) x) d → (j : ImportKey) → d ≡ outside_global j → ⊥
  no_outside d h j e = absurd (let n : global_import Shared p (live p x) x (layout Shared p (live p x) x) (outside_global j) ≡ None = subst (λ k. global_import Shared p (live p x) x (layout Shared p (live p x) x) k ≡ None) e (no_global p x lk d h) in grind arith)

  base_at : (n : ℕ) (k : ImportKey) → slice_get (map outside_global the_linkers ++ w.bases.0) n ≡ Some (outside_global k) → k.type ≡ of_global constant_cell → IsBase p x n
  unfolding layout globals
  base_at n k e t =
      (k, behind_imports (global_imports_in Shared p (live p x)) (defined_globals Shared (live p x) x) n k (ap (λ gs. slice_get gs n) w.bases.1 ∙ e) no_outside, t)

  pub memory_base : IsBase p x 1
  memory_base = base_at 1 (linkers (codes "__memory_base") false) refl refl

  pub table_base : IsBase p x 2
  table_base = base_at 2 (linkers (codes "__table_base") false) refl refl

-- ---- all

module _ (one_type : SharedNamesHaveOneType) (outputs : SharedOutputsAreValid) (facts : SharedFactsHold) (read : SharedLinksAreRead) (words : SharedWordsAreLoaded) (places : PlacesDontCount)
    (sound_law : (input : ℕ) (bytes : List ℕ) (object : Object) → IsObject input bytes object → ObjectSound (length bytes) object)
    (spell_law : (input : ℕ) (bytes : List ℕ) (object : Object) → IsObject input bytes object → IsSpellable object)
    (loads : LoadedAreSound) (strict_law : StrictPartsStand) (stand_law : LoadedPartsStand) where
  module_valid : (plan : Plan) (files : List (List ℕ)) (bytes : List ℕ) (all : List Candidate) (objects : List Object) → length files ≡ unwrap_or plan.make_case (length plan.inputs) → mode_of plan ≡ Shared
      → candidates_of the_readers plan files ≡ Ok all → load Shared (asked_names plan) all ≡ Ok objects → link_of plan files ≡ Ok bytes
      → ((o : Object) (c : Candidate) → Has objects o → find (λ c. c.input == o.input) all ≡ Some c → IsValidObject o (bytes_of files c))
      → IsValid (shared_module (program_of Shared plan files all objects) (exported Shared (program_of Shared plan files all objects)))
  unfolding program_of
  module_valid plan files bytes all objects long shared c l e valid =
      let p = program_of Shared plan files all objects in
      let x = exported Shared p in
      let homes : List Home = map home_of all in
      let loaded = (loads Shared plan files (asked_names plan) all objects long c l).1 in
      let from = is_from plan files all objects c loaded in
      let given : (o : Object) (h : Has objects o) → IsValidObject o (bytes_of files (from o h).candidate) = λ o h. valid o (from o h).candidate h (from o h).found in
      let are : (o : Object) → Has objects o → IsSpellable o = λ o h. spell_law o.input (bytes_of files (from o h).candidate) o (from o h).is in
      let f = link_fits plan files bytes all objects shared c l e in
      let clear : clash_by plan.loose_calls (entries Shared objects) ≡ None = f.clear in
      let lk = facts plan files bytes all objects long shared c l e in
      let w = words plan files bytes all objects long shared c l e in
      outputs p x lk (one_type plan files all objects homes x loaded clear are lk)
      (λ part h z i.
      let s = of_some_object strict_law stand_law plan files all objects homes loaded clear part (live_part p x part h) i in
      typed_function strict_law stand_law plan files all objects homes loaded clear (λ o ho from'. sound_law o.input (bytes_of files from'.candidate) o from'.is) s.object s.there (from s.object s.there) (given s.object s.there) part
      (function_is strict_law stand_law plan files all objects homes loaded clear s.object part s.strict_part s.stands s.is z))
      (λ part ref h z r. calls_plain strict_law stand_law plan files all objects homes loaded clear part ref (live_part p x part h) z r)
      (record {
        ends = end_small p x (picks_apart p x lk.sound.apart) f.fits.memory;
        names = f.names;
        globals = λ part g h q.
            let o = global_of strict_law stand_law plan files all objects homes loaded clear part (live_part p x part h) g q in
            global_has o.0 (bytes_of files (from o.0 o.1).candidate) (given o.0 o.1) g o.2;
        memory_base = memory_base p x lk w;
        table_base = table_base p x lk w;
        foreign = λ part ref h z r t. w.foreign part ref h z r t;
      })

  pub links_law : SharedLinksAreValid
  links_law plan files bytes long shared valid e =
      let r = read plan files bytes long shared e in
      let l = subst (λ mode. load mode (asked_names plan) r.all ≡ Ok r.objects) (sym shared) r.loaded in
      let v = places (shared_module (program_of Shared plan files r.all r.objects) (exported Shared (program_of Shared plan files r.all r.objects))) r.read.is r.read.linked
      (module_valid plan files bytes r.all r.objects long shared r.found r.loaded e (valid r.all r.objects r.found l)) in
      record { is = r.read.is; read = r.read.read; spelled = r.read.spelled; valid = v; no_fault = judged_is_computed r.read.is (Ok tt) v }
