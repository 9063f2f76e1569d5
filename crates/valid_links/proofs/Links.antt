-- A link that gives bytes makes sure of all that its output's validity asks.
use Rattle.std.proofs.Common.{◌≡◌, ℕ, ◌-◌, List, [], ◌∷◌, length, map, Some, None, Bool, true, sym, ap, ◌∙◌, subst, inl, inr, arith}
use Rattle.std.specs.Prelude.{◌==◌, slice_get, find, unwrap_or, Ok}
use Rattle.std.specs.List.{list_all}
use Rattle.std.proofs.lemmas.Bool.{and_parts}
use Rattle.list_places.specs.Has.{Has}
use Rattle.list_places.proofs.Lists.{has_at, all_has}
use Rattle.object_file.specs.wasm_types.declared.const_expr.ConstExpr.{ConstExpr}
use Rattle.object_file.specs.wasm_types.declared.const_expr.ConstExpr.TheVariants as constants
use Rattle.object_file.specs.wasm_types.declared.value.ValType.{ValType}
use Rattle.object_file.specs.wasm_module.wasm_instr.BodyLaws.{body_again}
use Rattle.object_file.specs.object_parts.declared.parts.GlobalDef.{GlobalDef}
use Rattle.object_file.specs.declared.object.Object.{Object}
use Rattle.object_file.specs.ObjectOf.{IsObject, object_of}
use Rattle.object_file.specs.Sound.{Sound as ObjectSound}
use Rattle.object_file.specs.Spellable.{IsSpellable}
use Rattle.object_file.proofs.Read.{object_found}
use Rattle.link_runs.specs.link_facts.link_worlds.link_rules.round_rules.Rounds.{Candidate, load}
use Rattle.link_plan.specs.declared.plan.Plan.{Plan}
use Rattle.link_plan.specs.Plan.{IsPlan}
use Rattle.made_symbols.specs.declared.mode.Mode.TheVariants.{Plain}
use Rattle.live_mark.specs.Live.{ReachedLaw}
use Rattle.link_runs.specs.link_facts.link_worlds.link_rules.name_rules.Entries.{InputSymbol}
use Rattle.link_runs.specs.link_facts.link_worlds.link_rules.name_rules.Cases.{clash_by, duplicate}
use Rattle.link_runs.specs.link_facts.link_worlds.link_rules.Candidates.{candidates_of}
use Rattle.link_runs.specs.link_facts.link_worlds.link_rules.Program.{Program, program_of, Part}
use Rattle.link_runs.specs.link_facts.link_worlds.link_rules.Marks.{exported, repeated_export}
use Rattle.link_runs.specs.link_facts.link_worlds.link_rules.Values.{part_bytes}
use Rattle.link_runs.specs.link_facts.link_worlds.link_rules.LinkOf.{asked_names, the_readers, link_by, link_program, too_many_names, plain_link}
use Rattle.link_runs.specs.link_program.Loaded.{home_of, IsLoaded, IsReadFrom}
use Rattle.link_runs.specs.link_inputs.Loaded.{LoadedAreSound}
use Rattle.link_runs.specs.link_facts.link_worlds.Sound.{IsConstant, IsShaped, Shaped, Takes}
use Rattle.link_runs.specs.link_facts.link_worlds.Worlds.{layout_of, linked_module}
use Rattle.link_runs.specs.link_facts.link_worlds.Statements.{LinkedBy}
use Rattle.link_runs.proofs.link_worlds_lemmas.Live.{live_part}
use Rattle.link_runs.specs.link_facts.output_module.Filled.{Reads, TakenBody}
use Rattle.link_runs.specs.link_facts.output_module.Outputs.{IsCoded}
use Rattle.link_runs.specs.link_facts.Faults.{NoFault, ValuesFit}
use Rattle.link_runs.specs.link_facts.Facts.{IsFrom, IsReading, Facts, FactsHold, bytes_of}
use Rattle.link_runs.proofs.link_facts_lemmas.Loads.{are_loaded}
use Rattle.link_runs.proofs.link_facts_lemmas.Steps.{guard, is_link, is_linked, is_marked}
use Rattle.link_runs.specs.Links.{LinksRun}
use Rattle.output_types.specs.valid_objects.Objects.{IsValidObject}
use Rattle.output_types.specs.wasm_valid.Rules.{has_type}
use Rattle.output_types.specs.wasm_valid.Valid.{IsValid}
use Rattle.output_types.proofs.wasm_valid_lemmas.Computed.{judged_is_computed}
use Rattle.output_types.specs.Statements.{OutputsAreValid, PlacesDontCount}
use Rattle.valid_links.specs.Types.{NamesHaveOneType}
use Rattle.valid_links.specs.Links.{LinksAreValid}
use Rattle.valid_links.proofs.Candidates.{found, candidates_read}
use Rattle.valid_links.proofs.Parts.{of_some_object, of_global, function_is, typed_function, calls_plain}
use Rattle.valid_links.proofs.OneTypes.{one_types}
use Rattle.valid_links.proofs.Variants.{variant_typed}

-- ---- one type a name

pub one_type_law : ReachedLaw → NamesHaveOneType
unfolding program_of
one_type_law law plan files all objects exports loaded clear text lk = one_types plan files all objects loaded clear law exports lk (variant_typed plan files all objects loaded clear text)

-- ---- from what a link makes sure of

-- an object is what its candidate's bytes are
is_from : (plan : Plan) (files : List (List ℕ)) (all : List Candidate) (objects : List Object) → candidates_of the_readers plan files ≡ Ok all → IsLoaded files all objects (map home_of all)
    → (o : Object) → Has objects o → IsFrom files all o
is_from plan files all objects c loaded o h =
    let each = all_has (λ (o : Object). (c : Candidate) × (slice_get all (o.input - 1) ≡ Some c) × IsReadFrom files c o) objects loaded.each o h in
    let d = each.0 in
    let r = candidates_read files plan all c d (has_at all (o.input - 1) d each.1) in
    record {
      candidate = d;
      found = found all (o.input - 1) d o.input loaded.numbered each.1 each.2.input;
      is = object_found o.input (bytes_of files d) o (ap (λ n. object_of n (bytes_of files d)) (sym each.2.input) ∙ sym r ∙ each.2.object);
    }

shaped : TakenBody → (p : Program) (exports : List InputSymbol) (part : Part) → IsCoded p part → IsReading p part → IsShaped p part
shaped taken p exports part c reads =
    subst (Shaped part.named) (sym (body_again (part_bytes p part) c.body c.spelled))
    (λ x h. subst (λ ns. Takes ns x) (sym c.named)
    (taken p (layout_of p exports) c.body c.stands (part_bytes p part) c.spelled c.on (λ y m. subst (λ ns. Reads ns y) c.named (reads c.body c.spelled y m)) x h))

linked : TakenBody → ValuesFit → (p : Program) (exports : List InputSymbol) → Facts p exports → NoFault p exports (layout_of p exports) → LinkedBy p exports (layout_of p exports)
linked taken fit p exports f n =
    let v = fit p exports f.sound f.exported f.measured n in
    record {
      sound = f.sound;
      exported = f.exported;
      shaped = λ part h k i. let l = live_part p exports part h in shaped taken p exports part (f.coded part l k i) (f.reads part l k i);
      calls = λ part ref h. f.calls part ref (live_part p exports part h);
      constants = λ part h. f.constants part (live_part p exports part h);
      resolved = n.resolved;
      in_range = v.0;
      small = v.1;
    }

-- no export is repeated
differ : (p : Program) (bytes : List ℕ) → link_program Plain p ≡ Ok bytes → repeated_export Plain p (exported Plain p) ≡ None
unfolding link_program
differ p bytes e =
    let a = guard (too_many_names p) p _ bytes e in
    let b = guard (clash_by p.plan.loose_calls p.entries) p _ bytes a.1 in
    let c = guard (duplicate p.entries) p _ bytes b.1 in
    (guard (repeated_export Plain p (exported Plain p)) (exported Plain p) _ bytes c.1).0

-- ---- from what is asked of objects

every : {A : Type 0} (test : A → Bool) (xs : List A) → list_all test xs ≡ true → (x : A) → Has xs x → test x ≡ true
every test [] e x h = absurd h
every test (y ∷ ys) e x (inl q) = sym (ap test q) ∙ (and_parts (test y) (list_all test ys) e).0
every test (y ∷ ys) e x (inr h) = every test ys (and_parts (test y) (list_all test ys) e).1 x h

-- a global of a valid object begins with a constant
is_constant : (t : ValType) (e : ConstExpr) → has_type [] t e ≡ true → IsConstant e
is_constant t (constants.I32 z) h = tt
is_constant t (constants.I64 z) h = tt
is_constant t (constants.Get g) h = absurd (grind arith)

global_has : (o : Object) (bytes : List ℕ) → IsValidObject o bytes → (g : GlobalDef) → Has o.globals g → has_type [] g.kind.kind g.value ≡ true
global_has o bytes valid g h = every (λ (g : GlobalDef). has_type [] g.kind.kind g.value) o.globals valid.globals g h

-- ---- all

module _ (one_type : NamesHaveOneType) (outputs : OutputsAreValid) (places : PlacesDontCount) (taken : TakenBody) (sound_law : (input : ℕ) (bytes : List ℕ) (object : Object) → IsObject input bytes object → ObjectSound (length bytes) object)
    (spell_law : (input : ℕ) (bytes : List ℕ) (object : Object) → IsObject input bytes object → IsSpellable object) (loads : LoadedAreSound) (fit : ValuesFit) (facts : FactsHold) where
  module_valid : (plan : Plan) (files : List (List ℕ)) (bytes : List ℕ) (all : List Candidate) (objects : List Object) → IsPlan plan → length files ≡ unwrap_or plan.make_case (length plan.inputs)
      → candidates_of the_readers plan files ≡ Ok all → load Plain (asked_names plan) all ≡ Ok objects
      → ((o : Object) (c : Candidate) → Has objects o → find (λ c. c.input == o.input) all ≡ Some c → IsValidObject o (bytes_of files c))
      → link_by Plain the_readers plan files ≡ Ok bytes → IsValid (linked_module (program_of Plain plan files all objects) (exported Plain (program_of Plain plan files all objects)))
  unfolding program_of
  module_valid plan files bytes all objects is long c l valid e =
      let p = program_of Plain plan files all objects in
      let x = exported Plain p in
      let read = (loads Plain plan files (asked_names plan) all objects long c l).1 in
      let loaded = are_loaded files all objects (map home_of all) read in
      let from = is_from plan files all objects c read in
      let given : (o : Object) (h : Has objects o) → IsValidObject o (bytes_of files (from o h).candidate) = λ o h. valid o (from o h).candidate h (from o h).found in
      let link = is_link plan files bytes all objects c l e in
      let k = is_linked p bytes link in
      let n = (is_marked p x bytes k.1).0 in
      let constant : (o : Object) → Has objects o → (g : GlobalDef) → Has o.globals g → IsConstant g.value = λ o h g m. is_constant g.kind.kind g.value (global_has o (bytes_of files (from o h).candidate) (given o h) g m) in
      let f = facts plan files all objects (map home_of all) (record { loaded = read; each = from; constants = constant }) k.0 in
      let lk = linked taken fit p x f n in
      outputs p x lk (one_type plan files all objects x loaded k.0 (λ o h. spell_law o.input (bytes_of files (from o h).candidate) o (from o h).is) lk)
      (λ part h z i.
      let s = of_some_object plan files all objects loaded k.0 part (live_part p x part h) i in
      typed_function plan files all objects loaded k.0 (λ o ho from'. sound_law o.input (bytes_of files from'.candidate) o from'.is) s.object s.there (from s.object s.there) (given s.object s.there) part
      (function_is plan files all objects loaded k.0 s.object part s.strict_part s.stands s.is z))
      (λ part ref h z r. calls_plain plan files all objects loaded k.0 part ref (live_part p x part h) z r)
      (record {
        plan = is;
        memory = n.memory;
        names = differ p bytes link;
        globals = λ part g h q.
            let o = of_global plan files all objects loaded k.0 part (live_part p x part h) g q in
            global_has o.0 (bytes_of files (from o.0 o.1).candidate) (given o.0 o.1) g o.2;
      })

  pub links_law : LinksRun → LinksAreValid
  links_law runs plan files bytes is long plain valid given =
      let e = sym (plain_link plan files plain) ∙ given in
      let r = runs plan files bytes is long given plain in
      let v = places (linked_module (program_of Plain plan files r.all r.objects) (exported Plain (program_of Plain plan files r.all r.objects))) r.gives.is r.gives.linked
      (module_valid plan files bytes r.all r.objects is long r.found r.loaded (valid r.all r.objects r.found r.loaded) e) in
      record { is = r.gives.is; read = r.gives.read; spelled = r.gives.spelled; valid = v; no_fault = judged_is_computed r.gives.is (Ok tt) v }
