-- A link that gives bytes is accepted in all that a run asks, so its output runs as the plan and the files tell.
use Rattle.std.proofs.Common.{◌≡◌, ℕ, ◌-◌, ◌≤◌, List, length, refl, sym, ap, ◌∙◌, subst, map, Some, None, arith}
use Rattle.std.specs.Prelude.{Result, Ok, Err, slice_get, unwrap_or}
use Rattle.wl_base.specs.Choice.{◌>>=◌}
use Rattle.wl_base.specs.declared.fault.Fault.{Fault}
use Rattle.list_places.specs.Has.{Has}
use Rattle.list_places.proofs.Lists.{has_at, all_has}
use Rattle.object_file.specs.declared.object.Object.{Object}
use Rattle.object_file.specs.ObjectOf.{object_of}
use Rattle.object_file.proofs.Read.{object_found}
use Rattle.round_rules.specs.Rounds.{Candidate, load}
use Rattle.link_plan.specs.declared.plan.Plan.{Plan}
use Rattle.made_symbols.specs.declared.mode.Mode.TheVariants.{Plain}
use Rattle.name_rules.specs.Entries.{InputSymbol}
use Rattle.name_rules.specs.Cases.{clash_by}
use Rattle.link_output.specs.link_rules.Candidates.{candidates_of}
use Rattle.link_output.specs.link_rules.Program.{Program, program_of, Part}
use Rattle.link_output.specs.link_rules.Marks.{live, exported}
use Rattle.link_output.specs.link_rules.LinkOf.{asked_names, the_readers, link_by, link_program, plain_link}
use Rattle.link_output.specs.link_program.Loaded.{home_of, IsLoaded, IsReadFrom}
use Rattle.link_inputs.specs.Loaded.{LoadedAreSound}
use Rattle.link_facts.specs.link_worlds.Worlds.{layout_of, linked_tree}
use Rattle.link_facts.proofs.link_worlds_lemmas.Live.{live_part}
use Rattle.link_facts.specs.output_module.Filled.{Reads}
use Rattle.link_facts.specs.output_module.Outputs.{IsCoded}
use Rattle.link_facts.specs.Faults.{NoFault}
use Rattle.link_facts.specs.Facts.{IsFrom, IsReading, Facts, FactsHold, bytes_of}
use Rattle.link_runs.specs.Runs.{IsRun, IsAccepted, Gives, OutputRuns}
use Rattle.link_runs.specs.Links.{LinksRun}
use Rattle.link_runs.proofs.Ranges.{IsRanged}
use Rattle.link_runs.proofs.Candidates.{found, candidates_read}
use Rattle.image_emit.specs.Bytes.{Tree, bytes_of as bytes_of_tree}
use Rattle.image_emit.specs.Spelled.{entries, IsConstant as IsInRange}
use Rattle.link_runs.proofs.Constants.{constants_of}
use Rattle.link_runs.proofs.Few.{few_functions, few_types, spells}
use Rattle.link_runs.proofs.Names.{ObjectNamed, names_of}
use Rattle.link_runs.proofs.Given.{loose_key_named, loose_export_named, loose_contents}
use Rattle.link_runs.proofs.Length.{short}
use Rattle.link_runs.proofs.Limits.{memory_fits, table_fits}
use Rattle.link_runs.proofs.Ranged.{ranged, few_global_keys}
use Rattle.object_parts.specs.declared.parts.GlobalDef.{GlobalDef}
use Rattle.link_plan.specs.Plan.{IsPlan}
use Rattle.link_output.specs.link_rules.Output.{image}
use Rattle.link_output.specs.link_rules.LinkOf.{output_fault}
use Rattle.link_facts.proofs.Loads.{are_loaded}
use Rattle.link_facts.proofs.Steps.{is_marked, is_linked, is_link}
use Rattle.name_rules.specs.Entries.{entries as entries_of}

pub is_from : (plan : Plan) (files : List (List ℕ)) (all : List Candidate) (objects : List Object) → candidates_of the_readers plan files ≡ Ok all → IsLoaded files all objects (map home_of all)
    → (o : Object) → Has objects o → IsFrom files all o
is_from plan files all objects c loaded o h =
    let each = all_has (λ (o : Object). (c : Candidate) × (slice_get all (o.input - 1) ≡ Some c) × IsReadFrom files c o) objects loaded.each o h in
    let d = each.0 in
    let r = candidates_read files plan all c d (has_at all (o.input - 1) d each.1) in
    record {
      candidate = d;
      found = found all (o.input - 1) d o.input loaded.numbered each.1 each.2.input;
      is = object_found o.input (bytes_of files d) o (ap (λ n. object_of n (bytes_of files d)) (sym each.2.input) ∙ sym r ∙ each.2.object);
    }

run : (p : Program) (part : Part) → IsReading p part → IsCoded p part → IsRun p part
run p part reads c = record { coded = c; reads = λ x m. subst (λ ns. Reads ns x) c.named (reads c.body c.spelled x m) }

accepted : ((t : Tree) → entries t ≤ length (bytes_of_tree t)) → (p : Program) (exports : List InputSymbol) → IsRanged (linked_tree p (live p exports) exports (layout_of p exports))
    → Facts p exports → NoFault p exports (layout_of p exports) → IsAccepted p exports
accepted law p exports ranged f n = record {
  sound = f.sound;
  exported = f.exported;
  measured = f.measured;
  no_fault = n;
  functions = λ part h k i. let l = live_part p exports part h in run p part (f.reads part l k i) (f.coded part l k i);
  calls = λ part ref h. f.calls part ref (live_part p exports part h);
  made = λ part n h. f.made part n (live_part p exports part h);
  constants = λ part h. f.constants part (live_part p exports part h);
  few = few_functions p (live p exports) exports (layout_of p exports) law ranged.short;
  spellable = spells p (live p exports) exports (layout_of p exports) law ranged;
}

module _ (plan : Plan) (files : List (List ℕ)) (all : List Candidate) (objects : List Object) where
  plan_is : (program_of Plain plan files all objects).plan ≡ plan
  unfolding program_of
  plan_is = refl

  entries_are : (program_of Plain plan files all objects).entries ≡ entries_of Plain objects
  unfolding program_of
  entries_are = refl

  in_ranges : ((t : Tree) → entries t ≤ length (bytes_of_tree t)) → IsPlan plan → (loaded : IsLoaded files all objects (map home_of all)) → ((o : Object) → Has objects o → IsFrom files all o)
      → clash_by plan.loose_calls (program_of Plain plan files all objects).entries ≡ None
      → (let p = program_of Plain plan files all objects in let x = exported Plain p in Facts p x → NoFault p x (layout_of p x)
      → output_fault p (image Plain p (live p x) x (layout_of p x)) ≡ None → IsRanged (linked_tree p (live p x) x (layout_of p x)))
  in_ranges law fit loaded from clear f n o =
      let p = program_of Plain plan files all objects in
      let x = exported Plain p in
      let are = are_loaded files all objects (map home_of all) loaded in
      let clear' = ap (clash_by plan.loose_calls) (sym entries_are) ∙ clear in
      let named : (o : Object) → Has objects o → ObjectNamed o = λ o h. names_of o.input (bytes_of files (from o h).candidate) o (from o h).is in
      let fits : (o : Object) → Has objects o → (g : GlobalDef) → Has o.globals g → IsInRange g.value = λ o h g m. (constants_of o.input (bytes_of files (from o h).candidate) o (from o h).is g m).1 in
      let s = short p x f.measured.stand o in
      ranged p (live p x) x (few_functions p (live p x) x (layout_of p x) law s) (few_types p (live p x) x (layout_of p x) law s)
      (few_global_keys p (live p x) x (λ part h. f.constants part (live_part p x part h)) law s)
      (loose_key_named plan files all objects are clear' named fits) (loose_export_named plan files all objects are clear' named fits)
      (λ part h. loose_contents plan files all objects are clear' named fits part (live_part p x part h))
      (memory_fits p x (subst IsPlan (sym plan_is) fit) n.memory) s (table_fits p x n.table)

gives_bytes : ((t : Tree) → entries t ≤ length (bytes_of_tree t)) → OutputRuns → FactsHold → LoadedAreSound → (plan : Plan) (files : List (List ℕ)) (bytes : List ℕ) (all : List Candidate) (objects : List Object)
    → IsPlan plan → length files ≡ unwrap_or plan.make_case (length plan.inputs)
    → candidates_of the_readers plan files ≡ Ok all → load Plain (asked_names plan) all ≡ Ok objects → link_by Plain the_readers plan files ≡ Ok bytes
    → Gives (program_of Plain plan files all objects) (exported Plain (program_of Plain plan files all objects)) bytes
unfolding program_of
gives_bytes law runs facts loads plan files bytes all objects fit long c l e =
    let p = program_of Plain plan files all objects in
    let loaded = (loads Plain plan files (asked_names plan) all objects long c l).1 in
    let from = is_from plan files all objects c loaded in
    let k = is_linked p bytes (is_link plan files bytes all objects c l e) in
    let m = is_marked p (exported Plain p) bytes k.1 in
    let f = facts plan files all objects (map home_of all) (record { loaded = loaded; each = from; constants = λ o h g k. (constants_of o.input (bytes_of files (from o h).candidate) o (from o h).is g k).0 }) k.0 in
    let r = in_ranges plan files all objects law fit loaded from k.0 f m.0 m.2 in
    subst (Gives p (exported Plain p)) m.1 (runs p (exported Plain p) (accepted law p (exported Plain p) r f m.0))

-- a step that ends in a value had one before
pub step_gives : {A B F : Type 0} (r : Result A F) (f : A → Result B F) (y : B) → (r >>= f) ≡ Ok y → (x : A) × (r ≡ Ok x) × (f x ≡ Ok y)
step_gives (Ok x) f y e = (x, refl, e)
step_gives (Err g) f y e = absurd (grind arith)

-- what a link that gives bytes found and loaded
loads_of : (plan : Plan) (files : List (List ℕ)) (bytes : List ℕ) → link_by Plain the_readers plan files ≡ Ok bytes
    → (all : List Candidate) × (objects : List Object) × (candidates_of the_readers plan files ≡ Ok all) × (load Plain (asked_names plan) all ≡ Ok objects)
unfolding link_by
loads_of plan files bytes e =
    let linked : List Candidate → List Object → Result (List ℕ) Fault = λ all objects. link_program Plain (program_of Plain plan files all objects) in
    let a = step_gives (candidates_of the_readers plan files) (λ all. load Plain (asked_names plan) all >>= linked all) bytes e in
    let b = step_gives (load Plain (asked_names plan) a.0) (linked a.0) bytes a.2 in
    (a.0, b.0, a.1, b.1)

pub links_law : ((t : Tree) → entries t ≤ length (bytes_of_tree t)) → OutputRuns → FactsHold → LoadedAreSound → LinksRun
links_law law runs facts loads plan files bytes fit long given plain =
    let e = sym (plain_link plan files plain) ∙ given in
    let l = loads_of plan files bytes e in
    record {
      all = l.0;
      objects = l.1;
      found = l.2;
      loaded = l.3;
      gives = gives_bytes law runs facts loads plan files bytes l.0 l.1 fit long l.2 l.3 e;
    }
