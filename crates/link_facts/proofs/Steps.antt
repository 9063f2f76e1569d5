-- Where a link gives bytes, no fault applies.
use Rattle.std.proofs.Common.{◌≡◌, ℕ, List, refl, subst, Option, Some, None, arith}
use Rattle.std.specs.Prelude.{Result, Ok}
use Rattle.wl_base.specs.Choice.{unless, ◌>>=◌}
use Rattle.object_file.specs.declared.object.Object.{Object}
use Rattle.round_rules.specs.Rounds.{Candidate, load}
use Rattle.link_plan.specs.declared.plan.Plan.{Plan}
use Rattle.made_symbols.specs.declared.mode.Mode.TheVariants.{Plain}
use Rattle.name_rules.specs.Entries.{InputSymbol}
use Rattle.name_rules.specs.Cases.{clash_by, duplicate}
use Rattle.output_module.specs.link_rules.Candidates.{candidates_of}
use Rattle.output_module.specs.link_rules.Program.{Program, program_of}
use Rattle.output_module.specs.link_rules.Marks.{live, exported, repeated_export, pic_fault, unresolved, uncalled}
use Rattle.output_module.specs.link_rules.Output.{image, source_windows}
use Rattle.output_module.specs.link_rules.LinkOf.{asked_names, the_readers, link_by, link_program, marked, laid_out, written, output_bytes, too_many_names, memory_fault, table_fault, output_fault, reference_fault}
use Rattle.output_module.specs.link_worlds.Worlds.{layout_of}
use Rattle.link_facts.specs.Faults.{NoFault}

pub guard : {A B F : Type 0} (t : Option F) (x : A) (f : A → Result B F) (y : B) → (unless t x >>= f) ≡ Ok y → (t ≡ None) × (f x ≡ Ok y)
guard None x f y e = (refl, e)
guard (Some g) x f y e = absurd (grind arith)

ok_is : {A F : Type 0} (x y : A) (r : Result A F) → r ≡ Ok x → r ≡ Ok y → x ≡ y
ok_is x y r a b = grind arith

module _ (p : Program) (exports : List InputSymbol) (bytes : List ℕ) where
  record Written : Type 0 where
    output : output_fault p (image Plain p (live p exports) exports (layout_of p exports)) ≡ None
    references : reference_fault (source_windows Plain p (live p exports) exports (layout_of p exports)) ≡ None
    is : output_bytes Plain p (image Plain p (live p exports) exports (layout_of p exports)) (source_windows Plain p (live p exports) exports (layout_of p exports)) ≡ bytes

  is_written : written Plain p (image Plain p (live p exports) exports (layout_of p exports)) (source_windows Plain p (live p exports) exports (layout_of p exports)) ≡ Ok bytes → Written
  unfolding written
  is_written e =
      let i = image Plain p (live p exports) exports (layout_of p exports) in
      let ws = source_windows Plain p (live p exports) exports (layout_of p exports) in
      let a = guard (output_fault p i) i _ bytes e in
      let b = guard (reference_fault ws) ws _ bytes a.1 in
      record { output = a.0; references = b.0; is = ok_is _ _ _ refl b.1 }

  record Laid : Type 0 where
    memory : memory_fault Plain p (live p exports) ≡ None
    table : table_fault (layout_of p exports) ≡ None
    rest : Written

  is_laid : laid_out Plain p exports (live p exports) ≡ Ok bytes → Laid
  unfolding laid_out
  is_laid e =
      let a = guard (memory_fault Plain p (live p exports)) (live p exports) _ bytes e in
      let b = guard (table_fault (layout_of p exports)) (layout_of p exports) _ bytes a.1 in
      record { memory = a.0; table = b.0; rest = is_written b.1 }

  pub is_marked : marked Plain p exports ≡ Ok bytes → NoFault p exports (layout_of p exports)
      × (output_bytes Plain p (image Plain p (live p exports) exports (layout_of p exports)) (source_windows Plain p (live p exports) exports (layout_of p exports)) ≡ bytes)
      × (output_fault p (image Plain p (live p exports) exports (layout_of p exports)) ≡ None)
  unfolding marked
  is_marked e =
      let a = guard (pic_fault Plain (live p exports)) (live p exports) _ bytes e in
      let b = guard (unresolved p (live p exports)) (live p exports) _ bytes a.1 in
      let u = guard (uncalled Plain p (live p exports)) (live p exports) _ bytes b.1 in
      let l = is_laid u.1 in
      (record { resolved = b.0; memory = l.memory; table = l.table; references = l.rest.references }, l.rest.is, l.rest.output)

pub is_linked : (p : Program) (bytes : List ℕ) → link_program Plain p ≡ Ok bytes → (clash_by p.plan.loose_calls p.entries ≡ None) × (marked Plain p (exported Plain p) ≡ Ok bytes)
unfolding link_program
is_linked p bytes e =
    let a = guard (too_many_names p) p _ bytes e in
    let b = guard (clash_by p.plan.loose_calls p.entries) p _ bytes a.1 in
    let c = guard (duplicate p.entries) p _ bytes b.1 in
    let d = guard (repeated_export Plain p (exported Plain p)) (exported Plain p) _ bytes c.1 in
    (b.0, d.1)

pub is_link : (plan : Plan) (files : List (List ℕ)) (bytes : List ℕ) (all : List Candidate) (objects : List Object) → candidates_of the_readers plan files ≡ Ok all → load Plain (asked_names plan) all ≡ Ok objects
    → link_by Plain the_readers plan files ≡ Ok bytes → link_program Plain (program_of Plain plan files all objects) ≡ Ok bytes
unfolding link_by
is_link plan files bytes all objects c l e =
    subst (λ r. (r >>= λ objects. link_program Plain (program_of Plain plan files all objects)) ≡ Ok bytes) l
    (subst (λ r. (r >>= λ all. load Plain (asked_names plan) all >>= λ objects. link_program Plain (program_of Plain plan files all objects)) ≡ Ok bytes) c e)
