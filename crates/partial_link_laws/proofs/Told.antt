-- What a partial link and a link that give bytes tell.
use Rattle.std.proofs.Common.{◌≡◌, ℕ, ◌≤◌, ◌^◌, Bool, false, List, [], length, refl, sym, ap, subst, ◌∙◌, arith}
use Rattle.std.specs.Prelude.{None, option_map, Result, Ok, nat_lt, IsTrue}
use Rattle.std.proofs.lemmas.Bool.Decides.{nat_tests}
use Rattle.name_rules.specs.object_file.wl_base.Choice.{◌>>=◌}
use Rattle.name_rules.specs.object_file.wl_base.declared.fault.Fault.{Fault}
use Rattle.name_rules.specs.object_file.wl_base.declared.fault.Fault.TheVariants.{NotPartial, PartialTooLong}
use Rattle.name_rules.specs.object_file.declared.object.Object.{Object}
use Rattle.made_symbols.specs.declared.mode.Mode.TheVariants.{Plain}
use Rattle.round_rules.specs.Rounds.{Candidate, load}
use Rattle.name_rules.specs.Entries.{entries}
use Rattle.name_rules.specs.Cases.{clash, clash_by, duplicate}
use Rattle.link_plan.specs.declared.plan.Plan.{Plan}
use Rattle.link_plan.specs.declared.plan.InputWord.{InputWord}
use Rattle.link_rules.specs.ModeOf.{IsPlain}
use Rattle.link_rules.specs.Candidates.{is_library, too_much_input, candidates_of}
use Rattle.link_rules.specs.Program.{Program, program_of}
use Rattle.link_rules.specs.LinkOf.{asked_names, too_many_names, the_readers, link_program, link_by, link_of, plain_link}
use Rattle.partial_rules.specs.Relocatable.{Relocatable, relocatable_bytes}
use Rattle.partial_rules.specs.Partial.{relocatable, open_local}
use Rattle.partial_rules.specs.PartialLink.{bare, first_not_plain, too_long, partial_program, partial_by, partial_of}
use Rattle.partial_laws.specs.Premises.{program_by, holds}
use Rattle.partial_laws.specs.PartialThenLink.{with_inputs}
use Rattle.partial_loading_laws.proofs.Names.{guard, bind_ok}
use Rattle.partial_loading_laws.proofs.Rounds.{none_mapped}
use Rattle.partial_loading_laws.proofs.Told.{unless_ok, given_none}

-- ---- a partial link

pub record MadeOf (p : Program) (r : List ℕ) : Type 0 where
  pub no_clash : clash p.entries ≡ None
  pub local : open_local p ≡ None
  pub short : length (relocatable_bytes (relocatable p)) ≤ 2 ^ 30
  pub is : relocatable_bytes (relocatable p) ≡ r

made_of : (p : Program) (r : List ℕ) → partial_program p ≡ Ok r → MadeOf p r
unfolding partial_program
made_of p r e =
    let a = guard (too_many_names p) p _ r e in
    let b = guard (clash p.entries) p _ r a.1 in
    let c = guard (duplicate p.entries) p _ r b.1 in
    let d = guard (open_local p) p _ r c.1 in
    let f = unless_ok (too_long (relocatable_bytes (relocatable p))) (relocatable_bytes (relocatable p)) r d.1 in
    record { no_clash = b.0; local = d.0; short = within (length (relocatable_bytes (relocatable p))) (given_none (nat_lt (2 ^ 30) (length (relocatable_bytes (relocatable p)))) (PartialTooLong (length (relocatable_bytes (relocatable p)))) f.0); is = f.1 }
  where
    within : (n : ℕ) → nat_lt (2 ^ 30) n ≡ false → n ≤ 2 ^ 30
    within n e = grind (arith, nat_tests, e)

pub record PartialTold (plan : Plan) (files : List (List ℕ)) (r : List ℕ) : Type 0 where
  pub plain : first_not_plain 0 plan.inputs files ≡ None
  pub all : List Candidate
  pub objects : List Object
  pub candidates : candidates_of the_readers (bare plan) files ≡ Ok all
  pub loaded : load Plain [] all ≡ Ok objects
  pub made : MadeOf (program_of Plain (bare plan) files all objects) r

pub partial_told : (plan : Plan) (files : List (List ℕ)) (r : List ℕ) → partial_of plan files ≡ Ok r → PartialTold plan files r
unfolding partial_of partial_by
partial_told plan files r e =
    let a = guard (too_much_input files) files _ r e in
    let b = guard (option_map NotPartial (first_not_plain 0 plan.inputs files)) files _ r a.1 in
    let c = bind_ok (candidates_of the_readers (bare plan) files) _ r b.1 in
    let d = bind_ok (load Plain [] c.0) _ r c.2 in
    record {
      plain = none_mapped NotPartial (first_not_plain 0 plan.inputs files) b.0;
      all = c.0;
      objects = d.0;
      candidates = c.1;
      loaded = d.1;
      made = made_of (program_of Plain (bare plan) files c.0 d.0) r d.2;
    }

-- ---- a link

pub record LinkTold (plan : Plan) (files : List (List ℕ)) : Type 0 where
  pub all : List Candidate
  pub objects : List Object
  pub candidates : candidates_of the_readers plan files ≡ Ok all
  pub loaded : load Plain (asked_names plan) all ≡ Ok objects
  pub no_clash : clash (entries Plain objects) ≡ None

pub link_told : (plan : Plan) (files : List (List ℕ)) (bytes : List ℕ) → IsPlain plan → plan.loose_calls ≡ false → link_of plan files ≡ Ok bytes → LinkTold plan files
unfolding link_by link_program program_of
link_told plan files bytes plain strict e =
    let a = bind_ok (candidates_of the_readers plan files) (λ all. load Plain (asked_names plan) all >>= λ objects. link_program Plain (program_of Plain plan files all objects)) bytes (sym (plain_link plan files plain) ∙ e) in
    let b = bind_ok (load Plain (asked_names plan) a.0) (λ objects. link_program Plain (program_of Plain plan files a.0 objects)) bytes a.2 in
    let p : Program = program_of Plain plan files a.0 b.0 in
    let c = guard (too_many_names p) p _ bytes b.2 in
    let d = guard (clash_by p.plan.loose_calls p.entries) p _ bytes c.1 in
    record {
      all = a.0;
      objects = b.0;
      candidates = a.1;
      loaded = b.1;
      no_clash = ap (λ (loose : Bool). clash_by loose (entries Plain b.0)) (sym strict) ∙ d.0;
    }

-- ---- what is asked for of programs

pub held : (test : Program → Bool) (plan : Plan) (files : List (List ℕ)) (all : List Candidate) (objects : List Object) → candidates_of the_readers plan files ≡ Ok all → load Plain (asked_names plan) all ≡ Ok objects
    → IsTrue (holds test (program_by the_readers plan files)) → IsTrue (test (program_of Plain plan files all objects))
held test plan files all objects c l h =
    subst (λ (r : Result Program Fault). IsTrue (holds test r))
    (ap (λ r. r >>= λ all. load Plain (asked_names plan) all >>= λ objects. Ok (program_of Plain plan files all objects)) c
    ∙ ap (λ r. r >>= λ objects. Ok (program_of Plain plan files all objects)) l) h

pub bare_asks : (plan : Plan) → asked_names (bare plan) ≡ []
unfolding asked_names
bare_asks plan = refl

pub inputs_ask : (plan : Plan) (inputs : List InputWord) → asked_names plan ≡ asked_names (with_inputs plan inputs)
unfolding asked_names
inputs_ask plan inputs = refl

-- ---- the bytes of a relocatable object

pub no_library : (q : Relocatable) → is_library (relocatable_bytes q) ≡ false
unfolding relocatable_bytes
no_library q = refl
