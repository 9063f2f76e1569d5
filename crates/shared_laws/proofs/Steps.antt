-- Where the link of a shared output gives bytes, no fault applies: neither its memory nor its table overflows, nothing is unresolved, and windows hold their values.
use Rattle.std.proofs.Common.{◌≡◌, ℕ, List, refl, sym, ap, ◌∙◌, subst, None, arith}
use Rattle.std.specs.Prelude.{Result, Ok}
use Rattle.wl_base.specs.Choice.{◌>>=◌}
use Rattle.object_file.specs.declared.object.Object.{Object}
use Rattle.round_rules.specs.Rounds.{Candidate, load}
use Rattle.link_plan.specs.declared.plan.Plan.{Plan}
use Rattle.made_symbols.specs.declared.mode.Mode.TheVariants.{Shared}
use Rattle.name_rules.specs.Entries.{InputSymbol}
use Rattle.name_rules.specs.Cases.{clash_by, duplicate}
use Rattle.link_rules.specs.ModeOf.{mode_of}
use Rattle.link_rules.specs.Candidates.{candidates_of}
use Rattle.link_rules.specs.Program.{Program, program_of}
use Rattle.link_rules.specs.Marks.{live, exported, repeated_export, pic_fault, unresolved, uncalled}
use Rattle.link_rules.specs.LinkOf.{asked_names, the_readers, link_of, link_by, link_program, marked, laid_out, written, too_many_names, memory_fault, table_fault, output_fault, reference_fault, output_bytes}
use Rattle.link_rules.specs.Output.{image, source_windows}
use Rattle.link_facts.proofs.Steps.{guard}
use Rattle.shared_laws.specs.Linked.{shared_layout}

pub record Fits (p : Program) (exports : List InputSymbol) (bytes : List ℕ) : Type 0 where
  pub resolved : unresolved p (live p exports) ≡ None
  pub memory : memory_fault Shared p (live p exports) ≡ None
  pub table : table_fault (shared_layout p exports) ≡ None
  pub output : output_fault p (image Shared p (live p exports) exports (shared_layout p exports)) ≡ None
  pub references : reference_fault (source_windows Shared p (live p exports) exports (shared_layout p exports)) ≡ None
  pub is : output_bytes Shared p (image Shared p (live p exports) exports (shared_layout p exports)) (source_windows Shared p (live p exports) exports (shared_layout p exports)) ≡ bytes

pub record LinkFits (p : Program) (bytes : List ℕ) : Type 0 where
  pub clear : clash_by p.plan.loose_calls p.entries ≡ None
  pub names : repeated_export Shared p (exported Shared p) ≡ None
  pub fits : Fits p (exported Shared p) bytes

ok_is : {A F : Type 0} (x y : A) (r : Result A F) → r ≡ Ok x → r ≡ Ok y → x ≡ y
ok_is x y r a b = grind arith

is_laid : (p : Program) (exports : List InputSymbol) (bytes : List ℕ) → unresolved p (live p exports) ≡ None → laid_out Shared p exports (live p exports) ≡ Ok bytes → Fits p exports bytes
unfolding laid_out written
is_laid p exports bytes open' e =
    let i = image Shared p (live p exports) exports (shared_layout p exports) in
    let ws = source_windows Shared p (live p exports) exports (shared_layout p exports) in
    let a = guard (memory_fault Shared p (live p exports)) (live p exports) _ bytes e in
    let b = guard (table_fault (shared_layout p exports)) (shared_layout p exports) _ bytes a.1 in
    let c = guard (output_fault p i) i _ bytes b.1 in
    let d = guard (reference_fault ws) ws _ bytes c.1 in
    record { resolved = open'; memory = a.0; table = b.0; output = c.0; references = d.0; is = ok_is _ _ _ refl d.1 }

is_marked : (p : Program) (exports : List InputSymbol) (bytes : List ℕ) → marked Shared p exports ≡ Ok bytes → Fits p exports bytes
unfolding marked
is_marked p exports bytes e =
    let a = guard (pic_fault Shared (live p exports)) (live p exports) _ bytes e in
    let b = guard (unresolved p (live p exports)) (live p exports) _ bytes a.1 in
    let u = guard (uncalled Shared p (live p exports)) (live p exports) _ bytes b.1 in
    is_laid p exports bytes b.0 u.1

is_linked : (p : Program) (bytes : List ℕ) → link_program Shared p ≡ Ok bytes → LinkFits p bytes
unfolding link_program
is_linked p bytes e =
    let a = guard (too_many_names p) p _ bytes e in
    let b = guard (clash_by p.plan.loose_calls p.entries) p _ bytes a.1 in
    let c = guard (duplicate p.entries) p _ bytes b.1 in
    let d = guard (repeated_export Shared p (exported Shared p)) (exported Shared p) _ bytes c.1 in
    record { clear = b.0; names = d.0; fits = is_marked p (exported Shared p) bytes d.1 }

pub by_link : (plan : Plan) (files : List (List ℕ)) (bytes : List ℕ) (all : List Candidate) (objects : List Object) → candidates_of the_readers plan files ≡ Ok all → load Shared (asked_names plan) all ≡ Ok objects
    → link_by Shared the_readers plan files ≡ Ok bytes → link_program Shared (program_of Shared plan files all objects) ≡ Ok bytes
unfolding link_by
by_link plan files bytes all objects c l e =
    subst (λ r. (r >>= λ objects. link_program Shared (program_of Shared plan files all objects)) ≡ Ok bytes) l
    (subst (λ r. (r >>= λ all. load Shared (asked_names plan) all >>= λ objects. link_program Shared (program_of Shared plan files all objects)) ≡ Ok bytes) c e)

pub shared_link : (plan : Plan) (files : List (List ℕ)) → mode_of plan ≡ Shared → link_of plan files ≡ link_by Shared the_readers plan files
unfolding link_of
shared_link plan files shared = ap (λ mode. link_by mode the_readers plan files) shared

pub link_fits : (plan : Plan) (files : List (List ℕ)) (bytes : List ℕ) (all : List Candidate) (objects : List Object) → mode_of plan ≡ Shared
    → candidates_of the_readers plan files ≡ Ok all → load Shared (asked_names plan) all ≡ Ok objects → link_of plan files ≡ Ok bytes
    → LinkFits (program_of Shared plan files all objects) bytes
link_fits plan files bytes all objects shared c l e =
    is_linked (program_of Shared plan files all objects) bytes (by_link plan files bytes all objects c l (sym (shared_link plan files shared) ∙ e))
