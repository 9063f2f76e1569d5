-- The steps to the objects of a link, one at a time: a fault ends it, and where there is none it goes on.
use Rattle.std.proofs.Common.{◌≡◌, ℕ, List, length, refl, ap, ◌∙◌, Option, Some, None, Result, Ok, Err, pos}
use Rattle.std.specs.Prelude.{option_map}
use Rattle.link_program.specs.wl_base.Choice.{unless, ◌>>=◌}
use Rattle.link_program.specs.wl_base.declared.fault.Fault.{Fault}
use Rattle.link_program.specs.wl_base.declared.fault.Fault.TheVariants.{Overflow}
use Rattle.link_program.specs.wl_base.declared.fault.What.TheVariants.{TableSize}
use Rattle.link_program.specs.object_file.declared.object.Object.{Object}
use Rattle.link_program.specs.made_symbols.declared.mode.Mode.TheVariants.{Plain}
use Rattle.link_program.specs.round_rules.Rounds.{Candidate, load}
use Rattle.link_program.specs.memory_layout.Memory.{Passed, memory_overflow}
use Rattle.link_program.specs.table_layout.Slots.{table_overflow}
use Rattle.link_program.specs.link_plan.declared.plan.Plan.{Plan}
use Rattle.link_program.specs.name_rules.Entries.{InputSymbol}
use Rattle.link_program.specs.name_rules.Cases.{clash_by, duplicate}
use Rattle.link_program.specs.link_rules.Candidates.{candidates_of}
use Rattle.link_program.specs.link_rules.Program.{Program, Part, program_of}
use Rattle.link_program.specs.link_rules.Marks.{exported, repeated_export, live, pic_fault, unresolved, uncalled}
use Rattle.link_program.specs.link_rules.Values.{rules_of, shapes}
use Rattle.link_program.specs.link_rules.Output.{layout}
use Rattle.link_program.specs.link_rules.LinkOf.{asked_names, the_readers, too_many_names, memory_fault, table_fault, passed_fault}
use Rattle.run_machines.specs.declared.sym.SymWorld.{SymWorld}
use Rattle.run_laws.specs.Objects.{objects_of}
use Rattle.sym_world.specs.SymOf.{sym_laid_out, sym_marked, sym_exporting, sym_program, sym_of}

step : {A B : Type 0} (o : Option Fault) (a : A) (next : A → Result B Fault) → o ≡ None → (unless o a >>= next) ≡ next a
step o a next e = ap (λ (o : Option Fault). unless o a >>= next) e

stop : {A B : Type 0} (o : Option Fault) (a : A) (next : A → Result B Fault) (f : Fault) → o ≡ Some f → (unless o a >>= next) ≡ Err f
stop o a next f e = ap (λ (o : Option Fault). unless o a >>= next) e

-- ---- loading

pub not_loaded : (plan : Plan) (files : List (List ℕ)) (f : Fault)
    → (candidates_of the_readers plan files >>= λ all. load Plain (asked_names plan) all) ≡ Err f → sym_of plan files ≡ Err f
unfolding sym_of
not_loaded plan files f e = by (candidates_of the_readers plan files) e
  where
    inner : (all : List Candidate) (r : Result (List Object) Fault) → r ≡ Err f → (r >>= λ objects. sym_program (program_of Plain plan files all objects)) ≡ Err f
    inner all r e = ap (λ (r : Result (List Object) Fault). r >>= λ objects. sym_program (program_of Plain plan files all objects)) e

    failed : Result (List Object) Fault → Fault
    failed (Ok objects) = f
    failed (Err g) = g

    by : (r : Result (List Candidate) Fault) → (r >>= λ all. load Plain (asked_names plan) all) ≡ Err f
        → (r >>= λ all. load Plain (asked_names plan) all >>= λ objects. sym_program (program_of Plain plan files all objects)) ≡ Err f
    by (Ok all) e = inner all (load Plain (asked_names plan) all) e
    by (Err g) e = ap (λ (r : Result (List Object) Fault). Err (failed r)) e

pub loaded : (plan : Plan) (files : List (List ℕ)) (all : List Candidate) (objects : List Object)
    → candidates_of the_readers plan files ≡ Ok all → load Plain (asked_names plan) all ≡ Ok objects
    → sym_of plan files ≡ sym_program (program_of Plain plan files all objects)
unfolding sym_of
loaded plan files all objects found given =
    ap (λ (r : Result (List Candidate) Fault). r >>= λ all. load Plain (asked_names plan) all >>= λ objects. sym_program (program_of Plain plan files all objects)) found
    ∙ ap (λ (r : Result (List Object) Fault). r >>= λ objects. sym_program (program_of Plain plan files all objects)) given

-- ---- names

abbrev names_of : Program → Result Program Fault
names_of p = do
  p ← unless (too_many_names p) p
  p ← unless (clash_by p.plan.loose_calls p.entries) p
  unless (duplicate p.entries) p

module _ (p : Program) (b c : Program → Option Fault) (next : Program → Result SymWorld Fault) (r : Result Program Fault) where
  third : (oc : Option Fault) → unless oc p ≡ r → (unless oc p >>= next) ≡ (r >>= next)
  third oc e = ap (λ (r : Result Program Fault). r >>= next) e

  second : (ob : Option Fault) → (unless ob p >>= λ p. unless (c p) p) ≡ r → (unless ob p >>= λ p. unless (c p) p >>= next) ≡ (r >>= next)
  second (Some f) e = ap (λ (r : Result Program Fault). r >>= next) e
  second None e = third (c p) e

  named_by : (oa : Option Fault) → (unless oa p >>= λ p. unless (b p) p >>= λ p. unless (c p) p) ≡ r
      → (unless oa p >>= λ p. unless (b p) p >>= λ p. unless (c p) p >>= next) ≡ (r >>= next)
  named_by (Some f) e = ap (λ (r : Result Program Fault). r >>= next) e
  named_by None e = second (b p) e

pub not_named : (p : Program) (f : Fault) → names_of p ≡ Err f → sym_program p ≡ Err f
unfolding sym_program
not_named p f e = named_by p (λ p. clash_by p.plan.loose_calls p.entries) (λ p. duplicate p.entries) (λ p. sym_exporting p (exported Plain p)) (Err f) (too_many_names p) e

pub named : (p : Program) → names_of p ≡ Ok p → sym_program p ≡ sym_exporting p (exported Plain p)
unfolding sym_program
named p e = named_by p (λ p. clash_by p.plan.loose_calls p.entries) (λ p. duplicate p.entries) (λ p. sym_exporting p (exported Plain p)) (Ok p) (too_many_names p) e

-- ---- exports and marks

pub repeats : (p : Program) (es : List InputSymbol) (f : Fault) → repeated_export Plain p es ≡ Some f → sym_exporting p es ≡ Err f
repeats p es f e = stop (repeated_export Plain p es) es (λ es. sym_marked p es) f e

pub exports : (p : Program) (es : List InputSymbol) → repeated_export Plain p es ≡ None → sym_exporting p es ≡ sym_marked p es
exports p es e = step (repeated_export Plain p es) es (λ es. sym_marked p es) e

no_pic : (parts : List Part) → pic_fault Plain parts ≡ None
unfolding pic_fault
no_pic parts = refl

abbrev after_open : Program → List InputSymbol → List Part → Result SymWorld Fault
after_open p es parts = unless (uncalled Plain p parts) parts >>= λ parts. sym_laid_out p es parts

pub left_open : (p : Program) (es : List InputSymbol) (f : Fault) → unresolved p (live p es) ≡ Some f → sym_marked p es ≡ Err f
unfolding sym_marked
left_open p es f e =
    step (pic_fault Plain (live p es)) (live p es) (λ parts. unless (unresolved p parts) parts >>= after_open p es) (no_pic (live p es))
    ∙ stop (unresolved p (live p es)) (live p es) (after_open p es) f e

pub left_uncalled : (p : Program) (es : List InputSymbol) (f : Fault) → unresolved p (live p es) ≡ None → uncalled Plain p (live p es) ≡ Some f → sym_marked p es ≡ Err f
unfolding sym_marked
left_uncalled p es f e u =
    step (pic_fault Plain (live p es)) (live p es) (λ parts. unless (unresolved p parts) parts >>= after_open p es) (no_pic (live p es))
    ∙ step (unresolved p (live p es)) (live p es) (after_open p es) e
    ∙ stop (uncalled Plain p (live p es)) (live p es) (λ parts. sym_laid_out p es parts) f u

pub closed : (p : Program) (es : List InputSymbol) → unresolved p (live p es) ≡ None → uncalled Plain p (live p es) ≡ None → sym_marked p es ≡ sym_laid_out p es (live p es)
unfolding sym_marked
closed p es e u =
    step (pic_fault Plain (live p es)) (live p es) (λ parts. unless (unresolved p parts) parts >>= after_open p es) (no_pic (live p es))
    ∙ step (unresolved p (live p es)) (live p es) (after_open p es) e
    ∙ step (uncalled Plain p (live p es)) (live p es) (λ parts. sym_laid_out p es parts) u

-- ---- layout

module _ (p : Program) (es : List InputSymbol) (parts : List Part) where
  pub too_far : (x : Passed) → memory_overflow (rules_of Plain p.plan) (shapes p parts) ≡ Some x → sym_laid_out p es parts ≡ Err (Overflow x.what (pos x.needed))
  unfolding sym_laid_out memory_fault
  too_far x e =
      stop (option_map passed_fault (memory_overflow (rules_of Plain p.plan) (shapes p parts))) parts
      (λ parts. unless (table_fault (layout Plain p parts es)) (layout Plain p parts es) >>= λ l. Ok (objects_of p es))
      (Overflow x.what (pos x.needed)) (ap (option_map passed_fault) e)

  fits : memory_overflow (rules_of Plain p.plan) (shapes p parts) ≡ None
      → sym_laid_out p es parts ≡ (unless (table_fault (layout Plain p parts es)) (layout Plain p parts es) >>= λ l. Ok (objects_of p es))
  unfolding sym_laid_out memory_fault
  fits e =
      step (option_map passed_fault (memory_overflow (rules_of Plain p.plan) (shapes p parts))) parts
      (λ parts. unless (table_fault (layout Plain p parts es)) (layout Plain p parts es) >>= λ l. Ok (objects_of p es))
      (ap (option_map passed_fault) e)

  pub too_many : (k : ℕ) → memory_overflow (rules_of Plain p.plan) (shapes p parts) ≡ None
      → table_overflow (layout Plain p parts es).numbers.first_slot (length (layout Plain p parts es).numbers.slots) ≡ Some k
      → sym_laid_out p es parts ≡ Err (Overflow TableSize (pos k))
  unfolding table_fault
  too_many k first e =
      fits first ∙ stop (table_fault (layout Plain p parts es)) (layout Plain p parts es) (λ l. Ok (objects_of p es)) (Overflow TableSize (pos k))
      (ap (option_map (λ n. Overflow TableSize (pos n))) e)

  pub placed : memory_overflow (rules_of Plain p.plan) (shapes p parts) ≡ None
      → table_overflow (layout Plain p parts es).numbers.first_slot (length (layout Plain p parts es).numbers.slots) ≡ None
      → sym_laid_out p es parts ≡ Ok (objects_of p es)
  unfolding table_fault
  placed first e =
      fits first ∙ step (table_fault (layout Plain p parts es)) (layout Plain p parts es) (λ l. Ok (objects_of p es))
      (ap (option_map (λ n. Overflow TableSize (pos n))) e)
