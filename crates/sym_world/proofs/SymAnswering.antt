-- What is answered of the objects of a link, by what the calls of its steps answer.
use Rattle.std.proofs.Common.{◌≡◌, ℕ, List, length, refl, sym, ap, ◌∙◌, subst, Option, Some, None, Result, Ok, Err, ℤ, pos, All, Contains}
use Rattle.std.proofs.lemmas.List.Elements.{All-filter, All-contains_itself}
use Rattle.std.specs.Prelude.{option_map}
use Rattle.link_program.specs.wl_base.declared.fault.Fault.{Fault}
use Rattle.link_program.specs.wl_base.declared.fault.Fault.TheVariants.{Overflow}
use Rattle.link_program.specs.wl_base.declared.fault.What.TheVariants.{TableSize}
use Rattle.link_program.specs.wl_base.declared.layout_error.LayoutError.{LayoutError}
use Rattle.link_program.specs.wl_base.declared.layout_error.LayoutError.TheVariants as layouts
use Rattle.link_program.specs.object_file.declared.object.Object.{Object}
use Rattle.link_program.specs.made_symbols.declared.mode.Mode.{Mode}
use Rattle.link_program.specs.made_symbols.declared.mode.Mode.TheVariants.{Plain}
use Rattle.link_program.specs.link_rules.ModeOf.{mode_of}
use Rattle.link_program.specs.round_rules.Rounds.{Candidate, load}
use Rattle.link_program.specs.memory_layout.Memory.{memory_overflow}
use Rattle.link_program.specs.table_layout.Slots.{table_overflow}
use Rattle.link_program.specs.link_plan.declared.plan.Plan.{Plan}
use Rattle.link_program.specs.name_rules.Entries.{InputSymbol}
use Rattle.link_program.specs.link_rules.Candidates.{candidates_of}
use Rattle.link_program.specs.link_rules.Program.{Program, Part, program_of}
use Rattle.link_program.specs.link_rules.Marks.{exported, is_exported_by, repeated_export, live, unresolved, uncalled}
use Rattle.link_program.specs.link_rules.Keys.{numbers}
use Rattle.link_program.specs.link_rules.Values.{rules_of, shapes}
use Rattle.link_program.specs.link_rules.Output.{layout}
use Rattle.link_program.specs.link_rules.LinkOf.{asked_names, the_readers}
use Rattle.link_inputs.specs.Inputs.{loaded_of}
use Rattle.program_build.specs.Found.{Finds, found_of}
use Rattle.link_layout.specs.Placed.{AnswersPlacedIn, IsPlacedIn}
use Rattle.link_numbers.specs.Numbered.{TellsOverflow, IsNumbering}
use Rattle.link_program.specs.Live.{AreLive, AllMeant}
use Rattle.link_program.specs.Program.{IsProgramOf}
use Rattle.link_program.specs.Stand.{PartsStand}
use Rattle.link_layout.specs.Layout.{IsLayoutIn}
use Rattle.link_layout.specs.declared.values.Layout.{Layout as LayoutData}
use Rattle.link_program.specs.declared.error.LinkError.{LinkError}
use Rattle.link_program.specs.declared.error.LinkError.TheVariants.{Refused, OutOfMemory}
use Rattle.link_program.specs.Answers.{Fails, Stops, of_layout}
use Rattle.run_machines.specs.declared.sym.SymWorld.{SymWorld}
use Rattle.run_laws.specs.Objects.{objects_of}
use Rattle.sym_world.specs.SymOf.{Told, sym_laid_out, sym_marked, sym_exporting, sym_program, sym_of}
use Rattle.sym_world.proofs.SymSteps as steps

-- an error that is passed on
passed : {E : Type 0} (f : E → LinkError) (said : Result SymWorld Fault) (e : E) (x : LinkError) → x ≡ f e → Told (Err (f e)) said → Told (Err x) said
passed f said e x is a = subst (λ x. Told (Err x) said) (sym is) a

pub fails_by : (said : Result SymWorld Fault) (e x : LinkError) → x ≡ e → Fails e said → Fails x said
fails_by said e x is fails = subst (λ x. Fails x said) (sym is) fails

-- ---- loading

pub load_failed : (plan : Plan) (files : List (List ℕ)) (e x : LinkError) → x ≡ e → Fails e (loaded_of Plain plan files) → Told (Err x) (sym_of plan files)
unfolding loaded_of
load_failed plan files e x is fails = fails_by (sym_of plan files) e x is (by e fails)
  where
    by : (e : LinkError) → Fails e (loaded_of Plain plan files) → Told (Err e) (sym_of plan files)
    by (Refused f) fails = steps.not_loaded plan files f fails
    by OutOfMemory fails = tt

pub goes_on_loaded : (plan : Plan) (files : List (List ℕ)) (all : List Candidate) (objects : List Object) (r : Result SymWorld LinkError)
    → candidates_of the_readers plan files ≡ Ok all → load Plain (asked_names plan) all ≡ Ok objects
    → Told r (sym_program (program_of Plain plan files all objects)) → Told r (sym_of plan files)
goes_on_loaded plan files all objects r found given a = subst (Told r) (sym (steps.loaded plan files all objects found given)) a

-- ---- names

pub find_failed : (mode : Mode) (plan : Plan) (objects : List Object) (p : Program) (e x : LinkError) → x ≡ e → Finds mode (Err e) plan objects p → Told (Err x) (sym_program p)
find_failed mode plan objects p e x is finds = fails_by (sym_program p) e x is (by e finds)
  where
    by : (e : LinkError) → Finds mode (Err e) plan objects p → Told (Err e) (sym_program p)
    by (Refused f) finds = steps.not_named p f finds
    by OutOfMemory finds = tt

goes_on_found : (p : Program) (r : Result SymWorld LinkError) → found_of p ≡ Ok p → Told r (sym_exporting p (exported Plain p)) → Told r (sym_program p)
goes_on_found p r found a = subst (Told r) (sym (steps.named p found)) a

-- ---- exports and marks

pub exports_are_winners : (p : Program) → All (Contains p.winners) (exported Plain p)
unfolding exported
exports_are_winners p = All-filter (is_exported_by p.plan) (Contains p.winners) p.winners (All-contains_itself p.winners)

pub export_repeats : (p : Program) (es : List InputSymbol) (e x : LinkError) → x ≡ e → Stops e (repeated_export Plain p es) → Fails x (sym_exporting p es)
export_repeats p es e x is stops = fails_by (sym_exporting p es) e x is (by e stops)
  where
    by : (e : LinkError) → Stops e (repeated_export Plain p es) → Fails e (sym_exporting p es)
    by (Refused f) stops = steps.repeats p es f stops
    by OutOfMemory stops = tt

pub name_left_open : (p : Program) (es : List InputSymbol) (e x : LinkError) → x ≡ e → repeated_export Plain p es ≡ None → Stops e (unresolved p (live p es))
    → Fails x (sym_exporting p es)
name_left_open p es e x is once stops = fails_by (sym_exporting p es) e x is (subst (Fails e) (sym (steps.exports p es once)) (by e stops))
  where
    by : (e : LinkError) → Stops e (unresolved p (live p es)) → Fails e (sym_marked p es)
    by (Refused f) stops = steps.left_open p es f stops
    by OutOfMemory stops = tt

-- constructors would be lost
pub ctors_lost : (p : Program) (es : List InputSymbol) (e x : LinkError) → x ≡ e → repeated_export Plain p es ≡ None → unresolved p (live p es) ≡ None → Stops e (uncalled Plain p (live p es))
    → Fails x (sym_exporting p es)
ctors_lost p es e x is once closed stops = fails_by (sym_exporting p es) e x is (subst (Fails e) (sym (steps.exports p es once)) (by e stops))
  where
    by : (e : LinkError) → Stops e (uncalled Plain p (live p es)) → Fails e (sym_marked p es)
    by (Refused f) stops = steps.left_uncalled p es f closed stops
    by OutOfMemory stops = tt

pub all_closed : (p : Program) (es : List InputSymbol) → repeated_export Plain p es ≡ None → unresolved p (live p es) ≡ None → uncalled Plain p (live p es) ≡ None
    → sym_exporting p es ≡ sym_laid_out p es (live p es)
all_closed p es once closed called = steps.exports p es once ∙ steps.closed p es closed called

pub choose_failed : (p : Program) (e x : LinkError) → x ≡ e → found_of p ≡ Ok p → Fails e (sym_exporting p (exported Plain p)) → Told (Err x) (sym_program p)
choose_failed p e x is found fails = goes_on_found p (Err x) found (fails_by (sym_exporting p (exported Plain p)) e x is fails)

-- the link of a program, by what laying it out answers
pub goes_on_chosen : (p : Program) (r : Result SymWorld LinkError) → found_of p ≡ Ok p → sym_exporting p (exported Plain p) ≡ sym_laid_out p (exported Plain p) (live p (exported Plain p))
    → Told r (sym_laid_out p (exported Plain p) (live p (exported Plain p))) → Told r (sym_program p)
goes_on_chosen p r found same a = goes_on_found p r found (subst (Told r) (sym same) a)

-- ---- layout

module _ (p : Program) (es : List InputSymbol) (parts : List Part) where
  -- nothing passes the memory's limits
  abbrev Fits : Type 0
  Fits = memory_overflow (rules_of Plain p.plan) (shapes p parts) ≡ None

  abbrev slots_end : Option ℕ
  slots_end = table_overflow (numbers Plain p parts es).first_slot (length (numbers Plain p parts es).slots)

  pub place_failed : (e : LayoutError) (x : LinkError) → x ≡ of_layout e → AnswersPlacedIn Plain p parts (Err e) → Told (Err x) (sym_laid_out p es parts)
  place_failed e x is placed = passed of_layout (sym_laid_out p es parts) e x is (by e placed)
    where
      by : (e : LayoutError) → AnswersPlacedIn Plain p parts (Err e) → Told (Err (of_layout e)) (sym_laid_out p es parts)
      by (layouts.Overflow what needed) (x, at, same, as_much) =
          steps.too_far p es parts x at ∙ ap (λ w. Err (Overflow w (pos x.needed))) (sym same) ∙ ap (λ n. Err (Overflow what n)) (sym as_much)
      by layouts.OutOfMemory placed = tt

  too_many : (end : Option ℕ) (needed : ℤ) → Fits → slots_end ≡ end → Some needed ≡ option_map pos end → sym_laid_out p es parts ≡ Err (Overflow TableSize needed)
  unfolding layout
  too_many (Some k) needed fits at is = steps.too_many p es parts k fits at ∙ ap (λ n. Err (Overflow TableSize n)) (sym (some_is needed (pos k) is))
    where
      value : ℤ → Option ℤ → ℤ
      value n (Some m) = m
      value n None = n

      some_is : (a b : ℤ) → Some a ≡ Some b → a ≡ b
      some_is a b e = ap (value a) e
  too_many None needed fits at is = absurd (subst HasOne is tt)
    where
      HasOne : Option ℤ → Type 0
      HasOne (Some n) = Unit {0}
      HasOne None = ⊥

  pub number_failed : (A : Type 0) (e : LayoutError) (x : LinkError) → x ≡ of_layout e → Fits → TellsOverflow {A = A} (Err e) slots_end → Told (Err x) (sym_laid_out p es parts)
  number_failed A e x is fits tells = passed of_layout (sym_laid_out p es parts) e x is (by e tells)
    where
      by : (e : LayoutError) → TellsOverflow {A = A} (Err e) slots_end → Told (Err (of_layout e)) (sym_laid_out p es parts)
      by (layouts.Overflow what needed) both = too_many slots_end needed fits refl both.1 ∙ ap (λ w. Err (Overflow w needed)) (sym both.0)
      by layouts.OutOfMemory both = tt

  pub goes_on_placed : (r : Result SymWorld LinkError) → Fits → slots_end ≡ None
      → Told r (Ok (objects_of p es)) → Told r (sym_laid_out p es parts)
  unfolding layout
  goes_on_placed r fits none a = subst (Told r) (sym (steps.placed p es parts fits none)) a

pub layout_is : (p : Program) (parts : List Part) (es : List InputSymbol) (d : LayoutData) (ns : List ℕ) → mode_of p.plan ≡ Plain → IsProgramOf Plain d.program p → PartsStand p → AreLive p ns parts → AllMeant parts
    → IsNumbering d.program.names.now.names d.program.resolution.now.imports d.program.tables.now.types p parts d.numbering.now (numbers Plain p parts es) → IsPlacedIn Plain p parts d.placed.now
    → IsLayoutIn Plain p parts es d
layout_is p parts es d ns asked program stand live meant numbering placed = record {
  asked = asked;
  program = program;
  stand = stand;
  live = (ns, live);
  meant = meant;
  numbering = numbering;
  imported = tt;
  placed = placed;
}
