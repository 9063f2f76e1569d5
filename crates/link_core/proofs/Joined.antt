-- The steps of a partial link.
use Rattle.std.proofs.Common.{◌≡◌, ◌∙◌, ◌≤◌, ◌^◌, ℕ, Bool, List, [], true, false, sym, ap, subst, length, arith, Result, Ok, Err}
use Rattle.std.specs.Prelude.{IfOk, if◌then◌else◌}
use Rattle.link_output.specs.link_program.wl_base.Choice.{◌>>=◌}
use Rattle.link_output.specs.link_program.wl_base.declared.fault.Fault.{Fault}
use Rattle.link_output.specs.link_program.object_file.declared.object.Object.{Object}
use Rattle.link_output.specs.link_program.made_symbols.declared.mode.Mode.{Mode}
use Rattle.link_output.specs.link_program.made_symbols.declared.mode.Mode.TheVariants.{Plain}
use Rattle.link_output.specs.link_program.round_rules.Rounds.{Candidate, load}
use Rattle.link_output.specs.link_program.link_plan.declared.plan.Plan.{Plan}
use Rattle.link_output.specs.link_program.link_rules.Candidates.{candidates_of}
use Rattle.link_output.specs.link_program.link_rules.ModeOf.{mode_of, plain_mode, IsPlain}
use Rattle.link_output.specs.link_program.link_rules.Program.{Program, program_of}
use Rattle.link_output.specs.link_program.link_rules.LinkOf.{asked_names, the_readers}
use Rattle.link_output.specs.link_program.declared.error.LinkError.{LinkError}
use Rattle.link_output.specs.link_program.declared.error.LinkError.TheVariants.{Refused, OutOfMemory}
use Rattle.link_output.specs.link_program.Answers.{Fails, Answers as Told}
use Rattle.link_output.specs.link_program.Loaded.{the_candidates}
use Rattle.valid_shared_links.specs.valid_links.link_runs.link_inputs.Inputs.{loaded_of}
use Rattle.valid_shared_links.specs.valid_links.link_runs.link_inputs.Loaded.{AreInputs}
use Rattle.valid_shared_links.specs.valid_links.link_runs.link_inputs.declared.inputs.Inputs.{Inputs}
use Rattle.program_build.specs.Found.{Finds, found_of}
use Rattle.mismatch_rules.specs.declared.mismatch.Mismatch.{Mismatch}
use Rattle.called_variants.specs.Called.{calls_told_of}
use Rattle.partial_rules.specs.PartialLink.{partial_program, partial_of}
use Rattle.partial_inputs.specs.Refused.{IsBare, joined}
use Rattle.relink_out.specs.Made.{made_of}
use Rattle.relink_out.specs.Laws.{PartialIsMade}
use Rattle.link_core.specs.Answers.{Answers, IsShort}
use Rattle.link_core.specs.Linked.{linked}
use Rattle.link_core.specs.Loading.{Loading, program_in}
use Rattle.link_core.specs.Whole.{whole_link, told_calls}
use Rattle.link_core.proofs.Answering.{fails_by}

-- ---- loading

module _ (plan : Plan) (files : List (List ℕ)) where
  abbrev next : List Candidate → List Object → Result (List ℕ) Fault
  next all objects = partial_program (program_of Plain plan files all objects)

  abbrev failed : Result (List Object) Fault → Result (List ℕ) Fault
  failed (Ok objects) = Ok []
  failed (Err g) = Err g

  stops_by : (f : Fault) (r : Result (List Candidate) Fault) → (r >>= λ all. load Plain [] all) ≡ Err f → (r >>= λ all. load Plain [] all >>= λ objects. next all objects) ≡ Err f
  stops_by f (Ok all) e = ap (λ (r : Result (List Object) Fault). r >>= λ objects. next all objects) e
  stops_by f (Err g) e = ap failed e

  module _ (bare : IsBare plan) where
    mode_is : mode_of plan ≡ Plain
    mode_is = plain_mode plan bare.plain

    loaded_is : loaded_of Plain plan files ≡ (candidates_of the_readers plan files >>= λ all. load Plain [] all)
    unfolding loaded_of
    loaded_is = ap (λ (asked : List (List ℕ)). candidates_of the_readers plan files >>= λ all. load Plain asked all) bare.asked

    by_load : (e : LinkError) → Fails e (loaded_of Plain plan files) → Answers (Err e) (joined plan files)
    by_load (Refused f) fails = stops_by f (candidates_of the_readers plan files) (sym loaded_is ∙ fails)
    by_load OutOfMemory fails = tt

    pub load_stops : (e x : LinkError) → x ≡ e → Fails e (loaded_of (mode_of plan) plan files) → Answers (Err x) (joined plan files)
    load_stops e x is fails = fails_by (joined plan files) e x is (by_load e (subst (λ m. Fails e (loaded_of m plan files)) mode_is fails))

    pub goes_on_joined : (i : Inputs) (r : Result (List ℕ) LinkError) → AreInputs (mode_of plan) plan files i
        → Answers r (partial_program (program_of (mode_of plan) plan files (the_candidates plan files) i.loaded)) → Answers r (joined plan files)
    goes_on_joined i r are said =
        let objects : load Plain [] (the_candidates plan files) ≡ Ok i.loaded
        = ap (λ (asked : List (List ℕ)). load Plain asked (the_candidates plan files)) (sym bare.asked) ∙ subst (λ m. load m (asked_names plan) (the_candidates plan files) ≡ Ok i.loaded) mode_is are.objects in
        let whole : joined plan files ≡ next (the_candidates plan files) i.loaded
        = ap (λ (r : Result (List Candidate) Fault). r >>= λ all. load Plain [] all >>= λ objects. next all objects) are.candidates
        ∙ ap (λ (r : Result (List Object) Fault). r >>= λ objects. next (the_candidates plan files) objects) objects in
        subst (Answers r) (sym whole) (subst (λ m. Answers r (partial_program (program_of m plan files (the_candidates plan files) i.loaded))) mode_is said)

-- ---- what is made of what is found

module _ (law : PartialIsMade) (p : Program) (strict : p.plan.loose_calls ≡ false) where
  made_by : (r : Result Program Fault) → found_of p ≡ r → partial_program p ≡ (r >>= made_of)
  made_by r e = law p strict ∙ ap (λ (q : Result Program Fault). q >>= made_of) e

  by_find : (mode : Mode) (plan : Plan) (objects : List Object) (e : LinkError) → Finds mode (Err e) plan objects p → Answers (Err e) (partial_program p)
  by_find mode plan objects (Refused f) finds = made_by (Err f) finds
  by_find mode plan objects OutOfMemory finds = tt

  pub find_refuses : (mode : Mode) (plan : Plan) (objects : List Object) (e x : LinkError) → x ≡ e → Finds mode (Err e) plan objects p → Answers (Err x) (partial_program p)
  find_refuses mode plan objects e x is finds = fails_by (partial_program p) e x is (by_find mode plan objects e finds)

  pub goes_on_made : (r : Result (List ℕ) LinkError) → found_of p ≡ Ok p → Answers r (made_of p) → Answers r (partial_program p)
  goes_on_made r found said = subst (Answers r) (sym (made_by (Ok p) found)) said

-- ---- what is known of the program

pub strict_in : (l : Loading) (plan : Plan) → l.origin.plan ≡ plan → plan.loose_calls ≡ false → (program_in l).plan.loose_calls ≡ false
unfolding program_of
strict_in l plan same strict = ap (λ (q : Plan). q.loose_calls) same ∙ strict

pub plainly_in : (l : Loading) (plan : Plan) → l.origin.plan ≡ plan → IsPlain plan → IsPlain (program_in l).plan
unfolding program_of
plainly_in l plan same plain = ap (λ (q : Plan). q.shared) same ∙ plain

-- ---- answers

pub answer_of : (r : Result (List ℕ) LinkError) (said : Result (List ℕ) Fault) → Told (λ (bytes : List ℕ). bytes) r said → Answers r said
answer_of (Ok bytes) said told = told
answer_of (Err e) said told = told

-- at most 2^30 bytes are fewer than 2^31
pub short_of : (r : Result (List ℕ) LinkError) → IfOk r (λ bytes. length bytes ≤ 2 ^ 30) → IsShort r
short_of (Ok bytes) few = omega (arith, few)
short_of (Err e) few = tt

-- ---- the whole link

module _ (plan : Plan) (files : List (List ℕ)) where
  pub whole_partial : plan.partial ≡ true → whole_link plan files ≡ partial_of plan files
  unfolding whole_link
  whole_partial asked = ap (λ asked. if asked then partial_of plan files else linked plan files) asked

  pub whole_module : plan.partial ≡ false → whole_link plan files ≡ linked plan files
  unfolding whole_link
  whole_module not = ap (λ asked. if asked then partial_of plan files else linked plan files) not

  pub told_partial : plan.partial ≡ true → told_calls plan files ≡ []
  unfolding told_calls
  told_partial asked = ap (λ (asked : Bool). let none : List Mismatch = [] in if asked then none else calls_told_of plan files) asked

  pub told_module : plan.partial ≡ false → told_calls plan files ≡ calls_told_of plan files
  unfolding told_calls
  told_module not = ap (λ (asked : Bool). let none : List Mismatch = [] in if asked then none else calls_told_of plan files) not
