-- What a link tells of calls, by what its steps answer.
use Rattle.std.proofs.Common.{◌≡◌, ◌==◌, Bool, true, false, length, List, [], ◌∷◌, ◌++◌, map, filter, refl, sym, ap, subst, ◌∙◌, arith, Result, Ok, Err}
use Rattle.std.specs.Prelude.{flat_map, slice_get, Some, Option, if◌then◌else◌, bytes_eq, ℕ}
use Rattle.std.specs.List.{list_any}
use Rattle.std.proofs.lemmas.Bool.{eqb-true}
use Rattle.link_output.specs.link_program.wl_base.Choice.{distinct, distinct_onto, ◌>>=◌}
use Rattle.link_output.specs.link_program.wl_base.declared.fault.Fault.{Fault}
use Rattle.link_output.specs.link_program.wasm_types.declared.function.FuncType.{FuncType}
use Rattle.link_output.specs.link_program.object_file.declared.object.Object.{Object}
use Rattle.link_output.specs.link_program.made_symbols.declared.mode.Mode.{Mode}
use Rattle.link_output.specs.link_program.round_rules.Rounds.{Candidate, load}
use Rattle.link_output.specs.link_program.link_names.Numbered.{AreNumbers}
use Rattle.link_output.specs.link_program.name_rules.Entries.{InputSymbol, entries, name_of}
use Rattle.link_output.specs.link_program.name_rules.Meanings.{Meaning, Resolved, resolve}
use Rattle.link_output.specs.link_program.name_entries.View.{InputsRise}
use Rattle.link_output.specs.link_program.name_entries.Fits.{IsTable, Fits}
use Rattle.link_output.specs.link_program.name_entries.declared.lookups.Entries.{Entries}
use Rattle.link_output.specs.link_program.name_meanings.Means.{IsResolution}
use Rattle.link_output.specs.link_program.link_plan.declared.plan.Plan.{Plan}
use Rattle.link_output.specs.link_program.link_rules.Candidates.{candidates_of}
use Rattle.link_output.specs.link_program.link_rules.ModeOf.{mode_of}
use Rattle.link_output.specs.link_program.link_rules.Program.{Program, is_mismatch, variant, variants_among, variants_of, loose_variants, program_of, option_onto}
use Rattle.link_output.specs.link_program.link_rules.LinkOf.{asked_names, the_readers}
use Rattle.link_output.specs.link_program.declared.error.LinkError.{LinkError}
use Rattle.link_output.specs.link_program.declared.error.LinkError.TheVariants.{Refused, OutOfMemory}
use Rattle.link_output.specs.link_program.Answers.{Fails}
use Rattle.link_output.specs.link_program.Program.{variant_names, variant_type}
use Rattle.valid_shared_links.specs.valid_links.link_runs.link_inputs.Inputs.{loaded_of}
use Rattle.mismatch_rules.specs.declared.mismatch.Mismatch.{Mismatch}
use Rattle.mismatch_rules.specs.Mismatches.{mismatches, mismatches_among, mismatch_by, same_call, standing}
use Rattle.called_variants.specs.Called.{is_called, calls_told, calls_if, told_of, calls_told_by, calls_told_of}
use Rattle.called_variants.specs.Marked.{NameThese}
use Rattle.program_build.proofs.loose_calls_lemmas.Listing.{told_not}
use Rattle.program_build.specs.declared.found.Found.{Found}
use Rattle.program_build.specs.Found.{Finds, IsFound}
use Rattle.link_core.specs.Telling.{Tells, TellsBeside}

pub beside_all : (e : LinkError) (told due : List Mismatch) → told ≡ due → TellsBeside e told due
beside_all (Refused f) told due is = is
beside_all OutOfMemory told due is = tt

-- What is told stays, whatever is answered behind it.
pub tells_all : {A : Type 0} (r : Result A LinkError) (told due : List Mismatch) → told ≡ due → Tells r told due
tells_all (Ok a) told due is = is
tells_all (Err e) told due is = beside_all e told due is

-- an error that is passed on
pub tells_by : (e x : LinkError) (told due : List Mismatch) → x ≡ e → TellsBeside e told due → TellsBeside x told due
tells_by e x told due is tells = subst (λ x. TellsBeside x told due) (sym is) tells

-- ---- loading

module _ (mode : Mode) (plan : Plan) (files : List (List ℕ)) where
  not_loaded : (f : Fault) → (candidates_of the_readers plan files >>= λ all. load mode (asked_names plan) all) ≡ Err f → calls_told_by mode the_readers plan files ≡ []
  unfolding calls_told_by
  not_loaded f e = by (candidates_of the_readers plan files) e
    where
      inner : (all : List Candidate) (r : Result (List Object) Fault) → r ≡ Err f → told_of (r >>= λ objects. standing (program_of mode plan files all objects)) ≡ []
      inner all r e = ap (λ (r : Result (List Object) Fault). told_of (r >>= λ objects. standing (program_of mode plan files all objects))) e

      by : (r : Result (List Candidate) Fault) → (r >>= λ all. load mode (asked_names plan) all) ≡ Err f
          → told_of (r >>= λ all. load mode (asked_names plan) all >>= λ objects. standing (program_of mode plan files all objects)) ≡ []
      by (Ok all) e = inner all (load mode (asked_names plan) all) e
      by (Err g) e = refl

  told_by : (all : List Candidate) (objects : List Object) → candidates_of the_readers plan files ≡ Ok all → load mode (asked_names plan) all ≡ Ok objects
      → told_of (standing (program_of mode plan files all objects)) ≡ calls_told_by mode the_readers plan files
  unfolding calls_told_by
  told_by all objects found given = sym (
      ap (λ (r : Result (List Candidate) Fault). told_of (r >>= λ all. load mode (asked_names plan) all >>= λ objects. standing (program_of mode plan files all objects))) found
      ∙ ap (λ (r : Result (List Object) Fault). told_of (r >>= λ objects. standing (program_of mode plan files all objects))) given)

pub load_told : (plan : Plan) (files : List (List ℕ)) (e x : LinkError) (told : List Mismatch) → x ≡ e → Fails e (loaded_of (mode_of plan) plan files) → told ≡ []
    → TellsBeside x told (calls_told_of plan files)
unfolding loaded_of calls_told_of
load_told plan files e x told is fails none = tells_by e x told (calls_told_of plan files) is (by e fails)
  where
    by : (e : LinkError) → Fails e (loaded_of (mode_of plan) plan files) → TellsBeside e told (calls_told_of plan files)
    by (Refused f) fails = none ∙ sym (not_loaded (mode_of plan) plan files f fails)
    by OutOfMemory fails = tt

pub loaded_told : (plan : Plan) (files : List (List ℕ)) (all : List Candidate) (objects : List Object)
    → candidates_of the_readers plan files ≡ Ok all → load (mode_of plan) (asked_names plan) all ≡ Ok objects
    → told_of (standing (program_of (mode_of plan) plan files all objects)) ≡ calls_told_of plan files
unfolding calls_told_of
loaded_told plan files all objects found given = told_by (mode_of plan) plan files all objects found given

-- ---- finding

pub find_told : (mode : Mode) (plan : Plan) (objects : List Object) (p : Program) (e x : LinkError) (told : List Mismatch) → x ≡ e → Finds mode (Err e) plan objects p → told ≡ []
    → TellsBeside x told (told_of (standing p))
find_told mode plan objects p e x told is finds none = tells_by e x told (told_of (standing p)) is (by e finds)
  where
    by : (e : LinkError) → Finds mode (Err e) plan objects p → TellsBeside e told (told_of (standing p))
    by (Refused f) finds = none ∙ sym (ap told_of finds)
    by OutOfMemory finds = tt

-- ---- where no call names a variant

no_part : {A : Type 0} (xs ys : List A) → (xs ++ ys) ≡ [] → (xs ≡ []) × (ys ≡ [])
no_part [] ys none = (refl, none)
no_part (x ∷ xs) ys none = absurd cc

none_among : (all es : List InputSymbol) (ms : List Meaning) → variants_among all es ms ≡ [] → mismatches_among all es ms ≡ []
none_among all [] ms none = refl
none_among all (e ∷ es) [] none = refl
none_among all (e ∷ es) (m ∷ ms) none = by (is_mismatch all e m) refl (none_among all es ms) none
  where
    by : (b : Bool) → is_mismatch all e m ≡ b → (variants_among all es ms ≡ [] → mismatches_among all es ms ≡ [])
        → (if b then variant e ∷ variants_among all es ms else variants_among all es ms) ≡ [] → option_onto (mismatch_by all e m) (mismatches_among all es ms) ≡ []
    by true is rest none = absurd cc
    by false is rest none = ap (λ o. option_onto o (mismatches_among all es ms)) (told_not all e m is) ∙ rest none

none_of : (all : List InputSymbol) (rs : List Resolved) → variants_of all rs ≡ [] → flat_map (λ (r : Resolved). mismatches_among all r.symbols r.meanings) rs ≡ []
none_of all [] none = refl
none_of all (r ∷ rs) none =
    let both = no_part (variants_among all r.symbols r.meanings) (variants_of all rs) none in
    λ i. none_among all r.symbols r.meanings both.0 i ++ none_of all rs both.1 i

no_mismatch : (p : Program) → variants_of p.entries p.resolved ≡ [] → mismatches p ≡ []
unfolding mismatches
no_mismatch p none = ap (distinct same_call) (none_of p.entries p.resolved none)

no_call : (p : Program) → mismatches p ≡ [] → calls_told p ≡ []
unfolding calls_told
no_call p none = ap (filter (is_called p)) none

pub kept_told : (p : Program) (told kept : List Mismatch) → told ≡ mismatches p → kept ≡ filter (is_called p) told → kept ≡ calls_told p
unfolding calls_told
kept_told p told kept are is = is ∙ ap (filter (is_called p)) are

some_stay : (x : List ℕ) (seen ys : List (List ℕ)) → distinct_onto bytes_eq (x ∷ seen) ys ≡ [] → ⊥
some_stay x seen [] none = cc
some_stay x seen (y ∷ ys) none = by (list_any (bytes_eq y) (x ∷ seen)) (some_stay x seen ys) (some_stay x (seen ++ y ∷ []) ys) none
  where
    by : (b : Bool) → (distinct_onto bytes_eq (x ∷ seen) ys ≡ [] → ⊥) → (distinct_onto bytes_eq (x ∷ (seen ++ y ∷ [])) ys ≡ [] → ⊥)
        → distinct_onto bytes_eq (if b then x ∷ seen else (x ∷ seen) ++ y ∷ []) ys ≡ [] → ⊥
    by true here there none = here none
    by false here there none = there none

no_variant : (vs : List InputSymbol) → variant_names vs ≡ [] → vs ≡ []
no_variant [] none = refl
no_variant (v ∷ vs) none = absurd (some_stay (name_of v) [] (map name_of vs) none)

no_name : (f : List ℕ → Option FuncType) (names : List (List ℕ)) → map f names ≡ [] → names ≡ []
no_name f [] none = refl
no_name f (n ∷ ns) none = absurd cc

no_item : (ns : List ℕ) → (length ns == 0) ≡ true → ns ≡ []
no_item [] empty = refl
no_item (n ∷ ns) empty = absurd (let e = eqb-true (length (n ∷ ns)) 0 empty in omega (arith, e))

-- ---- what was found

module _ (mode : Mode) (plan : Plan) (objects : List Object) (f : Found) (p : Program) (is : IsFound mode plan objects f p) where
  entries_are : p.entries ≡ entries mode objects
  entries_are = is.entries ∙ ap (entries mode) (sym is.objects)

  resolved_are : p.resolved ≡ resolve mode p.plan.allow_undefined (entries mode objects) objects
  resolved_are = is.resolved ∙ (λ i. resolve mode p.plan.allow_undefined (entries_are i) (sym is.objects i))

  pub strict_told : plan.loose_calls ≡ false → calls_if p.plan.loose_calls p ≡ []
  strict_told strict = ap (λ b. calls_if b p) (ap (λ (q : Plan). q.loose_calls) (sym is.plan) ∙ strict)

  pub loose_told : plan.loose_calls ≡ true → calls_if p.plan.loose_calls p ≡ calls_told p
  loose_told loose = ap (λ b. calls_if b p) (ap (λ (q : Plan). q.loose_calls) (sym is.plan) ∙ loose)

  pub none_told : plan.loose_calls ≡ true → (length f.tables.variants == 0) ≡ true → calls_if p.plan.loose_calls p ≡ []
  none_told loose empty =
      let none : f.tables.variants ≡ [] = no_item f.tables.variants empty in
      let same : p.plan.loose_calls ≡ true = ap (λ (q : Plan). q.loose_calls) (sym is.plan) ∙ loose in
      let variants : p.variants ≡ variants_of p.entries p.resolved = is.variants_are ∙ ap (λ b. loose_variants b p.entries p.resolved) same in
      let named = no_name (λ name. Some (variant_type p.variants name)) (variant_names p.variants) (sym is.tables.variants ∙ ap (map (slice_get f.tables.types)) none) in
      loose_told loose ∙ no_call p (no_mismatch p (sym variants ∙ no_variant p.variants named))

  pub these_named : NameThese f.names.names f.tables p
  these_named = record { imports = f.resolution.imports; named = is.tables.named }

  module _ (view : Entries) (same : view.objects.now ≡ objects) where
    pub view_fits : ((m : Mode) → AreNumbers m objects f.names → InputsRise 0 objects → IsTable objects f.names f.entries → Fits m view) → Fits mode view
    view_fits fits =
        fits mode (subst (λ os. AreNumbers mode os f.names) (sym is.objects) is.numbers) (subst (InputsRise 0) (sym is.objects) is.rise)
        (subst (λ os. IsTable os f.names f.entries) (sym is.objects) is.looked_up)

    pub view_entries : p.entries ≡ entries mode view.objects.now
    view_entries = entries_are ∙ ap (entries mode) (sym same)

    pub view_resolved : p.resolved ≡ resolve mode p.plan.allow_undefined (entries mode view.objects.now) view.objects.now
    view_resolved = resolved_are ∙ ap (λ os. resolve mode p.plan.allow_undefined (entries mode os) os) (sym same)

    pub view_resolution : IsResolution mode (entries mode view.objects.now) f.resolution (resolve mode p.plan.allow_undefined (entries mode view.objects.now) view.objects.now)
    view_resolution =
        subst (λ es. IsResolution mode es f.resolution (resolve mode p.plan.allow_undefined (entries mode view.objects.now) view.objects.now)) view_entries
        (subst (IsResolution mode p.entries f.resolution) view_resolved is.resolution)

pub finds_by : (mode : Mode) (plan : Plan) (objects : List Object) (p : Program) (e x : LinkError) → x ≡ e → Finds mode (Err e) plan objects p → Finds mode (Err x) plan objects p
finds_by mode plan objects p e x is finds = subst (λ x. Finds mode (Err x) plan objects p) (sym is) finds

-- ---- behind loading

pub tells_on : (plan : Plan) (files : List (List ℕ)) (all : List Candidate) (objects : List Object)
    → candidates_of the_readers plan files ≡ Ok all → load (mode_of plan) (asked_names plan) all ≡ Ok objects → (e x : LinkError) (told : List Mismatch) → x ≡ e
    → TellsBeside e told (told_of (standing (program_of (mode_of plan) plan files all objects))) → TellsBeside x told (calls_told_of plan files)
tells_on plan files all objects found given e x told is tells =
    subst (TellsBeside x told) (loaded_told plan files all objects found given) (tells_by e x told (told_of (standing (program_of (mode_of plan) plan files all objects))) is tells)
