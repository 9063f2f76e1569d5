-- What is told of symbols in turn is what is told of all.
use Rattle.std.proofs.Common.{◌≡◌, Bool, true, false, cond, List, [], ◌∷◌, ◌++◌, refl, sym, ap, ◌∙◌, Option, Some, None}
use Rattle.std.specs.Prelude.{map, flat_map, filter_map, if◌then◌else◌}
use Rattle.std.specs.List.{list_any, cons_option}
use Rattle.std.proofs.lemmas.List.Elements.{filter_map-append}
use Rattle.program_tables.specs.link_program.wl_base.Choice.{given, distinct, distinct_onto}
use Rattle.program_tables.specs.link_program.object_file.declared.object.Object.{Object}
use Rattle.program_tables.specs.link_program.made_symbols.declared.mode.Mode.{Mode}
use Rattle.program_tables.specs.link_program.name_rules.Entries.{InputSymbol, entries, symbols_of}
use Rattle.program_tables.specs.link_program.name_rules.Cases.{has_other_type}
use Rattle.program_tables.specs.link_program.name_rules.Meanings.{Meaning, here, imported, null, nothing, Resolved, resolve}
use Rattle.program_tables.specs.link_program.link_rules.Program.{Program, is_mismatch, option_onto}
use Rattle.program_tables.specs.Loose.{all_symbols, loosens}
use Rattle.program_tables.proofs.Answered.{resolved_of}
use Rattle.mismatch_rules.specs.declared.mismatch.Mismatch.{Mismatch}
use Rattle.mismatch_rules.specs.Mismatches.{beside, mismatch_by, mismatches_among, same_call, mismatches}
use Rattle.loose_calls.specs.Told.{meant, told_of}

-- ---- lists without repeats

pub onto_append : {A : Type 0} (same : A → A → Bool) (seen xs ys : List A) → distinct_onto same seen (xs ++ ys) ≡ distinct_onto same (distinct_onto same seen xs) ys
onto_append same seen [] ys = refl
onto_append same seen (x ∷ xs) ys = onto_append same (if list_any (same x) seen then seen else seen ++ x ∷ []) xs ys

-- ---- one symbol

-- What is called by another type means a definition, beside which it is told.
pub told_beside : (all : List InputSymbol) (e d : InputSymbol) (m : Meaning) → m ≡ here d → is_mismatch all e m ≡ true → mismatch_by all e m ≡ Some (beside e d)
told_beside all e d m is so = ap (mismatch_by all e) is ∙ ap (λ b. given b (beside e d)) (sym (ap (is_mismatch all e) is) ∙ so)

pub means_one : (all : List InputSymbol) (e : InputSymbol) (m : Meaning) → is_mismatch all e m ≡ true → (d : InputSymbol) × (m ≡ here d)
means_one all e (here d) so = (d, refl)
means_one all e (imported k) so = absurd cc
means_one all e null so = absurd cc
means_one all e nothing so = absurd cc

pub told_not : (all : List InputSymbol) (e : InputSymbol) (m : Meaning) → is_mismatch all e m ≡ false → mismatch_by all e m ≡ None
told_not all e (here d) so = ap (λ b. given b (beside e d)) so
told_not all e (imported k) so = refl
told_not all e null so = refl
told_not all e nothing so = refl

-- ---- symbols in turn

module _ (mode : Mode) (allow : Bool) (objects : List Object) where
  pub of_one : (e : InputSymbol) (o : Option Mismatch) → mismatch_by (entries mode objects) e (meant mode allow objects e) ≡ o → told_of mode allow objects (e ∷ []) ≡ cons_option o []
  of_one e o is = ap (λ o. cons_option o []) is

  pub of_more : (xs ys : List InputSymbol) (old now new : List Mismatch) → now ≡ distinct_onto same_call old (told_of mode allow objects xs)
      → new ≡ distinct_onto same_call now (told_of mode allow objects ys) → new ≡ distinct_onto same_call old (told_of mode allow objects (xs ++ ys))
  of_more xs ys old now new before is =
      is ∙ ap (λ l. distinct_onto same_call l (told_of mode allow objects ys)) before
      ∙ sym (onto_append same_call old (told_of mode allow objects xs) (told_of mode allow objects ys))
      ∙ ap (distinct_onto same_call old) (sym (filter_map-append (λ e. mismatch_by (entries mode objects) e (meant mode allow objects e)) xs ys))

  -- ---- the whole

  among_is : (es : List InputSymbol) → mismatches_among (entries mode objects) es (map (meant mode allow objects) es) ≡ told_of mode allow objects es
  among_is [] = refl
  among_is (e ∷ es) = by (mismatch_by (entries mode objects) e (meant mode allow objects e)) (among_is es)
    where
      by : (o : Option Mismatch) → mismatches_among (entries mode objects) es (map (meant mode allow objects) es) ≡ told_of mode allow objects es
          → option_onto o (mismatches_among (entries mode objects) es (map (meant mode allow objects) es)) ≡ cons_option o (told_of mode allow objects es)
      by None rest = rest
      by (Some m) rest = ap (λ l. m ∷ l) rest

  from_objects : (os : List Object) → flat_map (λ (r : Resolved). mismatches_among (entries mode objects) r.symbols r.meanings) (map (resolved_of mode objects allow) os)
      ≡ told_of mode allow objects (flat_map (symbols_of objects) os)
  from_objects [] = refl
  from_objects (o ∷ os) =
      (λ i. among_is (symbols_of objects o) i ++ from_objects os i)
      ∙ sym (filter_map-append (λ e. mismatch_by (entries mode objects) e (meant mode allow objects e)) (symbols_of objects o) (flat_map (symbols_of objects) os))

  pub all_are : (p : Program) → p.entries ≡ entries mode objects → p.resolved ≡ resolve mode allow (entries mode objects) objects
      → mismatches p ≡ distinct same_call (told_of mode allow objects (all_symbols objects))
  unfolding mismatches resolve
  all_are p is are =
      (λ i. distinct same_call (flat_map (λ (r : Resolved). mismatches_among (is i) r.symbols r.meanings) (are i)))
      ∙ ap (distinct same_call) (from_objects objects)
