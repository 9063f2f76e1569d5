-- What was found and named is what the definition has.
use Rattle.std.proofs.Common.{◌≡◌, ℕ, ◌+◌, Bool, true, false, cond, List, [], ◌∷◌, ◌++◌, filter, length, refl, sym, ap, subst, ◌∙◌, arith, Some, None}
use Rattle.std.specs.Prelude.{map, flat_map, find, slice_get, if◌then◌else◌, unwrap_or, option_map, bytes_eq, All}
use Rattle.std.specs.List.{list_any}
use Rattle.std.proofs.lemmas.List.Elements.{All-cons, All-nil, All-head, All-tail, filter-append}
use Rattle.std.proofs.lemmas.List.{map-append}
use Rattle.std.proofs.lemmas.Option.{slice_get-map, unwrap_or-slice_get}
use Rattle.program_tables.specs.link_program.wl_base.Choice.{distinct}
use Rattle.program_tables.specs.link_program.wl_base.Names.{number_of}
use Rattle.program_tables.specs.link_program.object_file.declared.object.Object.{Object}
use Rattle.program_tables.specs.link_program.object_file.Spaces.{no_type}
use Rattle.program_tables.specs.link_program.made_symbols.declared.mode.Mode.{Mode}
use Rattle.program_tables.specs.link_program.link_names.Numbered.{Numbered}
use Rattle.program_tables.specs.link_program.name_rules.Entries.{InputSymbol, ImportKey, entries, symbols_of, name_of, is_named}
use Rattle.program_tables.specs.link_program.name_rules.Meanings.{Meaning, resolve}
use Rattle.program_tables.specs.link_program.link_rules.Program.{is_mismatch, variant, variants_among, variants_of, renamed}
use Rattle.program_tables.specs.link_program.link_rules.Keys.{function_type_of, entry_type}
use Rattle.program_tables.specs.link_program.declared.symbol.Symbol.{Symbol}
use Rattle.program_tables.specs.link_program.declared.symbol.Lead.TheVariants.{Null}
use Rattle.program_tables.specs.link_program.Told.{told_variant}
use Rattle.program_tables.specs.link_program.Program.{variant_names, variant_type}
use Rattle.program_tables.proofs.link_program_lemmas.Loose.{mismatch_entry}
use Rattle.program_tables.specs.declared.loose.Loose.{Loose}
use Rattle.program_tables.specs.Loose.{all_symbols, loosens, variants_in, IsCalled, IsLoose}
use Rattle.program_tables.proofs.Answered.{meant, resolved_of}
use Rattle.loose_calls.specs.declared.variant.Variant.{Variant}
use Rattle.loose_calls.specs.declared.finding.Calls.{Calls}
use Rattle.loose_calls.specs.declared.interning.Interned.{Interned}
use Rattle.loose_calls.specs.Found.{variant_seen, AreCalls}
use Rattle.loose_calls.specs.Interned.{variant_row, named_type, names_in, Interns}
use Rattle.loose_calls.proofs.Growing.{called_itself, called_other}

-- ---- variants by a test

among_is : (all : List InputSymbol) (m : InputSymbol → Meaning) (es : List InputSymbol) → variants_among all es (map m es) ≡ map variant (filter (λ e. is_mismatch all e (m e)) es)
among_is all m [] = refl
among_is all m (e ∷ es) = by (is_mismatch all e (m e)) (among_is all m es)
  where
    by : (b : Bool) → variants_among all es (map m es) ≡ map variant (filter (λ e. is_mismatch all e (m e)) es)
        → (if b then variant e ∷ variants_among all es (map m es) else variants_among all es (map m es)) ≡ map variant (cond b (e ∷ filter (λ e. is_mismatch all e (m e)) es) (filter (λ e. is_mismatch all e (m e)) es))
    by true rest = ap (λ l. variant e ∷ l) rest
    by false rest = rest

module _ (mode : Mode) (allow : Bool) (objects : List Object) where
  abbrev test : InputSymbol → Bool
  test = loosens mode true allow objects

  abbrev loose : List InputSymbol
  loose = filter test (all_symbols objects)

  from_objects : (os : List Object) → variants_of (entries mode objects) (map (resolved_of mode objects allow) os) ≡ map variant (filter test (flat_map (symbols_of objects) os))
  from_objects [] = refl
  from_objects (o ∷ os) =
      (λ i. among_is (entries mode objects) (meant mode objects allow) (symbols_of objects o) i ++ from_objects os i)
      ∙ sym (map-append variant (filter test (symbols_of objects o)) (filter test (flat_map (symbols_of objects) os)))
      ∙ ap (map variant) (sym (filter-append test (symbols_of objects o) (flat_map (symbols_of objects) os)))

  pub variants_are : variants_in mode true allow objects ≡ map variant loose
  unfolding resolve
  variants_are = from_objects objects

-- ---- the same of each symbol

both_maps : {A B C D : Type 0} (f : B → C) (g : A → B) (h : D → C) (k : A → D) → ((x : A) → f (g x) ≡ h (k x)) → (xs : List A) → map f (map g xs) ≡ map h (map k xs)
both_maps f g h k same [] = refl
both_maps f g h k same (x ∷ xs) = λ i. same x i ∷ both_maps f g h k same xs i

kept_maps : {A B C D : Type 0} (keep : A → Bool) (f : B → C) (g : A → B) (h : D → C) (k : A → D) → ((x : A) → keep x ≡ true → f (g x) ≡ h (k x)) → (xs : List A)
    → map f (map g (filter keep xs)) ≡ map h (map k (filter keep xs))
kept_maps keep f g h k same [] = refl
kept_maps keep f g h k same (x ∷ xs) = by (keep x) refl (kept_maps keep f g h k same xs)
  where
    by : (b : Bool) → keep x ≡ b → map f (map g (filter keep xs)) ≡ map h (map k (filter keep xs)) → map f (map g (cond b (x ∷ filter keep xs) (filter keep xs))) ≡ map h (map k (cond b (x ∷ filter keep xs) (filter keep xs)))
    by true is rest = λ i. same x is i ∷ rest i
    by false is rest = rest

names_same : (es : List InputSymbol) → names_in (map variant_seen es) ≡ map name_of (map variant es)
names_same es = both_maps (λ (v : Variant). v.name) variant_seen name_of variant (λ e. refl) es

type_same : (es : List InputSymbol) (name : List ℕ) → named_type (map variant_seen es) name ≡ variant_type (map variant es) name
type_same [] name = refl
type_same (e ∷ es) name = by (bytes_eq (name_of (variant e)) name) (type_same es name)
  where
    by : (b : Bool) → named_type (map variant_seen es) name ≡ variant_type (map variant es) name
        → unwrap_or (option_map (λ (v : Variant). v.of_type) (cond b (Some (variant_seen e)) (find (λ (v : Variant). bytes_eq v.name name) (map variant_seen es)))) no_type
        ≡ function_type_of (entry_type (cond b (Some (variant e)) (find (is_named name) (map variant es))))
    by true rest = refl
    by false rest = rest

all_unmapped : {A B : Type 0} (P : B → Type 0) (f : A → B) (xs : List A) → All P (map f xs) → All (λ x. P (f x)) xs
all_unmapped P f [] all = All-nil (λ x. P (f x))
all_unmapped P f (x ∷ xs) all = All-cons (λ x. P (f x)) x xs (All-head P (f x) (map f xs) all) (all_unmapped P f xs (All-tail P (f x) (map f xs) all))

-- ---- the whole

module _ (mode : Mode) (allow : Bool) (objects : List Object) (imports : List ImportKey) (old new : Numbered) (calls : Calls) (i : Interned) (are : AreCalls mode allow objects calls) (interns : Interns old new calls.variants i) where
  abbrev lo : Loose
  lo = record { called = calls.called; symbols = i.symbols; types = i.types }

  names_are : names_in calls.variants ≡ map name_of (variants_in mode true allow objects)
  names_are = ap names_in are.variants ∙ names_same (loose mode allow objects) ∙ ap (map name_of) (sym (variants_are mode allow objects))

  row_is : (e : InputSymbol) → test mode allow objects e ≡ true → variant_row new.names (variant_seen e) ≡ told_variant new.names imports (variant e)
  row_is e is =
      let entry = mismatch_entry (entries mode objects) e (meant mode objects allow e) is in
      ap (λ b. let s : Symbol = record { kind = e.symbol.kind; name = if b then number_of new.names (renamed e.type (name_of e)) else None; lead = Null } in s) (sym entry)

  symbols_are : i.symbols ≡ map (told_variant new.names imports) (map variant (loose mode allow objects))
  symbols_are =
      interns.symbols ∙ ap (map (variant_row new.names)) are.variants
      ∙ kept_maps (test mode allow objects) (variant_row new.names) variant_seen (told_variant new.names imports) variant row_is (all_symbols objects)

  types_each : (names : List (List ℕ)) → map (named_type calls.variants) names ≡ map (variant_type (variants_in mode true allow objects)) names
  types_each [] = refl
  types_each (n ∷ ns) =
      let one : named_type calls.variants n ≡ variant_type (variants_in mode true allow objects) n =
      ap (λ vs. named_type vs n) are.variants ∙ type_same (loose mode allow objects) n ∙ ap (λ vs. variant_type vs n) (sym (variants_are mode allow objects)) in
      λ k. one k ∷ types_each ns k

  called_is : (n : ℕ) (e : InputSymbol) → slice_get (all_symbols objects) n ≡ Some e
      → IsCalled (test mode allow objects e) (told_variant new.names imports (variant e)) (length (all_symbols objects)) i.symbols n (unwrap_or (slice_get calls.called n) n)
  called_is n e at = by (test mode allow objects e) refl
    where
      count : ℕ
      count = length (all_symbols objects)

      by : (b : Bool) → test mode allow objects e ≡ b → IsCalled b (told_variant new.names imports (variant e)) (length (all_symbols objects)) i.symbols n (unwrap_or (slice_get calls.called n) n)
      by true is =
          let found = called_other (test mode allow objects) (length (all_symbols objects)) 0 n (all_symbols objects) e at is in
          let there : slice_get calls.called n ≡ Some (length (all_symbols objects) + found.0) = ap (λ l. slice_get l n) are.called ∙ found.1 in (
            found.0,
            ap (λ o. unwrap_or o n) there,
            ap (λ l. slice_get l found.0) symbols_are ∙ slice_get-map (told_variant new.names imports) (map variant (loose mode allow objects)) found.0
                ∙ ap (option_map (told_variant new.names imports)) (slice_get-map variant (loose mode allow objects) found.0 ∙ ap (option_map variant) found.2),
          )
      by false is =
          let there : slice_get calls.called n ≡ Some (0 + n) = ap (λ l. slice_get l n) are.called ∙ called_itself (test mode allow objects) (length (all_symbols objects)) 0 n (all_symbols objects) e at is in
          let z : 0 + n ≡ n = omega arith in
          ap (λ o. unwrap_or o n) there ∙ z

  pub is_loose : IsLoose mode true allow new.names imports objects lo
  is_loose = record {
    called = λ n e at. subst (IsCalled (test mode allow objects e) (told_variant new.names imports (variant e)) (length (all_symbols objects)) i.symbols n) (unwrap_or-slice_get calls.called n n) (called_is n e at);
    symbols = symbols_are ∙ ap (map (told_variant new.names imports)) (sym (variants_are mode allow objects));
    types = interns.types ∙ types_each (distinct bytes_eq (names_in calls.variants)) ∙ ap (λ ns. map (variant_type (variants_in mode true allow objects)) (distinct bytes_eq ns)) names_are;
  }

  pub names_behind : new.names ≡ old.names ++ variant_names (variants_in mode true allow objects)
  names_behind = interns.names ∙ ap (λ ns. old.names ++ distinct bytes_eq ns) names_are

  pub all_apart : All (λ (v : InputSymbol). list_any (bytes_eq (name_of v)) old.names ≡ false) (variants_in mode true allow objects)
  all_apart = all_unmapped (λ name. list_any (bytes_eq name) old.names ≡ false) name_of (variants_in mode true allow objects) (subst (All (λ name. list_any (bytes_eq name) old.names ≡ false)) names_are interns.apart)
