-- The number of the symbol that stands for what a window names is that of the definition.
use Rattle.std.proofs.Common.{◌≡◌, ℕ, zero, suc, ◌==◌, Bool, true, false, not, ◌&&◌, List, [], ◌∷◌, ◌++◌, map, flat_map, length, slice_get, get_or, position, Option, Some, None, option_map, unwrap_or, refl, sym, ap, subst, ◌∙◌, arith, append-nil}
use Rattle.std.specs.Prelude.{if◌then◌else◌}
use Rattle.std.specs.List.{AllByRecursion}
use Rattle.std.proofs.lemmas.Option.{slice_get-map, get_or_from_slice_get, same_Some, none-some}
use Rattle.link_program.specs.wl_base.Names.{number_of}
use Rattle.link_program.specs.object_file.declared.object.Object.{Object}
use Rattle.link_program.specs.linking_section.declared.symbol.SymbolKind.TheVariants.{Section}
use Rattle.link_program.specs.made_symbols.declared.mode.Mode.TheVariants.{Plain}
use Rattle.link_program.specs.name_rules.Entries.{InputSymbol, ImportKey, is_entry, is_named, is_kind, name_of, named, same_entry, symbols_of}
use Rattle.link_program.specs.name_rules.Meanings.{Meaning, here, nothing, Resolved, resolve, resolved_in, uses_of, meaning, by_rules, own_meaning}
use Rattle.link_program.specs.name_entries.View.{entry_number}
use Rattle.link_program.specs.link_rules.Program.{Program, loose_variants}
use Rattle.link_program.specs.link_rules.Marks.{all_symbols}
use Rattle.link_program.proofs.name_entries_lemmas.Numbers.{name_at}
use Rattle.link_program.specs.declared.program.Program.{Program as Data}
use Rattle.link_program.specs.declared.symbol.Symbol.{Symbol}
use Rattle.link_program.specs.declared.symbol.Lead.TheVariants as leads
use Rattle.link_program.specs.declared.symbol.Definition.{Definition}
use Rattle.link_program.specs.Told.{told_definition, told_lead, told_symbol, told_all, told_symbols, told_variant}
use Rattle.link_program.specs.Seen.{no_symbol}
use Rattle.link_program.specs.Stand.{IsSymbolOf}
use Rattle.link_program.specs.Program.{IsProgramOf}
use Rattle.partial_rules.specs.Partial as partial
use Rattle.partial_symbols.specs.Standing.{Stood}
use Rattle.partial_symbols.specs.Known.{AreStanding}
use Rattle.partial_symbols.specs.Referring.{number_by_name, number_for}
use Rattle.partial_symbols.proofs.Held.{HeldWhere, numbered, held_objects}
use Rattle.partial_symbols.proofs.Numbered.{Differ, all_differ, absent}
use Rattle.partial_symbols.proofs.Whole.{symbols_all}

-- ---- places in lists

get_behind : {A : Type 0} (xs ys : List A) (j : ℕ) (y : A) → slice_get ys j ≡ Some y → (k : ℕ) × (slice_get (xs ++ ys) k ≡ Some y)
get_behind [] ys j y at = (j, at)
get_behind (x ∷ xs) ys j y at = let r = get_behind xs ys j y at in (suc r.0, r.1)

get_before : {A : Type 0} (xs ys : List A) (j : ℕ) (x : A) → slice_get xs j ≡ Some x → slice_get (xs ++ ys) j ≡ Some x
get_before [] ys j x at = absurd (none-some x at)
get_before (z ∷ xs) ys zero x at = at
get_before (z ∷ xs) ys (suc j) x at = get_before xs ys j x at

get_flat : {A B : Type 0} (f : A → List B) (xs : List A) (i j : ℕ) (x : A) (y : B) → slice_get xs i ≡ Some x → slice_get (f x) j ≡ Some y → (k : ℕ) × (slice_get (flat_map f xs) k ≡ Some y)
get_flat f [] i j x y at there = absurd (none-some x at)
get_flat f (z ∷ xs) zero j x y at there = (j, get_before (f z) (flat_map f xs) j y (ap (λ w. slice_get (f w) j) (same_Some z x at) ∙ there))
get_flat f (z ∷ xs) (suc i) j x y at there = let r = get_flat f xs i j x y at there in get_behind (f z) (flat_map f xs) r.0 y r.1

all_at : {A : Type 0} (P : A → Type 0) (xs : List A) (k : ℕ) (x : A) → AllByRecursion P xs → slice_get xs k ≡ Some x → P x
all_at P [] k x all at = absurd (none-some x at)
all_at P (y ∷ xs) zero x all at = subst P (same_Some y x at) all.0
all_at P (y ∷ xs) (suc k) x all at = all_at P xs k x all.1 at

get_past : {A : Type 0} (xs : List A) (k : ℕ) (d : A) → slice_get xs k ≡ None → get_or xs k d ≡ d
get_past [] k d none = refl
get_past (x ∷ xs) zero d none = absurd (none-some x (sym none))
get_past (x ∷ xs) (suc k) d none = get_past xs k d none

past_both : {A B : Type 0} (xs : List A) (ys : List B) (k : ℕ) → length ys ≡ length xs → slice_get xs k ≡ None → slice_get ys k ≡ None
past_both xs [] k same none = refl
past_both [] (y ∷ ys) k same none = absurd (omega (arith, same))
past_both (x ∷ xs) (y ∷ ys) zero same none = absurd (none-some x (sym none))
past_both (x ∷ xs) (y ∷ ys) (suc k) same none = past_both xs ys k (omega (arith, same)) none

module _ (d : Data) (p : Program) (is : IsProgramOf Plain d p) (strict : p.plan.loose_calls ≡ false) (s : Stood) (are : AreStanding p d.names.now.names s) where
  abbrev names : List (List ℕ)
  names = d.names.now.names

  abbrev imports : List ImportKey
  imports = d.resolution.now.imports

  abbrev means : InputSymbol → Meaning
  means e = meaning Plain (uses_of Plain p.objects) p.plan.allow_undefined p.entries e

  abbrev told : InputSymbol → Symbol
  told e = told_symbol names imports e (means e)

  abbrev resolved : Object → Resolved
  resolved o = resolved_in Plain (uses_of Plain p.objects) p.plan.allow_undefined p.entries p.objects o

  -- ---- the symbols of the tables

  resolved_are : p.resolved ≡ map resolved p.objects
  unfolding resolve
  resolved_are = is.resolved

  row_told : (es : List InputSymbol) → told_all names imports es (map means es) ≡ map told es
  row_told [] = refl
  row_told (e ∷ es) = ap (λ xs. told e ∷ xs) (row_told es)

  map_both : (xs ys : List InputSymbol) → map told (xs ++ ys) ≡ map told xs ++ map told ys
  map_both [] ys = refl
  map_both (x ∷ xs) ys = ap (λ zs. told x ∷ zs) (map_both xs ys)

  rows_told : (os : List Object) → told_symbols names imports (map resolved os) ≡ map told (flat_map (symbols_of p.objects) os)
  rows_told [] = refl
  rows_told (o ∷ os) =
      ap (λ xs. xs ++ told_symbols names imports (map resolved os)) (row_told (symbols_of p.objects o))
      ∙ (ap (λ xs. map told (symbols_of p.objects o) ++ xs) (rows_told os)
      ∙ sym (map_both (symbols_of p.objects o) (flat_map (symbols_of p.objects) os)))

  no_variants : p.variants ≡ []
  no_variants = is.variants_are ∙ ap (λ b. loose_variants b p.entries p.resolved) strict

  symbols_told : d.tables.now.symbols ≡ map told (all_symbols p)
  symbols_told =
      is.tables.symbols
      ∙ (ap (λ vs. told_symbols names imports p.resolved ++ map (told_variant names imports) vs) no_variants
      ∙ (append-nil (told_symbols names imports p.resolved)
      ∙ (ap (told_symbols names imports) resolved_are
      ∙ (rows_told p.objects ∙ ap (map told) (sym (symbols_all d p is))))))

  -- ---- a symbol of an object

  all_held : AllByRecursion (HeldWhere names) (all_symbols p)
  all_held = subst (AllByRecursion (HeldWhere names)) (sym (symbols_all d p is)) (held_objects names p.objects p.objects is.numbers.symbols_held)

  they_differ : Differ (all_symbols p)
  they_differ = subst Differ (sym (symbols_all d p is)) (all_differ p.objects is.rise)

  -- where it stands, and what it means
  record Known (e : InputSymbol) (m : Meaning) : Type 0 where
    at : ℕ
    there : slice_get (all_symbols p) at ≡ Some e
    is_meant : m ≡ means e

  meant_at : (es : List InputSymbol) (j : ℕ) (e : InputSymbol) (m : Meaning) → slice_get es j ≡ Some e → slice_get (map means es) j ≡ Some m → m ≡ means e
  meant_at es j e m at there = same_Some m (means e) (sym there ∙ (slice_get-map means es j ∙ ap (option_map means) at))

  known_in : (rs : List Resolved) → p.resolved ≡ rs → (e : InputSymbol) (m : Meaning) → IsSymbolOf p.resolved e m → Known e m
  known_in rs same e m of =
      let at = get_flat (λ (r : Resolved). r.symbols) p.resolved of.0 of.1 of.2 e of.3 of.4 in
      record { at = at.0; there = at.1; is_meant = by_object (sym (ap (λ (rs : List Resolved). slice_get rs of.0) resolved_are) ∙ of.3) }
    where
      by_object : slice_get (map resolved p.objects) of.0 ≡ Some of.2 → m ≡ means e
      by_object there = by (slice_get p.objects of.0) refl
        where
          by : (o : Option Object) → slice_get p.objects of.0 ≡ o → m ≡ means e
          by None none = absurd (none-some of.2 (sym (slice_get-map resolved p.objects of.0 ∙ ap (option_map resolved) none) ∙ there))
          by (Some o) found =
              let same : resolved o ≡ of.2 = same_Some (resolved o) of.2 (sym (slice_get-map resolved p.objects of.0 ∙ ap (option_map resolved) found) ∙ there) in
              meant_at (symbols_of p.objects o) of.1 e m (ap (λ (r : Resolved). slice_get r.symbols of.1) same ∙ of.4) (ap (λ (r : Resolved). slice_get r.meanings of.1) same ∙ of.5)

  -- ---- an entry

  by_name : (k : ℕ) (e : InputSymbol) → is_entry e ≡ true → HeldWhere names e → number_by_name s k (entry_number names e) ≡ partial.symbol_number p e
  by_name k e entry held =
      let n = numbered names (name_of e) (held entry) in
      let number : entry_number names e ≡ Some n.0 = ap (λ b. if b then number_of names (name_of e) else None) entry ∙ n.1 in
      ap (number_by_name s k) number
      ∙ (ap (λ o. unwrap_or o 0) (are.of_names n.0 (name_of e) (name_at names (name_of e) n.0 n.1))
      ∙ ap (λ b. unwrap_or (position (λ x. if b then is_entry x && is_named (name_of e) x else same_entry e x) (partial.standing p)) 0) (sym entry))

  -- ---- what is no entry

  abbrev own_number : InputSymbol → ℕ
  own_number e = unwrap_or (position (same_entry e) (partial.standing p)) 0

  no_name : (e : InputSymbol) → is_entry e ≡ false → partial.symbol_number p e ≡ own_number e
  no_name e none = ap (λ b. unwrap_or (position (λ x. if b then is_entry x && is_named (name_of e) x else same_entry e x) (partial.standing p)) 0) none

  -- one that defines nothing doesn't stand
  not_standing : (e : InputSymbol) → is_entry e ≡ false → e.defines ≡ false → partial.stands p e ≡ false
  not_standing e none defines =
      ap (λ b. if b then partial.stands_for_name p e (partial.object_winner p (name_of e)) else (e.defines && not (is_kind Section e))) none
      ∙ ap (λ b. b && not (is_kind Section e)) defines

  absent_number : (e : InputSymbol) (m : Meaning) → Known e m → is_entry e ≡ false → e.defines ≡ false → own_number e ≡ 0
  absent_number e m known none defines = ap (λ o. unwrap_or o 0) (absent p (all_symbols p) they_differ known.at e known.there (not_standing e none defines))

  -- its number by another symbol that is told alike
  module _ (k : ℕ) (e : InputSymbol) (m : Meaning) (known : Known e m) (none : is_entry e ≡ false) where
    own : means e ≡ own_meaning e
    own = ap (λ b. if b then by_rules Plain (uses_of Plain p.objects) p.plan.allow_undefined (named p.entries (name_of e)) e else own_meaning e) none

    lead_of : (b : Bool) → e.defines ≡ b → told_lead imports m ≡ (if b then leads.Here (told_definition e) else leads.Nothing)
    lead_of true defines = ap (told_lead imports) (known.is_meant ∙ (own ∙ ap (λ b. if b then here e else nothing) defines))
    lead_of false defines = ap (told_lead imports) (known.is_meant ∙ (own ∙ ap (λ b. if b then here e else nothing) defines))

    past_end : slice_get (all_symbols p) k ≡ None → leads.Nothing ≡ told_lead imports m → unwrap_or (get_or s.of_symbols k None) 0 ≡ own_number e
    past_end nowhere alike = by e.defines refl
      where
        by : (b : Bool) → e.defines ≡ b → unwrap_or (get_or s.of_symbols k None) 0 ≡ own_number e
        by true defines = absurd (let f : leads.Nothing ≡ leads.Here (told_definition e) = alike ∙ lead_of true defines in cc)
        by false defines =
            ap (λ o. unwrap_or o 0) (get_past s.of_symbols k None (past_both (all_symbols p) s.of_symbols k are.count nowhere))
            ∙ sym (absent_number e m known none defines)

    same_place : (f : InputSymbol) → told_definition f ≡ told_definition e → own_number f ≡ own_number e
    same_place f alike =
        let input : f.input ≡ e.input = ap (λ (x : Definition). x.input) alike in
        let place : f.place ≡ e.place = ap (λ (x : Definition). x.place) alike in
        λ i. unwrap_or (position (λ (x : InputSymbol). (input i == x.input) && (place i == x.place)) (partial.standing p)) 0

    definition_is : (a b : Definition) → leads.Here a ≡ leads.Here b → a ≡ b
    definition_is a b same = cc

    other : (f : InputSymbol) → slice_get (all_symbols p) k ≡ Some f → is_entry f ≡ false → told_lead imports (means f) ≡ told_lead imports m → unwrap_or (get_or s.of_symbols k None) 0 ≡ own_number e
    other f there no_entry alike = ap (λ o. unwrap_or o 0) (are.of_symbols k f there) ∙ by f.defines e.defines refl refl
      where
        f_known : Known f (means f)
        f_known = record { at = k; there = there; is_meant = refl }

        f_own : means f ≡ own_meaning f
        f_own = ap (λ b. if b then by_rules Plain (uses_of Plain p.objects) p.plan.allow_undefined (named p.entries (name_of f)) f else own_meaning f) no_entry

        f_lead : (b : Bool) → f.defines ≡ b → told_lead imports (means f) ≡ told_lead imports (if b then here f else nothing)
        f_lead b defines = ap (told_lead imports) (f_own ∙ ap (λ b. if b then here f else nothing) defines)

        by : (a b : Bool) → f.defines ≡ a → e.defines ≡ b → own_number f ≡ own_number e
        by true true fd ed = same_place f (definition_is (told_definition f) (told_definition e) (sym (f_lead true fd) ∙ (alike ∙ lead_of true ed)))
        by false false fd ed = absent_number f (means f) f_known no_entry fd ∙ sym (absent_number e m known none ed)
        by true false fd ed = absurd (let h : leads.Here (told_definition f) ≡ leads.Nothing = sym (f_lead true fd) ∙ (alike ∙ lead_of false ed) in cc)
        by false true fd ed = absurd (let h : leads.Nothing ≡ leads.Here (told_definition e) = sym (f_lead false fd) ∙ (alike ∙ lead_of true ed) in cc)

  -- a symbol without a number is no entry
  unnumbered : (f : InputSymbol) → HeldWhere names f → entry_number names f ≡ None → is_entry f ≡ false
  unnumbered f held number = by (is_entry f) refl
    where
      by : (b : Bool) → is_entry f ≡ b → b ≡ false
      by false entry = refl
      by true entry =
          let n = numbered names (name_of f) (held entry) in
          absurd (none-some n.0 (sym number ∙ (ap (λ b. if b then number_of names (name_of f) else None) entry ∙ n.1)))

  by_symbol : (k : ℕ) (e : InputSymbol) (m : Meaning) → Known e m → is_entry e ≡ false → get_or d.tables.now.symbols k no_symbol ≡ told_symbol names imports e m
      → unwrap_or (get_or s.of_symbols k None) 0 ≡ own_number e
  by_symbol k e m known none seen = by (slice_get (all_symbols p) k) refl
    where
      there_is : (o : Option InputSymbol) → slice_get (all_symbols p) k ≡ o → slice_get d.tables.now.symbols k ≡ option_map told o
      there_is o at = ap (λ xs. slice_get xs k) symbols_told ∙ (slice_get-map told (all_symbols p) k ∙ ap (option_map told) at)

      by : (o : Option InputSymbol) → slice_get (all_symbols p) k ≡ o → unwrap_or (get_or s.of_symbols k None) 0 ≡ own_number e
      by None at = past_end k e m known none at (ap (λ (x : Symbol). x.lead) (sym (get_past d.tables.now.symbols k no_symbol (there_is None at)) ∙ seen))
      by (Some f) at =
          let alike : told f ≡ told_symbol names imports e m = sym (get_or_from_slice_get d.tables.now.symbols k (told f) no_symbol (there_is (Some f) at)) ∙ seen in
          let number : entry_number names f ≡ None = ap (λ (x : Symbol). x.name) alike ∙ ap (λ b. if b then number_of names (name_of e) else None) none in
          other k e m known none f at (unnumbered f (all_at (HeldWhere names) (all_symbols p) k f all_held at) number) (ap (λ (x : Symbol). x.lead) alike)

  -- The number of what a window names.
  pub number_is : (k : ℕ) (e : InputSymbol) (m : Meaning) → IsSymbolOf p.resolved e m → get_or d.tables.now.symbols k no_symbol ≡ told_symbol names imports e m
      → number_for s d.tables.now.symbols k ≡ partial.symbol_number p e
  number_is k e m of seen = ap (λ (x : Symbol). number_by_name s k x.name) seen ∙ by (is_entry e) refl
    where
      known : Known e m
      known = known_in p.resolved refl e m of

      by : (b : Bool) → is_entry e ≡ b → number_by_name s k (entry_number names e) ≡ partial.symbol_number p e
      by true entry = by_name k e entry (all_at (HeldWhere names) (all_symbols p) known.at e all_held known.there)
      by false none =
          ap (number_by_name s k) (ap (λ b. if b then number_of names (name_of e) else None) none)
          ∙ (by_symbol k e m known none seen ∙ sym (no_name e none))

  -- The same of a symbol by its place.
  pub number_at : (k : ℕ) (e : InputSymbol) → slice_get (all_symbols p) k ≡ Some e → number_by_name s k (entry_number names e) ≡ partial.symbol_number p e
  number_at k e at = by (is_entry e) refl
    where
      by : (b : Bool) → is_entry e ≡ b → number_by_name s k (entry_number names e) ≡ partial.symbol_number p e
      by true entry = by_name k e entry (all_at (HeldWhere names) (all_symbols p) k e all_held at)
      by false none =
          ap (number_by_name s k) (ap (λ b. if b then number_of names (name_of e) else None) none)
          ∙ (ap (λ o. unwrap_or o 0) (are.of_symbols k e at) ∙ sym (no_name e none))
