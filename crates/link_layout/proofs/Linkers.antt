-- What references of live parts mean, where it is the linker's own: one of the symbols that it makes, by its number.
use Rattle.std.proofs.Common.{◌≡◌, ℕ, zero, suc, ◌+◌, ◌<◌, ◌==◌, ◌&&◌, ◌||◌, Bool, true, false, cond, List, [], ◌∷◌, ◌++◌, filter, flat_map, length, get_or, slice_get, Option, Some, None, option_map, unwrap_or, refl, sym, ap, subst, ◌∙◌, arith, inl, inr, nat_lt, eqb-true}
use Rattle.std.specs.Prelude.{if◌then◌else◌}
use Rattle.std.specs.List.{All}
use Rattle.std.proofs.lemmas.List.Elements.{All-append}
use Rattle.std.proofs.lemmas.Option.{slice_get-map, slice_get-get_or, slice_get_within, get_or_from_slice_get}
use Rattle.link_program.specs.wl_base.Choice.{first_some, given}
use Rattle.link_program.specs.linking_section.declared.symbol.Symbol.{Symbol}
use Rattle.link_program.specs.linking_section.declared.symbol.SymbolKind.TheVariants.{GlobalVar}
use Rattle.link_program.specs.linking_section.Flags.{is_explicit}
use Rattle.link_program.specs.object_file.declared.object.Object.{Object}
use Rattle.link_program.specs.made_symbols.declared.mode.Mode.{Mode}
use Rattle.link_program.specs.made_symbols.declared.mode.Mode.TheVariants.{Plain, Shared}
use Rattle.link_program.specs.made_symbols.Made.{MadeSymbol, made, made_at}
use Rattle.link_program.specs.name_rules.Entries.{InputSymbol, ImportKey, is_entry, is_kind, is_named, name_of, named, entries, entries_from, symbols_of, made_entry, made_from}
use Rattle.link_program.specs.name_rules.Meanings.{Meaning, here, imported, null, nothing, Uses, Resolved, resolve, resolved_in, uses_of, meaning, own_meaning, by_rules, references, least_import, least, lesser, entry_rank, where_given, may_import, may_be_null, is_called, is_address, cell_of}
use Rattle.link_program.specs.name_entries.View.{InputsRise}
use Rattle.link_program.specs.link_rules.Program as rules
use Rattle.link_program.specs.link_rules.Program.{Ref, refs}
use Rattle.link_program.specs.link_rules.Marks.{refs_of}
use Rattle.link_program.specs.declared.program.Program.{Program as Data}
use Rattle.link_program.specs.Program.{IsProgramOf}
use Rattle.link_program.specs.Stand.{IsSymbolOf, IsRefOf, PartStands, PartsStand}
use Rattle.link_program.specs.Live.{AreLive}
use Rattle.link_layout.proofs.Pairs.{pairs_within}

pub record OfLinker (mode : Mode) (e : InputSymbol) : Type 0 where
  pub below : e.place < length (made mode)
  pub is : e ≡ made_entry e.place (made_at mode e.place)

-- a symbol of input 0 is the linker's
abbrev pub LinkersOwn : Mode → InputSymbol → Type 0
LinkersOwn mode e = (e.input == 0) ≡ true → OfLinker mode e

abbrev pub MeansLinkers : Mode → Meaning → Type 0
MeansLinkers mode (here d) = LinkersOwn mode d
MeansLinkers mode (imported k) = Unit {0}
MeansLinkers mode null = Unit {0}
MeansLinkers mode nothing = Unit {0}

-- ---- lists

abbrev Each : {A : Type 0} → (A → Type 0) → List A → Type 0
Each P [] = Unit {0}
Each P (x ∷ xs) = P x × Each P xs

each_append : {A : Type 0} (P : A → Type 0) (xs ys : List A) → Each P xs → Each P ys → Each P (xs ++ ys)
each_append P [] ys first rest = rest
each_append P (x ∷ xs) ys first rest = (first.0, each_append P xs ys first.1 rest)

each_filter : {A : Type 0} (P : A → Type 0) (test : A → Bool) (xs : List A) → Each P xs → Each P (filter test xs)
each_filter P test [] all = tt
each_filter {A} P test (x ∷ xs) all = by (test x) (each_filter P test xs all.1)
  where
    by : (r : Bool) → Each P (filter test xs) → Each P (cond r (x ∷ filter test xs) (filter test xs))
    by true rest = (all.0, rest)
    by false rest = rest

each_at : {A : Type 0} (P : A → Type 0) (xs : List A) (i : ℕ) (x : A) → Each P xs → slice_get xs i ≡ Some x → P x
each_at P [] i x all at = absurd cc
each_at P (y ∷ xs) zero x all at = let same : y ≡ x = cc in subst P same all.0
each_at P (y ∷ xs) (suc i) x all at = each_at P xs i x all.1 at

-- ---- the linker's symbols

made_stand : (mode : Mode) (k : ℕ) (ms : List MadeSymbol) → k + length ms ≡ length (made mode) → ((j : ℕ) (d : MadeSymbol) → j < length ms → get_or ms j d ≡ made_at mode (k + j)) → Each (OfLinker mode) (made_from k ms)
made_stand mode k [] counted same = tt
made_stand mode k (m ∷ ms) counted same =
    let lt : k < length (made mode) = omega arith in
    let e : k + 0 ≡ k = omega arith in
    let first : m ≡ made_at mode k = same zero m (omega arith) ∙ ap (made_at mode) e in (
      record { below = lt; is = ap (made_entry k) first },
      made_stand mode (k + 1) ms (omega arith) (λ j d lt. let f : k + suc j ≡ k + 1 + j = omega arith in same (suc j) d (omega arith) ∙ ap (made_at mode) f),
    )

same_default : {A : Type 0} (xs : List A) (i : ℕ) (d e : A) → i < length xs → get_or xs i d ≡ get_or xs i e
same_default xs i d e within = ap (λ o. unwrap_or o d) (sym (slice_get-get_or xs i d within) ∙ slice_get-get_or xs i e within)

linkers_stand : (mode : Mode) → Each (OfLinker mode) (made_from 0 (made mode))
linkers_stand mode =
    made_stand mode 0 (made mode) (omega arith)
    (λ j d lt. let e : j ≡ 0 + j = omega arith in same_default (made mode) j d _ lt ∙ ap (made_at mode) e)

linkers_own : (mode : Mode) (es : List InputSymbol) → Each (OfLinker mode) es → Each (LinkersOwn mode) es
linkers_own mode [] all = tt
linkers_own mode (e ∷ es) all = ((λ _. all.0), linkers_own mode es all.1)

-- ---- those of objects

row_far : (mode : Mode) (objects : List Object) (o : Object) (k : ℕ) (ss : List Symbol) → 0 < o.input → Each (LinkersOwn mode) (entries_from objects o k ss)
row_far mode objects o k [] far = tt
row_far mode objects o k (s ∷ ss) far = ((λ none. let e : o.input ≡ 0 = eqb-true o.input 0 none in absurd (omega (arith, e, far))), row_far mode objects o (k + 1) ss far)

objects_far : (mode : Mode) (objects : List Object) (last : ℕ) (os : List Object) → InputsRise last os → Each (λ (o : Object). Each (LinkersOwn mode) (symbols_of objects o)) os
objects_far mode objects last [] rise = tt
objects_far mode objects last (o ∷ os) rise = let lt : last < o.input = rise.0 in (row_far mode objects o 0 o.symbols (omega (arith, lt)), objects_far mode objects o.input os rise.2)

all_far : (mode : Mode) (objects os : List Object) → Each (λ (o : Object). Each (LinkersOwn mode) (symbols_of objects o)) os → Each (LinkersOwn mode) (flat_map (symbols_of objects) os)
all_far mode objects [] all = tt
all_far mode objects (o ∷ os) all = each_append (LinkersOwn mode) (symbols_of objects o) (flat_map (symbols_of objects) os) all.0 (all_far mode objects os all.1)

entries_own : (mode : Mode) (objects : List Object) → InputsRise 0 objects → Each (LinkersOwn mode) (entries mode objects)
unfolding entries
entries_own mode objects rise =
    each_append (LinkersOwn mode) (made_from 0 (made mode)) (filter is_entry (flat_map (symbols_of objects) objects))
    (linkers_own mode (made_from 0 (made mode)) (linkers_stand mode))
    (each_filter (LinkersOwn mode) is_entry (flat_map (symbols_of objects) objects) (all_far mode objects objects (objects_far mode objects 0 objects rise)))

-- ---- the least entry

lesser_is : (P : InputSymbol → Type 0) (e f d : InputSymbol) (second : Bool) → P e → P f → (if second then Some f else Some e) ≡ Some d → P d
lesser_is P e f d true first holds same = subst P (ap (λ o. unwrap_or o e) same) holds
lesser_is P e f d false first holds same = subst P (ap (λ o. unwrap_or o e) same) first

lesser_holds : (P : InputSymbol → Type 0) (e : InputSymbol) (rest : Option InputSymbol) (d : InputSymbol) → P e → ((f : InputSymbol) → rest ≡ Some f → P f) → lesser e rest ≡ Some d → P d
lesser_holds P e None d first others same = subst P (ap (λ o. unwrap_or o e) same) first
lesser_holds P e (Some f) d first others same = lesser_is P e f d (nat_lt (entry_rank f) (entry_rank e)) first (others f refl) same

each_least : (P : InputSymbol → Type 0) (es : List InputSymbol) (d : InputSymbol) → Each P es → least es ≡ Some d → P d
each_least P [] d all is = absurd cc
each_least P (e ∷ es) d all is = lesser_holds P e (least es) d all.0 (λ f found. each_least P es f all.1 found) is

-- ---- meanings

ruled : (mode : Mode) (wins : Option InputSymbol) (explicit other : Option ImportKey) (absent : Bool) (last : Meaning) → ((d : InputSymbol) → wins ≡ Some d → LinkersOwn mode d) → MeansLinkers mode last
    → MeansLinkers mode (unwrap_or (first_some (option_map here wins ∷ option_map imported explicit ∷ option_map imported other ∷ given absent last ∷ [])) nothing)
ruled mode (Some d) explicit other absent last own by = own d refl
ruled mode None (Some k) other absent last own by = tt
ruled mode None None (Some k) absent last own by = tt
ruled mode None None None true last own by = by
ruled mode None None None false last own by = tt

by_rule : (mode : Mode) (uses : Uses) (allow : Bool) (es : List InputSymbol) (e : InputSymbol) → Each (LinkersOwn mode) es → MeansLinkers mode (by_rules mode uses allow es e)
by_rule Plain uses allow es e all =
    ruled Plain (least (filter (λ (d : InputSymbol). d.defines) es)) (least_import (filter (λ (r : InputSymbol). is_explicit r.symbol) (references es)))
    (where_given (allow && may_import es e) (least_import (references es))) (may_be_null e) null
    (λ d is. each_least (LinkersOwn Plain) (filter (λ (d : InputSymbol). d.defines) es) d (each_filter (LinkersOwn Plain) (λ (d : InputSymbol). d.defines) es all) is) tt
by_rule Shared uses allow es e all =
    ruled Shared (least (filter (λ (d : InputSymbol). d.defines) es)) (least_import (filter (λ (r : InputSymbol). is_explicit r.symbol) (references es)))
    (where_given (is_called uses e || is_kind GlobalVar e) (least_import (references es))) (is_address uses e) (imported (cell_of e))
    (λ d is. each_least (LinkersOwn Shared) (filter (λ (d : InputSymbol). d.defines) es) d (each_filter (LinkersOwn Shared) (λ (d : InputSymbol). d.defines) es all) is) tt

means_own : (mode : Mode) (uses : Uses) (allow : Bool) (all : List InputSymbol) (e : InputSymbol) → Each (LinkersOwn mode) all → LinkersOwn mode e → MeansLinkers mode (meaning mode uses allow all e)
means_own mode uses allow all e every own = by_entry (is_entry e)
  where
    itself : (r : Bool) → MeansLinkers mode (if r then here e else nothing)
    itself true = own
    itself false = tt

    by_entry : (r : Bool) → MeansLinkers mode (if r then by_rules mode uses allow (named all (name_of e)) e else own_meaning e)
    by_entry true = by_rule mode uses allow (named all (name_of e)) e (each_filter (LinkersOwn mode) (is_named (name_of e)) all every)
    by_entry false = itself e.defines

-- ---- a program

-- what a symbol means, where it is the linker's own
pub symbol_means : (mode : Mode) (allow : Bool) (objects : List Object) (all : List InputSymbol) → all ≡ entries mode objects → InputsRise 0 objects → (e : InputSymbol) (m : Meaning)
    → IsSymbolOf (resolve mode allow all objects) e m → MeansLinkers mode m
unfolding resolve
symbol_means mode allow objects all from rise e m is = by_object (slice_get objects is.0) refl (sym (slice_get-map row objects is.0) ∙ is.3)
  where
    row : Object → Resolved
    row o = resolved_in mode (uses_of mode objects) allow all objects o

    every : Each (LinkersOwn mode) all
    every = subst (Each (LinkersOwn mode)) (sym from) (entries_own mode objects rise)

    by_object : (o : Option Object) → slice_get objects is.0 ≡ o → option_map row o ≡ Some is.2 → MeansLinkers mode m
    by_object None at same = absurd cc
    by_object (Some o) at same =
        let r : row o ≡ is.2 = cc in
        let symbol : slice_get (symbols_of objects o) is.1 ≡ Some e = ap (λ (x : Resolved). slice_get x.symbols is.1) r ∙ is.4 in
        let told : Some (meaning mode (uses_of mode objects) allow all e) ≡ Some m =
        sym (ap (option_map (meaning mode (uses_of mode objects) allow all)) symbol) ∙ sym (slice_get-map (meaning mode (uses_of mode objects) allow all) (symbols_of objects o) is.1)
        ∙ ap (λ (x : Resolved). slice_get x.meanings is.1) r ∙ is.5 in
        let means : meaning mode (uses_of mode objects) allow all e ≡ m = cc in
        let far = each_at (λ (o : Object). Each (LinkersOwn mode) (symbols_of objects o)) objects is.0 o (objects_far mode objects 0 objects rise) at in
        subst (MeansLinkers mode) means (means_own mode (uses_of mode objects) allow all e every (each_at (LinkersOwn mode) (symbols_of objects o) is.1 e far symbol))

module _ (mode : Mode) (d : Data) (p : rules.Program) (is : IsProgramOf mode d p) where
  ref_means : (ref : Ref) → IsRefOf p ref → MeansLinkers mode ref.meaning
  ref_means ref of = elim of as (λ _. MeansLinkers mode ref.meaning) [
    | inl symbol ↦
        let rise : InputsRise 0 p.objects = is.rise in
        symbol_means mode p.plan.allow_undefined p.objects p.entries is.entries rise ref.entry ref.meaning (subst (λ rs. IsSymbolOf rs ref.entry ref.meaning) is.resolved symbol)
    | inr variant ↦ subst (MeansLinkers mode) (sym variant.0) tt
  ]

  each_ref : (xs : List rules.Part) → ((k : ℕ) (x : rules.Part) → slice_get xs k ≡ Some x → All (IsRefOf p) (refs x)) → All (λ ref. MeansLinkers mode ref.meaning) (refs_of xs)
  each_ref [] of = λ k d below. absurd (omega arith)
  each_ref (x ∷ xs) of =
      let own : All (IsRefOf p) (refs x) = of 0 x refl in
      All-append (λ ref. MeansLinkers mode ref.meaning) (refs x) (refs_of xs) (λ k d below. ref_means (get_or (refs x) k d) (own k d below)) (each_ref xs (λ k y at. of (suc k) y at))

  -- what references of live parts mean, where it is the linker's own
  pub linkers_meant : PartsStand p → (live : List ℕ) (parts : List rules.Part) → AreLive p live parts → All (λ ref. MeansLinkers mode ref.meaning) (refs_of parts)
  linkers_meant stand live parts lives = each_ref parts (λ k x at.
      let w = pairs_within p.parts live parts lives.are k x at in
      let within = slice_get_within p.parts w.0 x w.2 in
      let there : PartStands p (get_or p.parts w.0 x) = stand w.0 x within in
      (subst (PartStands p) (get_or_from_slice_get p.parts w.0 x x w.2) there).refs)
