-- Entries and what they mean stand among the symbols of the objects.
use Rattle.std.proofs.Common.{◌≡◌, ◌⊎◌, ℕ, zero, suc, ◌+◌, ◌<◌, Bool, true, false, cond, ◌∙◌, List, [], ◌∷◌, refl, ap, sym, subst, arith, Option, Some, None, length, get_or, inl, inr, nat_lt}
use Rattle.std.specs.Prelude.{◌==◌, ◌&&◌, ◌||◌, slice_get, flat_map, filter, if◌then◌else◌, option_map, option_and_then, unwrap_or}
use Rattle.std.proofs.lemmas.Bool.{eq-eqb}
use Rattle.std.proofs.lemmas.Bool.Decides.{nat_tests}
use Rattle.std.proofs.lemmas.Option.{same_Some, slice_get_within, get_or_from_slice_get, slice_get-get_or}
use Rattle.link_program.specs.wl_base.Choice.{first_some, given}
use Rattle.link_program.specs.linking_section.declared.symbol.Symbol.{Symbol}
use Rattle.link_program.specs.linking_section.declared.symbol.SymbolKind.TheVariants.{GlobalVar}
use Rattle.link_program.specs.object_file.declared.object.Object.{Object}
use Rattle.link_program.specs.made_symbols.declared.mode.Mode.{Mode}
use Rattle.link_program.specs.made_symbols.declared.mode.Mode.TheVariants.{Plain, Shared}
use Rattle.link_program.specs.made_symbols.Made.{MadeSymbol, made, made_at}
use Rattle.link_program.specs.name_rules.Entries.{InputSymbol, ImportKey, entries_from, symbols_of, made_entry, made_from, is_entry, is_kind, entries, name_of, is_named, named}
use Rattle.link_program.specs.name_rules.Meanings.{Meaning, here, imported, null, nothing, Uses, uses_of, entry_rank, lesser, least, meaning, by_rules, own_meaning, references, least_import, may_import, may_be_null, where_given, is_called, is_address, cell_of}
use Rattle.link_program.specs.linking_section.Flags.{is_explicit}
use Rattle.link_program.specs.name_entries.View.{InputsRise, rows_of, entry_at}
use Rattle.link_program.proofs.name_entries_lemmas.Found.{mapped}
use Rattle.link_program.proofs.name_entries_lemmas.Rows.{the_entry}
use Rattle.program_tables.specs.Objects.{object_of, symbol_of}
use Rattle.program_tables.proofs.Lists.{Each, each_append, each_filter}

-- ---- objects by input

pub above : (last : ℕ) (objects : List Object) (i : ℕ) (o : Object) → InputsRise last objects → slice_get objects i ≡ Some o → last < o.input
above last [] i o rise at = let lt = slice_get_within [] i o at in absurd (omega arith)
above last (x ∷ xs) zero o rise at = subst (λ (y : Object). last < y.input) (get_or_from_slice_get (x ∷ xs) zero o o at) rise.0
above last (x ∷ xs) (suc i) o rise at = let first : last < x.input = rise.0 in let rest = above x.input xs i o rise.2 at in omega arith

found_by : (b : Bool) (x o : Object) (rest : Option Object) → (b ≡ true → x ≡ o) → (b ≡ false → rest ≡ Some o) → cond b (Some x) rest ≡ Some o
found_by true x o rest same other = ap Some (same refl)
found_by false x o rest same other = other refl

pub object_found : (last : ℕ) (objects : List Object) (i : ℕ) (o : Object) → InputsRise last objects → slice_get objects i ≡ Some o → object_of objects o.input ≡ Some o
object_found last [] i o rise at = let lt = slice_get_within [] i o at in absurd (omega arith)
object_found last (x ∷ xs) zero o rise at =
    let same : x ≡ o = get_or_from_slice_get (x ∷ xs) zero o o at in
    let hit : (x.input == o.input) ≡ true = eq-eqb x.input o.input (ap (λ (y : Object). y.input) same) in
    ap (λ b. cond b (Some x) (object_of xs o.input)) hit ∙ ap Some same
object_found last (x ∷ xs) (suc i) o rise at =
    let up : x.input < o.input = above x.input xs i o rise.2 at in
    let missed : (x.input == o.input) ≡ false = grind (arith, nat_tests) in
    ap (λ b. cond b (Some x) (object_of xs o.input)) missed ∙ object_found x.input xs i o rise.2 at

pub row_at : (objects : List Object) (i : ℕ) (o : Object) → slice_get objects i ≡ Some o → get_or (rows_of objects) i [] ≡ symbols_of objects o
row_at objects i o at = mapped (symbols_of objects) objects i o [] at

pub symbol_found : (objects : List Object) (i k : ℕ) (o : Object) (e : InputSymbol) → InputsRise 0 objects → slice_get objects i ≡ Some o → entry_at objects i k ≡ Some e
    → symbol_of objects o.input k ≡ Some e
symbol_found objects i k o e rise at there =
    ap (option_and_then (λ (x : Object). slice_get (symbols_of objects x) k)) (object_found 0 objects i o rise at)
    ∙ ap (λ l. slice_get l k) (sym (row_at objects i o at)) ∙ there

-- ---- where an entry stands

pub record OfObject (objects : List Object) (e : InputSymbol) : Type 0 where
  pub place : ℕ
  pub object : Object
  pub at : slice_get objects place ≡ Some object
  pub input : e.input ≡ object.input
  pub there : entry_at objects place e.place ≡ Some e

pub record OfLinker (mode : Mode) (e : InputSymbol) : Type 0 where
  pub below : e.place < length (made mode)
  pub is : e ≡ made_entry e.place (made_at mode e.place)

abbrev pub Stands : Mode → List Object → InputSymbol → Type 0
Stands mode objects e = OfLinker mode e ⊎ OfObject objects e

row_stands : (objects : List Object) (i k : ℕ) (o : Object) (ss : List Symbol) → slice_get objects i ≡ Some o → ((j : ℕ) → slice_get ss j ≡ slice_get o.symbols (k + j))
    → Each (OfObject objects) (entries_from objects o k ss)
row_stands objects i k o [] at same = tt
row_stands objects i k o (s ∷ ss) at same =
    let e : k + 0 ≡ k = omega arith in
    let first : Some s ≡ slice_get o.symbols k = same zero ∙ ap (slice_get o.symbols) e in (
      record { place = i; object = o; at = at; input = refl; there = the_entry objects i k o s at first },
      row_stands objects i (k + 1) o ss at (λ j. let f : k + suc j ≡ k + 1 + j = omega arith in same (suc j) ∙ ap (slice_get o.symbols) f),
    )

pub object_stands : (objects : List Object) (i : ℕ) (o : Object) → slice_get objects i ≡ Some o → Each (OfObject objects) (symbols_of objects o)
object_stands objects i o at = row_stands objects i 0 o o.symbols at (λ j. let e : j ≡ 0 + j = omega arith in ap (slice_get o.symbols) e)

objects_stand : (objects os : List Object) (i : ℕ) → ((j : ℕ) → slice_get os j ≡ slice_get objects (i + j)) → Each (OfObject objects) (flat_map (symbols_of objects) os)
objects_stand objects [] i same = tt
objects_stand objects (o ∷ os) i same =
    let e : i + 0 ≡ i = omega arith in
    let first : slice_get objects i ≡ Some o = ap (slice_get objects) (sym e) ∙ sym (same zero) in
    each_append (OfObject objects) (symbols_of objects o) (flat_map (symbols_of objects) os) (object_stands objects i o first)
    (objects_stand objects os (i + 1) (λ j. let f : i + suc j ≡ i + 1 + j = omega arith in same (suc j) ∙ ap (slice_get objects) f))

pub symbols_stand : (objects : List Object) → Each (OfObject objects) (flat_map (symbols_of objects) objects)
symbols_stand objects = objects_stand objects objects 0 (λ j. let e : j ≡ 0 + j = omega arith in ap (slice_get objects) e)

made_stand : (mode : Mode) (k : ℕ) (ms : List MadeSymbol) → k + length ms ≡ length (made mode) → ((j : ℕ) (d : MadeSymbol) → j < length ms → get_or ms j d ≡ made_at mode (k + j)) → Each (OfLinker mode) (made_from k ms)
made_stand mode k [] counted same = tt
made_stand mode k (m ∷ ms) counted same =
    let lt : k < length (made mode) = omega arith in
    let e : k + 0 ≡ k = omega arith in
    let first : m ≡ made_at mode k = same zero m (omega arith) ∙ ap (made_at mode) e in (
      record { below = lt; is = ap (made_entry k) first },
      made_stand mode (k + 1) ms (omega arith) (λ j d lt. let f : k + suc j ≡ k + 1 + j = omega arith in same (suc j) d (omega arith) ∙ ap (made_at mode) f),
    )

same_default : {A : Type 0} (xs : List A) (i : ℕ) (d e : A) → i < length xs → get_or xs i d ≡ get_or xs i e
same_default xs i d e within = ap (λ o. unwrap_or o d) (sym (slice_get-get_or xs i d within) ∙ slice_get-get_or xs i e within)

pub linkers_stand : (mode : Mode) → Each (OfLinker mode) (made_from 0 (made mode))
linkers_stand mode =
    made_stand mode 0 (made mode) (omega arith)
    (λ j d lt. let e : j ≡ 0 + j = omega arith in same_default (made mode) j d _ lt ∙ ap (made_at mode) e)

stands_linker : (mode : Mode) (objects : List Object) (es : List InputSymbol) → Each (OfLinker mode) es → Each (Stands mode objects) es
stands_linker mode objects [] all = tt
stands_linker mode objects (e ∷ es) all = (inl all.0, stands_linker mode objects es all.1)

stands_object : (mode : Mode) (objects : List Object) (es : List InputSymbol) → Each (OfObject objects) es → Each (Stands mode objects) es
stands_object mode objects [] all = tt
stands_object mode objects (e ∷ es) all = (inr all.0, stands_object mode objects es all.1)

pub entries_stand : (mode : Mode) (objects : List Object) → Each (Stands mode objects) (entries mode objects)
unfolding entries
entries_stand mode objects =
    each_append (Stands mode objects) (made_from 0 (made mode)) (filter is_entry (flat_map (symbols_of objects) objects))
    (stands_linker mode objects (made_from 0 (made mode)) (linkers_stand mode))
    (each_filter (Stands mode objects) is_entry (flat_map (symbols_of objects) objects) (stands_object mode objects (flat_map (symbols_of objects) objects) (symbols_stand objects)))

-- ---- one entry an input and a place

pub no_input : (objects : List Object) (e : InputSymbol) → InputsRise 0 objects → OfObject objects e → 0 < e.input
no_input objects e rise stands = subst (λ n. 0 < n) (sym stands.input) (above 0 objects stands.place stands.object rise stands.at)

pub found_there : (objects : List Object) (e : InputSymbol) → InputsRise 0 objects → OfObject objects e → symbol_of objects e.input e.place ≡ Some e
found_there objects e rise stands =
    ap (λ n. symbol_of objects n e.place) stands.input ∙ symbol_found objects stands.place e.place stands.object e rise stands.at stands.there

pub linker_input : (mode : Mode) (e : InputSymbol) → OfLinker mode e → e.input ≡ 0
linker_input mode e stands = ap (λ (x : InputSymbol). x.input) stands.is

pub one_entry : (mode : Mode) (objects : List Object) (e f : InputSymbol) → InputsRise 0 objects → Stands mode objects e → Stands mode objects f → e.input ≡ f.input → e.place ≡ f.place → e ≡ f
one_entry mode objects e f rise (inl a) (inl b) input place = a.is ∙ ap (λ k. made_entry k (made_at mode k)) place ∙ sym b.is
one_entry mode objects e f rise (inl a) (inr b) input place =
    let none = linker_input mode e a in let some = no_input objects f rise b in absurd (omega arith)
one_entry mode objects e f rise (inr a) (inl b) input place =
    let none = linker_input mode f b in let some = no_input objects e rise a in absurd (omega arith)
one_entry mode objects e f rise (inr a) (inr b) input place =
    same_Some e f (sym (found_there objects e rise a) ∙ ap (λ n. symbol_of objects n e.place) input ∙ ap (symbol_of objects f.input) place ∙ found_there objects f rise b)

-- ---- the least entry

lesser_is : (P : InputSymbol → Type 0) (e f d : InputSymbol) (second : Bool) → P e → P f → (if second then Some f else Some e) ≡ Some d → P d
lesser_is P e f d true first holds same = subst P (ap (λ o. unwrap_or o e) same) holds
lesser_is P e f d false first holds same = subst P (ap (λ o. unwrap_or o e) same) first

lesser_holds : (P : InputSymbol → Type 0) (e : InputSymbol) (rest : Option InputSymbol) (d : InputSymbol) → P e → ((f : InputSymbol) → rest ≡ Some f → P f) → lesser e rest ≡ Some d → P d
lesser_holds P e None d first others same = subst P (ap (λ o. unwrap_or o e) same) first
lesser_holds P e (Some f) d first others same = lesser_is P e f d (nat_lt (entry_rank f) (entry_rank e)) first (others f refl) same

pub each_least : (P : InputSymbol → Type 0) (es : List InputSymbol) (d : InputSymbol) → Each P es → least es ≡ Some d → P d
each_least P [] d all is = absurd cc
each_least P (e ∷ es) d all is = lesser_holds P e (least es) d all.0 (λ f found. each_least P es f all.1 found) is

-- ---- meanings

abbrev pub MeansThere : Mode → List Object → Meaning → Type 0
MeansThere mode objects (here d) = Stands mode objects d
MeansThere mode objects (imported key) = Unit {0}
MeansThere mode objects null = Unit {0}
MeansThere mode objects nothing = Unit {0}

ruled : (mode : Mode) (objects : List Object) (wins : Option InputSymbol) (explicit other : Option ImportKey) (absent : Bool) (last : Meaning) → ((d : InputSymbol) → wins ≡ Some d → Stands mode objects d)
    → MeansThere mode objects last
    → MeansThere mode objects (unwrap_or (first_some (option_map here wins ∷ option_map imported explicit ∷ option_map imported other ∷ given absent last ∷ [])) nothing)
ruled mode objects (Some d) explicit other absent last there so = there d refl
ruled mode objects None (Some k) other absent last there so = tt
ruled mode objects None None (Some k) absent last there so = tt
ruled mode objects None None None true last there so = so
ruled mode objects None None None false last there so = tt

own : (mode : Mode) (objects : List Object) (e : InputSymbol) (defines : Bool) → Stands mode objects e → MeansThere mode objects (if defines then here e else nothing)
own mode objects e true stands = stands
own mode objects e false stands = tt

winner_stands : (mode : Mode) (objects : List Object) (name : List ℕ) (d : InputSymbol) → least (filter (λ (d : InputSymbol). d.defines) (named (entries mode objects) name)) ≡ Some d → Stands mode objects d
winner_stands mode objects name d is =
    let es = named (entries mode objects) name in
    each_least (Stands mode objects) (filter (λ (d : InputSymbol). d.defines) es) d
    (each_filter (Stands mode objects) (λ (d : InputSymbol). d.defines) es (each_filter (Stands mode objects) (is_named name) (entries mode objects) (entries_stand mode objects))) is

rules_stand : (mode : Mode) (objects : List Object) (uses : Uses) (allow : Bool) (e : InputSymbol) → MeansThere mode objects (by_rules mode uses allow (named (entries mode objects) (name_of e)) e)
rules_stand Plain objects uses allow e =
    let es = named (entries Plain objects) (name_of e) in
    ruled Plain objects (least (filter (λ (d : InputSymbol). d.defines) es)) (least_import (filter (λ (r : InputSymbol). is_explicit r.symbol) (references es)))
    (where_given (allow && may_import es e) (least_import (references es))) (may_be_null e) null (winner_stands Plain objects (name_of e)) tt
rules_stand Shared objects uses allow e =
    let es = named (entries Shared objects) (name_of e) in
    ruled Shared objects (least (filter (λ (d : InputSymbol). d.defines) es)) (least_import (filter (λ (r : InputSymbol). is_explicit r.symbol) (references es)))
    (where_given (is_called uses e || is_kind GlobalVar e) (least_import (references es))) (is_address uses e) (imported (cell_of e)) (winner_stands Shared objects (name_of e)) tt

by_entry : (mode : Mode) (objects : List Object) (uses : Uses) (allow : Bool) (e : InputSymbol) (entry : Bool) → Stands mode objects e
    → MeansThere mode objects (if entry then by_rules mode uses allow (named (entries mode objects) (name_of e)) e else own_meaning e)
by_entry mode objects uses allow e true stands = rules_stand mode objects uses allow e
by_entry mode objects uses allow e false stands = own mode objects e e.defines stands

pub meaning_stands : (mode : Mode) (objects : List Object) (allow : Bool) (e : InputSymbol) → OfObject objects e
    → MeansThere mode objects (meaning mode (uses_of mode objects) allow (entries mode objects) e)
meaning_stands mode objects allow e stands = by_entry mode objects (uses_of mode objects) allow e (is_entry e) (inr stands)
