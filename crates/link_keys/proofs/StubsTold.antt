-- The null functions that are called, by the numbers of their names and as the definition has them.
use Rattle.std.proofs.Common.{◌≡◌, ℕ, ◌+◌, ◌<◌, ◌==◌, Bool, true, false, ◌&&◌, ◌||◌, List, [], ◌∷◌, ◌++◌, map, filter, flat_map, fold, replicate, cond, length, slice_get, Option, Some, None, unwrap_or, refl, sym, ap, subst, ◌∙◌, arith, append_assoc}
use Rattle.std.specs.Prelude.{bytes_eq}
use Rattle.std.specs.List.{list_any, All}
use Rattle.std.proofs.lemmas.List.{map-append}
use Rattle.std.proofs.lemmas.List.Elements.{All-head, All-tail, filter-append}
use Rattle.std.proofs.lemmas.Option.{slice_get_within}
use Rattle.link_program.specs.wl_base.Choice.{distinct}
use Rattle.link_program.specs.linking_section.declared.symbol.Symbol.{Symbol}
use Rattle.link_program.specs.object_file.declared.object.Object.{Object}
use Rattle.link_program.specs.made_symbols.declared.mode.Mode.{Mode}
use Rattle.link_program.specs.made_symbols.declared.mode.Mode.TheVariants.{Plain}
use Rattle.link_program.specs.made_symbols.Made.{made, MadeSymbol}
use Rattle.link_program.specs.index_layout.Numbers.{number_by}
use Rattle.link_program.specs.name_rules.Entries.{InputSymbol, ImportKey, is_entry, name_of, symbols_of, entries, entries_from, entry_in, is_named, made_from}
use Rattle.link_program.specs.name_rules.Meanings.{Meaning, here, imported, null, nothing}
use Rattle.link_program.specs.name_entries.View.{entry_number}
use Rattle.link_program.specs.link_names.Numbered.{is_entry_symbol, symbol_name, entry_names, group_names, different_names}
use Rattle.link_program.specs.link_rules.Program as rules
use Rattle.link_program.specs.link_rules.Program.{Ref}
use Rattle.link_program.specs.link_rules.Marks.{refs_of}
use Rattle.link_program.specs.link_rules.Keys.{is_null, calls_stub}
use Rattle.link_program.specs.Told.{told_lead}
use Rattle.link_keys.specs.Noted.{is_null_lead, where_so, flagged, is_at}
use Rattle.link_keys.specs.Lists.{flag_at, stubs_listed}
use Rattle.link_keys.proofs.Any.{any_map, any_same, all_each}
use Rattle.link_keys.proofs.Equals.{OnePlace, same_number, same_sym, stands, passes, numbers_passing, none_past}
use Rattle.link_keys.proofs.Flags.{flags_set}
use Rattle.link_keys.proofs.Heard.{stub_asked}
use Rattle.link_keys.proofs.Imports.{name_equal, name_itself, both}
use Rattle.link_keys.proofs.ImportsTold.{below_same}
use Rattle.link_keys.proofs.Known.{KnownMeaning, KnownRef, IsNullOf}
use Rattle.link_keys.proofs.LiveTold.{told_refs, asked_all}

-- ---- the names of entries come first

made_names : (place : ℕ) (ms : List MadeSymbol) → map name_of (made_from place ms) ≡ map (λ m. m.name) ms
made_names place [] = refl
made_names place (m ∷ ms) = ap (λ rest. m.name ∷ rest) (made_names (place + 1) ms)

kept_name : (r : Bool) (e : InputSymbol) (s : Symbol) (es : List InputSymbol) (ss : List Symbol) → name_of e ≡ symbol_name s → map name_of es ≡ map symbol_name ss
    → map name_of (cond r (e ∷ es) es) ≡ map symbol_name (cond r (s ∷ ss) ss)
kept_name true e s es ss same again = ap (λ n. n ∷ map name_of es) same ∙ ap (λ ns. symbol_name s ∷ ns) again
kept_name false e s es ss same again = again

symbol_names : (objects : List Object) (o : Object) (place : ℕ) (ss : List Symbol) → map name_of (filter is_entry (entries_from objects o place ss)) ≡ map symbol_name (filter is_entry_symbol ss)
symbol_names objects o place [] = refl
symbol_names objects o place (s ∷ ss) =
    kept_name (is_entry_symbol s) (entry_in objects o place s) s (filter is_entry (entries_from objects o (place + 1) ss)) (filter is_entry_symbol ss) refl (symbol_names objects o (place + 1) ss)

object_names : (all objects : List Object) → map name_of (filter is_entry (flat_map (symbols_of all) objects)) ≡ flat_map entry_names objects
object_names all [] = refl
object_names all (o ∷ objects) =
    ap (map name_of) (filter-append is_entry (symbols_of all o) (flat_map (symbols_of all) objects))
    ∙ map-append name_of (filter is_entry (symbols_of all o)) (filter is_entry (flat_map (symbols_of all) objects))
    ∙ ap (λ ns. ns ++ map name_of (filter is_entry (flat_map (symbols_of all) objects))) (symbol_names all o 0 o.symbols)
    ∙ ap (λ ns. entry_names o ++ ns) (object_names all objects)

entry_names_first : (mode : Mode) (objects : List Object) → map name_of (entries mode objects) ≡ map (λ m. m.name) (made mode) ++ flat_map entry_names objects
unfolding entries
entry_names_first mode objects =
    map-append name_of (made_from 0 (made mode)) (filter is_entry (flat_map (symbols_of objects) objects))
    ∙ ap (λ ns. ns ++ map name_of (filter is_entry (flat_map (symbols_of objects) objects))) (made_names 0 (made mode))
    ∙ ap (λ ns. map (λ m. m.name) (made mode) ++ ns) (object_names objects objects)

-- the names behind those of entries
abbrev pub later_names : List (List ℕ) → List Object → List (List ℕ)
later_names words objects = flat_map group_names objects ++ words

pub in_order_of : (mode : Mode) (words : List (List ℕ)) (objects : List Object) → different_names mode words objects ≡ distinct bytes_eq (map name_of (entries mode objects) ++ later_names words objects)
in_order_of mode words objects =
    ap (distinct bytes_eq) (append_assoc (map (λ m. m.name) (made mode) ++ flat_map entry_names objects) (flat_map group_names objects) words
    ∙ ap (λ ns. ns ++ later_names words objects) (sym (entry_names_first mode objects)))

pub names_in_order : (words : List (List ℕ)) (objects : List Object) → different_names Plain words objects ≡ distinct bytes_eq (map name_of (entries Plain objects) ++ later_names words objects)
names_in_order words objects = in_order_of Plain words objects

-- ---- who is called

-- whether a reference calls the null function of a name
abbrev pub called : List Ref → List ℕ → Bool
called refs name = list_any (calls_stub name) refs

any_gives : {A : Type 0} (Q : Type 0) (test : A → Bool) (P : A → Type 0) (xs : List A) → All P xs → list_any test xs ≡ true → ((x : A) → test x ≡ true → P x → Q) → Q
any_gives Q test P [] all is each = absurd cc
any_gives {A} Q test P (x ∷ xs) all is each = by_head (test x) refl is (λ rest. any_gives Q test P xs (All-tail P x xs all) rest each)
  where
    by_head : (r : Bool) → test x ≡ r → (r || list_any test xs) ≡ true → (list_any test xs ≡ true → Q) → Q
    by_head true same e again = each x same (All-head P x xs all)
    by_head false same e again = again e

names_filtered : (called : List ℕ → Bool) (es : List InputSymbol) → map name_of (filter (λ e. called (name_of e)) es) ≡ filter called (map name_of es)
names_filtered called [] = refl
names_filtered called (e ∷ es) = by_head (called (name_of e)) (names_filtered called es)
  where
    by_head : (r : Bool) → map name_of (filter (λ e. called (name_of e)) es) ≡ filter called (map name_of es)
        → map name_of (cond r (e ∷ filter (λ e. called (name_of e)) es) (filter (λ e. called (name_of e)) es)) ≡ cond r (name_of e ∷ filter called (map name_of es)) (filter called (map name_of es))
    by_head true again = ap (λ ns. name_of e ∷ ns) again
    by_head false again = again

off : (a b : Bool) (o : Option ℕ) (i : ℕ) → is_at i (where_so (a && false) o) ≡ ((a && false) && b)
off true b o i = refl
off false b o i = refl

module _ (mode : Mode) (names : List (List ℕ)) (imports : List ImportKey) (all : List InputSymbol) (one : OnePlace bytes_eq name_equal name_itself names)
    (held : (name : List ℕ) → list_any (bytes_eq name) (map name_of all) ≡ true → list_any (bytes_eq name) names ≡ true)
    (listed : (called : List ℕ → Bool) → ((name : List ℕ) → called name ≡ true → list_any (bytes_eq name) (map name_of all) ≡ true) → distinct bytes_eq (filter called (map name_of all)) ≡ filter called names) where
  module _ (refs : List Ref) (known : All (KnownRef mode imports all) refs) where
    -- what is known of a name whose null function is called
    abbrev pub Called : List ℕ → Type 0
    Called name = (list_any (bytes_eq name) (map name_of all) ≡ true) × (list_any (is_named name) (made_from 0 (made mode)) ≡ false)

    known_called : (name : List ℕ) (ref : Ref) (m : Meaning) → KnownMeaning mode imports all ref.entry m → is_null m ≡ true → bytes_eq (name_of ref.entry) name ≡ true → Called name
    known_called name ref (here d) k is same = absurd cc
    known_called name ref (imported j) k is same = absurd cc
    known_called name ref null k is same = subst Called (name_equal (name_of ref.entry) name same) (k.named, k.unmade)
    known_called name ref nothing k is same = absurd k

    pub called_known : (name : List ℕ) → called refs name ≡ true → Called name
    called_known name is =
        any_gives (Called name) (calls_stub name) (KnownRef mode imports all) refs known is
        (λ ref calls k.
        let parts = both ((ref.kind == 0) && is_null ref.meaning) (bytes_eq (name_of ref.entry) name) calls in
        let null_one = both (ref.kind == 0) (is_null ref.meaning) parts.0 in
        known_called name ref ref.meaning k null_one.1 parts.1)

    -- The names of the stubs are those names that are called.
    pub stub_names_are : distinct bytes_eq (map name_of (filter (λ e. called refs (name_of e)) all)) ≡ filter (called refs) names
    stub_names_are = ap (distinct bytes_eq) (names_filtered (called refs) all) ∙ listed (called refs) (λ name is. (called_known name is).0)

    -- ---- by number

    number_called : (i : ℕ) (name : List ℕ) → slice_get names i ≡ Some name → (e : InputSymbol) → IsNullOf mode all e
        → is_at i (entry_number names e) ≡ bytes_eq (name_of e) name
    number_called i name at e k =
        let there = held (name_of e) k.named in
        let s = stands bytes_eq name_equal name_itself names (name_of e) there in
        let number : entry_number names e ≡ Some s.at = rw k.entry s.found in
        ap (is_at i) number
        ∙ ap (λ o. unwrap_or o 0 == i) (sym s.found)
        ∙ same_number bytes_eq name_equal name_itself names i name (name_of e) one at there
        ∙ same_sym bytes_eq name_equal name_itself name (name_of e)

    by_kind : (a b : Bool) (o : Option ℕ) (i : ℕ) → is_at i o ≡ b → is_at i (where_so (a && true) o) ≡ ((a && true) && b)
    by_kind true b o i e = e
    by_kind false b o i e = refl

    ref_called : (i : ℕ) (name : List ℕ) → slice_get names i ≡ Some name → (e : InputSymbol) (m : Meaning) (a : Bool) → KnownMeaning mode imports all e m
        → is_at i (where_so (a && is_null_lead (told_lead imports m)) (entry_number names e)) ≡ ((a && is_null m) && bytes_eq (name_of e) name)
    ref_called i name at e (here d) a k = off a (bytes_eq (name_of e) name) (entry_number names e) i
    ref_called i name at e (imported j) a k = off a (bytes_eq (name_of e) name) (entry_number names e) i
    ref_called i name at e null a k = by_kind a (bytes_eq (name_of e) name) (entry_number names e) i (number_called i name at e k)
    ref_called i name at e nothing a k = absurd k

  module _ (parts : List rules.Part) (known : All (KnownRef mode imports all) (refs_of parts)) (flags : List Bool)
      (are : flags ≡ fold flagged (replicate (length names) false) (map stub_asked (told_refs names imports parts))) where
    abbrev asks : Ref → Option ℕ
    asks ref = where_so ((ref.kind == 0) && is_null_lead (told_lead imports ref.meaning)) (entry_number names ref.entry)

    flag_called : (i : ℕ) (name : List ℕ) → slice_get names i ≡ Some name → flag_at flags i ≡ called (refs_of parts) name
    flag_called i name at =
        ap (λ fs. flag_at fs i) are
        ∙ flags_set (length names) (map stub_asked (told_refs names imports parts)) i (slice_get_within names i name at)
        ∙ ap (list_any (is_at i)) (asked_all names imports stub_asked asks (λ code ref. refl) parts)
        ∙ any_map (is_at i) asks (refs_of parts)
        ∙ any_same (λ ref. is_at i (asks ref)) (calls_stub name) (refs_of parts)
        (all_each (KnownRef mode imports all) (λ ref. is_at i (asks ref) ≡ calls_stub name ref) (λ ref k. ref_called (refs_of parts) known i name at ref.entry ref.meaning (ref.kind == 0) k) (refs_of parts) known)

    flag_passes : (i : ℕ) → i < length names → (o : Option (List ℕ)) → slice_get names i ≡ o → flag_at flags i ≡ passes bytes_eq name_equal name_itself (called (refs_of parts)) o
    flag_passes i below None at = absurd (let past = none_past names i at in omega arith)
    flag_passes i below (Some name) at = flag_called i name at

    -- The numbers of the names of the stubs.
    pub stubs_told : stubs_listed flags (length names) ≡ map (number_by bytes_eq names) (filter (called (refs_of parts)) names)
    stubs_told =
        below_same (flag_at flags) (λ i. passes bytes_eq name_equal name_itself (called (refs_of parts)) (slice_get names i)) (length names)
        (λ i below. flag_passes i below (slice_get names i) refl)
        ∙ sym (numbers_passing bytes_eq name_equal name_itself names one (called (refs_of parts)))
