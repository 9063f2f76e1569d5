-- An entry, by the places of its object and its symbol.
use Rattle.std.proofs.Common.{◌≡◌, ℕ, zero, suc, ◌+◌, List, [], ◌∷◌, length, map, get_or, slice_get, Option, Some, None, refl, sym, ap, subst, ◌∙◌, arith}
use Rattle.std.specs.Option.{option_map}
use Rattle.std.proofs.lemmas.Option.{same_Some}
use Rattle.name_rules.specs.object_file.linking_section.declared.symbol.Symbol.{Symbol}
use Rattle.name_rules.specs.object_file.object_columns.Seen.{import_seen}
use Rattle.name_rules.specs.object_file.object_columns.declared.imports.ImportRef.{ImportRef}
use Rattle.name_rules.specs.object_file.declared.object.Object.{Object}
use Rattle.link_names.specs.Numbered.{symbol_number}
use Rattle.name_rules.specs.Entries.{InputSymbol, SymbolType, entry_in, entries_from, symbols_of, type_in, import_in, key_of}
use Rattle.name_entries.specs.View.{rows_of, entry_at}
use Rattle.name_entries.proofs.Found.{mapped, mapped_past}

-- the symbol at a place makes the entry at that place
from_place : (objects : List Object) (o : Object) (start : ℕ) (ss : List Symbol) (k : ℕ)
    → slice_get (entries_from objects o start ss) k ≡ option_map (entry_in objects o (start + k)) (slice_get ss k)
from_place objects o start [] k = refl
from_place objects o start (s ∷ ss) zero = let e : start ≡ start + 0 = omega arith in ap (λ n. Some (entry_in objects o n s)) e
from_place objects o start (s ∷ ss) (suc k) =
    let e : start + 1 + k ≡ start + suc k = omega arith in from_place objects o (start + 1) ss k
    ∙ ap (λ n. option_map (entry_in objects o n) (slice_get ss k)) e

pub entry_of : (objects : List Object) (i k : ℕ) (o : Object) → slice_get objects i ≡ Some o
    → entry_at objects i k ≡ option_map (entry_in objects o k) (slice_get o.symbols k)
entry_of objects i k o there =
    let e : 0 + k ≡ k = omega arith in
    ap (λ row. slice_get row k) (mapped (symbols_of objects) objects i o [] there) ∙ from_place objects o 0 o.symbols k
    ∙ ap (λ n. option_map (entry_in objects o n) (slice_get o.symbols k)) e

pub no_entry : (objects : List Object) (i k : ℕ) → slice_get objects i ≡ None → entry_at objects i k ≡ None
no_entry objects i k none = ap (λ row. slice_get row k) (mapped_past (symbols_of objects) objects i [] none)

pub no_symbol : (objects : List Object) (i k : ℕ) (o : Object) → slice_get objects i ≡ Some o → None ≡ slice_get o.symbols k
    → entry_at objects i k ≡ None
no_symbol objects i k o there none = entry_of objects i k o there ∙ ap (option_map (entry_in objects o k)) (sym none)

pub the_entry : (objects : List Object) (i k : ℕ) (o : Object) (s : Symbol) → slice_get objects i ≡ Some o → Some s ≡ slice_get o.symbols k
    → entry_at objects i k ≡ Some (entry_in objects o k s)
the_entry objects i k o s there symbol = entry_of objects i k o there ∙ ap (option_map (entry_in objects o k)) (sym symbol)

seen_key : (t : SymbolType) (r : Option ImportRef)
    → option_map (λ (i : ImportRef). key_of t (import_seen i)) r ≡ option_map (key_of t) (option_map import_seen r)
seen_key t None = refl
seen_key t (Some i) = refl

pub import_shown : (objects : List Object) (i k : ℕ) (o : Object) (s : Symbol) (e : InputSymbol) (r : Option ImportRef) → slice_get objects i ≡ Some o
    → Some s ≡ slice_get o.symbols k
    → option_map import_seen r ≡ import_in o s s.kind → entry_at objects i k ≡ Some e → option_map
    (λ (i : ImportRef). key_of e.type (import_seen i)) r ≡ e.import
import_shown objects i k o s e r there symbol found is =
    let same : entry_in objects o k s ≡ e = same_Some (entry_in objects o k s) e (sym (the_entry objects i k o s there symbol) ∙ is) in
    subst (λ (x : InputSymbol). option_map (λ (i : ImportRef). key_of x.type (import_seen i)) r ≡ x.import) same
    (seen_key (type_in o s s.kind) r ∙ ap (option_map (key_of (type_in o s s.kind))) found)

-- ---- numbers

pub number_at : (objects : List Object) (names : List (List ℕ)) (numbers : List (List (Option ℕ))) (i k : ℕ) (o : Object) (s : Symbol)
    → numbers ≡ map (λ (o : Object). map (symbol_number names) o.symbols) objects → slice_get objects i ≡ Some o → slice_get o.symbols k ≡ Some s
    → get_or (get_or numbers i []) k None ≡ symbol_number names s
number_at objects names numbers i k o s are there symbol =
    ap (λ ns. get_or (get_or ns i []) k None) are
    ∙ ap (λ ns. get_or ns k None) (mapped (λ (o : Object). map (symbol_number names) o.symbols) objects i o [] there)
    ∙ mapped (symbol_number names) o.symbols k s None symbol

-- a row has as many entries as the object has symbols
same_length : (objects : List Object) (o : Object) (names : List (List ℕ)) (start : ℕ) (ss : List Symbol)
    → length (map (symbol_number names) ss) ≡ length (entries_from objects o start ss)
same_length objects o names start [] = refl
same_length objects o names start (s ∷ ss) = ap suc (same_length objects o names (start + 1) ss)

pub as_many : (objects : List Object) (names : List (List ℕ)) (numbers : List (List (Option ℕ))) (i : ℕ)
    → numbers ≡ map (λ (o : Object). map (symbol_number names) o.symbols) objects
    → length (get_or numbers i []) ≡ length (get_or (rows_of objects) i [])
as_many objects names numbers i are = ap (λ ns. length (get_or ns i [])) are ∙ by (slice_get objects i) refl
  where
    by : (o : Option Object) → slice_get objects i ≡ o
        → length (get_or (map (λ (o : Object). map (symbol_number names) o.symbols) objects) i []) ≡ length (get_or (rows_of objects) i [])
    by None e = ap length (mapped_past (λ (o : Object). map (symbol_number names) o.symbols) objects i [] e)
        ∙ sym (ap length (mapped_past (symbols_of objects) objects i [] e))
    by (Some o) e =
        ap length (mapped (λ (o : Object). map (symbol_number names) o.symbols) objects i o [] e) ∙ same_length objects o names 0 o.symbols
        ∙ sym (ap length (mapped (symbols_of objects) objects i o [] e))
