-- The first three globals of a shared output are the linker's imports: `__memory_base` has number 1, and `__table_base` number 2.
use Rattle.std.proofs.Common.{◌≡◌, ℕ, ◌+◌, ◌-◌, ◌<◌, ◌==◌, ◌&&◌, Bool, true, false, cond, suc, List, [], ◌∷◌, ◌++◌, map, filter, filter_map, flat_map, Option, Some, None, option_map, unwrap_or, refl, sym, ap, ◌∙◌, append_assoc, append-nil, arith, eqb-true}
use Rattle.std.specs.Prelude.{codes}
use Rattle.std.specs.List.{list_any, All, cons_option}
use Rattle.std.proofs.lemmas.List.Elements.{All-cons, All-append, All-filter, All-from_recursion}
use Rattle.link_program.specs.index_layout.Numbers.{number_by}
use Rattle.link_program.specs.wl_base.Choice.{distinct, distinct_onto, given}
use Rattle.link_program.specs.wasm_types.declared.value.ValType.TheVariants.{I32}
use Rattle.link_program.specs.linking_section.declared.symbol.Symbol.{Symbol}
use Rattle.link_program.specs.linking_section.declared.symbol.SymbolKind.TheVariants.{GlobalVar}
use Rattle.link_program.specs.made_symbols.declared.mode.Mode.TheVariants.{Shared}
use Rattle.link_program.specs.made_symbols.Made.{made}
use Rattle.link_program.specs.object_file.declared.object.Object.{Object}
use Rattle.link_program.specs.name_rules.Entries.{InputSymbol, ImportKey, of_global, same_import, entries, entries_from, entry_in, symbols_of, is_entry, is_kind, name_of, made_from}
use Rattle.link_program.specs.name_rules.Further.{made_global_import}
use Rattle.link_program.specs.name_entries.View.{InputsRise}
use Rattle.link_program.specs.link_rules.Program.{Program, Part, winners_of, is_winner}
use Rattle.link_program.specs.link_rules.Marks.{refs_of}
use Rattle.link_program.specs.link_rules.Keys.{GlobalKey, outside_global, same_global, globals, foreign_cells, used_globals, defined_globals}
use Rattle.link_layout.proofs.link_numbers_lemmas.link_keys_lemmas.Positions.{position_next, position_first}

abbrev pub linkers : List ℕ → Bool → ImportKey
linkers name var = record { module_name = codes "env"; field = name; type = of_global (record { kind = I32; var = var }) }

abbrev pub the_linkers : List ImportKey
the_linkers = linkers (codes "__stack_pointer") true ∷ linkers (codes "__memory_base") false ∷ linkers (codes "__table_base") false ∷ []

-- the import of a linker-made global
abbrev pub key_for : InputSymbol → ImportKey
key_for e = record { module_name = codes "env"; field = name_of e; type = e.type }

-- ---- those of objects are none of the linker's

pub filter_map-append : {A B : Type 0} (f : A → Option B) (xs ys : List A) → filter_map f (xs ++ ys) ≡ filter_map f xs ++ filter_map f ys
filter_map-append f [] ys = refl
filter_map-append {A} {B} f (x ∷ xs) ys = by (f x) (filter_map-append f xs ys)
  where
    by : (o : Option B) → filter_map f (xs ++ ys) ≡ filter_map f xs ++ filter_map f ys → cons_option o (filter_map f (xs ++ ys)) ≡ cons_option o (filter_map f xs) ++ filter_map f ys
    by None e = e
    by (Some b) e = ap (λ r. b ∷ r) e

-- what is made of none of them
abbrev NoneOf : List InputSymbol → Type 0
NoneOf es = filter_map made_global_import (filter is_entry es) ≡ []

none_append : (xs ys : List InputSymbol) → NoneOf xs → NoneOf ys → NoneOf (xs ++ ys)
none_append [] ys a b = b
none_append (x ∷ xs) ys a b = by (is_entry x) a (λ e. none_append xs ys e b)
  where
    first : (o : Option ImportKey) → cons_option o (filter_map made_global_import (filter is_entry xs)) ≡ [] → (NoneOf xs → NoneOf (xs ++ ys)) → cons_option o (filter_map made_global_import (filter is_entry (xs ++ ys))) ≡ []
    first None e again = again e
    first (Some k) e again = absurd cc

    by : (r : Bool) → filter_map made_global_import (cond r (x ∷ filter is_entry xs) (filter is_entry xs)) ≡ [] → (NoneOf xs → NoneOf (xs ++ ys))
        → filter_map made_global_import (cond r (x ∷ filter is_entry (xs ++ ys)) (filter is_entry (xs ++ ys))) ≡ []
    by true e again = first (made_global_import x) e again
    by false e again = again e

row_none : (objects : List Object) (o : Object) (k : ℕ) (ss : List Symbol) → (o.input == 0) ≡ false → NoneOf (entries_from objects o k ss)
row_none objects o k [] far = refl
row_none objects o k (s ∷ ss) far = by (is_entry (entry_in objects o k s)) (row_none objects o (k + 1) ss far)
  where
    none : made_global_import (entry_in objects o k s) ≡ None
    none = ap (λ b. given (b && is_kind GlobalVar (entry_in objects o k s)) (key_for (entry_in objects o k s))) far

    by : (r : Bool) → NoneOf (entries_from objects o (k + 1) ss)
        → filter_map made_global_import (cond r (entry_in objects o k s ∷ filter is_entry (entries_from objects o (k + 1) ss)) (filter is_entry (entries_from objects o (k + 1) ss))) ≡ []
    by true e = ap (λ x. cons_option x (filter_map made_global_import (filter is_entry (entries_from objects o (k + 1) ss)))) none ∙ e
    by false e = e

not_first : (n last : ℕ) → last < n → (n == 0) ≡ false
not_first n last lt = by (n == 0) refl
  where
    by : (r : Bool) → (n == 0) ≡ r → r ≡ false
    by true is = let e : n ≡ 0 = eqb-true n 0 is in absurd (omega (arith, e, lt))
    by false is = refl

objects_none : (objects os : List Object) (last : ℕ) → InputsRise last os → NoneOf (flat_map (symbols_of objects) os)
objects_none objects [] last rise = refl
objects_none objects (o ∷ os) last rise =
    let lt : last < o.input = rise.0 in
    none_append (symbols_of objects o) (flat_map (symbols_of objects) os) (row_none objects o 0 o.symbols (not_first o.input last lt)) (objects_none objects os o.input rise.2)

-- ---- the linker's

pub made_imports_are : (objects : List Object) → InputsRise 0 objects → filter_map made_global_import (entries Shared objects) ≡ the_linkers
unfolding entries
made_imports_are objects rise =
    filter_map-append made_global_import (made_from 0 (made Shared)) (filter is_entry (flat_map (symbols_of objects) objects))
    ∙ ap (λ ks. the_linkers ++ ks) (objects_none objects objects 0 rise)

-- what was seen stays in front
keeps : {A : Type 0} (same : A → A → Bool) (xs seen : List A) → (rest : List A) × (distinct_onto same seen xs ≡ seen ++ rest)
keeps same [] seen = ([], sym (append-nil seen))
keeps {A} same (x ∷ xs) seen = by (keeps same xs) (list_any (same x) seen)
  where
    by : ((seen : List A) → (rest : List A) × (distinct_onto same seen xs ≡ seen ++ rest)) → (q : Bool) → (rest : List A) × (distinct_onto same (cond q seen (seen ++ x ∷ [])) xs ≡ seen ++ rest)
    by others true = others seen
    by others false = let k = others (seen ++ x ∷ []) in (x ∷ k.0, k.1 ∙ append_assoc seen (x ∷ []) k.0)

pub bases_first : (p : Program) (parts : List Part) (es : List InputSymbol) → p.entries ≡ entries Shared p.objects → InputsRise 0 p.objects
    → (rest : List GlobalKey) × (globals Shared p parts es ≡ map outside_global the_linkers ++ rest)
unfolding globals
bases_first p parts es is rise =
    let more : List ImportKey = foreign_cells parts ++ used_globals Shared p (refs_of parts) in
    let k = keeps same_import more the_linkers in (
      map outside_global k.0 ++ defined_globals Shared parts es,
      ap (λ (ks : List ImportKey). map outside_global (distinct same_import (ks ++ foreign_cells parts ++ used_globals Shared p (refs_of parts))) ++ defined_globals Shared parts es)
          (ap (filter_map made_global_import) is ∙ made_imports_are p.objects rise)
          ∙ ap (λ (ks : List ImportKey). map outside_global ks ++ defined_globals Shared parts es) k.1,
    )

-- ---- numbers of the linker's globals

-- A global of the linker is that of its place behind the functions among the first three.
abbrev pub LinkersPlace : InputSymbol → Type 0
LinkersPlace e = (e.input == 0) ≡ true → is_kind GlobalVar e ≡ true → (rest : List GlobalKey) → number_by same_global (map outside_global the_linkers ++ rest) (outside_global (key_for e)) ≡ e.place - 2

module _ (rest : List GlobalKey) where
  abbrev keys : List GlobalKey
  keys = map outside_global the_linkers ++ rest

  abbrev stack : GlobalKey
  stack = outside_global (linkers (codes "__stack_pointer") true)

  abbrev memory : GlobalKey
  memory = outside_global (linkers (codes "__memory_base") false)

  abbrev table : GlobalKey
  table = outside_global (linkers (codes "__table_base") false)

  stack_place : number_by same_global keys stack ≡ 0
  stack_place = ap (λ o. unwrap_or o 0) (position_first (same_global stack) stack (memory ∷ table ∷ rest) refl)

  memory_place : number_by same_global keys memory ≡ 1
  memory_place =
      let here = position_first (same_global memory) memory (table ∷ rest) refl in
      ap (λ o. unwrap_or o 0) (position_next (same_global memory) stack (memory ∷ table ∷ rest) refl ∙ ap (option_map suc) here)

  table_place : number_by same_global keys table ≡ 2
  table_place =
      let here = position_first (same_global table) table rest refl in
      let past = position_next (same_global table) memory (table ∷ rest) refl ∙ ap (option_map suc) here in
      ap (λ o. unwrap_or o 0) (position_next (same_global table) stack (memory ∷ table ∷ rest) refl ∙ ap (option_map suc) past)

linkers_place : All LinkersPlace (made_from 0 (made Shared))
linkers_place =
    All-from_recursion LinkersPlace (made_from 0 (made Shared))
    ((λ own kind rest. absurd cc), ((λ own kind rest. absurd cc), ((λ own kind rest. stack_place rest), ((λ own kind rest. memory_place rest), ((λ own kind rest. table_place rest), ((λ own kind rest. absurd cc), ((λ own kind rest. absurd cc), tt)))))))

row_place : (objects : List Object) (o : Object) (k : ℕ) (ss : List Symbol) → (o.input == 0) ≡ false → All LinkersPlace (entries_from objects o k ss)
row_place objects o k [] far = λ i d below. absurd (omega arith)
row_place objects o k (s ∷ ss) far =
    All-cons LinkersPlace (entry_in objects o k s) (entries_from objects o (k + 1) ss) (λ own kind rest. let z : true ≡ false = sym own ∙ far in absurd cc) (row_place objects o (k + 1) ss far)

objects_place : (objects os : List Object) (last : ℕ) → InputsRise last os → All LinkersPlace (flat_map (symbols_of objects) os)
objects_place objects [] last rise = λ k d below. absurd (omega arith)
objects_place objects (o ∷ os) last rise =
    let lt : last < o.input = rise.0 in
    All-append LinkersPlace (symbols_of objects o) (flat_map (symbols_of objects) os) (row_place objects o 0 o.symbols (not_first o.input last lt)) (objects_place objects os o.input rise.2)

pub winners_place : (objects : List Object) → InputsRise 0 objects → All LinkersPlace (winners_of (entries Shared objects))
unfolding winners_of entries
winners_place objects rise =
    All-filter (is_winner (made_from 0 (made Shared) ++ filter is_entry (flat_map (symbols_of objects) objects))) LinkersPlace (made_from 0 (made Shared) ++ filter is_entry (flat_map (symbols_of objects) objects))
    (All-append LinkersPlace (made_from 0 (made Shared)) (filter is_entry (flat_map (symbols_of objects) objects)) linkers_place
    (All-filter is_entry LinkersPlace (flat_map (symbols_of objects) objects) (objects_place objects objects 0 rise)))
