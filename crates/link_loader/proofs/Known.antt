-- All keys of the output are known, in either mode.
use Rattle.std.proofs.Common.{◌≡◌, ℕ, ◌==◌, Bool, true, false, not, ◌&&◌, cond, List, [], ◌∷◌, ◌++◌, map, filter, filter_map, slice_get, get_or, Some, refl, sym, ap, subst, ◌∙◌}
use Rattle.std.specs.Prelude.{if◌then◌else◌}
use Rattle.std.specs.List.{list_any, All}
use Rattle.std.proofs.lemmas.Bool.{and_parts}
use Rattle.std.proofs.lemmas.List.Elements.{All-head, All-tail, All-cons, All-append, All-from_recursion}
use Rattle.link_program.specs.wl_base.Choice.{distinct_onto}
use Rattle.link_program.specs.linking_section.declared.symbol.SymbolKind.TheVariants.{GlobalVar, Datum}
use Rattle.link_program.specs.made_symbols.declared.mode.Mode.{Mode}
use Rattle.link_program.specs.made_symbols.declared.mode.Mode.TheVariants.{Plain, Shared}
use Rattle.link_program.specs.name_rules.Entries.{InputSymbol, ImportKey, same_import, is_kind, is_entry}
use Rattle.link_program.specs.name_rules.Further.{made_global_import}
use Rattle.link_program.specs.name_rules.Meanings.{Meaning, here, imported, null, nothing, is_nothing}
use Rattle.link_program.specs.link_rules.Program as rules
use Rattle.link_program.specs.link_rules.Program.{Ref, refs}
use Rattle.link_program.specs.link_rules.Marks.{refs_of, reads_cell, is_foreign}
use Rattle.link_program.specs.name_rules.Further.{is_here}
use Rattle.link_program.specs.link_rules.Keys as keys
use Rattle.link_program.specs.linking_section.Flags.{kind_code}
use Rattle.link_program.specs.name_rules.Meanings.{cell_of}
use Rattle.link_program.specs.link_rules.Keys.{all_imports, has_import, used_imports, imports_by, outside_global, linker_global, own_global, got, exported_datum, got_entries, needs_got, parts_of_kind, ref_got, got_of, ref_function, meant_global, same_got, global_imports_in, used_globals, foreign_cell, foreign_cells, is_global_type, is_null, numbers}
use Rattle.link_program.specs.Program.{IsProgramOf}
use Rattle.link_layout.specs.declared.values.Layout.{Layout}
use Rattle.link_layout.specs.link_numbers.Knows.{KnowsFunction, KnowsGlobal, KnowsGot}
use Rattle.link_layout.specs.link_numbers.Laws.{TellsNumbers, KnowsRef, KnowsRefOf, AreImported}
use Rattle.link_layout.proofs.link_numbers_lemmas.link_keys_lemmas.Any.{all_each, all_filtered, all_map, all_none}
use Rattle.link_layout.proofs.link_numbers_lemmas.Begun.{given_of, numbers_told, refs_known}
use Rattle.link_layout.proofs.link_numbers_lemmas.Whole as whole
use Rattle.link_loader.proofs.Lists.{given_is, all_chosen, not_true, first_ones, last_ones, all_two}
use Rattle.link_loader.proofs.Bases.{made_imports_are, the_linkers}
use Rattle.link_loader.proofs.Stands.{Stands}

-- A global that is imported has the type of a global.
abbrev pub TypedGlobal : keys.GlobalKey → Type 0
TypedGlobal (outside_global k) = is_global_type k.type ≡ true
TypedGlobal (linker_global n) = Unit {0}
TypedGlobal (own_global input index) = Unit {0}
TypedGlobal (got key) = Unit {0}
TypedGlobal (exported_datum e) = Unit {0}

-- What a reference names is known, and means something.
pub record MeansKnown (names : List (List ℕ)) (imports : List ImportKey) (ref : Ref) : Type 0 where
  pub function : KnowsFunction names imports (ref_function ref)
  pub named : is_null ref.meaning ≡ true → is_entry ref.entry ≡ true
  pub meant : is_nothing ref.meaning ≡ false

means_known : (m : Mode) (names : List (List ℕ)) (imports : List ImportKey) (ref : Ref) → KnowsRefOf m names imports ref → is_nothing ref.meaning ≡ false → MeansKnown names imports ref
means_known Plain names imports ref known meant = record { function = known.function; named = known.named; meant = meant }
means_known Shared names imports ref known meant = record { function = known.function; named = known.named; meant = meant }

-- what is said of references, for those of some parts
refs_filtered : (P : Ref → Type 0) (test : rules.Part → Bool) (parts : List rules.Part) → All P (refs_of parts) → All P (refs_of (filter test parts))
refs_filtered P test [] all = all
refs_filtered P test (part ∷ parts) all = by_test (test part) (first_ones P (refs part) (refs_of parts) all) (refs_filtered P test parts (last_ones P (refs part) (refs_of parts) all))
  where
    by_test : (r : Bool) → All P (refs part) → All P (refs_of (filter test parts)) → All P (refs_of (cond r (part ∷ filter test parts) (filter test parts)))
    by_test true mine rest = All-append P (refs part) (refs_of (filter test parts)) mine rest
    by_test false mine rest = rest

all_seen : {A : Type 0} (P : A → Type 0) (seen : List A) (x : A) (r : Bool) → All P seen → P x → All P (if r then seen else seen ++ x ∷ [])
all_seen P seen x true held px = held
all_seen P seen x false held px = All-append P seen (x ∷ []) held (All-cons P x [] px (all_none P))

pub all_once : {A : Type 0} (P : A → Type 0) (same : A → A → Bool) (seen xs : List A) → All P seen → All P xs → All P (distinct_onto same seen xs)
all_once P same seen [] held all = held
all_once P same seen (x ∷ xs) held all = all_once P same (if list_any (same x) seen then seen else seen ++ x ∷ []) xs (all_seen P seen x (list_any (same x) seen) held (All-head P x xs all)) (All-tail P x xs all)

-- of those that pass, by a fact of each and that it passes
pub all_passing : {A : Type 0} (P Q : A → Type 0) (test : A → Bool) → ((x : A) → test x ≡ true → P x → Q x) → (xs : List A) → All P xs → All Q (filter test xs)
all_passing P Q test each [] all = all_none Q
all_passing {A} P Q test each (x ∷ xs) all = by_test (test x) refl (all_passing P Q test each xs (All-tail P x xs all))
  where
    by_test : (r : Bool) → test x ≡ r → All Q (filter test xs) → All Q (cond r (x ∷ filter test xs) (filter test xs))
    by_test true is rest = All-cons Q x (filter test xs) (each x is (All-head P x xs all)) rest
    by_test false is rest = rest

-- of those that pass, by that alone
pub all_tested_ones : {A : Type 0} (Q : A → Type 0) (test : A → Bool) → ((x : A) → test x ≡ true → Q x) → (xs : List A) → All Q (filter test xs)
all_tested_ones Q test each [] = all_none Q
all_tested_ones {A} Q test each (x ∷ xs) = by_test (test x) refl (all_tested_ones Q test each xs)
  where
    by_test : (r : Bool) → test x ≡ r → All Q (filter test xs) → All Q (cond r (x ∷ filter test xs) (filter test xs))
    by_test true is rest = All-cons Q x (filter test xs) (each x is) rest
    by_test false is rest = rest

cell_known : (imports : List ImportKey) (ref : Ref) (r : Bool) → r ≡ false → KnowsGlobal imports (if r then meant_global Plain ref ref.meaning else got (ref_got ref)) → KnowsGot imports (ref_got ref)
cell_known imports ref true is known = absurd cc
cell_known imports ref false is known = known

-- a cell of a shared output is made for a definition
shared_cell : (imports : List ImportKey) (kind : ℕ) (m : Meaning) → is_here m ≡ true → KnowsGot imports (got_of kind m)
shared_cell imports kind (here e) is = tt
shared_cell imports kind (imported k) is = absurd cc
shared_cell imports kind null is = absurd cc
shared_cell imports kind nothing is = absurd cc

-- ---- imported globals have the type of a global

foreign_typed : (ref : Ref) (k : ImportKey) → foreign_cell ref ≡ Some k → is_global_type k.type ≡ true
foreign_typed ref k is = let e = given_is (not (ref.kind == 0) && not (is_kind GlobalVar ref.entry) && is_foreign ref) (cell_of ref.entry) k is in ap (λ (x : ImportKey). is_global_type x.type) (sym e.1)

abbrev Typed : ImportKey → Type 0
Typed k = is_global_type k.type ≡ true

used_typed : (m : Mode) (p : rules.Program) (refs : List Ref) → All Typed (used_globals m p refs)
used_typed m p refs =
    all_tested_ones Typed (λ k. is_global_type k.type && has_import (used_imports (filter (imports_by m) refs)) k)
    (λ k passes. (and_parts (is_global_type k.type) (has_import (used_imports (filter (imports_by m) refs)) k) passes).0) (all_imports m p)

linkers_typed : All Typed the_linkers
linkers_typed = All-from_recursion Typed the_linkers (refl, (refl, (refl, tt)))

shared_typed : (p : rules.Program) (parts : List rules.Part) → filter_map made_global_import p.entries ≡ the_linkers → All Typed (global_imports_in Shared p parts)
shared_typed p parts linkers =
    all_once Typed same_import [] (filter_map made_global_import p.entries ++ foreign_cells parts ++ used_globals Shared p (refs_of parts)) (all_none Typed)
    (All-append Typed (filter_map made_global_import p.entries ++ foreign_cells parts) (used_globals Shared p (refs_of parts))
    (All-append Typed (filter_map made_global_import p.entries) (foreign_cells parts)
    (subst (All Typed) (sym linkers) linkers_typed)
    (all_chosen Typed foreign_cell (refs_of (parts_of_kind 0 parts) ++ refs_of (parts_of_kind 1 parts)) (λ i ref k at gives. foreign_typed ref k gives)))
    (used_typed Shared p (refs_of parts)))

-- ---- a layout

module _ (m : Mode) (p : rules.Program) (parts : List rules.Part) (es : List InputSymbol) (d : Layout) (is : Stands m p parts es d) where
  abbrev N : List (List ℕ)
  N = d.program.names.now.names

  abbrev I : List ImportKey
  I = d.program.resolution.now.imports

  pub tells : TellsNumbers N I (numbers m p parts es)
  tells = numbers_told m d.program p is.live.0 parts es is.program is.stand is.live.1 is.meant is.imported

  pub refs_mean : All (MeansKnown N I) (refs_of parts)
  refs_mean =
      let known = refs_known m d.program p is.live.0 parts is.program is.stand is.live.1 is.meant in
      λ k ref below. means_known m N I (get_or (refs_of parts) k ref) (known k ref below) (is.meant k ref below)

  pub functions_known : All (KnowsFunction N I) (keys.functions m p parts)
  functions_known = whole.functions_known (given_of d.program p is.live.0 parts is.program is.stand is.live.1 is.meant)

  pub slots_known : All (KnowsFunction N I) (keys.slots m parts (keys.functions m p parts))
  unfolding keys.slots
  slots_known = all_filtered (KnowsFunction N I) (keys.is_taken (map ref_function (filter (keys.takes_slot m) (refs_of parts)))) (keys.functions m p parts) functions_known

  abbrev G : keys.GlobalKey → Type 0
  G g = KnowsGlobal I g × TypedGlobal g

  abbrev Held : ImportKey → Type 0
  Held k = list_any (same_import k) I ≡ true

  -- ---- imported globals

  outside_both : (ks : List ImportKey) → All Held ks → All Typed ks → All (λ k. G (outside_global k)) ks
  outside_both ks held typed = all_two Held Typed ks held typed

  outside_by : (m' : Mode) → m ≡ m' → All (λ k. G (outside_global k)) (global_imports_in m p parts)
  outside_by Plain e =
      subst (λ x. All (λ k. G (outside_global k)) (global_imports_in x p parts)) (sym e)
      (outside_both (used_globals Plain p (refs_of parts))
      (subst (λ x. All Held (used_globals x p (refs_of parts))) e (whole.used_held (given_of d.program p is.live.0 parts is.program is.stand is.live.1 is.meant)))
      (used_typed Plain p (refs_of parts)))
  outside_by Shared e =
      let program = subst (λ x. IsProgramOf x d.program p) e is.program in
      subst (λ x. All (λ k. G (outside_global k)) (global_imports_in x p parts)) (sym e)
      (outside_both (global_imports_in Shared p parts) (subst (λ x. AreImported x I p parts) e is.imported)
      (shared_typed p parts (ap (filter_map made_global_import) program.entries ∙ made_imports_are p.objects program.rise)))

  pub outside_known : All (λ k. G (outside_global k)) (global_imports_in m p parts)
  outside_known = outside_by m refl

  -- ---- cells

  cells_by : (m' : Mode) → m ≡ m' → All (KnowsGot I) (got_entries m parts)
  cells_by Plain e =
      let known = subst (λ x. All (KnowsRefOf x N I) (refs_of parts)) e (refs_known m d.program p is.live.0 parts is.program is.stand is.live.1 is.meant) in
      let some = refs_filtered (KnowsRef N I) (λ part. part.chunk.kind == 0) parts known in
      subst (λ x. All (KnowsGot I) (got_entries x parts)) (sym e)
      (all_once (KnowsGot I) same_got [] (map ref_got (filter (needs_got Plain) (refs_of (parts_of_kind 0 parts)))) (all_none (KnowsGot I))
      (all_map (KnowsGot I) ref_got (filter (needs_got Plain) (refs_of (parts_of_kind 0 parts)))
      (all_passing (KnowsRef N I) (λ ref. KnowsGot I (ref_got ref)) (needs_got Plain)
      (λ ref reads known. cell_known I ref (is_kind GlobalVar ref.entry) (not_true (is_kind GlobalVar ref.entry) (and_parts (ref.kind == 7) (not (is_kind GlobalVar ref.entry)) reads).1) known.global)
      (refs_of (parts_of_kind 0 parts)) some)))
  cells_by Shared e =
      subst (λ x. All (KnowsGot I) (got_entries x parts)) (sym e)
      (all_once (KnowsGot I) same_got [] (map ref_got (filter (needs_got Shared) (refs_of (parts_of_kind 0 parts)))) (all_none (KnowsGot I))
      (all_map (KnowsGot I) ref_got (filter (needs_got Shared) (refs_of (parts_of_kind 0 parts)))
      (all_tested_ones (λ ref. KnowsGot I (ref_got ref)) (needs_got Shared)
      (λ ref needs. shared_cell I (kind_code ref.entry.symbol.kind) ref.meaning (and_parts (reads_cell ref) (is_here ref.meaning) needs).1)
      (refs_of (parts_of_kind 0 parts)))))

  pub cells_known : All (KnowsGot I) (got_entries m parts)
  cells_known = cells_by m refl

  -- ---- all globals

  made_known : (k : ℕ) (part : rules.Part) (g : keys.GlobalKey) → slice_get parts k ≡ Some part → keys.made_global_key part ≡ Some g → G g
  made_known k part g at gives = let e = given_is ((part.chunk.input == 0) && (part.chunk.kind == 2)) (linker_global part.chunk.index) g gives in subst G e.1 (tt, tt)

  all_made_known : (x : Mode) → All G (keys.made_globals x parts)
  all_made_known Plain = all_chosen G keys.made_global_key parts made_known
  all_made_known Shared = all_none G

  own_known : (k : ℕ) (part : rules.Part) (g : keys.GlobalKey) → slice_get parts k ≡ Some part → keys.own_global_key part ≡ Some g → G g
  own_known k part g at gives =
      let e = given_is (not (part.chunk.input == 0) && (part.chunk.kind == 2)) (own_global part.chunk.input part.chunk.index) g gives in
      subst G e.1 (not_true (part.chunk.input == 0) (and_parts (not (part.chunk.input == 0)) (part.chunk.kind == 2) e.0).0, tt)

  datum_known : (k : ℕ) (e : InputSymbol) (g : keys.GlobalKey) → slice_get es k ≡ Some e → keys.datum_key e ≡ Some g → G g
  datum_known k e g at gives = let x = given_is (is_kind Datum e) (exported_datum e) g gives in subst G x.1 (tt, tt)

  pub globals_known : All G (keys.globals m p parts es)
  unfolding keys.globals
  globals_known =
      let made = keys.made_globals m parts in
      let owns = filter_map keys.own_global_key parts in
      let cells = map got (got_entries m parts) in
      let datas = filter_map keys.datum_key es in
      All-append G (map outside_global (global_imports_in m p parts)) (made ++ owns ++ cells ++ datas)
      (all_map G outside_global (global_imports_in m p parts) outside_known)
      (All-append G (made ++ owns ++ cells) datas
      (All-append G (made ++ owns) cells
      (All-append G made owns (all_made_known m) (all_chosen G keys.own_global_key parts own_known))
      (all_map G got (got_entries m parts) (all_each (KnowsGot I) (λ key. G (got key)) (λ key known. (known, tt)) (got_entries m parts) cells_known)))
      (all_chosen G keys.datum_key es datum_known))
