-- The keys of what references name, in two programs that are one but for places: equal keys stay equal, and each is the moved one.
use Rattle.std.proofs.Common.{◌≡◌, ℕ, ◌==◌, Bool, true, false, ◌&&◌, refl, sym, ap, ◌∙◌, arith}
use Rattle.std.proofs.lemmas.Bool.Decides.{nat_tests}
use Rattle.std.specs.Prelude.{Option, Some, option_map, if◌then◌else◌}
use Rattle.object_file.specs.linking_section.declared.symbol.SymbolKind.{SymbolKind}
use Rattle.object_file.specs.linking_section.declared.symbol.SymbolKind.TheVariants.{Function, GlobalVar}
use Rattle.object_file.specs.linking_section.Flags.{kind_code}
use Rattle.made_symbols.specs.declared.mode.Mode.TheVariants.{Plain}
use Rattle.name_rules.specs.Entries.{InputSymbol, name_of}
use Rattle.name_rules.specs.Meanings.{Meaning, here, imported, null, nothing}
use Rattle.mark_bits.specs.declared.chunk.Chunk.{Chunk}
use Rattle.link_rules.specs.Program.{Ref, chunk_at, chunk_by}
use Rattle.link_rules.specs.Keys.{FunctionKey, outside, linker_function, stub, own, same_function, GotKey, got_entry, got_import, got_null, same_got, GlobalKey, outside_global, linker_global, own_global, got, exported_datum, same_global, function_of, meant_function, ref_function, global_of, got_of, ref_got, is_null}
use Rattle.partial_rules.specs.Moving.{Moving, IsMoving, moved_meaning, moved_function, moved_got, moved_global, MeansHeld, AlikeRef}

without : (x k y : Bool) → k ≡ true → (x && k && y) ≡ (x && y)
without true k y is = rw is refl
without false k y is = refl

both_kinds : (a b n : ℕ) → a ≡ n → b ≡ n → (n == n) ≡ true → (a == b) ≡ true
both_kinds a b n x y is = rw (x, y) is

module _ (m : Moving) (C : Chunk → Type 0) (K : InputSymbol → Type 0) (is : IsMoving m C K) where
  -- ---- equal keys stay equal

  abbrev pub KnowsFunction : FunctionKey → Type 0
  KnowsFunction (outside k) = Unit {0}
  KnowsFunction (linker_function n) = Unit {0}
  KnowsFunction (stub name) = Unit {0}
  KnowsFunction (own input index) = C (chunk_at input 0 index)

  abbrev pub KnowsGot : GotKey → Type 0
  KnowsGot (got_entry e) = K e
  KnowsGot (got_import k) = Unit {0}
  KnowsGot (got_null kind) = Unit {0}

  abbrev pub KnowsGlobal : GlobalKey → Type 0
  KnowsGlobal (outside_global k) = Unit {0}
  KnowsGlobal (linker_global n) = Unit {0}
  KnowsGlobal (own_global input index) = C (chunk_at input 2 index)
  KnowsGlobal (got key) = KnowsGot key
  KnowsGlobal (exported_datum e) = K e

  chunks_tell : (kind : ℕ) (a i b j : ℕ) → (kind == kind) ≡ true → C (chunk_at a kind i) → C (chunk_at b kind j)
      → (((m.chunk (chunk_at a kind i)).input == (m.chunk (chunk_at b kind j)).input) && ((m.chunk (chunk_at a kind i)).index == (m.chunk (chunk_at b kind j)).index)) ≡ ((a == b) && (i == j))
  chunks_tell kind a i b j own_kind ca cb =
      let x : Chunk = m.chunk (chunk_at a kind i) in
      let y : Chunk = m.chunk (chunk_at b kind j) in
      let kinds : (x.kind == y.kind) ≡ true = both_kinds x.kind y.kind kind (is.chunk_kind (chunk_at a kind i) ca) (is.chunk_kind (chunk_at b kind j) cb) own_kind in
      sym (without (x.input == y.input) (x.kind == y.kind) (x.index == y.index) kinds)
      ∙ (is.chunks_apart (chunk_at a kind i) (chunk_at b kind j) ca cb ∙ without (a == b) (kind == kind) (i == j) own_kind)

  pub tells_function : (f g : FunctionKey) → KnowsFunction f → KnowsFunction g → same_function (moved_function m f) (moved_function m g) ≡ same_function f g
  tells_function (outside k) (outside l) x y = refl
  tells_function (outside k) (linker_function n) x y = refl
  tells_function (outside k) (stub name) x y = refl
  tells_function (outside k) (own b j) x y = refl
  tells_function (linker_function n) (outside l) x y = refl
  tells_function (linker_function n) (linker_function o) x y = refl
  tells_function (linker_function n) (stub name) x y = refl
  tells_function (linker_function n) (own b j) x y = refl
  tells_function (stub name) (outside l) x y = refl
  tells_function (stub name) (linker_function n) x y = refl
  tells_function (stub name) (stub other) x y = refl
  tells_function (stub name) (own b j) x y = refl
  tells_function (own a i) (outside l) x y = refl
  tells_function (own a i) (linker_function n) x y = refl
  tells_function (own a i) (stub name) x y = refl
  tells_function (own a i) (own b j) x y = chunks_tell 0 a i b j refl x y

  pub tells_got : (f g : GotKey) → KnowsGot f → KnowsGot g → same_got (moved_got m f) (moved_got m g) ≡ same_got f g
  tells_got (got_entry e) (got_entry f) x y = is.entries_apart e f x y
  tells_got (got_entry e) (got_import l) x y = refl
  tells_got (got_entry e) (got_null n) x y = refl
  tells_got (got_import k) (got_entry f) x y = refl
  tells_got (got_import k) (got_import l) x y = refl
  tells_got (got_import k) (got_null n) x y = refl
  tells_got (got_null n) (got_entry f) x y = refl
  tells_got (got_null n) (got_import l) x y = refl
  tells_got (got_null n) (got_null o) x y = refl

  pub tells_global : (f g : GlobalKey) → KnowsGlobal f → KnowsGlobal g → same_global (moved_global m f) (moved_global m g) ≡ same_global f g
  tells_global (outside_global k) (outside_global l) x y = refl
  tells_global (outside_global k) (linker_global n) x y = refl
  tells_global (outside_global k) (own_global b j) x y = refl
  tells_global (outside_global k) (got key) x y = refl
  tells_global (outside_global k) (exported_datum f) x y = refl
  tells_global (linker_global n) (outside_global l) x y = refl
  tells_global (linker_global n) (linker_global o) x y = refl
  tells_global (linker_global n) (own_global b j) x y = refl
  tells_global (linker_global n) (got key) x y = refl
  tells_global (linker_global n) (exported_datum f) x y = refl
  tells_global (own_global a i) (outside_global l) x y = refl
  tells_global (own_global a i) (linker_global n) x y = refl
  tells_global (own_global a i) (own_global b j) x y = chunks_tell 2 a i b j refl x y
  tells_global (own_global a i) (got key) x y = refl
  tells_global (own_global a i) (exported_datum f) x y = refl
  tells_global (got key) (outside_global l) x y = refl
  tells_global (got key) (linker_global n) x y = refl
  tells_global (got key) (own_global b j) x y = refl
  tells_global (got key) (got other) x y = tells_got key other x y
  tells_global (got key) (exported_datum f) x y = refl
  tells_global (exported_datum e) (outside_global l) x y = refl
  tells_global (exported_datum e) (linker_global n) x y = refl
  tells_global (exported_datum e) (own_global b j) x y = refl
  tells_global (exported_datum e) (got key) x y = refl
  tells_global (exported_datum e) (exported_datum f) x y = is.entries_apart e f x y

  -- ---- what a definition's key becomes

  -- the chunk of the moved definition, by its kind
  pub chunk_moves : (e : InputSymbol) (kind : SymbolKind) → K e → e.symbol.kind ≡ kind → chunk_by (m.entry e) kind ≡ option_map m.chunk (chunk_by e kind)
  chunk_moves e kind k of =
      ap (chunk_by (m.entry e)) (sym (is.entry_kind e k ∙ of)) ∙ (is.entry_chunk e k ∙ ap (λ n. option_map m.chunk (chunk_by e n)) of)

  same_some : (a b : Chunk) → (let o : Option Chunk = Some a in o ≡ Some b) → a ≡ b
  same_some a b e = cc

  own_moves : (e : InputSymbol) → K e → e.symbol.kind ≡ Function → own (m.entry e).input (m.entry e).index ≡ moved_function m (own e.input e.index)
  own_moves e k of =
      let at : chunk_at (m.entry e).input 0 (m.entry e).index ≡ m.chunk (chunk_at e.input 0 e.index) =
      same_some (chunk_at (m.entry e).input 0 (m.entry e).index) (m.chunk (chunk_at e.input 0 e.index)) (chunk_moves e Function k of) in
      ap (λ (c : Chunk). own c.input c.index) at

  global_moves : (e : InputSymbol) → K e → e.symbol.kind ≡ GlobalVar → own_global (m.entry e).input (m.entry e).index ≡ moved_global m (own_global e.input e.index)
  global_moves e k of =
      let at : chunk_at (m.entry e).input 2 (m.entry e).index ≡ m.chunk (chunk_at e.input 2 e.index) =
      same_some (chunk_at (m.entry e).input 2 (m.entry e).index) (m.chunk (chunk_at e.input 2 e.index)) (chunk_moves e GlobalVar k of) in
      ap (λ (c : Chunk). own_global c.input c.index) at

  is_zero : (n : ℕ) → (n == 0) ≡ true → n ≡ 0
  is_zero n e = grind (arith, nat_tests, e)

  -- The key of a moved function is the moved key.
  pub function_moves : (e : InputSymbol) → K e → e.symbol.kind ≡ Function → function_of (m.entry e) ≡ moved_function m (function_of e)
  function_moves e k of = by_made (e.input == 0) refl
    where
      by_made : (r : Bool) → (e.input == 0) ≡ r → function_of (m.entry e) ≡ moved_function m (if r then linker_function e.place else own e.input e.index)
      by_made true made = ap function_of (is.entry_stays e k (is_zero e.input made)) ∙ rw made refl
      by_made false own_one = rw (is.entry_made e k ∙ own_one) (own_moves e k of)

  pub global_key_moves : (e : InputSymbol) → K e → e.symbol.kind ≡ GlobalVar → global_of Plain (m.entry e) ≡ moved_global m (global_of Plain e)
  global_key_moves e k of = by_made (e.input == 0) refl
    where
      by_made : (r : Bool) → (e.input == 0) ≡ r → global_of Plain (m.entry e) ≡ moved_global m (if r then linker_global e.place else own_global e.input e.index)
      by_made true made = ap (global_of Plain) (is.entry_stays e k (is_zero e.input made)) ∙ rw made refl
      by_made false own_one = rw (is.entry_made e k ∙ own_one) (global_moves e k of)

  -- ---- what a reference names

  pub ref_function_moves : (a b : Ref) → AlikeRef m C K a b → a.entry.symbol.kind ≡ Function → ref_function b ≡ moved_function m (ref_function a)
  ref_function_moves a b r of =
      ap (meant_function (name_of b.entry)) r.meaning ∙ (ap (λ name. meant_function name (moved_meaning m a.meaning)) r.name ∙ by_meaning a.meaning r.held)
    where
      by_meaning : (x : Meaning) → MeansHeld m C K a.entry.symbol.kind x → meant_function (name_of a.entry) (moved_meaning m x) ≡ moved_function m (meant_function (name_of a.entry) x)
      by_meaning (here e) held = function_moves e held.0 (held.1 ∙ of)
      by_meaning (imported k) held = refl
      by_meaning null held = refl
      by_meaning nothing held = refl

  pub ref_got_moves : (a b : Ref) → AlikeRef m C K a b → ref_got b ≡ moved_got m (ref_got a)
  ref_got_moves a b r =
      ap (got_of (kind_code b.entry.symbol.kind)) r.meaning ∙ (ap (λ kind. got_of (kind_code kind) (moved_meaning m a.meaning)) r.symbol_kind ∙ by_meaning a.meaning)
    where
      by_meaning : (x : Meaning) → got_of (kind_code a.entry.symbol.kind) (moved_meaning m x) ≡ moved_got m (got_of (kind_code a.entry.symbol.kind) x)
      by_meaning (here e) = refl
      by_meaning (imported k) = refl
      by_meaning null = refl
      by_meaning nothing = refl

  pub null_moves : (x : Meaning) → is_null (moved_meaning m x) ≡ is_null x
  null_moves (here e) = refl
  null_moves (imported k) = refl
  null_moves null = refl
  null_moves nothing = refl
