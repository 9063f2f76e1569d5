-- The symbols of objects, and the parts in which they are defined.
use Rattle.std.proofs.Common.{◌≡◌, ℕ, zero, suc, ◌+◌, ◌-◌, ◌<◌, ◌≤◌, Bool, true, false, not, ◌&&◌, ◌∷◌, ◌++◌, List, [], length, inl, inr, ⊎_elim, refl, sym, ap, ◌∙◌, subst, arith}
use Rattle.std.specs.Prelude.{if◌then◌else◌, option_map, Option, Some, None, slice_get, flat_map, All}
use Rattle.std.proofs.lemmas.Bool.{and_parts, ne_eqb}
use Rattle.std.proofs.lemmas.Bool.Decides.{nat_tests}
use Rattle.std.proofs.lemmas.Option.{slice_get_cases}
use Rattle.list_places.specs.Has.{Has}
use Rattle.list_places.proofs.Lists.{first_of, second_of, third_of, has_either, has_left, has_right, has_flat, flat_has, filter_has, map_has, any_has, all_has, some_is}
use Rattle.name_rules.specs.object_file.linking_section.declared.symbol.Symbol.{Symbol}
use Rattle.name_rules.specs.object_file.linking_section.declared.symbol.SymbolKind.{SymbolKind}
use Rattle.name_rules.specs.object_file.linking_section.declared.symbol.SymbolKind.TheVariants.{Function, Datum, GlobalVar, Section, Table}
use Rattle.name_rules.specs.object_file.linking_section.declared.member_kinds.TheConstants as members
use Rattle.name_rules.specs.object_file.linking_section.Flags.{is_undefined}
use Rattle.name_rules.specs.object_file.object_parts.declared.parts.GlobalDef.{GlobalDef}
use Rattle.name_rules.specs.object_file.object_columns.declared.functions.FunctionDef.{FunctionDef}
use Rattle.name_rules.specs.object_file.object_columns.declared.segments.SegmentDef.{SegmentDef}
use Rattle.name_rules.specs.object_file.declared.object.Object.{Object}
use Rattle.name_rules.specs.object_file.Spaces.{function_imports, global_imports}
use Rattle.object_file.specs.Sound.{Sound, NamesInRange, function_count, global_count}
use Rattle.made_symbols.specs.declared.mode.Mode.TheVariants.{Plain}
use Rattle.made_symbols.specs.Made.{MadeSymbol, made}
use Rattle.name_rules.specs.Entries.{InputSymbol, is_kept, in_kept_part, index_in, entry_in, entries_from, symbols_of, made_entry, made_from}
use Rattle.mark_bits.specs.declared.chunk.Chunk.{Chunk}
use Rattle.link_rules.specs.Program.{Part, Ref, option_onto, made_kind, made_parts_from, init_calls, function_part, segment_part, global_part, kept_in, chunk_at, chunk_by, chunk_of, same_chunk}
use Rattle.link_rules.specs.Marks.{table_of}
use Rattle.partial_laws.specs.Joined.{linked_symbols}
use Rattle.partial_laws.proofs.Members.{chunk_itself}
use Rattle.partial_parts_laws.specs.Linked.{Linked, program}
use Rattle.partial_parts_laws.specs.Moves.{is_part}
use Rattle.partial_parts_laws.specs.Alike.{is_placed}
use Rattle.partial_parts_laws.proofs.Zips.{item_has}
use Rattle.partial_parts_laws.proofs.Parts.{make_function, make_segment, make_global, res, own_parts, object_parts, parts_are, function_parts, segment_parts, global_parts}
use Rattle.partial_parts_laws.proofs.RunParts.{own_part}

not_true : (b : Bool) → not b ≡ true → b ≡ false
not_true true h = absurd cc
not_true false h = refl

-- ---- symbols of an object

pub record IsSymbolOf (objects : List Object) (o : Object) (e : InputSymbol) : Type 0 where
  pub place : ℕ
  pub symbol : Symbol
  pub there : Has o.symbols symbol
  pub is : entry_in objects o place symbol ≡ e

pub symbol_from : (objects : List Object) (o : Object) (at : ℕ) (ss : List Symbol) (e : InputSymbol) → Has (entries_from objects o at ss) e
    → (place : ℕ) × (s : Symbol) × Has ss s × (entry_in objects o place s ≡ e)
symbol_from objects o at [] e has = absurd has
symbol_from objects o at (s ∷ ss) e (inl is) = (at, s, inl refl, is)
symbol_from objects o at (s ∷ ss) e (inr has) = let r = symbol_from objects o (at + 1) ss e has in (r.0, r.1, inr r.2, r.3)

pub symbol_of : (objects : List Object) (o : Object) (e : InputSymbol) → Has (symbols_of objects o) e → IsSymbolOf objects o e
symbol_of objects o e has = let r = symbol_from objects o 0 o.symbols e has in record { place = r.0; symbol = r.1; there = r.2; is = r.3 }

pub symbol_input : (objects : List Object) (o : Object) (e : InputSymbol) → Has (symbols_of objects o) e → e.input ≡ o.input
symbol_input objects o e has = let r = symbol_of objects o e has in ap (λ (x : InputSymbol). x.input) (sym r.is)

-- at its place
pub symbol_at : (objects : List Object) (o : Object) (at : ℕ) (ss : List Symbol) (k : ℕ) (e : InputSymbol) → slice_get (entries_from objects o at ss) k ≡ Some e → slice_get ss k ≡ Some e.symbol
symbol_at objects o at [] k e is = absurd cc
symbol_at objects o at (s ∷ ss) zero e is = ap (λ (x : InputSymbol). Some x.symbol) (some_is (entry_in objects o at s) e is)
symbol_at objects o at (s ∷ ss) (suc k) e is = symbol_at objects o (at + 1) ss k e is

-- ---- the linker's symbols

made_placed : (calls : List Ref) (at : ℕ) (ms : List MadeSymbol) (e : InputSymbol) → Has (made_from at ms) e → (c : Chunk) → chunk_of e ≡ Some c → (x : Part) × Has (made_parts_from calls at ms) x × (x.chunk ≡ c)
made_placed calls at [] e has c is = absurd has
made_placed calls at (m ∷ ms) e (inr has) c is = let r = made_placed calls (at + 1) ms e has c is in (r.0, behind (made_kind m.kind) r.0 r.1, r.2)
  where
    behind : (k : Option ℕ) (x : Part) → Has (made_parts_from calls (at + 1) ms) x → Has (option_onto (option_map (own_part calls (made_entry at m) m) k) (made_parts_from calls (at + 1) ms)) x
    behind None x h = h
    behind (Some k) x h = inr h
made_placed calls at (m ∷ ms) e (inl it) c is = by_kind m.kind (ap chunk_of it ∙ is)
  where
    by_kind : (k : SymbolKind) → chunk_by (made_entry at m) k ≡ Some c → (x : Part) × Has (option_onto (option_map (own_part calls (made_entry at m) m) (made_kind k)) (made_parts_from calls (at + 1) ms)) x × (x.chunk ≡ c)
    by_kind Function h = (own_part calls (made_entry at m) m 0, inl refl, some_is (chunk_at 0 0 at) c h)
    by_kind Datum h = absurd cc
    by_kind GlobalVar h = (own_part calls (made_entry at m) m 2, inl refl, some_is (chunk_at 0 2 at) c h)
    by_kind Section h = absurd cc
    by_kind Table h = absurd cc

module _ (l : Linked) (objects : List Object) (strict : l.plan.loose_calls ≡ false) where
  -- A part of the program is in its table.
  pub part_in : (x : Part) → Has (program l objects).parts x → (c : Chunk) → x.chunk ≡ c → is_part (program l objects) c ≡ true
  part_in x has c is = any_has (same_chunk c) (table_of (program l objects)) x.chunk (map_has (λ (y : Part). y.chunk) (program l objects).parts x has) (ap (same_chunk c) is ∙ chunk_itself c)

  pub in_parts : (o : Object) → Has objects o → (x : Part) → Has (object_parts l objects o) x → Has (program l objects).parts x
  in_parts o ho x has =
      subst (λ xs. Has xs x) (sym (parts_are l objects strict)) (has_right (own_parts l objects) (flat_map (object_parts l objects) objects) x (flat_has (object_parts l objects) objects o x ho has))

  abbrev all_kinds : Object → List Part
  all_kinds o = function_parts l objects o ++ segment_parts l objects o ++ global_parts l objects o

  function_placed : (o : Object) → Has objects o → (n : ℕ) (f : FunctionDef) → slice_get o.functions n ≡ Some f → is_kept objects o members.FUNCTION (n + length (function_imports o)) ≡ true → is_part (program l objects) (chunk_at o.input 0 n) ≡ true
  function_placed o ho n f is keeps =
      part_in (function_part l.all objects (res l objects o) n f)
      (in_parts o ho (function_part l.all objects (res l objects o) n f)
      (filter_has (λ (x : Part). kept_in objects o x.chunk) (all_kinds o) (function_part l.all objects (res l objects o) n f)
      (first_of (function_parts l objects o) (segment_parts l objects o) (global_parts l objects o) (function_part l.all objects (res l objects o) n f) (item_has (make_function l objects o) o.functions n f is)) keeps))
      (chunk_at o.input 0 n) refl

  segment_placed : (o : Object) → Has objects o → (n : ℕ) (g : SegmentDef) → slice_get o.segments n ≡ Some g → is_kept objects o members.DATA n ≡ true → is_part (program l objects) (chunk_at o.input 1 n) ≡ true
  segment_placed o ho n g is keeps =
      part_in (segment_part l.all objects (res l objects o) n g)
      (in_parts o ho (segment_part l.all objects (res l objects o) n g)
      (filter_has (λ (x : Part). kept_in objects o x.chunk) (all_kinds o) (segment_part l.all objects (res l objects o) n g)
      (second_of (function_parts l objects o) (segment_parts l objects o) (global_parts l objects o) (segment_part l.all objects (res l objects o) n g) (item_has (make_segment l objects o) o.segments n g is)) keeps))
      (chunk_at o.input 1 n) refl

  global_placed : (o : Object) → Has objects o → (n : ℕ) (g : GlobalDef) → slice_get o.globals n ≡ Some g → is_part (program l objects) (chunk_at o.input 2 n) ≡ true
  global_placed o ho n g is =
      part_in (global_part l.all objects (res l objects o) n g)
      (in_parts o ho (global_part l.all objects (res l objects o) n g)
      (filter_has (λ (x : Part). kept_in objects o x.chunk) (all_kinds o) (global_part l.all objects (res l objects o) n g)
      (third_of (function_parts l objects o) (segment_parts l objects o) (global_parts l objects o) (global_part l.all objects (res l objects o) n g) (item_has (make_global l objects o) o.globals n g is)) refl))
      (chunk_at o.input 2 n) refl

  -- What a symbol of an object defines is a part.
  symbol_placed : (o : Object) → Has objects o → 0 < o.input → (size : ℕ) → Sound size o → (place : ℕ) (s : Symbol) → Has o.symbols s → (k : SymbolKind) → NamesInRange o s k
      → (not (is_undefined s) && in_kept_part objects o s k) ≡ true → is_placed (program l objects) (chunk_by (record (entry_in objects o place s) { index = index_in o s k }) k) ≡ true
  symbol_placed o ho above size sound place s hs Function named defines =
      let d = and_parts (not (is_undefined s)) (is_kept objects o members.FUNCTION s.index) defines in
      let defined : is_undefined s ≡ false = not_true (is_undefined s) d.0 in
      let behind : length (function_imports o) ≤ s.index = grind (arith, nat_tests, named.1, defined) in
      let low : s.index < function_count o = named.0 in
      let within : s.index - length (function_imports o) < length o.functions = omega (arith, behind, low) in
      let again : s.index - length (function_imports o) + length (function_imports o) ≡ s.index = omega (arith, behind) in
      ⊎_elim (λ f. function_placed o ho (s.index - length (function_imports o)) f.0 f.2 (ap (is_kept objects o members.FUNCTION) again ∙ d.1)) (λ past. absurd (omega (arith, within, past.0))) (slice_get_cases o.functions (s.index - length (function_imports o))).1
  symbol_placed o ho above size sound place s hs Datum named defines =
      let d = and_parts (not (is_undefined s)) (is_kept objects o members.DATA s.index) defines in
      let within = (named (not_true (is_undefined s) d.0)).0 in
      ap (λ (b : Bool). is_placed (program l objects) (if b then None else Some (chunk_at o.input 1 s.index))) (ne_eqb o.input 0 (λ e. omega (arith, above, e)))
      ∙ ⊎_elim (λ g. segment_placed o ho s.index g.0 g.2 d.1) (λ past. absurd (omega (arith, within, past.0))) (slice_get_cases o.segments s.index).1
  symbol_placed o ho above size sound place s hs GlobalVar named defines =
      let d = and_parts (not (is_undefined s)) true defines in
      let defined : is_undefined s ≡ false = not_true (is_undefined s) d.0 in
      let behind : length (global_imports o) ≤ s.index = grind (arith, nat_tests, named.1, defined) in
      let low : s.index < global_count o = named.0 in
      let within : s.index - length (global_imports o) < length o.globals = omega (arith, behind, low) in
      ⊎_elim (λ g. global_placed o ho (s.index - length (global_imports o)) g.0 g.2) (λ past. absurd (omega (arith, within, past.0))) (slice_get_cases o.globals (s.index - length (global_imports o))).1
  symbol_placed o ho above size sound place s hs Section named defines = refl
  symbol_placed o ho above size sound place s hs Table named defines = refl

  -- A symbol of the link that defines something is placed.
  pub defined_placed : All (λ (o : Object). 0 < o.input) objects → All (λ (o : Object). (size : ℕ) × Sound size o) objects → (e : InputSymbol) → Has (linked_symbols objects) e → e.defines ≡ true → is_placed (program l objects) (chunk_of e) ≡ true
  defined_placed above sound e has defines =
      ⊎_elim (λ own. by_chunk (chunk_of e) refl own)
      (λ of_object.
      let f = has_flat (symbols_of objects) objects e of_object in
      let s = symbol_of objects f.0 e f.2 in
      let so = all_has (λ (o : Object). (size : ℕ) × Sound size o) objects sound f.0 f.1 in
      let it : Sound so.0 f.0 = so.1 in
      subst (λ (x : InputSymbol). is_placed (program l objects) (chunk_of x) ≡ true) s.is
      (symbol_placed f.0 f.1 (all_has (λ (o : Object). 0 < o.input) objects above f.0 f.1) so.0 it s.place s.symbol s.there s.symbol.kind
      (all_has (λ (x : Symbol). NamesInRange f.0 x x.kind) f.0.symbols it.symbols s.symbol s.there) (ap (λ (x : InputSymbol). x.defines) s.is ∙ defines)))
      (has_either (made_from 0 (made Plain)) (flat_map (symbols_of objects) objects) e has)
    where
      by_chunk : (o : Option Chunk) → chunk_of e ≡ o → Has (made_from 0 (made Plain)) e → is_placed (program l objects) o ≡ true
      by_chunk None is own = refl
      by_chunk (Some c) is own =
          let r = made_placed (init_calls (program l objects).resolved) 0 (made Plain) e own c is in
          part_in r.0 (subst (λ xs. Has xs r.0) (sym (parts_are l objects strict)) (has_left (own_parts l objects) (flat_map (object_parts l objects) objects) r.0 r.1)) c r.2
