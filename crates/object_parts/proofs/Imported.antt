-- Imports of an object: what is read is spelled so and may stand there, and the other way round.
use Rattle.std.proofs.Common.{◌≡◌, ℕ, Bool, true, false, not, ◌&&◌, cond, eqb, List, [], ◌∷◌, ◌++◌, Result, Ok, Err, refl, sym, ap, subst, ◌∙◌}
use Rattle.std.specs.Prelude.{IsTrue}
use Rattle.std.proofs.lemmas.Bool.{eq-eqb}
use Rattle.wasm_instr.specs.wl_base.declared.item.Item.TheVariants as items
use Rattle.wasm_instr.specs.wasm_grammar.declared.fault.Stop.{Stop}
use Rattle.wasm_instr.specs.wasm_grammar.declared.fault.Stop.TheVariants.{Foreign}
use Rattle.wasm_instr.specs.wasm_grammar.Grammar.{SpellsByte, Then}
use Rattle.wasm_instr.specs.wasm_grammar.Readers.{Takes}
use Rattle.wasm_instr.specs.wasm_grammar.Reading.{◌>>=◌, byte_at, name_at}
use Rattle.wasm_instr.specs.wasm_grammar.ReaderLaws.{bind_ok, ok_is, regrouped, is_byte, byte_reader, name_reader, Takes-then}
use Rattle.wasm_instr.specs.wasm_types.Types.{SpellsImportKind, SpellsTableType, SpellsLimits, ref_byte, table_type_at, import_kind_at}
use Rattle.wasm_instr.specs.wasm_types.TypeLaws.{table_type_reader, import_kind_reader}
use Rattle.wasm_instr.specs.wasm_types.declared.table.TableType.{TableType}
use Rattle.wasm_instr.specs.wasm_types.declared.import.Import.{Import}
use Rattle.wasm_instr.specs.wasm_types.declared.import.ImportKind.{ImportKind}
use Rattle.wasm_instr.specs.wasm_types.declared.import.ImportKind.TheVariants as kinds
use Rattle.object_parts.specs.declared.imports.Seen.{Seen}
use Rattle.object_parts.specs.Turns.{IsPlacedReader}
use Rattle.object_parts.specs.Imports.{names_table, IsTaken, SpellsObjectImport, funcref_table_at, table_import_at, taken_kind, object_import_at}

-- a byte that begins bytes in two ways is one byte
same_first : (tag k : ℕ) (P : List ℕ → Type 0) (bytes mid rest : List ℕ) → Takes (SpellsByte tag) bytes mid → Takes (Then (SpellsByte k) P) bytes rest → tag ≡ k
same_first tag k P bytes mid rest a b =
    let s = b.spells in
    let one : bytes ≡ tag ∷ mid = a.parts ∙ ap (λ (t : List ℕ). t ++ mid) a.spells in
    let two : bytes ≡ k ∷ (s.1 ++ rest) = b.parts ∙ regrouped s.0 s.1 b.text rest s.4 ∙ ap (λ (t : List ℕ). t ++ (s.1 ++ rest)) s.2 in
    let both : tag ∷ mid ≡ k ∷ (s.1 ++ rest) = sym one ∙ two in
    cc

no_other : (byte k : ℕ) {P : Type 0} → eqb byte k ≡ false → byte ≡ k → P
no_other byte k ne is = absurd (let both : true ≡ false = sym (eq-eqb byte k is) ∙ ne in cc)

is_funcref : (byte : ℕ) (f : Bool) → eqb byte 0x6f ≡ false → byte ≡ ref_byte f → f ≡ true
is_funcref byte true ne is = refl
is_funcref byte false ne is = no_other byte 0x6f ne is

funcref_found : (end : ℕ) (bytes : List ℕ) (k : ImportKind) (rest : List ℕ) → funcref_table_at end bytes ≡ Ok (k, rest)
    → (t : TableType) × (kinds.Table t ≡ k) × Takes (SpellsTableType t) bytes rest × (t.funcref ≡ true)
unfolding funcref_table_at
funcref_found end bytes k rest e =
    let a = bind_ok (byte_at end bytes) (λ byte. cond (eqb byte.0 0x6f) (Err (Foreign items.OtherTable)) (table_type_at end bytes) >>= λ t. Ok (kinds.Table t.0, t.1)) (k, rest) e in
    let b = bind_ok (cond (eqb a.0.0 0x6f) (Err (Foreign items.OtherTable)) (table_type_at end bytes)) (λ t. Ok (kinds.Table t.0, t.1)) (k, rest) a.2 in
    let both = ok_is b.2 in
    let c = not_foreign (eqb a.0.0 0x6f) (table_type_at end bytes) b.0 b.1 in
    let t = table_type_reader.found end bytes b.0.0 b.0.1 c.1 in
    let byte = byte_reader.found end bytes a.0.0 a.0.1 a.1 in
    let is : b.0.0.funcref ≡ true = is_funcref a.0.0 b.0.0.funcref c.0 (same_first a.0.0 (ref_byte b.0.0.funcref) (SpellsLimits b.0.0.limits) bytes a.0.1 b.0.1 byte t) in
    let end_is : b.0.1 ≡ rest = ap (λ (p : ImportKind × List ℕ). p.1) both in
    (b.0.0, ap (λ (p : ImportKind × List ℕ). p.0) both, subst (Takes (SpellsTableType b.0.0) bytes) end_is t, is)
  where
    not_foreign : (q : Bool) (r : Result (TableType × List ℕ) Stop) (x : TableType × List ℕ) → cond q (Err (Foreign items.OtherTable)) r ≡ Ok x → (q ≡ false) × (r ≡ Ok x)
    not_foreign true r x e = absurd cc
    not_foreign false r x e = (refl, e)

table_found : (q : Bool) (end : ℕ) (mid : List ℕ) (k : ImportKind) (rest : List ℕ) → table_import_at q end mid ≡ Ok (k, rest)
    → IsTrue q × (t : TableType) × (kinds.Table t ≡ k) × Takes (SpellsTableType t) mid rest × (t.funcref ≡ true)
table_found true end mid k rest e = let f = funcref_found end mid k rest e in (refl, f.0, f.1, f.2, f.3)
table_found false end mid k rest e = absurd cc

-- what an import may be, where it is no table
other_kind : (seen : Seen) (from field : List ℕ) (tag : ℕ) (bytes mid rest : List ℕ) (k : ImportKind) → eqb tag 1 ≡ false → (eqb tag 2 && seen.memory) ≡ false
    → Takes (SpellsByte tag) bytes mid → Takes (SpellsImportKind k) bytes rest → IsTaken seen from field k
other_kind seen from field tag bytes mid rest (kinds.Function index) no_table no_memory a b = tt
other_kind seen from field tag bytes mid rest (kinds.Table t) no_table no_memory a b = no_other tag 1 no_table (same_first tag 1 (SpellsTableType t) bytes mid rest a b)
other_kind seen from field tag bytes mid rest (kinds.Memory l) no_table no_memory a b =
    let two : tag ≡ 2 = same_first tag 2 (SpellsLimits l) bytes mid rest a b in
    rw (eq-eqb tag 2 two) at no_memory
other_kind seen from field tag bytes mid rest (kinds.GlobalVar g) no_table no_memory a b = tt

kind_found : (seen : Seen) (from field : List ℕ) (tag end : ℕ) (bytes mid : List ℕ) (k : ImportKind) (rest : List ℕ) → Takes (SpellsByte tag) bytes mid
    → taken_kind seen (names_table from field) tag end bytes mid ≡ Ok (k, rest) → Takes (SpellsImportKind k) bytes rest × IsTaken seen from field k
kind_found seen from field tag end bytes mid k rest front e = by (eqb tag 1) (eqb tag 2 && seen.memory) refl refl e
  where
    by : (q r : Bool) → eqb tag 1 ≡ q → (eqb tag 2 && seen.memory) ≡ r
        → cond q (table_import_at (names_table from field && not seen.table) end mid) (cond r (Err (Foreign items.MoreMemories)) (import_kind_at end bytes)) ≡ Ok (k, rest)
        → Takes (SpellsImportKind k) bytes rest × IsTaken seen from field k
    by true r is is2 f =
        let t = table_found (names_table from field && not seen.table) end mid k rest f in
        let whole : Takes (SpellsImportKind (kinds.Table t.1)) bytes rest = Takes-then (is_byte tag 1 bytes mid is front) t.3 in
        subst (λ (x : ImportKind). Takes (SpellsImportKind x) bytes rest × IsTaken seen from field x) t.2 (whole, (t.0, t.4))
    by false true is is2 f = absurd cc
    by false false is is2 f =
        let t = import_kind_reader.found end bytes k rest f in
        (t, other_kind seen from field tag bytes mid rest k is is2 front t)

import_found : (seen : Seen) (end : ℕ) (bytes : List ℕ) (i : Import) (rest : List ℕ) → object_import_at seen end bytes ≡ Ok (i, rest) → (text : List ℕ) × SpellsObjectImport seen end i text rest × (bytes ≡ text ++ rest)
unfolding object_import_at
import_found seen end bytes i rest e =
    let a = bind_ok (name_at end bytes) (λ from. name_at end from.1 >>= λ field. byte_at end field.1 >>= λ tag. taken_kind seen (names_table from.0 field.0) tag.0 end field.1 tag.1 >>= λ kind. Ok (record { «module» = from.0; field = field.0; kind = kind.0 }, kind.1)) (i, rest) e in
    let b = bind_ok (name_at end a.0.1) (λ field. byte_at end field.1 >>= λ tag. taken_kind seen (names_table a.0.0 field.0) tag.0 end field.1 tag.1 >>= λ kind. Ok (record { «module» = a.0.0; field = field.0; kind = kind.0 }, kind.1)) (i, rest) a.2 in
    let c = bind_ok (byte_at end b.0.1) (λ tag. taken_kind seen (names_table a.0.0 b.0.0) tag.0 end b.0.1 tag.1 >>= λ kind. Ok (record { «module» = a.0.0; field = b.0.0; kind = kind.0 }, kind.1)) (i, rest) b.2 in
    let d = bind_ok (taken_kind seen (names_table a.0.0 b.0.0) c.0.0 end b.0.1 c.0.1) (λ kind. Ok (record { «module» = a.0.0; field = b.0.0; kind = kind.0 }, kind.1)) (i, rest) c.2 in
    let kind = kind_found seen a.0.0 b.0.0 c.0.0 end b.0.1 c.0.1 d.0.0 d.0.1 (byte_reader.found end b.0.1 c.0.0 c.0.1 c.1) d.1 in
    let t = Takes-then (name_reader.found end bytes a.0.0 a.0.1 a.1) (Takes-then (name_reader.found end a.0.1 b.0.0 b.0.1 b.1) kind.0) in
    subst (λ (p : Import × List ℕ). (text : List ℕ) × SpellsObjectImport seen end p.0 text p.1 × (bytes ≡ text ++ p.1)) (ok_is d.2)
    (t.text, (t.spells, kind.1), t.parts)

funcref_again : (end : ℕ) (t : TableType) (mid rest after : List ℕ) → mid ≡ 0x70 ∷ after → table_type_at end mid ≡ Ok (t, rest) → funcref_table_at end mid ≡ Ok (kinds.Table t, rest)
unfolding funcref_table_at
funcref_again end t mid rest after first read =
    let byte : byte_at end mid ≡ Ok (0x70, after) = rw first refl in
    rw (byte, read) refl

-- the byte that a kind begins with
abbrev Begun : Seen → List ℕ → List ℕ → ImportKind → ℕ → List ℕ → List ℕ → Type 0
Begun seen from field k end text rest =
    (tag : ℕ) × (mid : List ℕ) × (byte_at end (text ++ rest) ≡ Ok (tag, mid)) × (taken_kind seen (names_table from field) tag end (text ++ rest) mid ≡ Ok (k, rest))

begun : (seen : Seen) (from field : List ℕ) (k : ImportKind) (end : ℕ) (text rest : List ℕ) → SpellsImportKind k text → IsTaken seen from field k → Begun seen from field k end text rest
begun seen from field (kinds.Function index) end text rest s taken =
    let parts : text ++ rest ≡ 0 ∷ (s.1 ++ rest) = regrouped s.0 s.1 text rest s.4 ∙ ap (λ (t : List ℕ). t ++ (s.1 ++ rest)) s.2 in
    (0, s.1 ++ rest, rw parts refl, import_kind_reader.again end (kinds.Function index) text rest s)
begun seen from field (kinds.Table t) end text rest s taken =
    let mid : List ℕ = s.1 ++ rest in
    let parts : text ++ rest ≡ 1 ∷ mid = regrouped s.0 s.1 text rest s.4 ∙ ap (λ (u : List ℕ). u ++ mid) s.2 in
    let first : mid ≡ 0x70 ∷ (s.3.1 ++ rest) = regrouped s.3.0 s.3.1 s.1 rest s.3.4 ∙ ap (λ (u : List ℕ). u ++ (s.3.1 ++ rest)) (s.3.2 ∙ ap (λ f. ref_byte f ∷ []) taken.1) in
    (1, mid, rw parts refl, rw taken.0 (funcref_again end t mid rest (s.3.1 ++ rest) first (table_type_reader.again end t s.1 rest s.3)))
begun seen from field (kinds.Memory l) end text rest s taken =
    let parts : text ++ rest ≡ 2 ∷ (s.1 ++ rest) = regrouped s.0 s.1 text rest s.4 ∙ ap (λ (t : List ℕ). t ++ (s.1 ++ rest)) s.2 in
    (2, s.1 ++ rest, rw parts refl, rw taken (import_kind_reader.again end (kinds.Memory l) text rest s))
begun seen from field (kinds.GlobalVar g) end text rest s taken =
    let parts : text ++ rest ≡ 3 ∷ (s.1 ++ rest) = regrouped s.0 s.1 text rest s.4 ∙ ap (λ (t : List ℕ). t ++ (s.1 ++ rest)) s.2 in
    (3, s.1 ++ rest, rw parts refl, import_kind_reader.again end (kinds.GlobalVar g) text rest s)

import_again : (seen : Seen) (end : ℕ) (i : Import) (text rest : List ℕ) → SpellsObjectImport seen end i text rest → object_import_at seen end (text ++ rest) ≡ Ok (i, rest)
unfolding object_import_at
import_again seen end i text rest s =
    let outer = regrouped s.0.0 s.0.1 text rest s.0.4 in
    let inner = regrouped s.0.3.0 s.0.3.1 s.0.1 rest s.0.3.4 in
    let kind = begun seen i.«module» i.field i.kind end s.0.3.1 rest s.0.3.3 s.1 in
    rw (outer, name_reader.again end i.«module» s.0.0 (s.0.1 ++ rest) s.0.2, inner, name_reader.again end i.field s.0.3.0 (s.0.3.1 ++ rest) s.0.3.2, kind.2, kind.3) refl

pub object_import_reader : IsPlacedReader SpellsObjectImport object_import_at
object_import_reader = record { found = import_found; again = import_again }
