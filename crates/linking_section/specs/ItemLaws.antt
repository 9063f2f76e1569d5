-- Items of the subsections: what is read is spelled so, and what is spelled so is read.
use Rattle.std.proofs.Common.{◌≡◌, ℕ, ◌-◌, Bool, true, false, eqb, not, List, [], ◌∷◌, ◌++◌, length, Option, Some, None, Ok, Err, refl, sym, ap, subst, ◌∙◌}
use Rattle.std.specs.Prelude.{IsTrue}
use Rattle.std.proofs.lemmas.Bool.{eqb-true}
use Rattle.wasm_grammar.specs.wl_base.declared.item.Item.{Item}
use Rattle.wasm_grammar.specs.wl_base.declared.item.Item.TheVariants as items
use Rattle.wasm_grammar.specs.declared.fault.Stop.TheVariants.{Broken, Foreign}
use Rattle.wasm_grammar.specs.Grammar.{SpellsByte, SpellsU32}
use Rattle.wasm_grammar.specs.Readers.{Takes, IsReader}
use Rattle.wasm_grammar.specs.Reading.{◌>>=◌, byte_at, u32_at, name_at, vector_at}
use Rattle.wasm_grammar.specs.ReaderLaws.{bind_ok, ok_is, cond_ok, branch, never, byte_reader, u32_reader, name_reader, vector_reader, Takes-then, regrouped}
use Rattle.linking_section.specs.declared.symbol.Symbol.{Symbol}
use Rattle.linking_section.specs.declared.symbol.Extent.{Extent}
use Rattle.linking_section.specs.declared.symbol.SymbolKind.{SymbolKind}
use Rattle.linking_section.specs.declared.symbol.SymbolKind.TheVariants.{Function, Datum, GlobalVar, Section, Table}
use Rattle.linking_section.specs.declared.segment.SegmentInfo.{SegmentInfo}
use Rattle.linking_section.specs.declared.init.InitFunc.{InitFunc}
use Rattle.linking_section.specs.declared.group.Member.{Member}
use Rattle.linking_section.specs.declared.group.Group.{Group}
use Rattle.linking_section.specs.Flags.{kind_code, has_bit, is_foreign_symbol, is_foreign_segment, is_named}
use Rattle.linking_section.specs.Linking.{SpellsUnless, SpellsSegmentInfo, SpellsInit, is_member_kind, SpellsMember, SpellsGroup, SpellsMaybe, SpellsIndexed, SpellsExtent, SpellsDatum, SpellsSectionSymbol, SpellsBody, SpellsSymbol}
use Rattle.linking_section.specs.Reading.{unless, unless_at, segment_at, init_at, member_kind_of, member_at, behind_zero, zero_at, group_at, kind_of, some_name_at, maybe_name_at, some_extent_at, extent_at, indexed_at, datum_at, section_symbol_at, body_at, symbol_at}

-- ---- numbers that aren't foreign

unless_ok : (q : Bool) (item : Item) (n : ℕ) (rest : List ℕ) (m : ℕ) (after : List ℕ) → unless q item n rest ≡ Ok (m, after) → (q ≡ false) × (n ≡ m) × (rest ≡ after)
unless_ok true item n rest m after e = absurd cc
unless_ok false item n rest m after e =
    let both : ◌≡◌ {A = ℕ × List ℕ} (n, rest) (m, after) = ok_is e in
    (refl, ap (λ (p : ℕ × List ℕ). p.0) both, ap (λ (p : ℕ × List ℕ). p.1) both)

pub unless_reader : (foreign : ℕ → Bool) (item : ℕ → Item) → IsReader (SpellsUnless foreign) (unless_at foreign item)
unfolding unless_at
unless_reader foreign item = record {
  found = λ end bytes n rest e.
      let a = bind_ok (u32_at end bytes) (λ n. unless (foreign n.0) (item n.0) n.0 n.1) (n, rest) e in
      let b = unless_ok (foreign a.0.0) (item a.0.0) a.0.0 a.0.1 n rest a.2 in
      let t = u32_reader.found end bytes a.0.0 a.0.1 a.1 in
      record {
        text = t.text;
        spells = (subst (λ (m : ℕ). foreign m ≡ false) b.1 b.0, subst (λ (m : ℕ). SpellsU32 m t.text) b.1 t.spells);
        parts = t.parts ∙ ap (λ (r : List ℕ). t.text ++ r) b.2;
      };
  again = λ end n text rest s. rw (u32_reader.again end n text rest s.1, s.0) refl;
}

-- ---- segments, init functions and groups

pub segment_reader : IsReader SpellsSegmentInfo segment_at
unfolding segment_at
segment_reader = record {
  found = λ end bytes i rest e.
      let a = bind_ok (name_at end bytes) (λ name. u32_at end name.1 >>= λ align. unless_at is_foreign_segment items.SegmentFlags end align.1 >>= λ flags. Ok (record { name = name.0; align = align.0; flags = flags.0 }, flags.1)) (i, rest) e in
      let b = bind_ok (u32_at end a.0.1) (λ align. unless_at is_foreign_segment items.SegmentFlags end align.1 >>= λ flags. Ok (record { name = a.0.0; align = align.0; flags = flags.0 }, flags.1)) (i, rest) a.2 in
      let c = bind_ok (unless_at is_foreign_segment items.SegmentFlags end b.0.1) (λ flags. Ok (record { name = a.0.0; align = b.0.0; flags = flags.0 }, flags.1)) (i, rest) b.2 in
      let flags = unless_reader is_foreign_segment items.SegmentFlags in
      subst (λ (p : SegmentInfo × List ℕ). Takes (SpellsSegmentInfo p.0) bytes p.1) (ok_is c.2)
      (Takes-then (name_reader.found end bytes a.0.0 a.0.1 a.1) (Takes-then (u32_reader.found end a.0.1 b.0.0 b.0.1 b.1) (flags.found end b.0.1 c.0.0 c.0.1 c.1)));
  again = λ end i text rest s.
      let outer = regrouped s.0 s.1 text rest s.4 in
      let inner = regrouped s.3.0 s.3.1 s.1 rest s.3.4 in
      rw (outer, name_reader.again end i.name s.0 (s.1 ++ rest) s.2, inner, u32_reader.again end i.align s.3.0 (s.3.1 ++ rest) s.3.2, (unless_reader is_foreign_segment items.SegmentFlags).again end i.flags s.3.1 rest s.3.3) refl;
}

pub init_reader : IsReader SpellsInit init_at
unfolding init_at
init_reader = record {
  found = λ end bytes i rest e.
      let a = bind_ok (u32_at end bytes) (λ priority. u32_at end priority.1 >>= λ symbol. Ok (record { priority = priority.0; symbol = symbol.0 }, symbol.1)) (i, rest) e in
      let b = bind_ok (u32_at end a.0.1) (λ symbol. Ok (record { priority = a.0.0; symbol = symbol.0 }, symbol.1)) (i, rest) a.2 in
      subst (λ (p : InitFunc × List ℕ). Takes (SpellsInit p.0) bytes p.1) (ok_is b.2)
      (Takes-then (u32_reader.found end bytes a.0.0 a.0.1 a.1) (u32_reader.found end a.0.1 b.0.0 b.0.1 b.1));
  again = λ end i text rest s.
      rw (regrouped s.0 s.1 text rest s.4, u32_reader.again end i.priority s.0 (s.1 ++ rest) s.2, u32_reader.again end i.symbol s.1 rest s.3) refl;
}

pub member_reader : IsReader SpellsMember member_at
unfolding member_at
member_reader = record {
  found = λ end bytes m rest e.
      let a = bind_ok (byte_at end bytes) (λ byte. member_kind_of (end - length bytes) byte.0 >>= λ kind. u32_at end byte.1 >>= λ index. Ok (record { kind = kind; index = index.0 }, index.1)) (m, rest) e in
      let b = bind_ok (member_kind_of (end - length bytes) a.0.0) (λ kind. u32_at end a.0.1 >>= λ index. Ok (record { kind = kind; index = index.0 }, index.1)) (m, rest) a.2 in
      let c = bind_ok (u32_at end a.0.1) (λ index. Ok (record { kind = b.0; index = index.0 }, index.1)) (m, rest) b.2 in
      let known = cond_ok (is_member_kind a.0.0) (Broken (end - length bytes)) a.0.0 b.0 b.1 in
      let kind = subst (λ (n : ℕ). Takes (SpellsByte n) bytes a.0.1) known.1 (byte_reader.found end bytes a.0.0 a.0.1 a.1) in
      let all = Takes-then kind (u32_reader.found end a.0.1 c.0.0 c.0.1 c.1) in
      subst (λ (p : Member × List ℕ). Takes (SpellsMember p.0) bytes p.1) (ok_is c.2)
      (record { text = all.text; spells = (subst (λ (n : ℕ). IsTrue (is_member_kind n)) known.1 known.0, all.spells); parts = all.parts });
  again = λ end m text rest s.
      rw (regrouped s.1.0 s.1.1 text rest s.1.4, s.1.2, s.0, u32_reader.again end m.index s.1.1 rest s.1.3) refl;
}

zero_found : (end : ℕ) (bytes rest : List ℕ) → zero_at end bytes ≡ Ok rest → Takes (SpellsU32 0) bytes rest
unfolding zero_at
zero_found end bytes rest e =
    let a = bind_ok (u32_at end bytes) (λ n. behind_zero (end - length bytes) n.0 n.1) rest e in
    let b = cond_ok (eqb a.0.0 0) (Broken (end - length bytes)) a.0.1 rest a.2 in
    let t = subst (λ (n : ℕ). Takes (SpellsU32 n) bytes a.0.1) (eqb-true a.0.0 0 b.0) (u32_reader.found end bytes a.0.0 a.0.1 a.1) in
    subst (λ (r : List ℕ). Takes (SpellsU32 0) bytes r) b.1 t

zero_again : (end : ℕ) (text rest : List ℕ) → SpellsU32 0 text → zero_at end (text ++ rest) ≡ Ok rest
unfolding zero_at
zero_again end text rest s = rw (u32_reader.again end 0 text rest s) refl

pub group_reader : IsReader SpellsGroup group_at
unfolding group_at
group_reader = record {
  found = λ end bytes g rest e.
      let a = bind_ok (name_at end bytes) (λ name. zero_at end name.1 >>= λ r. vector_at member_at end r >>= λ members. Ok (record { name = name.0; members = members.0 }, members.1)) (g, rest) e in
      let b = bind_ok (zero_at end a.0.1) (λ r. vector_at member_at end r >>= λ members. Ok (record { name = a.0.0; members = members.0 }, members.1)) (g, rest) a.2 in
      let c = bind_ok (vector_at member_at end b.0) (λ members. Ok (record { name = a.0.0; members = members.0 }, members.1)) (g, rest) b.2 in
      let members = vector_reader SpellsMember member_at member_reader in
      subst (λ (p : Group × List ℕ). Takes (SpellsGroup p.0) bytes p.1) (ok_is c.2)
      (Takes-then (name_reader.found end bytes a.0.0 a.0.1 a.1) (Takes-then (zero_found end a.0.1 b.0 b.1) (members.found end b.0 c.0.0 c.0.1 c.1)));
  again = λ end g text rest s.
      let outer = regrouped s.0 s.1 text rest s.4 in
      let inner = regrouped s.3.0 s.3.1 s.1 rest s.3.4 in
      rw (outer, name_reader.again end g.name s.0 (s.1 ++ rest) s.2, inner, zero_again end s.3.0 (s.3.1 ++ rest) s.3.2, (vector_reader SpellsMember member_at member_reader).again end g.members s.3.1 rest s.3.3) refl;
}

-- ---- parts of symbols

pub kind_found : (place byte : ℕ) (k : SymbolKind) → kind_of place byte ≡ Ok k → byte ≡ kind_code k
kind_found place b k e =
    branch (eqb b 0) (Ok Function) _ k (λ q f. eqb-true b 0 q ∙ ap kind_code (ok_is f)) (
    branch (eqb b 1) (Ok Datum) _ k (λ q f. eqb-true b 1 q ∙ ap kind_code (ok_is f)) (
    branch (eqb b 2) (Ok GlobalVar) _ k (λ q f. eqb-true b 2 q ∙ ap kind_code (ok_is f)) (
    branch (eqb b 3) (Ok Section) _ k (λ q f. eqb-true b 3 q ∙ ap kind_code (ok_is f)) (
    branch (eqb b 4) (Err (Foreign items.TagSymbol)) _ k (λ q f. never _ k f) (
    branch (eqb b 5) (Ok Table) (Err (Broken place)) k (λ q f. eqb-true b 5 q ∙ ap kind_code (ok_is f)) (never _ k)))))) e

pub kind_again : (place : ℕ) (k : SymbolKind) → kind_of place (kind_code k) ≡ Ok k
kind_again place Function = refl
kind_again place Datum = refl
kind_again place GlobalVar = refl
kind_again place Section = refl
kind_again place Table = refl

some_found : (end : ℕ) (bytes : List ℕ) (name : Option (List ℕ)) (rest : List ℕ) → some_name_at end bytes ≡ Ok (name, rest) → Takes (SpellsMaybe true name) bytes rest
some_found end bytes name rest e =
    let a = bind_ok (name_at end bytes) (λ name. Ok (Some name.0, name.1)) (name, rest) e in
    let t = name_reader.found end bytes a.0.0 a.0.1 a.1 in
    subst (λ (p : Option (List ℕ) × List ℕ). Takes (SpellsMaybe true p.0) bytes p.1) (ok_is a.2) (record { text = t.text; spells = t.spells; parts = t.parts })

maybe_found : (q : Bool) (end : ℕ) (bytes : List ℕ) (name : Option (List ℕ)) (rest : List ℕ) → maybe_name_at q end bytes ≡ Ok (name, rest) → Takes (SpellsMaybe q name) bytes rest
maybe_found true end bytes name rest e = some_found end bytes name rest e
maybe_found false end bytes name rest e =
    subst (λ (p : Option (List ℕ) × List ℕ). Takes (SpellsMaybe false p.0) bytes p.1) (ok_is e) (record { text = []; spells = refl; parts = refl })

maybe_again : (q : Bool) (end : ℕ) (name : Option (List ℕ)) (text rest : List ℕ) → SpellsMaybe q name text → maybe_name_at q end (text ++ rest) ≡ Ok (name, rest)
maybe_again true end (Some name) text rest s = rw (name_reader.again end name text rest s) refl
maybe_again true end None text rest s = absurd s
maybe_again false end (Some name) text rest s = absurd s
maybe_again false end None text rest s = rw s refl

pub maybe_reader : (q : Bool) → IsReader (SpellsMaybe q) (maybe_name_at q)
maybe_reader q = record { found = maybe_found q; again = maybe_again q }

some_extent_found : (end : ℕ) (bytes : List ℕ) (x : Extent) (rest : List ℕ) → some_extent_at end bytes ≡ Ok (x, rest) → Takes (SpellsExtent true x) bytes rest
some_extent_found end bytes x rest e =
    let a = bind_ok (u32_at end bytes) (λ segment. u32_at end segment.1 >>= λ offset. u32_at end offset.1 >>= λ size. Ok (record { segment = segment.0; offset = offset.0; size = size.0 }, size.1)) (x, rest) e in
    let b = bind_ok (u32_at end a.0.1) (λ offset. u32_at end offset.1 >>= λ size. Ok (record { segment = a.0.0; offset = offset.0; size = size.0 }, size.1)) (x, rest) a.2 in
    let c = bind_ok (u32_at end b.0.1) (λ size. Ok (record { segment = a.0.0; offset = b.0.0; size = size.0 }, size.1)) (x, rest) b.2 in
    let t = Takes-then (u32_reader.found end bytes a.0.0 a.0.1 a.1) (Takes-then (u32_reader.found end a.0.1 b.0.0 b.0.1 b.1) (u32_reader.found end b.0.1 c.0.0 c.0.1 c.1)) in
    subst (λ (p : Extent × List ℕ). Takes (SpellsExtent true p.0) bytes p.1) (ok_is c.2) (record { text = t.text; spells = t.spells; parts = t.parts })

extent_found : (q : Bool) (end : ℕ) (bytes : List ℕ) (x : Extent) (rest : List ℕ) → extent_at q end bytes ≡ Ok (x, rest) → Takes (SpellsExtent q x) bytes rest
extent_found true end bytes x rest e = some_extent_found end bytes x rest e
extent_found false end bytes x rest e =
    subst (λ (p : Extent × List ℕ). Takes (SpellsExtent false p.0) bytes p.1) (ok_is e) (record { text = []; spells = (refl, refl, refl, refl); parts = refl })

same_extent : (a b c i j k : ℕ) → i ≡ a → j ≡ b → k ≡ c → (let x : Extent = record { segment = a; offset = b; size = c } in let y : Extent = record { segment = i; offset = j; size = k } in x ≡ y)
same_extent a b c i j k p q r = rw (p, q, r) refl

extent_again : (q : Bool) (end : ℕ) (x : Extent) (text rest : List ℕ) → SpellsExtent q x text → extent_at q end (text ++ rest) ≡ Ok (x, rest)
extent_again true end x text rest s =
    let outer = regrouped s.0 s.1 text rest s.4 in
    let inner = regrouped s.3.0 s.3.1 s.1 rest s.3.4 in
    rw (outer, u32_reader.again end x.segment s.0 (s.1 ++ rest) s.2, inner, u32_reader.again end x.offset s.3.0 (s.3.1 ++ rest) s.3.2, u32_reader.again end x.size s.3.1 rest s.3.3) refl
extent_again false end x text rest s = rw s.3 (ap (λ (y : Extent). Ok (y, rest)) (same_extent 0 0 0 x.segment x.offset x.size s.0 s.1 s.2))

pub extent_reader : (q : Bool) → IsReader (SpellsExtent q) (extent_at q)
extent_reader q = record { found = extent_found q; again = extent_again q }

-- ---- symbols

-- a symbol of this kind and these flags, of which the rest is spelled so
pub record IsBody (kind : SymbolKind) (flags : ℕ) (s : Symbol) (bytes rest : List ℕ) : Type 0 where
  pub kind_is : s.kind ≡ kind
  pub flags_are : s.flags ≡ flags
  pub text : List ℕ
  pub spells : SpellsBody kind s text
  pub parts : bytes ≡ text ++ rest

indexed_found : (kind : SymbolKind) (flags end : ℕ) (bytes : List ℕ) (s : Symbol) (rest : List ℕ) → ((t : Symbol) (text : List ℕ) → SpellsIndexed t text → SpellsBody kind t text) → indexed_at kind flags end bytes ≡ Ok (s, rest) → IsBody kind flags s bytes rest
unfolding indexed_at
indexed_found kind flags end bytes s rest is e =
    let a = bind_ok (u32_at end bytes) (λ index. maybe_name_at (is_named flags) end index.1 >>= λ name. Ok (record { kind = kind; flags = flags; name = name.0; index = index.0; offset = 0; size = 0 }, name.1)) (s, rest) e in
    let b = bind_ok (maybe_name_at (is_named flags) end a.0.1) (λ name. Ok (record { kind = kind; flags = flags; name = name.0; index = a.0.0; offset = 0; size = 0 }, name.1)) (s, rest) a.2 in
    let t = Takes-then (u32_reader.found end bytes a.0.0 a.0.1 a.1) ((maybe_reader (is_named flags)).found end a.0.1 b.0.0 b.0.1 b.1) in
    subst (λ (p : Symbol × List ℕ). IsBody kind flags p.0 bytes p.1) (ok_is b.2) (record { kind_is = refl; flags_are = refl; text = t.text; spells = is _ t.text (refl, refl, t.spells); parts = t.parts })

datum_found : (flags end : ℕ) (bytes : List ℕ) (s : Symbol) (rest : List ℕ) → datum_at flags end bytes ≡ Ok (s, rest) → IsBody Datum flags s bytes rest
unfolding datum_at
datum_found flags end bytes s rest e =
    let a = bind_ok (name_at end bytes) (λ name. extent_at (not (has_bit 0x10 flags)) end name.1 >>= λ extent. Ok (record { kind = Datum; flags = flags; name = Some name.0; index = extent.0.segment; offset = extent.0.offset; size = extent.0.size }, extent.1)) (s, rest) e in
    let b = bind_ok (extent_at (not (has_bit 0x10 flags)) end a.0.1) (λ extent. Ok (record { kind = Datum; flags = flags; name = Some a.0.0; index = extent.0.segment; offset = extent.0.offset; size = extent.0.size }, extent.1)) (s, rest) a.2 in
    let t = Takes-then (name_reader.found end bytes a.0.0 a.0.1 a.1) ((extent_reader (not (has_bit 0x10 flags))).found end a.0.1 b.0.0 b.0.1 b.1) in
    subst (λ (p : Symbol × List ℕ). IsBody Datum flags p.0 bytes p.1) (ok_is b.2) (record { kind_is = refl; flags_are = refl; text = t.text; spells = t.spells; parts = t.parts })

section_symbol_found : (flags end : ℕ) (bytes : List ℕ) (s : Symbol) (rest : List ℕ) → section_symbol_at flags end bytes ≡ Ok (s, rest) → IsBody Section flags s bytes rest
unfolding section_symbol_at
section_symbol_found flags end bytes s rest e =
    let a = bind_ok (u32_at end bytes) (λ index. Ok (record { kind = Section; flags = flags; name = None; index = index.0; offset = 0; size = 0 }, index.1)) (s, rest) e in
    let t = u32_reader.found end bytes a.0.0 a.0.1 a.1 in
    subst (λ (p : Symbol × List ℕ). IsBody Section flags p.0 bytes p.1) (ok_is a.2) (record { kind_is = refl; flags_are = refl; text = t.text; spells = (refl, refl, refl, t.spells); parts = t.parts })

body_found : (kind : SymbolKind) (flags end : ℕ) (bytes : List ℕ) (s : Symbol) (rest : List ℕ) → body_at kind flags end bytes ≡ Ok (s, rest) → IsBody kind flags s bytes rest
body_found Function flags end bytes s rest e = indexed_found Function flags end bytes s rest (λ t text i. i) e
body_found Datum flags end bytes s rest e = datum_found flags end bytes s rest e
body_found GlobalVar flags end bytes s rest e = indexed_found GlobalVar flags end bytes s rest (λ t text i. i) e
body_found Section flags end bytes s rest e = section_symbol_found flags end bytes s rest e
body_found Table flags end bytes s rest e = indexed_found Table flags end bytes s rest (λ t text i. i) e

same_symbol : (k l : SymbolKind) (m n : Option (List ℕ)) (flags index o p z w : ℕ) → l ≡ k → n ≡ m → p ≡ o → w ≡ z
    → (let x : Symbol = record { kind = k; flags = flags; name = m; index = index; offset = o; size = z } in let y : Symbol = record { kind = l; flags = flags; name = n; index = index; offset = p; size = w } in x ≡ y)
same_symbol k l m n flags index o p z w a b c d = rw (a, b, c, d) refl

indexed_again : (kind : SymbolKind) (end : ℕ) (s : Symbol) (text rest : List ℕ) → s.kind ≡ kind → SpellsIndexed s text → indexed_at kind s.flags end (text ++ rest) ≡ Ok (s, rest)
unfolding indexed_at
indexed_again kind end s text rest is i =
    let t = i.2 in
    rw (regrouped t.0 t.1 text rest t.4, u32_reader.again end s.index t.0 (t.1 ++ rest) t.2, (maybe_reader (is_named s.flags)).again end s.name t.1 rest t.3)
    (ap (λ (y : Symbol). Ok (y, rest)) (same_symbol kind s.kind s.name s.name s.flags s.index 0 s.offset 0 s.size is refl i.0 i.1))

named_again : (end : ℕ) (name : Option (List ℕ)) (text rest : List ℕ) → SpellsMaybe true name text → (n : List ℕ) × (name ≡ Some n) × (name_at end (text ++ rest) ≡ Ok (n, rest))
named_again end (Some name) text rest s = (name, refl, name_reader.again end name text rest s)
named_again end None text rest s = absurd s

datum_again : (end : ℕ) (s : Symbol) (text rest : List ℕ) → s.kind ≡ Datum → SpellsDatum s text → datum_at s.flags end (text ++ rest) ≡ Ok (s, rest)
unfolding datum_at
datum_again end s text rest is t =
    let n = named_again end s.name t.0 (t.1 ++ rest) t.2 in
    rw (regrouped t.0 t.1 text rest t.4, n.2, (extent_reader (not (has_bit 0x10 s.flags))).again end (record { segment = s.index; offset = s.offset; size = s.size }) t.1 rest t.3)
    (ap (λ (y : Symbol). Ok (y, rest)) (same_symbol Datum s.kind (Some n.0) s.name s.flags s.index s.offset s.offset s.size s.size is n.1 refl refl))

section_symbol_again : (end : ℕ) (s : Symbol) (text rest : List ℕ) → s.kind ≡ Section → SpellsSectionSymbol s text → section_symbol_at s.flags end (text ++ rest) ≡ Ok (s, rest)
unfolding section_symbol_at
section_symbol_again end s text rest is t =
    rw (u32_reader.again end s.index text rest t.3)
    (ap (λ (y : Symbol). Ok (y, rest)) (same_symbol Section s.kind None s.name s.flags s.index 0 s.offset 0 s.size is t.0 t.1 t.2))

body_again : (kind : SymbolKind) (end : ℕ) (s : Symbol) (text rest : List ℕ) → s.kind ≡ kind → SpellsBody kind s text → body_at kind s.flags end (text ++ rest) ≡ Ok (s, rest)
body_again Function end s text rest is t = indexed_again Function end s text rest is t
body_again Datum end s text rest is t = datum_again end s text rest is t
body_again GlobalVar end s text rest is t = indexed_again GlobalVar end s text rest is t
body_again Section end s text rest is t = section_symbol_again end s text rest is t
body_again Table end s text rest is t = indexed_again Table end s text rest is t

pub symbol_reader : IsReader SpellsSymbol symbol_at
unfolding symbol_at
symbol_reader = record {
  found = λ end bytes s rest e.
      let a = bind_ok (byte_at end bytes) (λ byte. kind_of (end - length bytes) byte.0 >>= λ kind. unless_at is_foreign_symbol items.SymbolFlags end byte.1 >>= λ flags. body_at kind flags.0 end flags.1) (s, rest) e in
      let b = bind_ok (kind_of (end - length bytes) a.0.0) (λ kind. unless_at is_foreign_symbol items.SymbolFlags end a.0.1 >>= λ flags. body_at kind flags.0 end flags.1) (s, rest) a.2 in
      let c = bind_ok (unless_at is_foreign_symbol items.SymbolFlags end a.0.1) (λ flags. body_at b.0 flags.0 end flags.1) (s, rest) b.2 in
      let d = body_found b.0 c.0.0 end c.0.1 s rest c.2 in
      let byte : a.0.0 ≡ kind_code s.kind = kind_found (end - length bytes) a.0.0 b.0 b.1 ∙ ap kind_code (sym d.kind_is) in
      let kind = subst (λ (n : ℕ). Takes (SpellsByte n) bytes a.0.1) byte (byte_reader.found end bytes a.0.0 a.0.1 a.1) in
      let flags = subst (λ (n : ℕ). Takes (SpellsUnless is_foreign_symbol n) a.0.1 c.0.1) (sym d.flags_are) ((unless_reader is_foreign_symbol items.SymbolFlags).found end a.0.1 c.0.0 c.0.1 c.1) in
      let body : Takes (SpellsBody s.kind s) c.0.1 rest = record { text = d.text; spells = subst (λ (k : SymbolKind). SpellsBody k s d.text) (sym d.kind_is) d.spells; parts = d.parts } in
      Takes-then kind (Takes-then flags body);
  again = λ end s text rest t.
      let outer = regrouped t.0 t.1 text rest t.4 in
      let inner = regrouped t.3.0 t.3.1 t.1 rest t.3.4 in
      rw (outer, t.2, kind_again (end - length (kind_code s.kind ∷ t.1 ++ rest)) s.kind, inner, (unless_reader is_foreign_symbol items.SymbolFlags).again end s.flags t.3.0 (t.3.1 ++ rest) t.3.2)
      (body_again s.kind end s t.3.1 rest refl t.3.3);
}
