-- What is read is spelled so, and what is spelled so is read.
use Rattle.std.proofs.Common.{◌≡◌, ℕ, ℤ, pos, Bool, true, false, cond, List, [], ◌++◌, Result, Ok, refl, subst}
use Rattle.std.specs.Prelude.{IsTrue}
use Rattle.wasm_grammar.specs.wl_base.declared.item.Item.TheVariants as items
use Rattle.wasm_grammar.specs.declared.fault.Stop.{Stop}
use Rattle.wasm_grammar.specs.declared.fault.Stop.TheVariants.{Foreign}
use Rattle.wasm_grammar.specs.Grammar.{SpellsByte}
use Rattle.wasm_grammar.specs.Readers.{Takes, IsReader}
use Rattle.wasm_grammar.specs.Reading.{◌>>=◌, byte_at, u32_at, s32_at, vector_at}
use Rattle.wasm_grammar.specs.ReaderLaws.{bind_ok, ok_is, cond_ok, byte_reader, u32_reader, s32_reader, vector_reader, whole_found, whole_again, Takes-then, regrouped}
use Rattle.reloc_section.specs.declared.entry.Reloc.{Reloc}
use Rattle.reloc_section.specs.declared.section.RelocSection.{RelocSection}
use Rattle.reloc_section.specs.Kinds.{is_read, has_addend}
use Rattle.reloc_section.specs.Relocs.{SpellsAddend, SpellsReloc, SpellsRelocSection, known_kind, addend_at, reloc_at, reloc_section_at, relocs_at}

addend_found : (q : Bool) (end : ℕ) (bytes : List ℕ) (addend : ℤ) (rest : List ℕ) → (let r : Result (ℤ × List ℕ) Stop = cond q (s32_at end bytes) (Ok (pos 0, bytes)) in r ≡ Ok (addend, rest)) → Takes (SpellsAddend q addend) bytes rest
addend_found true end bytes addend rest e = let t = s32_reader.found end bytes addend rest e in record { text = t.text; spells = t.spells; parts = t.parts }
addend_found false end bytes addend rest e =
    subst (λ (p : ℤ × List ℕ). Takes (SpellsAddend false p.0) bytes p.1) (ok_is e) (record { text = []; spells = (refl, refl); parts = refl })

addend_again : (q : Bool) (end : ℕ) (addend : ℤ) (text rest : List ℕ) → SpellsAddend q addend text → (let r : Result (ℤ × List ℕ) Stop = cond q (s32_at end (text ++ rest)) (Ok (pos 0, text ++ rest)) in r ≡ Ok (addend, rest))
addend_again true end addend text rest s = s32_reader.again end addend text rest s
addend_again false end addend text rest s = rw (s.0, s.1) refl

pub addend_reader : (kind : ℕ) → IsReader (SpellsAddend (has_addend kind)) (addend_at kind)
addend_reader kind = record { found = addend_found (has_addend kind); again = addend_again (has_addend kind) }

pub reloc_reader : IsReader SpellsReloc reloc_at
unfolding reloc_at
reloc_reader = record {
  found = λ end bytes r rest e.
      let a = bind_ok (byte_at end bytes) (λ byte. known_kind byte.0 >>= λ kind. u32_at end byte.1 >>= λ offset. u32_at end offset.1 >>= λ index. addend_at kind end index.1 >>= λ addend. Ok (record { kind = kind; offset = offset.0; index = index.0; addend = addend.0 }, addend.1)) (r, rest) e in
      let b = bind_ok (known_kind a.0.0) (λ kind. u32_at end a.0.1 >>= λ offset. u32_at end offset.1 >>= λ index. addend_at kind end index.1 >>= λ addend. Ok (record { kind = kind; offset = offset.0; index = index.0; addend = addend.0 }, addend.1)) (r, rest) a.2 in
      let c = bind_ok (u32_at end a.0.1) (λ offset. u32_at end offset.1 >>= λ index. addend_at b.0 end index.1 >>= λ addend. Ok (record { kind = b.0; offset = offset.0; index = index.0; addend = addend.0 }, addend.1)) (r, rest) b.2 in
      let d = bind_ok (u32_at end c.0.1) (λ index. addend_at b.0 end index.1 >>= λ addend. Ok (record { kind = b.0; offset = c.0.0; index = index.0; addend = addend.0 }, addend.1)) (r, rest) c.2 in
      let f = bind_ok (addend_at b.0 end d.0.1) (λ addend. Ok (record { kind = b.0; offset = c.0.0; index = d.0.0; addend = addend.0 }, addend.1)) (r, rest) d.2 in
      let known = cond_ok (is_read a.0.0) (Foreign (items.RelocType a.0.0)) a.0.0 b.0 b.1 in
      let kind = subst (λ (n : ℕ). Takes (SpellsByte n) bytes a.0.1) known.1 (byte_reader.found end bytes a.0.0 a.0.1 a.1) in
      let all = Takes-then kind (Takes-then (u32_reader.found end a.0.1 c.0.0 c.0.1 c.1) (Takes-then (u32_reader.found end c.0.1 d.0.0 d.0.1 d.1) ((addend_reader b.0).found end d.0.1 f.0.0 f.0.1 f.1))) in
      subst (λ (p : Reloc × List ℕ). Takes (SpellsReloc p.0) bytes p.1) (ok_is f.2)
      (record { text = all.text; spells = (subst (λ (n : ℕ). IsTrue (is_read n)) known.1 known.0, all.spells); parts = all.parts });
  again = λ end r text rest s.
      let t = s.1 in
      let outer = regrouped t.0 t.1 text rest t.4 in
      let middle = regrouped t.3.0 t.3.1 t.1 rest t.3.4 in
      let inner = regrouped t.3.3.0 t.3.3.1 t.3.1 rest t.3.3.4 in
      rw (outer, t.2, s.0, middle, u32_reader.again end r.offset t.3.0 (t.3.1 ++ rest) t.3.2, inner, u32_reader.again end r.index t.3.3.0 (t.3.3.1 ++ rest) t.3.3.2, (addend_reader r.kind).again end r.addend t.3.3.1 rest t.3.3.3) refl;
}

pub reloc_section_reader : IsReader SpellsRelocSection reloc_section_at
unfolding reloc_section_at
reloc_section_reader = record {
  found = λ end bytes s rest e.
      let a = bind_ok (u32_at end bytes) (λ target. vector_at reloc_at end target.1 >>= λ entries. Ok (record { target = target.0; entries = entries.0 }, entries.1)) (s, rest) e in
      let b = bind_ok (vector_at reloc_at end a.0.1) (λ entries. Ok (record { target = a.0.0; entries = entries.0 }, entries.1)) (s, rest) a.2 in
      let entries = vector_reader SpellsReloc reloc_at reloc_reader in
      subst (λ (p : RelocSection × List ℕ). Takes (SpellsRelocSection p.0) bytes p.1) (ok_is b.2)
      (Takes-then (u32_reader.found end bytes a.0.0 a.0.1 a.1) (entries.found end a.0.1 b.0.0 b.0.1 b.1));
  again = λ end s text rest t.
      let entries = vector_reader SpellsReloc reloc_at reloc_reader in
      rw (regrouped t.0 t.1 text rest t.4, u32_reader.again end s.target t.0 (t.1 ++ rest) t.2, entries.again end s.entries t.1 rest t.3) refl;
}

-- A payload is read exactly where it is spelled so.
pub relocs_found : (end : ℕ) (payload : List ℕ) (s : RelocSection) → relocs_at end payload ≡ Ok s → SpellsRelocSection s payload
relocs_found = whole_found SpellsRelocSection reloc_section_at reloc_section_reader

pub relocs_again : (end : ℕ) (payload : List ℕ) (s : RelocSection) → SpellsRelocSection s payload → relocs_at end payload ≡ Ok s
relocs_again = whole_again SpellsRelocSection reloc_section_at reloc_section_reader
