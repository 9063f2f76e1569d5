-- The foreign items that reading comes to: types of relocations alone.
use Rattle.std.proofs.Common.{◌≡◌, ℕ, zero, suc, Bool, true, false, cond, List, [], ◌∷◌, Result, Ok, Err, refl, sym, subst}
use Rattle.wasm_grammar.specs.leb_codec.Spelling.{magnitude, signed_value}
use Rattle.wasm_grammar.specs.leb_codec.Reading.{number_at}
use Rattle.wasm_grammar.specs.leb_codec.declared.fault.LebFault.{LebFault}
use Rattle.wasm_grammar.specs.leb_codec.declared.form.Form.TheVariants.{U32, S32}
use Rattle.wasm_grammar.specs.wl_base.declared.item.Item.{Item}
use Rattle.wasm_grammar.specs.wl_base.declared.item.Item.TheVariants as items
use Rattle.wasm_grammar.specs.declared.fault.Stop.{Stop}
use Rattle.wasm_grammar.specs.declared.fault.Stop.TheVariants.{Broken, Foreign}
use Rattle.wasm_grammar.specs.declared.fault.ReadFault.{ReadFault}
use Rattle.wasm_grammar.specs.declared.fault.ReadFault.TheVariants.{Stopped, OutOfMemory}
use Rattle.wasm_grammar.specs.Fault.{Fails}
use Rattle.wasm_grammar.specs.Reading.{◌>>=◌, behind, byte_at, u32_at, s32_at, many_at, vector_at, ended, whole}
use Rattle.reloc_section.specs.Fault.{item_fault, reloc_fault, Tells}
use Rattle.reloc_section.specs.Kinds.{is_read, has_addend}
use Rattle.reloc_section.specs.Relocs.{known_kind, addend_at, reloc_at, reloc_section_at, relocs_at}
use Rattle.reloc_section.specs.RelocLaws.{relocs_again}
use Rattle.reloc_section.specs.Relocs.{SpellsRelocSection}
use Rattle.reloc_section.specs.declared.section.RelocSection.{RelocSection}

-- a foreign answer names the type of a relocation
abbrev pub NamesType : {A : Type 0} → Result A Stop → Type 0
NamesType (Ok x) = Unit {0}
NamesType (Err (Broken place)) = Unit {0}
NamesType (Err (Foreign item)) = (kind : ℕ) × (item ≡ items.RelocType kind)

bind_names : {A B : Type 0} (r : Result A Stop) (f : A → Result B Stop) → NamesType r → ((x : A) → NamesType (f x)) → NamesType (r >>= f)
bind_names (Ok x) f n g = g x
bind_names (Err (Broken place)) f n g = tt
bind_names (Err (Foreign item)) f n g = n

cond_names : {A : Type 0} (q : Bool) (a b : Result A Stop) → NamesType a → NamesType b → NamesType (cond q a b)
cond_names true a b n m = n
cond_names false a b n m = m

byte_names : (end : ℕ) (bytes : List ℕ) → NamesType (byte_at end bytes)
byte_names end [] = tt
byte_names end (b ∷ bytes) = tt

behind_names : {N : Type 0} (end : ℕ) (bytes : List ℕ) (r : Result (N × ℕ) LebFault) → NamesType (behind end bytes r)
behind_names end bytes (Ok found) = tt
behind_names end bytes (Err e) = tt

u32_names : (end : ℕ) (bytes : List ℕ) → NamesType (u32_at end bytes)
unfolding u32_at
u32_names end bytes = behind_names end bytes (number_at magnitude U32 bytes)

s32_names : (end : ℕ) (bytes : List ℕ) → NamesType (s32_at end bytes)
unfolding s32_at
s32_names end bytes = behind_names end bytes (number_at signed_value S32 bytes)

reloc_names : (end : ℕ) (bytes : List ℕ) → NamesType (reloc_at end bytes)
unfolding reloc_at
reloc_names end bytes =
    bind_names (byte_at end bytes) _ (byte_names end bytes) (λ byte.
    bind_names (known_kind byte.0) _ (cond_names (is_read byte.0) (Ok byte.0) (Err (Foreign (items.RelocType byte.0))) tt (byte.0, refl)) (λ kind.
    bind_names (u32_at end byte.1) _ (u32_names end byte.1) (λ offset.
    bind_names (u32_at end offset.1) _ (u32_names end offset.1) (λ index.
    bind_names (addend_at kind end index.1) _ (cond_names (has_addend kind) (s32_at end index.1) (Ok (_, index.1)) (s32_names end index.1) tt) (λ addend. tt)))))

many_names : (n end : ℕ) (bytes : List ℕ) → NamesType (many_at reloc_at n end bytes)
unfolding many_at
many_names zero end bytes = tt
many_names (suc n) end bytes =
    bind_names (reloc_at end bytes) _ (reloc_names end bytes) (λ first. bind_names (many_at reloc_at n end first.1) _ (many_names n end first.1) (λ others. tt))

ended_names : {A : Type 0} (end : ℕ) (x : A) (rest : List ℕ) → NamesType (ended end x rest)
ended_names end x [] = tt
ended_names end x (b ∷ rest) = tt

relocs_name : (end : ℕ) (bytes : List ℕ) → NamesType (relocs_at end bytes)
unfolding whole reloc_section_at vector_at
relocs_name end bytes =
    bind_names (reloc_section_at end bytes) _
    (bind_names (u32_at end bytes) _ (u32_names end bytes) (λ target.
    bind_names (vector_at reloc_at end target.1) _
    (bind_names (u32_at end target.1) _ (u32_names end target.1) (λ count. many_names count.0 end count.1)) (λ entries. tt)))
    (λ s. ended_names end s.0 s.1)

-- so the fault of the call tells what reading gives
tells : (e : ReadFault) (read : Result RelocSection Stop) → NamesType read → Fails e read → Tells (Err (reloc_fault e)) read
tells (Stopped (Broken place)) read n f = (place, f)
tells OutOfMemory read n f = tt
tells (Stopped (Foreign item)) read n f =
    let k : (kind : ℕ) × (item ≡ items.RelocType kind) = subst NamesType f n in
    subst (λ (i : Item). read ≡ Err (Foreign i) → Tells (Err (item_fault i)) read) (sym k.1) (λ e. e) f

pub fault_told : (e : ReadFault) (end : ℕ) (bytes : List ℕ) → Fails e (relocs_at end bytes) → Tells (Err (reloc_fault e)) (relocs_at end bytes)
fault_told e end bytes f = tells e (relocs_at end bytes) (relocs_name end bytes) f

-- and where the payload spells a section, only want of memory is answered
pub memory_alone : (e : ReadFault) (end : ℕ) (bytes : List ℕ) → Fails e (relocs_at end bytes) → (s : RelocSection) → SpellsRelocSection s bytes → Tells (Err (reloc_fault e)) (Ok s)
memory_alone e end bytes f s spelled = subst (Tells (Err (reloc_fault e))) (relocs_again end bytes s spelled) (fault_told e end bytes f)
