-- What is written spells the value.
use Rattle.std.proofs.Common.{◌≡◌, ℕ, suc, ◌≤◌, Bool, true, false, cond, List, [], ◌∷◌, ◌++◌, length, eqb, refl, sym, ap, ◌∙◌, append_assoc, arith}
use Rattle.std.specs.Prelude.{IsUtf8}
use Rattle.std.specs.List.{All, flat_map}
use Rattle.std.proofs.lemmas.Bool.{ne_eqb}
use Rattle.std.proofs.lemmas.List.{append-nil, length-append}
use Rattle.leb_codec.specs.Shortest.{u32}
use Rattle.leb_codec.proofs.Computed.{u32_spells}
use Rattle.wasm_grammar.specs.Grammar.{SpellsName, SpellsBytes, SpellsMany, SpellsVector}
use Rattle.dylink_out.specs.declared.dylink.Dylink.{Dylink}
use Rattle.dylink_out.specs.declared.dylink.ExportInfo.{ExportInfo}
use Rattle.dylink_out.specs.declared.dylink.ImportInfo.{ImportInfo}
use Rattle.image_emit.specs.Bytes.{vector, sized, section}
use Rattle.dylink_out.specs.Shared.{sizes, export_info, import_info, dylink_payload}
use Rattle.dylink_out.specs.Fits.{IsU32, NameFits, ExportFits, ImportFits, ListFits, DylinkFits, HasNames}
use Rattle.wasm_grammar.specs.Subsections.{Subsection, SpellsSubsection, payloads_of}
use Rattle.dylink_out.specs.Payload.{SpellsSizes, SpellsExportInfo, SpellsImportInfo, IsSaid, sizes_of, SpellsDylink}

first_of : {A : Type 0} (P : A → Type 0) (x : A) (xs : List A) → All P (x ∷ xs) → P x
first_of P x xs h = h 0 x (omega arith)

others_of : {A : Type 0} (P : A → Type 0) (x : A) (xs : List A) → All P (x ∷ xs) → All P xs
others_of P x xs h = λ k d lt. h (suc k) d (omega (arith, lt))

-- ---- items

many_spelled : {A : Type 0} (Item : A → List ℕ → Type 0) (item : A → List ℕ) (Fits Named : A → Type 0) → ((x : A) → Fits x → Named x → Item x (item x))
    → (xs : List A) → All Fits xs → All Named xs → SpellsMany Item xs (flat_map item xs)
many_spelled Item item Fits Named one [] f n = refl
many_spelled Item item Fits Named one (x ∷ xs) f n =
    (item x, flat_map item xs, one x (first_of Fits x xs f) (first_of Named x xs n), many_spelled Item item Fits Named one xs (others_of Fits x xs f) (others_of Named x xs n), refl)

vector_spelled : {A : Type 0} (Item : A → List ℕ → Type 0) (item : A → List ℕ) (Fits Named : A → Type 0) → ((x : A) → Fits x → Named x → Item x (item x))
    → (xs : List A) → ListFits item Fits xs → All Named xs → SpellsVector Item xs (vector item xs)
vector_spelled Item item Fits Named one xs f n =
    (u32 (length xs), flat_map item xs, u32_spells (length xs) f.count, many_spelled Item item Fits Named one xs f.each n, refl)

bytes_spelled : (text : List ℕ) → IsU32 (length text) → SpellsBytes text (sized text)
bytes_spelled text few = (u32 (length text), text, u32_spells (length text) few, refl, refl)

name_spelled : (name : List ℕ) → NameFits name → IsUtf8 name → SpellsName name (sized name)
name_spelled name few utf8 = (utf8, bytes_spelled name few)

export_spelled : (e : ExportInfo) → ExportFits e → IsUtf8 e.name → SpellsExportInfo e (export_info e)
export_spelled e f n = (sized e.name, u32 e.flags, name_spelled e.name f.name n, u32_spells e.flags f.flags, refl)

import_spelled : (i : ImportInfo) → ImportFits i → IsUtf8 i.«module» × IsUtf8 i.field → SpellsImportInfo i (import_info i)
import_spelled i f n =
    (sized i.«module», sized i.field ++ u32 i.flags, name_spelled i.«module» f.place n.0, (sized i.field, u32 i.flags, name_spelled i.field f.field n.1, u32_spells i.flags f.flags, refl), append_assoc (sized i.«module») (sized i.field) (u32 i.flags))

-- ---- subsections

-- a subsection that has items, or none
abbrev pub made : {A : Type 0} → ℕ → (A → List ℕ) → List A → List Subsection
made id item [] = []
made id item (x ∷ xs) = record { kind = id; payload = vector item (x ∷ xs) } ∷ []

part_spelled : (id : ℕ) (payload : List ℕ) → IsU32 (length payload) → (let s : Subsection = record { kind = id; payload = payload } in SpellsSubsection s (id ∷ sized payload))
part_spelled id payload few = (id ∷ [], sized payload, refl, bytes_spelled payload few, refl)

section_some : {A : Type 0} (id : ℕ) (item : A → List ℕ) (x : A) (xs : List A) → section id item (x ∷ xs) ≡ id ∷ sized (vector item (x ∷ xs))
section_some id item x xs = let some : eqb (length (x ∷ xs)) 0 ≡ false = ne_eqb (length (x ∷ xs)) 0 (λ e. omega (arith, e)) in rw some refl

made_spelled : {A : Type 0} (id : ℕ) (item : A → List ℕ) (Fits : A → Type 0) (xs : List A) → ListFits item Fits xs → SpellsMany SpellsSubsection (made id item xs) (section id item xs)
made_spelled id item Fits [] f = refl
made_spelled id item Fits (x ∷ xs) f =
    (id ∷ sized (vector item (x ∷ xs)), [], part_spelled id (vector item (x ∷ xs)) (f.len (omega arith)), refl, section_some id item x xs ∙ sym (append-nil (id ∷ sized (vector item (x ∷ xs)))))

many_both : (a b : List Subsection) (s t : List ℕ) → SpellsMany SpellsSubsection a s → SpellsMany SpellsSubsection b t → SpellsMany SpellsSubsection (a ++ b) (s ++ t)
many_both [] b s t p q = rw p q
many_both (x ∷ a) b s t p q = (p.0, p.1 ++ t, p.2, many_both a b p.1 t p.3 q, ap (λ (r : List ℕ). r ++ t) p.4 ∙ append_assoc p.0 p.1 t)

-- the payloads of a number among several subsections
payloads_both : (k : ℕ) (a b : List Subsection) → payloads_of k (a ++ b) ≡ payloads_of k a ++ payloads_of k b
payloads_both k [] b = refl
payloads_both k (x ∷ a) b = by_kind (payloads_both k a b) (eqb x.kind k)
  where
    by_kind : payloads_of k (a ++ b) ≡ payloads_of k a ++ payloads_of k b → (q : Bool) → cond q (x.payload ∷ payloads_of k (a ++ b)) (payloads_of k (a ++ b)) ≡ cond q (x.payload ∷ payloads_of k a) (payloads_of k a) ++ payloads_of k b
    by_kind others true = ap (λ (l : List (List ℕ)). x.payload ∷ l) others
    by_kind others false = others

no_payload : {A : Type 0} (k id : ℕ) (item : A → List ℕ) (xs : List A) → eqb id k ≡ false → payloads_of k (made id item xs) ≡ []
no_payload k id item [] other = refl
no_payload k id item (x ∷ xs) other = rw other refl

-- what the subsection of this number says
says_itself : {A : Type 0} (Item : A → List ℕ → Type 0) (item : A → List ℕ) (id : ℕ) (xs : List A) → eqb id id ≡ true → SpellsVector Item xs (vector item xs) → IsSaid (SpellsVector Item) [] (payloads_of id (made id item xs)) xs
says_itself Item item id [] same v = refl
says_itself Item item id (x ∷ xs) same v = rw same v

-- ---- the whole

abbrev pub parts : Dylink → List Subsection
parts d = record { kind = 1; payload = sizes d } ∷ (made 2 sized d.needed ++ (made 3 export_info d.exports ++ made 4 import_info d.imports))

-- among the three lists
of_three : (k : ℕ) (a b c : List Subsection) → payloads_of k (a ++ (b ++ c)) ≡ payloads_of k a ++ (payloads_of k b ++ payloads_of k c)
of_three k a b c = payloads_both k a (b ++ c) ∙ ap (λ (l : List (List ℕ)). payloads_of k a ++ l) (payloads_both k b c)

none_else : (d : Dylink) → payloads_of 1 (parts d) ≡ sizes d ∷ []
none_else d =
    let a = no_payload 1 2 sized d.needed refl in
    let b = no_payload 1 3 export_info d.exports refl in
    let c = no_payload 1 4 import_info d.imports refl in
    ap (λ (l : List (List ℕ)). sizes d ∷ l) (of_three 1 (made 2 sized d.needed) (made 3 export_info d.exports) (made 4 import_info d.imports) ∙ rw (a, b, c) refl)

needed_alone : (d : Dylink) → payloads_of 2 (parts d) ≡ payloads_of 2 (made 2 sized d.needed)
needed_alone d =
    let b = no_payload 2 3 export_info d.exports refl in
    let c = no_payload 2 4 import_info d.imports refl in
    of_three 2 (made 2 sized d.needed) (made 3 export_info d.exports) (made 4 import_info d.imports) ∙ rw (b, c) (append-nil (payloads_of 2 (made 2 sized d.needed)))

exports_alone : (d : Dylink) → payloads_of 3 (parts d) ≡ payloads_of 3 (made 3 export_info d.exports)
exports_alone d =
    let a = no_payload 3 2 sized d.needed refl in
    let c = no_payload 3 4 import_info d.imports refl in
    of_three 3 (made 2 sized d.needed) (made 3 export_info d.exports) (made 4 import_info d.imports) ∙ rw (a, c) (append-nil (payloads_of 3 (made 3 export_info d.exports)))

imports_alone : (d : Dylink) → payloads_of 4 (parts d) ≡ payloads_of 4 (made 4 import_info d.imports)
imports_alone d =
    let a = no_payload 4 2 sized d.needed refl in
    let b = no_payload 4 3 export_info d.exports refl in
    of_three 4 (made 2 sized d.needed) (made 3 export_info d.exports) (made 4 import_info d.imports) ∙ rw (a, b) refl

-- the sizes, one behind another
sizes_parts : (d : Dylink) → sizes d ≡ u32 d.memory_size ++ (u32 d.memory_align ++ (u32 d.table_size ++ u32 d.table_align))
sizes_parts d = simp append_assoc

sizes_spelled : (d : Dylink) → DylinkFits d → SpellsSizes (sizes_of d) (sizes d)
sizes_spelled d f =
    let a = u32_spells d.memory_size f.memory_size in
    let b = u32_spells d.memory_align f.memory_align in
    let c = u32_spells d.table_size f.table_size in
    let e = u32_spells d.table_align f.table_align in (
      u32 d.memory_size,
      u32 d.memory_align ++ (u32 d.table_size ++ u32 d.table_align),
      a,
      (u32 d.memory_align, u32 d.table_size ++ u32 d.table_align, b, (u32 d.table_size, u32 d.table_align, c, e, refl), refl),
      sizes_parts d,
    )

sizes_few : (d : Dylink) → DylinkFits d → IsU32 (length (sizes d))
sizes_few d f =
    let a : length (u32 d.memory_size) ≤ 5 = (u32_spells d.memory_size f.memory_size).spelled.within in
    let b : length (u32 d.memory_align) ≤ 5 = (u32_spells d.memory_align f.memory_align).spelled.within in
    let c : length (u32 d.table_size) ≤ 5 = (u32_spells d.table_size f.table_size).spelled.within in
    let e : length (u32 d.table_align) ≤ 5 = (u32_spells d.table_align f.table_align).spelled.within in
    let one = length-append (u32 d.memory_size ++ u32 d.memory_align ++ u32 d.table_size) (u32 d.table_align) in
    let two = length-append (u32 d.memory_size ++ u32 d.memory_align) (u32 d.table_size) in
    let three = length-append (u32 d.memory_size) (u32 d.memory_align) in
    omega (arith, a, b, c, e, one, two, three)

whole_parts : (d : Dylink) → dylink_payload d ≡ (1 ∷ sized (sizes d)) ++ (section 2 sized d.needed ++ (section 3 export_info d.exports ++ section 4 import_info d.imports))
unfolding dylink_payload
whole_parts d = regroup (sized (sizes d)) (section 2 sized d.needed) (section 3 export_info d.exports) (section 4 import_info d.imports)
  where
    regroup : (a b c e : List ℕ) → 1 ∷ a ++ b ++ c ++ e ≡ (1 ∷ a) ++ (b ++ (c ++ e))
    regroup a b c e = simp append_assoc

pub written_spells : (d : Dylink) (bytes : List ℕ) → bytes ≡ dylink_payload d → DylinkFits d → HasNames d → SpellsDylink d bytes
written_spells d bytes is f n =
    let v2 = vector_spelled SpellsName sized NameFits (λ name. IsUtf8 name) name_spelled d.needed f.needed n.needed in
    let v3 = vector_spelled SpellsExportInfo export_info ExportFits (λ e. IsUtf8 e.name) export_spelled d.exports f.exports n.exports in
    let v4 = vector_spelled SpellsImportInfo import_info ImportFits (λ i. IsUtf8 i.«module» × IsUtf8 i.field) import_spelled d.imports f.imports n.imports in
    let m2 = made_spelled 2 sized NameFits d.needed f.needed in
    let m3 = made_spelled 3 export_info ExportFits d.exports f.exports in
    let m4 = made_spelled 4 import_info ImportFits d.imports f.imports in
    let m34 = many_both (made 3 export_info d.exports) (made 4 import_info d.imports) (section 3 export_info d.exports) (section 4 import_info d.imports) m3 m4 in
    let m234 = many_both (made 2 sized d.needed) (made 3 export_info d.exports ++ made 4 import_info d.imports) (section 2 sized d.needed) (section 3 export_info d.exports ++ section 4 import_info d.imports) m2 m34 in
    record {
      subsections = parts d;
      spelled = (1 ∷ sized (sizes d), section 2 sized d.needed ++ (section 3 export_info d.exports ++ section 4 import_info d.imports), part_spelled 1 (sizes d) (sizes_few d f), m234, is ∙ whole_parts d);
      sizes = rw (none_else d) (sizes_spelled d f);
      needed = rw (needed_alone d) (says_itself SpellsName sized 2 d.needed refl v2);
      exports = rw (exports_alone d) (says_itself SpellsExportInfo export_info 3 d.exports refl v3);
      imports = rw (imports_alone d) (says_itself SpellsImportInfo import_info 4 d.imports refl v4);
    }
