-- Each entry of a section takes a byte at least.
use Rattle.std.proofs.Common.{ℕ, ◌+◌, ◌≤◌, List, [], ◌∷◌, ◌++◌, length, sym, subst, arith}
use Rattle.std.specs.Prelude.{flat_map}
use Rattle.std.proofs.lemmas.List.{length-append}
use Rattle.wasm_module.specs.wasm_instr.leb_codec.Shortest.{u32}
use Rattle.wasm_module.specs.declared.parts.Element.{Element}
use Rattle.image_emit.specs.Bytes.{Tree, vector, sized, section, func_type, limits, table, import_entry, global, export, element_head, element, data_section, custom_section, header, bytes_of}
use Rattle.image_emit.specs.Spelled.{entries, named_in_elements}
use Rattle.image_emit.proofs.SpelledLaws.{few, not_left_out, some_number, some_sized, some_func, some_import, some_table, some_limits, some_global, some_export, some_element}

-- so many in one part, and so many in the part behind
both : {m n : ℕ} (a b : List ℕ) → m ≤ length a → n ≤ length b → m + n ≤ length (a ++ b)
both a b low high = omega (arith, length-append a b)

first : {m : ℕ} (a b : List ℕ) → m ≤ length a → m ≤ length (a ++ b)
first a b low = omega (arith, length-append a b)

last : {n : ℕ} (a b : List ℕ) → n ≤ length b → n ≤ length (a ++ b)
last a b high = omega (arith, length-append a b)

-- what the items take, the section takes
held : {B : Type 0} (id n : ℕ) (item : B → List ℕ) (ys : List B) → n ≤ length (flat_map item ys) → n ≤ length (section id item ys)
held id n item [] le = le
held id n item (y ∷ ys) le =
    let inner : List ℕ = vector item (y ∷ ys) in
    let there : n ≤ length inner = last (u32 (length (y ∷ ys))) (flat_map item (y ∷ ys)) le in
    subst (λ (s : List ℕ). n ≤ length s) (sym (not_left_out id item y ys)) (last (id ∷ u32 (length inner)) inner there)

counted : {B : Type 0} (id : ℕ) (item : B → List ℕ) → ((y : B) → 1 ≤ length (item y)) → (ys : List B) → length ys ≤ length (section id item ys)
counted id item some ys = held id (length ys) item ys (few item some ys)

pub entries_fit : (t : Tree) → entries t ≤ length (bytes_of t)
unfolding bytes_of
entries_fit t =
    let a : List ℕ = header ++ custom_section t.custom in
    let s1 : List ℕ = section 1 func_type t.types in
    let s2 : List ℕ = section 2 import_entry t.imports in
    let s3 : List ℕ = section 3 u32 t.functions in
    let s4 : List ℕ = section 4 table t.tables in
    let s5 : List ℕ = section 5 limits t.memories in
    let s6 : List ℕ = section 6 global t.globals in
    let s7 : List ℕ = section 7 export t.exports in
    let s9 : List ℕ = section 9 element t.elements in
    let s10 : List ℕ = section 10 sized t.bodies in
    first (a ++ s1 ++ s2 ++ s3 ++ s4 ++ s5 ++ s6 ++ s7 ++ s9 ++ s10) (data_section t.data_offset t.blocks) (
    both (a ++ s1 ++ s2 ++ s3 ++ s4 ++ s5 ++ s6 ++ s7 ++ s9) s10 (
    both (a ++ s1 ++ s2 ++ s3 ++ s4 ++ s5 ++ s6 ++ s7) s9 (
    both (a ++ s1 ++ s2 ++ s3 ++ s4 ++ s5 ++ s6) s7 (
    both (a ++ s1 ++ s2 ++ s3 ++ s4 ++ s5) s6 (
    both (a ++ s1 ++ s2 ++ s3 ++ s4) s5 (
    both (a ++ s1 ++ s2 ++ s3) s4 (
    both (a ++ s1 ++ s2) s3 (
    both (a ++ s1) s2
    (last a s1 (counted 1 func_type some_func t.types))
    (counted 2 import_entry some_import t.imports))
    (counted 3 u32 some_number t.functions))
    (counted 4 table some_table t.tables))
    (counted 5 limits some_limits t.memories))
    (counted 6 global some_global t.globals))
    (counted 7 export some_export t.exports))
    (counted 9 element some_element t.elements))
    (counted 10 sized some_sized t.bodies))

-- ---- the functions of element segments

functions_of_one : (e : Element) → length e.functions ≤ length (element e)
functions_of_one e =
    last (element_head e.table e.offset) (vector u32 e.functions) (last (u32 (length e.functions)) (flat_map u32 e.functions) (few u32 some_number e.functions))

functions_of_all : (es : List Element) → length (flat_map (λ (e : Element). e.functions) es) ≤ length (flat_map element es)
functions_of_all [] = omega arith
functions_of_all (e ∷ es) =
    let here : length e.functions + length (flat_map (λ (x : Element). x.functions) es) ≤ length (element e ++ flat_map element es) =
    both (element e) (flat_map element es) (functions_of_one e) (functions_of_all es) in
    omega (arith, here, length-append e.functions (flat_map (λ (x : Element). x.functions) es))

pub named_fit : (t : Tree) → length (named_in_elements t) ≤ length (bytes_of t)
unfolding bytes_of
named_fit t =
    let a : List ℕ = header ++ custom_section t.custom ++ section 1 func_type t.types ++ section 2 import_entry t.imports ++ section 3 u32 t.functions ++ section 4 table t.tables ++ section 5 limits t.memories ++ section 6 global t.globals ++ section 7 export t.exports in
    let s9 : List ℕ = section 9 element t.elements in
    let s10 : List ℕ = section 10 sized t.bodies in
    first (a ++ s9 ++ s10) (data_section t.data_offset t.blocks) (first (a ++ s9) s10 (last a s9 (held 9 (length (named_in_elements t)) element t.elements (functions_of_all t.elements))))
