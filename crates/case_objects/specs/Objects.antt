-- The objects of the generated case, section by section.
--
-- Object k of a case of n defines the functions fK and w and the datum dK, where K is k in decimal. more says whether
-- another object follows: all but the last call the next one's function, which they import.
use Rattle.std.specs.Prelude.{ℕ, zero, suc, ◌+◌, Bool, List, [], ◌∷◌, ◌++◌, codes, if◌then◌else◌, nat_lt, pos}
use Rattle.std.specs.List.{flat_map}
use Rattle.std.specs.Int.{w32, to_le_bytes}
use Rattle.wasm_instr.specs.leb_codec.Shortest.{s32_padded}
use Rattle.case_objects.specs.Parts.{sized, section, custom, letter_name}

abbrev pub f_name : ℕ → List ℕ
f_name k = letter_name 0x66 k

abbrev pub d_name : ℕ → List ℕ
d_name k = letter_name 0x64 k

-- the magic and the version (Core 5.5.16), and the type section: type 0 is () to i32 (Core 5.5.4)
abbrev pub head : List ℕ
head = 0x00 ∷ 0x61 ∷ 0x73 ∷ 0x6D ∷ 1 ∷ 0 ∷ 0 ∷ 0 ∷ section 1 (1 ∷ 0x60 ∷ 0 ∷ 1 ∷ 0x7F ∷ [])

-- a memory of one page or more (Core 5.5.5)
abbrev pub memory_import : List ℕ
memory_import = sized (codes "env") ++ sized (codes "__linear_memory") ++ 2 ∷ 0 ∷ 1 ∷ []

-- a function of type 0
abbrev pub next_import : ℕ → List ℕ
next_import k = sized (codes "env") ++ sized (f_name (k + 1)) ++ 0 ∷ 0 ∷ []

abbrev pub imports : Bool → ℕ → List ℕ
imports more k = section 2 (if more then 2 ∷ memory_import ++ next_import k else 1 ∷ memory_import)

-- two functions of type 0 (Core 5.5.6)
abbrev pub functions : List ℕ
functions = section 3 (2 ∷ 0 ∷ 0 ∷ [])

-- where a relocation writes: 0 in five bytes (Linking.md, "Relocation Sections")
abbrev pub window : List ℕ
window = 0x80 ∷ 0x80 ∷ 0x80 ∷ 0x80 ∷ 0 ∷ []

-- call (Core 5.4.1)
abbrev pub call : List ℕ
call = 0x10 ∷ window

-- i32.const of the datum, i32.load with alignment 2 and offset 0, i32.add, end (Core 5.4.6, 5.4.7, 5.4.9)
abbrev pub ending : List ℕ
ending = 0x41 ∷ window ++ 0x28 ∷ 2 ∷ 0 ∷ 0x6A ∷ 0x0B ∷ []

-- no locals; the next object's function and w are called and added, and then the datum is
abbrev pub f_body : Bool → List ℕ
f_body more = if more then 0 ∷ call ++ call ++ 0x6A ∷ ending else 0 ∷ call ++ ending

-- no locals; i32.const of the number in five bytes, end
abbrev pub w_body : ℕ → List ℕ
w_body k = 0 ∷ 0x41 ∷ s32_padded (pos k) ++ 0x0B ∷ []

-- two bodies behind their sizes (Core 5.5.13)
abbrev pub bodies : Bool → ℕ → List ℕ
bodies more k = 2 ∷ sized (f_body more) ++ sized (w_body k)

abbrev pub code : Bool → ℕ → List ℕ
code more k = section 10 (bodies more k)

-- one active segment at i32.const 0 (Core 5.5.14)
abbrev pub data_section : ℕ → List ℕ
data_section k = section 11 (1 ∷ 0 ∷ 0x41 ∷ 0 ∷ 0x0B ∷ sized (to_le_bytes w32 (k + 1)))

-- the index of the object's first own function: behind the one that it imports
abbrev pub first : Bool → ℕ
first more = if more then 1 else 0

-- Linking.md, "Symbol Table Subsection". A function: its flags, its index, its name.
abbrev pub function_symbol : ℕ → ℕ → List ℕ → List ℕ
function_symbol flags index name = 0 ∷ flags ∷ index ∷ sized name

-- A datum of segment 0 without flags: its name, the segment, the place in it, and the size.
abbrev pub datum_symbol : List ℕ → List ℕ
datum_symbol name = 1 ∷ 0 ∷ sized name ++ 0 ∷ 0 ∷ 4 ∷ []

-- The function of index 0, which is imported and has its import's name: WASM_SYM_UNDEFINED.
abbrev pub undefined_symbol : List ℕ
undefined_symbol = 0 ∷ 0x10 ∷ 0 ∷ []

-- w is WASM_SYM_BINDING_WEAK
unfoldable pub symbols : Bool → ℕ → List ℕ
symbols more k =
    (if more then 4 else 3) ∷ function_symbol 0 (first more) (f_name k) ++ function_symbol 1 (first more + 1) (codes "w") ++ datum_symbol (d_name k)
    ++ (if more then undefined_symbol else [])

-- one segment: its name, its alignment as a power of 2, its flags (Linking.md, WASM_SEGMENT_INFO)
abbrev pub infos : List ℕ
infos = 1 ∷ sized (codes ".data") ++ 2 ∷ 0 ∷ []

-- one group: its name, its flags, and its one member, the function w (Linking.md, "COMDAT Info Subsection")
abbrev pub groups : Bool → List ℕ
groups more = 1 ∷ sized (codes "w") ++ 0 ∷ 1 ∷ 1 ∷ (first more + 1) ∷ []

-- version 2; subsections 8, 5 and 7 (Linking.md, "Linking Metadata Section")
abbrev pub linking : Bool → ℕ → List ℕ
linking more k = custom (codes "linking") (2 ∷ section 8 (symbols more k) ++ section 5 infos ++ section 7 (groups more))

-- Linking.md, "Relocation Sections": R_WASM_FUNCTION_INDEX_LEB, its place in the section's contents, and its symbol
abbrev pub index_reloc : ℕ → ℕ → List ℕ
index_reloc place symbol = 0 ∷ place ∷ symbol ∷ []

-- R_WASM_MEMORY_ADDR_SLEB, its place, its symbol, and the addend 0
abbrev pub address_reloc : ℕ → ℕ → List ℕ
address_reloc place symbol = 4 ∷ place ∷ symbol ∷ 0 ∷ []

-- The relocations of the code section, which has place 3: one for each window, with the symbol that is called or loaded.
-- The next object's function is symbol 3, w symbol 1, and the datum symbol 2.
abbrev pub entries : Bool → List ℕ
entries more =
    if more then 3 ∷ 3 ∷ index_reloc 4 3 ++ index_reloc 10 1 ++ address_reloc 17 2
    else 3 ∷ 2 ∷ index_reloc 4 1 ++ address_reloc 10 2

abbrev pub relocs : Bool → List ℕ
relocs more = custom (codes "reloc.CODE") (entries more)

-- an object: the header and its sections (Core 5.5.16)
unfoldable pub object_of : Bool → ℕ → List ℕ
object_of more k =
    flat_map (λ part. part) (head ∷ imports more k ∷ functions ∷ code more k ∷ data_section k ∷ linking more k ∷ relocs more ∷ [])

-- object k of a case of n
abbrev pub object : ℕ → ℕ → List ℕ
object n k = object_of (nat_lt (k + 1) n) k

-- the objects of a case of n up to a number
abbrev pub objects_below : ℕ → ℕ → List (List ℕ)
objects_below n zero = []
objects_below n (suc k) = objects_below n k ++ object n k ∷ []

-- the objects of a case of n, in their order
abbrev pub objects : ℕ → List (List ℕ)
objects n = objects_below n n
