-- The bytes of the object by what plain data say: each word here is the definition's, of the object that they stand for.
use Rattle.std.specs.Prelude.{ℕ, ◌+◌, nat_le, Bool, List, [], ◌∷◌, ◌++◌, map, length, flat_map, sum_by, codes}
use Rattle.std.specs.List.{list_all}
use Rattle.leb_codec.specs.Shortest.{u32}
use Rattle.reloc_section.specs.declared.entry.Reloc.{Reloc}
use Rattle.reloc_apply.specs.Apart.{size_of}
use Rattle.link_rules.specs.Values.{form_of}
use Rattle.image_emit.specs.Bytes.{header, section, sized, vector, func_type, import_entry, export}
use Rattle.partial_rules.specs.Relocatable.{init, reloc, later, custom, reloc_section, present}
use Rattle.link_program.specs.declared.named.Named.{Named}
use Rattle.partial_bytes.specs.declared.tree.Numbers.{Numbers}
use Rattle.partial_bytes.specs.declared.tree.Part.{Part}
use Rattle.partial_bytes.specs.declared.tree.Tree.{Tree}
use Rattle.partial_bytes.specs.declared.part.PartKind.{PartKind}
use Rattle.partial_bytes.specs.declared.part.PartKind.TheVariants.{Body, Segment}
use Rattle.partial_bytes.specs.Relocs.{reloc_by, relocs_of}
use Rattle.partial_bytes.specs.Told.{emptied}
use Rattle.partial_bytes.specs.Items.{global_row, info_row, symbol_row, group_row}

-- ---- the parts

-- What stands before a part's size: nothing, or the flag 0 and the offset 0.
abbrev pub lead : PartKind → List ℕ
lead Body = []
lead Segment = 0 ∷ 0x41 ∷ 0 ∷ 0x0B ∷ []

-- What leads to a part.
abbrev pub head_of : PartKind → List ℕ → List ℕ
head_of kind bytes = lead kind ++ u32 (length bytes)

abbrev pub part_spelled : PartKind → Part → List ℕ
part_spelled kind p = head_of kind p.bytes.now ++ emptied (relocs_of p) p.bytes.now

-- How long what leads to a part is, and the part with it.
abbrev pub head_len : PartKind → Part → ℕ
head_len kind p = length (lead kind) + length (u32 (length p.bytes.now))

abbrev pub part_len : PartKind → Part → ℕ
part_len kind p = head_len kind p + length p.bytes.now

abbrev pub parts_len : PartKind → List Part → ℕ
parts_len kind ps = sum_by (part_len kind) ps

-- How long the payload of their section is.
abbrev pub payload_len : PartKind → List Part → ℕ
payload_len kind ps = length (u32 (length ps)) + parts_len kind ps

abbrev pub parts_section : ℕ → PartKind → List Part → List ℕ
parts_section id kind [] = []
parts_section id kind (p ∷ ps) =
    id ∷ u32 (payload_len kind (p ∷ ps)) ++ u32 (length (p ∷ ps)) ++ flat_map (part_spelled kind) (p ∷ ps)

-- ---- their relocations

-- By their places in the section's payload, of the parts that stand there from a place on.
abbrev pub relocs_at : PartKind → ℕ → List Part → List Reloc
relocs_at kind at [] = []
relocs_at kind at (p ∷ ps) =
    map {A = Reloc} {B = Reloc} (later (at + head_len kind p)) (relocs_of p) ++ relocs_at kind (at + head_len kind p + length p.bytes.now) ps

abbrev pub relocs_in : PartKind → List Part → List Reloc
relocs_in kind ps = relocs_at kind (length (u32 (length ps))) ps

-- The entries of what windows name, so much later.
abbrev pub entries : ℕ → Numbers → List Named → List ℕ
entries from n named = flat_map (λ x. reloc (later from (reloc_by n x))) named

abbrev pub part_entries : ℕ → Part → List ℕ
part_entries from p = entries from p.numbers.now p.named.now

-- ---- what is no part

-- All before the code section.
abbrev pub front_of : Tree → List ℕ
front_of t =
    header
    ++ section 1 func_type t.types.now
    ++ section 2 import_entry t.imports.now
    ++ section 3 u32 t.functions.now
    ++ section 6 global_row t.globals.now
    ++ section 7 export t.exports.now

abbrev pub linking_of : Tree → List ℕ
linking_of t =
    u32 2
    ++ (8 ∷ sized (vector symbol_row t.symbols.now))
    ++ section 5 info_row t.infos.now
    ++ section 6 init t.inits.now
    ++ section 7 group_row t.groups.now

abbrev pub linking_section : Tree → List ℕ
linking_section t = custom (codes "linking") (linking_of t)

-- The places of the code section and of the data section.
abbrev pub code_at : Tree → ℕ
code_at t = present t.types.now + present t.imports.now + present t.functions.now + present t.globals.now + present t.exports.now

abbrev pub data_at : Tree → ℕ
data_at t = code_at t + present t.bodies.now

-- ---- the whole

abbrev pub written : Tree → List ℕ
written t =
    front_of t
    ++ parts_section 10 Body t.bodies.now
    ++ parts_section 11 Segment t.segments.now
    ++ linking_section t
    ++ reloc_section (codes "reloc.CODE") (code_at t) (relocs_in Body t.bodies.now)
    ++ reloc_section (codes "reloc.DATA") (data_at t) (relocs_in Segment t.segments.now)

-- ---- windows

-- Whether a window lies in so many bytes.
abbrev pub window_fits : ℕ → Reloc → Bool
window_fits len x = nat_le (x.offset + size_of (form_of x.kind)) len

abbrev pub part_fits : Part → Bool
part_fits p = list_all (window_fits (length p.bytes.now)) (relocs_of p)
