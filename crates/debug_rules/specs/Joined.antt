-- The joined debug sections of a link.
use Rattle.std.specs.Prelude.{ℕ, ◌+◌, ◌-◌, ◌^◌, ◌==◌, ◌&&◌, ◌||◌, nat_lt, Bool, List, [], ◌∷◌, ◌++◌, map, filter, flat_map, length, sum_by, slice_get, slice_index_or, codes, if◌then◌else◌, Option, Some, None, Result, Ok, Err, ℤ, pos, ◌+ℤ◌}
use Rattle.std.specs.Str.{bytes_eq}
use Rattle.wl_base.specs.Choice.{given, distinct, unless, ◌>>=◌}
use Rattle.wl_base.specs.declared.fault.Fault.{Fault}
use Rattle.wl_base.specs.declared.fault.Fault.TheVariants.{DebugTooLong}
use Rattle.reloc_section.specs.declared.entry.Reloc.{Reloc}
use Rattle.linking_section.specs.declared.symbol.Symbol.{Symbol}
use Rattle.reloc_apply.specs.declared.window.Form.TheVariants.{Word4}
use Rattle.reloc_apply.specs.declared.window.Patch.{Patch}
use Rattle.reloc_apply.specs.Windows.{bits32, filled}
use Rattle.image_emit.specs.Bytes.{sized}
use Rattle.debug_rules.specs.Faults.{Input, Debug, debugs}

-- Where things are in the output, by the place of the object among the loaded ones and of the symbol in it: the function's
-- body in the code section's payload, from the byte behind its size; the datum's address; the function's slot; the global's
-- number. None where there is none.
pub record Places : Type 0 where
  pub bodies : List (List (Option ℕ))
  pub addresses : List (List (Option ℕ))
  pub slots : List (List (Option ℕ))
  pub globals : List (List (Option ℕ))

abbrev pub place_at : List (List (Option ℕ)) → ℕ → ℕ → Option ℕ
place_at places object symbol = slice_index_or (slice_index_or places object []) symbol None

-- ---- where contributions begin

-- whether the section has this name
abbrev pub is_named : List ℕ → Debug → Bool
is_named name d = bytes_eq d.section.name name

abbrev pub own_length : Debug → ℕ
own_length d = length d.section.content

-- how many bytes the sections of a name have
abbrev pub length_of : List ℕ → List Debug → ℕ
length_of name ds = sum_by own_length (filter (is_named name) ds)

-- whether this is the object's section at a place
abbrev pub stands_at : ℕ → ℕ → Debug → Bool
stands_at object at d = (d.object == object) && (d.section.at == at)

-- the same, behind sections that were seen
abbrev pub begins_behind : List Debug → ℕ → ℕ → List Debug → Option ℕ
begins_behind seen object at [] = None
begins_behind seen object at (d ∷ ds) =
    if stands_at object at d then Some (length_of d.section.name seen) else begins_behind (seen ++ d ∷ []) object at ds

-- Where an object's section begins in the joined section of its name: behind the earlier ones of that name.
abbrev pub begins : List Debug → ℕ → ℕ → Option ℕ
begins all object at = begins_behind [] object at all

-- ---- what a window holds

-- The dead word, which stands for what isn't there. In lists of ranges and of locations the greatest number begins another
-- base (DWARF 4, 2.6.2 and 2.17.3), so the one below it stands there.
abbrev pub dead_word : List ℕ → ℕ
dead_word name = if bytes_eq name (codes ".debug_ranges") || bytes_eq name (codes ".debug_loc") then 2 ^ 32 - 2 else 2 ^ 32 - 1

-- a place and an addend, modulo 2^32
abbrev pub word_of : ℕ → ℤ → Option ℕ → ℕ
word_of dead addend None = dead
word_of dead addend (Some n) = bits32 (pos n +ℤ addend)

-- the section that a section symbol names
abbrev pub section_index : Option Symbol → ℕ
section_index None = 0
section_index (Some s) = s.index

-- By the type of the relocation. A slot and the number of a global take no addend. `begin` tells where each section of the
-- object begins in its joined one.
abbrev pub value_of : (ℕ → Option ℕ) → Places → Debug → Reloc → ℕ
value_of begin p d r =
    if r.kind == 8 then word_of (dead_word d.section.name) r.addend (place_at p.bodies d.object r.index)
    else if r.kind == 9 then word_of (dead_word d.section.name) r.addend (begin (section_index (slice_get d.symbols r.index)))
    else if r.kind == 5 then word_of (dead_word d.section.name) r.addend (place_at p.addresses d.object r.index)
    else if r.kind == 2 then word_of (dead_word d.section.name) (pos 0) (place_at p.slots d.object r.index)
    else word_of (dead_word d.section.name) (pos 0) (place_at p.globals d.object r.index)

abbrev pub patch_for : (ℕ → Option ℕ) → Places → Debug → Reloc → Patch
patch_for begin p d r = record { place = r.offset; form = Word4; value = value_of begin p d r }

-- a contribution, its windows written
abbrev pub written : (ℕ → Option ℕ) → Places → Debug → List ℕ
written begin p d = filled (map (patch_for begin p d) d.relocs) d.section.content

abbrev pub content_of : List Debug → Places → Debug → List ℕ
content_of all p d = written (begins all d.object) p d

-- ---- sections

abbrev pub names_of : List Debug → List (List ℕ)
names_of all = distinct bytes_eq (map (λ d. d.section.name) all)

-- what stands in a joined section: its name, and the contributions of that name by object and then by place
abbrev pub payload_of : List Debug → Places → List ℕ → List ℕ
payload_of all p name = sized name ++ flat_map (content_of all p) (filter (is_named name) all)

-- A joined section is a custom section (Core 5.5.3).
abbrev pub section_of : List Debug → Places → List ℕ → List ℕ
section_of all p name = 0 ∷ sized (payload_of all p name)

unfoldable pub tail_of : List Debug → Places → List ℕ
tail_of all p = flat_map (section_of all p) (names_of all)

-- ---- all

abbrev pub length_fault : ℕ → Option Fault
length_fault n = given (nat_lt (2 ^ 31 - 1) n) (DebugTooLong n)

-- What comes behind an output of this length: one section for each name, in the order in which names first come; or the
-- first fault.
unfoldable pub joined : ℕ → List Input → Places → Result (List ℕ) Fault
joined len inputs p = do
  all ← debugs 0 inputs
  unless (length_fault (len + length (tail_of all p))) (tail_of all p)
