-- Reading the section `linking` from left to right: what it says, or the first fault (tool
-- conventions, Linking.md, 'Linking Metadata Section').
--
-- An item that isn't linked is foreign as soon as the bytes tell it, and what follows isn't read.
use Rattle.std.specs.Prelude.{ℕ, zero, suc, ◌-◌, Bool, false, not, ◌==◌, List, [], ◌∷◌, length, Option, Some, None, is_some, Result, Ok, Err, if◌then◌else◌}
use Rattle.wasm_grammar.specs.wl_base.declared.item.Item.{Item}
use Rattle.wasm_grammar.specs.wl_base.declared.item.Item.TheVariants as items
use Rattle.wasm_grammar.specs.declared.fault.Stop.{Stop}
use Rattle.wasm_grammar.specs.declared.fault.Stop.TheVariants.{Broken, Foreign}
use Rattle.wasm_grammar.specs.Reading.{Read, ◌>>=◌, byte_at, u32_at, name_at, vector_at, part_at, whole}
use Rattle.linking_section.specs.declared.symbol.Symbol.{Symbol}
use Rattle.linking_section.specs.declared.symbol.Extent.{Extent}
use Rattle.linking_section.specs.declared.symbol.SymbolKind.{SymbolKind}
use Rattle.linking_section.specs.declared.symbol.SymbolKind.TheVariants.{Function, Datum, GlobalVar, Section, Table}
use Rattle.linking_section.specs.declared.segment.SegmentInfo.{SegmentInfo}
use Rattle.linking_section.specs.declared.init.InitFunc.{InitFunc}
use Rattle.linking_section.specs.declared.group.Member.{Member}
use Rattle.linking_section.specs.declared.group.Group.{Group}
use Rattle.linking_section.specs.declared.linking.Linking.{Linking}
use Rattle.linking_section.specs.declared.linking.Found.{Found}
use Rattle.linking_section.specs.Flags.{has_bit, is_foreign_symbol, is_foreign_segment, is_named}
use Rattle.linking_section.specs.Linking.{is_member_kind}

-- A number, where it isn't foreign.
abbrev pub unless : Bool → Item → ℕ → List ℕ → Result (ℕ × List ℕ) Stop
unless foreign item n rest = if foreign then Err (Foreign item) else Ok (n, rest)

unfoldable pub unless_at : (ℕ → Bool) → (ℕ → Item) → Read ℕ
unless_at foreign item end bytes = do
  n ← u32_at end bytes
  unless (foreign n.0) (item n.0) n.0 n.1

-- ---- segments, init functions and groups

unfoldable pub segment_at : Read SegmentInfo
segment_at end bytes = do
  name ← name_at end bytes
  align ← u32_at end name.1
  flags ← unless_at is_foreign_segment items.SegmentFlags end align.1
  Ok (record { name = name.0; align = align.0; flags = flags.0 }, flags.1)

unfoldable pub init_at : Read InitFunc
init_at end bytes = do
  priority ← u32_at end bytes
  symbol ← u32_at end priority.1
  Ok (record { priority = priority.0; symbol = symbol.0 }, symbol.1)

-- A member's kind, of a byte at this place.
abbrev pub member_kind_of : ℕ → ℕ → Result ℕ Stop
member_kind_of place byte = if is_member_kind byte then Ok byte else Err (Broken place)

unfoldable pub member_at : Read Member
member_at end bytes = do
  byte ← byte_at end bytes
  kind ← member_kind_of (end - length bytes) byte.0
  index ← u32_at end byte.1
  Ok (record { kind = kind; index = index.0 }, index.1)

-- The rest, behind a u32 that has to be 0. Another number is broken at its own place.
abbrev pub behind_zero : ℕ → ℕ → List ℕ → Result (List ℕ) Stop
behind_zero place n rest = if n == 0 then Ok rest else Err (Broken place)

unfoldable pub zero_at : ℕ → List ℕ → Result (List ℕ) Stop
zero_at end bytes = do
  n ← u32_at end bytes
  behind_zero (end - length bytes) n.0 n.1

unfoldable pub group_at : Read Group
group_at end bytes = do
  name ← name_at end bytes
  rest ← zero_at end name.1
  members ← vector_at member_at end rest
  Ok (record { name = name.0; members = members.0 }, members.1)

-- ---- symbols

-- A symbol's kind, of a byte at this place. A tag is foreign.
abbrev pub kind_of : ℕ → ℕ → Result SymbolKind Stop
kind_of place byte =
    if byte == 0 then Ok Function
    else (if byte == 1 then Ok Datum
    else (if byte == 2 then Ok GlobalVar
    else (if byte == 3 then Ok Section
    else (if byte == 4 then Err (Foreign items.TagSymbol)
    else (if byte == 5 then Ok Table
    else Err (Broken place))))))

abbrev pub some_name_at : Read (Option (List ℕ))
some_name_at end bytes = do
  name ← name_at end bytes
  Ok (Some name.0, name.1)

-- A name, where one is present.
abbrev pub maybe_name_at : Bool → Read (Option (List ℕ))
maybe_name_at present end bytes = if present then some_name_at end bytes else Ok (None, bytes)

abbrev pub some_extent_at : Read Extent
some_extent_at end bytes = do
  segment ← u32_at end bytes
  offset ← u32_at end segment.1
  size ← u32_at end offset.1
  Ok (record { segment = segment.0; offset = offset.0; size = size.0 }, size.1)

-- Where a datum stands, if it is defined.
abbrev pub extent_at : Bool → Read Extent
extent_at defined end bytes = if defined then some_extent_at end bytes else Ok (record { segment = 0; offset = 0; size = 0 }, bytes)

unfoldable pub indexed_at : SymbolKind → ℕ → Read Symbol
indexed_at kind flags end bytes = do
  index ← u32_at end bytes
  name ← maybe_name_at (is_named flags) end index.1
  Ok (record { kind = kind; flags = flags; name = name.0; index = index.0; offset = 0; size = 0 }, name.1)

unfoldable pub datum_at : ℕ → Read Symbol
datum_at flags end bytes = do
  name ← name_at end bytes
  extent ← extent_at (not (has_bit 0x10 flags)) end name.1
  Ok (record { kind = Datum; flags = flags; name = Some name.0; index = extent.0.segment; offset = extent.0.offset; size = extent.0.size }, extent.1)

unfoldable pub section_symbol_at : ℕ → Read Symbol
section_symbol_at flags end bytes = do
  index ← u32_at end bytes
  Ok (record { kind = Section; flags = flags; name = None; index = index.0; offset = 0; size = 0 }, index.1)

-- A symbol of this kind, behind its flags.
abbrev pub body_at : SymbolKind → ℕ → Read Symbol
body_at Function flags end bytes = indexed_at Function flags end bytes
body_at Datum flags end bytes = datum_at flags end bytes
body_at GlobalVar flags end bytes = indexed_at GlobalVar flags end bytes
body_at Section flags end bytes = section_symbol_at flags end bytes
body_at Table flags end bytes = indexed_at Table flags end bytes

unfoldable pub symbol_at : Read Symbol
symbol_at end bytes = do
  byte ← byte_at end bytes
  kind ← kind_of (end - length bytes) byte.0
  flags ← unless_at is_foreign_symbol items.SymbolFlags end byte.1
  body_at kind flags.0 end flags.1

-- ---- the section

-- Before the first subsection.
abbrev pub none_found : Found
none_found = record { segments = None; inits = None; groups = None; symbols = None }

-- A subsection of this type came before. Types that are skipped may come again.
abbrev pub came : ℕ → Found → Bool
came kind found =
    if kind == 5 then is_some found.segments
    else (if kind == 6 then is_some found.inits
    else (if kind == 7 then is_some found.groups
    else (if kind == 8 then is_some found.symbols
    else false)))

abbrev pub with_segments : Found → ℕ → List ℕ → Result Found Stop
with_segments found end payload = do
  segments ← whole (vector_at segment_at) end payload
  Ok (record found { segments = Some segments })

abbrev pub with_inits : Found → ℕ → List ℕ → Result Found Stop
with_inits found end payload = do
  inits ← whole (vector_at init_at) end payload
  Ok (record found { inits = Some inits })

abbrev pub with_groups : Found → ℕ → List ℕ → Result Found Stop
with_groups found end payload = do
  groups ← whole (vector_at group_at) end payload
  Ok (record found { groups = Some groups })

abbrev pub with_symbols : Found → ℕ → List ℕ → Result Found Stop
with_symbols found end payload = do
  symbols ← whole (vector_at symbol_at) end payload
  Ok (record found { symbols = Some symbols })

-- What was found, and what the payload of a subsection of this type says. The payload is all of it.
abbrev pub with_part : ℕ → Found → ℕ → List ℕ → Result Found Stop
with_part kind found end payload =
    if kind == 5 then with_segments found end payload
    else (if kind == 6 then with_inits found end payload
    else (if kind == 7 then with_groups found end payload
    else (if kind == 8 then with_symbols found end payload
    else Ok found)))

-- A type that came before is broken at its place.
abbrev pub first_time : ℕ → ℕ → Found → Result (Unit {0}) Stop
first_time place kind found = if came kind found then Err (Broken place) else Ok tt

unfoldable pub subsection_at : Found → Read Found
subsection_at found end bytes = do
  kind ← byte_at end bytes
  first ← first_time (end - length bytes) kind.0 found
  part ← part_at end kind.1
  next ← with_part kind.0 found (end - length part.1) part.0
  Ok (next, part.1)

-- The subsections, one after another. The first number is at least that of the bytes, of which each
-- subsection takes some.
unfoldable pub subsections_at : ℕ → Found → ℕ → List ℕ → Result Found Stop
subsections_at n found end [] = Ok found
subsections_at zero found end (b ∷ bytes) = Ok found
subsections_at (suc n) found end (b ∷ bytes) = do
  next ← subsection_at found end (b ∷ bytes)
  subsections_at n next.0 end next.1

abbrev pub list_of : {A : Type 0} → Option (List A) → List A
list_of None = []
list_of (Some xs) = xs

abbrev pub linking_of : Found → Linking
linking_of found = record { segments = list_of found.segments; inits = list_of found.inits; groups = list_of found.groups; symbols = list_of found.symbols }

-- The rest, behind the version, which has to be 2. Another one is foreign.
abbrev pub versioned : ℕ → List ℕ → Result (List ℕ) Stop
versioned version rest = if version == 2 then Ok rest else Err (Foreign (items.LinkingVersion version))

-- A payload, what follows the section's name. It is all of the bytes.
unfoldable pub linking_at : ℕ → List ℕ → Result Linking Stop
linking_at end bytes = do
  version ← u32_at end bytes
  rest ← versioned version.0 version.1
  found ← subsections_at (length rest) none_found end rest
  Ok (linking_of found)
