-- The link of files by a plan: the first fault that applies, or the bytes of the output.
use Rattle.std.specs.Prelude.{◌≡◌, ℕ, ◌-◌, ◌^◌, nat_lt, List, ◌++◌, map, flat_map, length, Option, option_map, bytes_eq, Result, Ok, pos}
use Rattle.name_rules.specs.object_file.wl_base.Choice.{given, distinct, unless, ◌>>=◌}
use Rattle.name_rules.specs.object_file.wl_base.declared.fault.Fault.{Fault}
use Rattle.name_rules.specs.object_file.wl_base.declared.fault.Fault.TheVariants.{TooManyNames, Overflow}
use Rattle.name_rules.specs.object_file.wl_base.declared.fault.What.TheVariants.{TableSize, OutputLength, Reference}
use Rattle.name_rules.specs.object_file.declared.object.Object.{Object}
use Rattle.name_rules.specs.object_file.ObjectOf.{object_of}
use Rattle.lib_index.specs.Reading.{library_of}
use Rattle.std.proofs.Common.{ap}
use Rattle.made_symbols.specs.declared.mode.Mode.{Mode}
use Rattle.made_symbols.specs.declared.mode.Mode.TheVariants.{Plain}
use Rattle.round_rules.specs.Rounds.{load}
use Rattle.name_rules.specs.Entries.{InputSymbol, name_of}
use Rattle.name_rules.specs.Cases.{clash_by, duplicate}
use Rattle.memory_layout.specs.Memory.{Passed, memory_overflow}
use Rattle.table_layout.specs.Slots.{table_overflow}
use Rattle.reloc_apply.specs.declared.window.Window.{Window}
use Rattle.reloc_apply.specs.Windows.{value_overflow, patch_of}
use Rattle.dylink_out.specs.image_emit.declared.tree.Image.{Image}
use Rattle.dylink_out.specs.image_emit.Bytes.{bytes_of, tree_of}
use Rattle.dylink_out.specs.image_emit.Filled.{tree_filled}
use Rattle.link_plan.specs.declared.plan.Plan.{Plan}
use Rattle.link_rules.specs.ModeOf.{mode_of, IsPlain, plain_mode}
use Rattle.link_rules.specs.Candidates.{Readers, candidates_of}
use Rattle.link_rules.specs.Program.{Program, Part, program_of}
use Rattle.link_rules.specs.Marks.{demanded, exported, repeated_export, live, pic_fault, unresolved, uncalled}
use Rattle.link_rules.specs.Values.{Layout, rules_of, shapes}
use Rattle.link_rules.specs.Output.{layout, image, source_windows, held}

-- The names whose definitions are asked for when inputs are loaded: the entry, and those of `--export` and `-u`.
unfoldable pub asked_names : Plan → List (List ℕ)
asked_names plan = demanded plan ++ plan.wanted

-- ---- names

abbrev pub all_names : Program → List (List ℕ)
all_names p =
    map name_of p.entries
    ++ flat_map (λ (o : Object). map (λ g. g.name) o.groups) p.objects
    ++ asked_names p.plan ++ p.plan.exports_if

-- The linker-made names, those of the words, and the names of entries and groups are at most 2^24.
unfoldable pub too_many_names : Program → Option Fault
too_many_names p = given (nat_lt (2 ^ 24) (length (distinct bytes_eq (all_names p)))) TooManyNames

-- ---- overflow, in the order in which it is judged

abbrev pub passed_fault : Passed → Fault
passed_fault x = Overflow x.what (pos x.needed)

-- The first number of the memory that passes: the end of a segment, the heap base, the pages.
unfoldable pub memory_fault : Mode → Program → List Part → Option Fault
memory_fault mode p parts = option_map passed_fault (memory_overflow (rules_of mode p.plan) (shapes p parts))

-- The slots' end.
unfoldable pub table_fault : Layout → Option Fault
table_fault l = option_map (λ n. Overflow TableSize (pos n)) (table_overflow l.numbers.first_slot (length l.numbers.slots))

-- The output has at most 2^31 - 1 bytes.
abbrev pub length_fault : ℕ → Option Fault
length_fault n = given (nat_lt (2 ^ 31 - 1) n) (Overflow OutputLength (pos n))

-- The bytes have the output's length before windows are written too.
unfoldable pub output_fault : Program → Image → Option Fault
output_fault p i = length_fault (length (bytes_of (tree_of p.files i)))

-- The first window, by place in the output, whose value is out of range. All windows are judged by their values, also those of data of a
-- shared output, which are written as 0 (`held`) and get their values when it is loaded; a foreign one is judged by its addend, or as 0.
unfoldable pub reference_fault : List (List Window) → Option Fault
reference_fault wss = option_map (Overflow Reference) (value_overflow (flat_map (λ ws. ws) wss))

-- ---- the steps of the link, each over what the steps before gave

-- The bytes of the output: those of the image with every window written.
unfoldable pub output_bytes : Mode → Program → Image → List (List Window) → List ℕ
output_bytes mode p i wss = bytes_of (tree_filled (map (map patch_of) (held mode wss)) (tree_of p.files i))

unfoldable pub written : Mode → Program → Image → List (List Window) → Result (List ℕ) Fault
written mode p i wss = do
  i ← unless (output_fault p i) i
  wss ← unless (reference_fault wss) wss
  Ok (output_bytes mode p i wss)

abbrev pub placed : Mode → Program → List InputSymbol → List Part → Layout → Result (List ℕ) Fault
placed mode p exports parts l = do
  l ← unless (table_fault l) l
  written mode p (image mode p parts exports l) (source_windows mode p parts exports l)

unfoldable pub laid_out : Mode → Program → List InputSymbol → List Part → Result (List ℕ) Fault
laid_out mode p exports parts = do
  parts ← unless (memory_fault mode p parts) parts
  placed mode p exports parts (layout mode p parts exports)

abbrev pub resolved : Mode → Program → List InputSymbol → List Part → Result (List ℕ) Fault
resolved mode p exports parts = do
  parts ← unless (pic_fault mode parts) parts
  parts ← unless (unresolved p parts) parts
  parts ← unless (uncalled mode p parts) parts
  laid_out mode p exports parts

unfoldable pub marked : Mode → Program → List InputSymbol → Result (List ℕ) Fault
marked mode p exports = resolved mode p exports (live p exports)

abbrev pub exporting : Mode → Program → List InputSymbol → Result (List ℕ) Fault
exporting mode p exports = do
  exports ← unless (repeated_export mode p exports) exports
  marked mode p exports

-- The link of the loaded objects: too many names, a clash, a duplicate, a repeated export, code that isn't position-independent, an
-- unresolved name, constructors that nothing calls, an overflow; else the output.
unfoldable pub link_program : Mode → Program → Result (List ℕ) Fault
link_program mode p = do
  p ← unless (too_many_names p) p
  p ← unless (clash_by p.plan.loose_calls p.entries) p
  p ← unless (duplicate p.entries) p
  exporting mode p (exported mode p)

-- The link by what the readers give of files: the candidates, then the loaded objects, then their link.
unfoldable pub link_by : Mode → Readers → Plan → List (List ℕ) → Result (List ℕ) Fault
link_by mode readers plan files = do
  all ← candidates_of readers plan files
  objects ← load mode (asked_names plan) all
  link_program mode (program_of mode plan files all objects)

-- What bytes are as an object and as a library.
abbrev pub the_readers : Readers
the_readers = record { object = object_of; library = library_of }

-- The link of files by a plan.
unfoldable pub link_of : Plan → List (List ℕ) → Result (List ℕ) Fault
link_of plan files = link_by (mode_of plan) the_readers plan files

-- The link of a plan that asks for a plain output.
pub plain_link : (plan : Plan) (files : List (List ℕ)) → IsPlain plan → link_of plan files ≡ link_by Plain the_readers plan files
unfolding link_of
plain_link plan files plain = ap (λ mode. link_by mode the_readers plan files) (plain_mode plan plain)
