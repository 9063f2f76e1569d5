-- The partial link of files: the first fault that applies, or the bytes of one relocatable object.
use Rattle.std.specs.Prelude.{ℕ, ◌+◌, ◌^◌, nat_lt, true, false, ◌||◌, List, [], ◌∷◌, length, Option, None, option_map, Result}
use Rattle.object_file.specs.wl_base.Choice.{first_some, given, unless, ◌>>=◌}
use Rattle.object_file.specs.wl_base.declared.fault.Fault.{Fault}
use Rattle.object_file.specs.wl_base.declared.fault.Fault.TheVariants.{NotPartial, PartialTooLong}
use Rattle.made_symbols.specs.declared.mode.Mode.TheVariants.{Plain}
use Rattle.round_rules.specs.Rounds.{load}
use Rattle.name_rules.specs.Cases.{clash, duplicate}
use Rattle.link_plan.specs.declared.plan.Plan.{Plan}
use Rattle.link_plan.specs.declared.plan.InputWord.{InputWord}
use Rattle.link_rules.specs.Candidates.{Readers, is_library, too_much_input, candidates_of}
use Rattle.link_rules.specs.Program.{Program, program_of}
use Rattle.link_rules.specs.LinkOf.{too_many_names, the_readers}
use Rattle.partial_rules.specs.Relocatable.{relocatable_bytes}
use Rattle.partial_rules.specs.Partial.{relocatable, open_local}

-- No option but the output's name has a further effect.
abbrev pub bare : Plan → Plan
bare plan = record {
  inputs = plan.inputs;
  output = plan.output;
  entry = None;
  exports = [];
  exports_if = [];
  wanted = [];
  export_dynamic = false;
  allow_undefined = false;
  import_memory = false;
  gc = true;
  stack_first = false;
  global_base = None;
  stack_size = 65536;
  initial_memory = 0;
  max_memory = None;
  threads = plan.threads;
  make_case = None;
  shared = false;
  partial = false;
  validate = false;
  keep_debug = false;
  like_lld = false;
  loose_calls = false;
  names = false;
  features = None;
}

-- The first input from a place on that is a library or stands between `--start-lib` and `--end-lib`.
abbrev pub first_not_plain : ℕ → List InputWord → List (List ℕ) → Option ℕ
first_not_plain file [] files = None
first_not_plain file (w ∷ ws) [] = None
first_not_plain file (w ∷ ws) (bytes ∷ files) = first_some (given (w.lazy || is_library bytes) file ∷ first_not_plain (file + 1) ws files ∷ [])

-- At most 2^30 bytes, so that it can be an input again.
abbrev pub too_long : List ℕ → Option Fault
too_long bytes = given (nat_lt (2 ^ 30) (length bytes)) (PartialTooLong (length bytes))

-- The object of a program: the first of too many names, a clash, a duplicate, a reference to what isn't kept, too many bytes.
unfoldable pub partial_program : Program → Result (List ℕ) Fault
partial_program p = do
  p ← unless (too_many_names p) p
  p ← unless (clash p.entries) p
  p ← unless (duplicate p.entries) p
  p ← unless (open_local p) p
  unless (too_long (relocatable_bytes (relocatable p))) (relocatable_bytes (relocatable p))

-- The partial link by what the readers give of files: too much input, an input that isn't a plain object, then the faults of loading.
unfoldable pub partial_by : Readers → Plan → List (List ℕ) → Result (List ℕ) Fault
partial_by readers plan files = do
  files ← unless (too_much_input files) files
  files ← unless (option_map NotPartial (first_not_plain 0 plan.inputs files)) files
  all ← candidates_of readers (bare plan) files
  objects ← load Plain [] all
  partial_program (program_of Plain (bare plan) files all objects)

-- The partial link, by the readers of objects and libraries.
unfoldable pub partial_of : Plan → List (List ℕ) → Result (List ℕ) Fault
partial_of plan files = partial_by the_readers plan files
