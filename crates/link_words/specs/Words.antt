-- The plan of the words, or why they have none.
use Rattle.std.specs.Prelude.{◌≡◌, ℕ, true, false, unwrap_or, slice_index_or, List, [], Option, None, Result, Ok, Err}
use Rattle.wl_base.specs.Choice.{unless}
use Rattle.wl_base.specs.declared.usage.Usage.{Usage}
use Rattle.link_plan.specs.declared.plan.Plan.{Plan}
use Rattle.link_words.specs.declared.error.WordError.{WordError}
use Rattle.link_words.specs.declared.error.WordError.TheVariants as errors
use Rattle.link_words.specs.declared.kind.Kind.TheVariants.{Output, ExportIfDefined, ExportDynamic, AllowUndefined, Wanted, GlobalBase, StackFirst, StackSize, InitialMemory, MaxMemory, ImportMemory, GcSections, NoGcSections, Threads, Validate, KeepDebug, Partial, Shared}
use Rattle.link_words.specs.declared.range.Range.TheVariants.{Address, Stack, Memory, Workers}
use Rattle.link_words.specs.Items.{Said}
use Rattle.link_words.specs.Cut.{cut_of}
use Rattle.link_words.specs.Fields.{inputs, text, entry, usual_entry, all_exports, texts, has, latest, switch, numeral, case}
use Rattle.link_words.specs.Faults.{first_fault}

-- what the items say together
unfoldable pub plan_from : List Said → Plan
plan_from items = record {
  inputs = inputs items;
  output = text Output items;
  entry = entry (usual_entry items) items;
  exports = all_exports items;
  exports_if = texts ExportIfDefined items;
  wanted = texts Wanted items;
  export_dynamic = has ExportDynamic items;
  allow_undefined = has AllowUndefined items;
  import_memory = has ImportMemory items;
  gc = latest (switch GcSections NoGcSections) true items;
  stack_first = has StackFirst items;
  global_base = numeral GlobalBase Address items;
  stack_size = unwrap_or (numeral StackSize Stack items) 65536;
  initial_memory = unwrap_or (numeral InitialMemory Memory items) 0;
  max_memory = numeral MaxMemory Memory items;
  threads = unwrap_or (numeral Threads Workers items) 4;
  make_case = case items;
  shared = has Shared items;
  partial = has Partial items;
  validate = has Validate items;
  keep_debug = has KeepDebug items;
  like_lld = false;
  loose_calls = false;
  names = false;
  features = None;
}

-- the plan of the words, or the first fault
unfoldable pub plan_of : List (List ℕ) → Result Plan Usage
plan_of words = let c = cut_of words in unless (first_fault c) (plan_from c.0)

-- the answer is the one that the definition gives, or want of memory
abbrev pub Reads : Result Plan WordError → Result Plan Usage → Type 0
Reads (Ok plan) said = said ≡ Ok plan
Reads (Err (errors.Usage fault)) said = said ≡ Err fault
Reads (Err errors.OutOfMemory) said = Unit {0}

-- the word at a place
abbrev pub word : List (List ℕ) → ℕ → List ℕ
word words place = slice_index_or words place []
