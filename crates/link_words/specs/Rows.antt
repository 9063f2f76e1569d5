-- Worked rows: words, and what they ask for.
use Rattle.std.specs.Prelude.{◌≡◌, [], ◌∷◌, codes, Ok, Err, Some, None, refl, true, false}
use Rattle.wl_base.specs.declared.usage.Usage.TheVariants.{BadThreads, UnknownOption, NoOutput, NoInput, OpenGroup, MissingValue, BadNumber, CaseAndInput, PartialClash}
use Rattle.link_words.specs.Faults.{first_fault}
use Rattle.link_words.specs.Words.{plan_of, plan_from}

too_many_threads : plan_of (codes "a.o" ∷ codes "--threads=65" ∷ codes "-o" ∷ codes "b" ∷ []) ≡ Err (BadThreads 1)
unfolding plan_of first_fault
too_many_threads = refl

unknown_option : plan_of (codes "a.o" ∷ codes "--frob" ∷ codes "-o" ∷ codes "b" ∷ []) ≡ Err (UnknownOption 1)
unfolding plan_of first_fault
unknown_option = refl

no_output : plan_of (codes "a.o" ∷ []) ≡ Err NoOutput
unfolding plan_of first_fault
no_output = refl

no_input : plan_of [] ≡ Err NoInput
unfolding plan_of first_fault
no_input = refl

open_group : plan_of (codes "--start-lib" ∷ codes "a.o" ∷ codes "-o" ∷ codes "b" ∷ []) ≡ Err (OpenGroup 0)
unfolding plan_of first_fault
open_group = refl

missing_value : plan_of (codes "a.o" ∷ codes "-o" ∷ codes "b" ∷ codes "--threads" ∷ []) ≡ Err (MissingValue 3)
unfolding plan_of first_fault
missing_value = refl

-- behind `--` the words are inputs, whatever they begin with
behind_dashes : plan_of (codes "--" ∷ codes "-x" ∷ codes "-o" ∷ []) ≡ Err NoOutput
unfolding plan_of first_fault
behind_dashes = refl

no_objects : plan_of (codes "--make-case=0" ∷ []) ≡ Err (BadNumber 0)
unfolding plan_of first_fault
no_objects = refl

case_and_input : plan_of (codes "--make-case=2" ∷ codes "a.o" ∷ []) ≡ Err CaseAndInput
unfolding plan_of first_fault
case_and_input = refl

-- a fault of the words comes before a group that is left open, and behind a group that is closed outside of one
group_and_missing : plan_of (codes "--start-lib" ∷ codes "-o" ∷ []) ≡ Err (MissingValue 1)
unfolding plan_of first_fault
group_and_missing = refl

closed_outside : plan_of (codes "--end-lib" ∷ codes "--frob" ∷ []) ≡ Err (OpenGroup 0)
unfolding plan_of first_fault
closed_outside = refl

-- decimal numbers have no needless zero, and a value may be any word
needless_zero : plan_of (codes "a.o" ∷ codes "-o" ∷ codes "--" ∷ codes "--threads" ∷ codes "04" ∷ []) ≡ Err (BadThreads 3)
unfolding plan_of first_fault
needless_zero = refl

-- an option without a value is given none
value_to_none : plan_of (codes "a.o" ∷ codes "--gc-sections=" ∷ []) ≡ Err (UnknownOption 1)
unfolding plan_of first_fault
value_to_none = refl

-- a value of another form
other_machine : plan_of (codes "a.o" ∷ codes "-m" ∷ codes "wasm64" ∷ []) ≡ Err (UnknownOption 1)
unfolding plan_of first_fault
other_machine = refl

other_size : plan_of (codes "-z" ∷ codes "stack=16" ∷ []) ≡ Err (UnknownOption 0)
unfolding plan_of first_fault
other_size = refl

uneven_size : plan_of (codes "-z" ∷ codes "stack-size=8" ∷ []) ≡ Err (BadNumber 0)
unfolding plan_of first_fault
uneven_size = refl

-- a short option and its value in one word
value_to_short : plan_of (codes "a.o" ∷ codes "-o=b" ∷ []) ≡ Err (UnknownOption 1)
unfolding plan_of first_fault
value_to_short = refl

-- a generated case is no partial link; what it stands beside is judged before
partial_case : plan_of (codes "-r" ∷ codes "--make-case=2" ∷ []) ≡ Err PartialClash
unfolding plan_of first_fault
partial_case = refl

partial_case_and_input : plan_of (codes "--make-case=2" ∷ codes "-r" ∷ codes "a.o" ∷ []) ≡ Err CaseAndInput
unfolding plan_of first_fault
partial_case_and_input = refl

-- nor is a shared output one
shared_and_partial : plan_of (codes "a.o" ∷ codes "-o" ∷ codes "r" ∷ codes "-r" ∷ codes "-shared" ∷ []) ≡ Err PartialClash
unfolding plan_of first_fault
shared_and_partial = refl

-- `-r` takes no value, and asks for an input and an output as any link does
partial_without_output : plan_of (codes "a.o" ∷ codes "-r" ∷ []) ≡ Err NoOutput
unfolding plan_of first_fault
partial_without_output = refl

partial_without_input : plan_of (codes "-r" ∷ codes "-o" ∷ codes "r.o" ∷ []) ≡ Err NoInput
unfolding plan_of first_fault
partial_without_input = refl

value_to_partial : plan_of (codes "a.o" ∷ codes "-r=b" ∷ []) ≡ Err (UnknownOption 1)
unfolding plan_of first_fault
value_to_partial = refl

-- numbers are judged beside `-r` too
partial_and_uneven_size : plan_of (codes "a.o" ∷ codes "-r" ∷ codes "-o" ∷ codes "r.o" ∷ codes "-z" ∷ codes "stack-size=8" ∷ []) ≡ Err (BadNumber 4)
unfolding plan_of first_fault
partial_and_uneven_size = refl

-- a plan of a partial link, beside words that say more
partial : plan_of (codes "-r" ∷ codes "a.o" ∷ codes "b.o" ∷ codes "--validate" ∷ codes "--keep-debug" ∷ codes "--export=f" ∷ codes "-o" ∷ codes "r.o" ∷ codes "-r" ∷ [])
    ≡ Ok (record {
      inputs = record { place = 1; lazy = false; whole = false } ∷ record { place = 2; lazy = false; whole = false } ∷ [];
      output = Some (codes "r.o");
      entry = Some (codes "_start");
      exports = codes "f" ∷ [];
      exports_if = [];
      wanted = [];
      export_dynamic = false;
      allow_undefined = false;
      import_memory = false;
      gc = true;
      stack_first = false;
      global_base = None;
      stack_size = 65536;
      initial_memory = 0;
      max_memory = None;
      threads = 4;
      make_case = None;
      shared = false;
      partial = true;
      validate = true;
      keep_debug = true;
      like_lld = false;
      loose_calls = false;
      names = false;
      features = None;
    })
unfolding plan_of plan_from first_fault
partial = refl

-- a plan of a shared output: it has no entry but a given one, and debug sections as any other
shared : plan_of (codes "a.o" ∷ codes "-o" ∷ codes "out" ∷ codes "-shared" ∷ codes "--export=d" ∷ codes "--keep-debug" ∷ [])
    ≡ Ok (record {
      inputs = record { place = 0; lazy = false; whole = false } ∷ [];
      output = Some (codes "out");
      entry = None;
      exports = codes "d" ∷ [];
      exports_if = [];
      wanted = [];
      export_dynamic = false;
      allow_undefined = false;
      import_memory = false;
      gc = true;
      stack_first = false;
      global_base = None;
      stack_size = 65536;
      initial_memory = 0;
      max_memory = None;
      threads = 4;
      make_case = None;
      shared = true;
      partial = false;
      validate = false;
      keep_debug = true;
      like_lld = false;
      loose_calls = false;
      names = false;
      features = None;
    })
unfolding plan_of plan_from first_fault
shared = refl

-- a plan of a generated case: it has no entry, its first function is exported, and its output is checked
case : plan_of (codes "--export=g" ∷ codes "-z" ∷ codes "stack-size=0x20" ∷ codes "--no-gc-sections" ∷ codes "--validate" ∷ codes "--make-case=2" ∷ codes "--export-table" ∷ [])
    ≡ Ok (record {
      inputs = [];
      output = None;
      entry = None;
      exports = codes "f0" ∷ codes "g" ∷ codes "__indirect_function_table" ∷ [];
      exports_if = [];
      wanted = [];
      export_dynamic = false;
      allow_undefined = false;
      import_memory = false;
      gc = false;
      stack_first = false;
      global_base = None;
      stack_size = 32;
      initial_memory = 0;
      max_memory = None;
      threads = 4;
      make_case = Some 2;
      shared = false;
      partial = false;
      validate = true;
      keep_debug = false;
      like_lld = false;
      loose_calls = false;
      names = false;
      features = None;
    })
unfolding plan_of plan_from first_fault
case = refl

-- a plan of inputs: of a repeated option the last counts, a library in a group is whole where the words before it say so, and debug sections are kept
link : plan_of (codes "a.o" ∷ codes "--start-lib" ∷ codes "b.o" ∷ codes "--whole-archive" ∷ codes "c.a" ∷ codes "--end-lib" ∷ codes "-o" ∷ codes "x"
    ∷ codes "-o" ∷ codes "y" ∷ codes "--no-entry" ∷ codes "--entry" ∷ codes "main" ∷ codes "-u" ∷ codes "f" ∷ codes "--export-if-defined=" ∷ codes "--max-memory=0x100000000"
    ∷ codes "--initial-memory=65536" ∷ codes "--global-base=4294967295" ∷ codes "--threads=64" ∷ codes "--keep-debug" ∷ codes "-m" ∷ codes "wasm32" ∷ codes "--" ∷ codes "--frob" ∷ [])
    ≡ Ok (record {
      inputs = record { place = 0; lazy = false; whole = false } ∷ record { place = 2; lazy = true; whole = false } ∷ record { place = 4; lazy = true; whole = true }
          ∷ record { place = 24; lazy = false; whole = true } ∷ [];
      output = Some (codes "y");
      entry = Some (codes "main");
      exports = [];
      exports_if = [] ∷ [];
      wanted = codes "f" ∷ [];
      export_dynamic = false;
      allow_undefined = false;
      import_memory = false;
      gc = true;
      stack_first = false;
      global_base = Some 4294967295;
      stack_size = 65536;
      initial_memory = 65536;
      max_memory = Some 4294967296;
      threads = 64;
      make_case = None;
      shared = false;
      partial = false;
      validate = false;
      keep_debug = true;
      like_lld = false;
      loose_calls = false;
      names = false;
      features = None;
    })
unfolding plan_of plan_from first_fault
link = refl
