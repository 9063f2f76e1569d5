-- The steps of the link, one at a time: a fault ends it, and where there is none it goes on.
use Rattle.std.proofs.Common.{◌≡◌, ℕ, List, [], length, map, refl, ap, ◌∙◌, Option, Some, None, Result, Ok, Err, ℤ, pos}
use Rattle.std.specs.List.{flat_map}
use Rattle.std.specs.Prelude.{option_map}
use Rattle.link_output.specs.link_program.wl_base.Choice.{unless, ◌>>=◌}
use Rattle.link_output.specs.link_program.wl_base.declared.fault.Fault.{Fault}
use Rattle.link_output.specs.link_program.wl_base.declared.fault.Fault.TheVariants.{Overflow}
use Rattle.link_output.specs.link_program.wl_base.declared.fault.What.TheVariants.{TableSize, Reference}
use Rattle.link_output.specs.link_program.object_file.declared.object.Object.{Object}
use Rattle.link_output.specs.link_program.made_symbols.declared.mode.Mode.{Mode}
use Rattle.link_output.specs.link_program.round_rules.Rounds.{Candidate, load}
use Rattle.link_output.specs.link_program.memory_layout.Memory.{Passed, memory_overflow}
use Rattle.link_output.specs.link_program.table_layout.Slots.{table_overflow}
use Rattle.link_output.specs.link_program.reloc_apply.declared.window.Window.{Window}
use Rattle.link_output.specs.link_program.reloc_apply.Windows.{value_overflow, patch_of}
use Rattle.link_output.specs.link_program.image_emit.declared.tree.Image.{Image}
use Rattle.link_output.specs.link_program.image_emit.Bytes.{bytes_of, tree_of}
use Rattle.link_output.specs.link_program.image_emit.Filled.{tree_filled}
use Rattle.link_output.specs.link_program.link_plan.declared.plan.Plan.{Plan}
use Rattle.link_output.specs.link_program.name_rules.Entries.{InputSymbol}
use Rattle.link_output.specs.link_program.name_rules.Cases.{clash_by, duplicate}
use Rattle.link_output.specs.link_program.link_rules.Candidates.{candidates_of}
use Rattle.link_output.specs.link_program.link_rules.Program.{Program, Part, program_of}
use Rattle.link_output.specs.link_program.link_rules.Marks.{exported, repeated_export, live, pic_fault, unresolved, uncalled}
use Rattle.link_output.specs.link_program.link_rules.Values.{Layout, rules_of, shapes}
use Rattle.link_output.specs.link_program.link_rules.Output.{layout, image, source_windows, held}
use Rattle.link_output.specs.link_program.link_rules.LinkOf.{asked_names, the_readers, too_many_names, exporting, marked, laid_out, written, memory_fault, table_fault, output_fault, reference_fault, length_fault, passed_fault, output_bytes, link_program, link_by}

step : {A B : Type 0} (o : Option Fault) (a : A) (next : A → Result B Fault) → o ≡ None → (unless o a >>= next) ≡ next a
step o a next e = ap (λ (o : Option Fault). unless o a >>= next) e

stop : {A B : Type 0} (o : Option Fault) (a : A) (next : A → Result B Fault) (f : Fault) → o ≡ Some f → (unless o a >>= next) ≡ Err f
stop o a next f e = ap (λ (o : Option Fault). unless o a >>= next) e

abbrev names_of : Program → Result Program Fault
names_of p = do
  p ← unless (too_many_names p) p
  p ← unless (clash_by p.plan.loose_calls p.entries) p
  unless (duplicate p.entries) p

module _ (p : Program) (b c : Program → Option Fault) (next : Program → Result (List ℕ) Fault) (r : Result Program Fault) where
  third : (oc : Option Fault) → unless oc p ≡ r → (unless oc p >>= next) ≡ (r >>= next)
  third oc e = ap (λ (r : Result Program Fault). r >>= next) e

  second : (ob : Option Fault) → (unless ob p >>= λ p. unless (c p) p) ≡ r → (unless ob p >>= λ p. unless (c p) p >>= next) ≡ (r >>= next)
  second (Some f) e = ap (λ (r : Result Program Fault). r >>= next) e
  second None e = third (c p) e

  named_by : (oa : Option Fault) → (unless oa p >>= λ p. unless (b p) p >>= λ p. unless (c p) p) ≡ r
      → (unless oa p >>= λ p. unless (b p) p >>= λ p. unless (c p) p >>= next) ≡ (r >>= next)
  named_by (Some f) e = ap (λ (r : Result Program Fault). r >>= next) e
  named_by None e = second (b p) e

module _ (mode : Mode) where
  -- ---- loading

  pub not_loaded : (plan : Plan) (files : List (List ℕ)) (f : Fault)
      → (candidates_of the_readers plan files >>= λ all. load mode (asked_names plan) all) ≡ Err f → link_by mode the_readers plan files ≡ Err f
  unfolding link_by
  not_loaded plan files f e = by (candidates_of the_readers plan files) e
    where
      inner : (all : List Candidate) (r : Result (List Object) Fault) → r ≡ Err f → (r >>= λ objects. link_program mode (program_of mode plan files all objects)) ≡ Err f
      inner all r e = ap (λ (r : Result (List Object) Fault). r >>= λ objects. link_program mode (program_of mode plan files all objects)) e

      failed : Result (List Object) Fault → Result (List ℕ) Fault
      failed (Ok objects) = Ok []
      failed (Err g) = Err g

      by : (r : Result (List Candidate) Fault) → (r >>= λ all. load mode (asked_names plan) all) ≡ Err f
          → (r >>= λ all. load mode (asked_names plan) all >>= λ objects. link_program mode (program_of mode plan files all objects)) ≡ Err f
      by (Ok all) e = inner all (load mode (asked_names plan) all) e
      by (Err g) e = ap failed e

  pub loaded : (plan : Plan) (files : List (List ℕ)) (all : List Candidate) (objects : List Object)
      → candidates_of the_readers plan files ≡ Ok all → load mode (asked_names plan) all ≡ Ok objects
      → link_by mode the_readers plan files ≡ link_program mode (program_of mode plan files all objects)
  unfolding link_by
  loaded plan files all objects found given =
      ap (λ (r : Result (List Candidate) Fault). r >>= λ all. load mode (asked_names plan) all >>= λ objects. link_program mode (program_of mode plan files all objects)) found
      ∙ ap (λ (r : Result (List Object) Fault). r >>= λ objects. link_program mode (program_of mode plan files all objects)) given

  -- ---- names

  pub not_named : (p : Program) (f : Fault) → names_of p ≡ Err f → link_program mode p ≡ Err f
  unfolding link_program
  not_named p f e = named_by p (λ p. clash_by p.plan.loose_calls p.entries) (λ p. duplicate p.entries) (λ p. exporting mode p (exported mode p)) (Err f) (too_many_names p) e

  pub named : (p : Program) → names_of p ≡ Ok p → link_program mode p ≡ exporting mode p (exported mode p)
  unfolding link_program
  named p e = named_by p (λ p. clash_by p.plan.loose_calls p.entries) (λ p. duplicate p.entries) (λ p. exporting mode p (exported mode p)) (Ok p) (too_many_names p) e

  -- ---- exports and marks

  pub repeats : (p : Program) (es : List InputSymbol) (f : Fault) → repeated_export mode p es ≡ Some f → exporting mode p es ≡ Err f
  repeats p es f e = stop (repeated_export mode p es) es (λ es. marked mode p es) f e

  pub exports : (p : Program) (es : List InputSymbol) → repeated_export mode p es ≡ None → exporting mode p es ≡ marked mode p es
  exports p es e = step (repeated_export mode p es) es (λ es. marked mode p es) e

  abbrev after_open : Program → List InputSymbol → List Part → Result (List ℕ) Fault
  after_open p es parts = unless (uncalled mode p parts) parts >>= λ parts. laid_out mode p es parts

  abbrev after_fixed : Program → List InputSymbol → List Part → Result (List ℕ) Fault
  after_fixed p es parts = unless (unresolved p parts) parts >>= after_open p es

  pub fixed : (p : Program) (es : List InputSymbol) (f : Fault) → pic_fault mode (live p es) ≡ Some f → marked mode p es ≡ Err f
  unfolding marked
  fixed p es f e = stop (pic_fault mode (live p es)) (live p es) (after_fixed p es) f e

  pub left_open : (p : Program) (es : List InputSymbol) (f : Fault) → pic_fault mode (live p es) ≡ None → unresolved p (live p es) ≡ Some f → marked mode p es ≡ Err f
  unfolding marked
  left_open p es f free e =
      step (pic_fault mode (live p es)) (live p es) (after_fixed p es) free
      ∙ stop (unresolved p (live p es)) (live p es) (after_open p es) f e

  pub left_uncalled : (p : Program) (es : List InputSymbol) (f : Fault) → pic_fault mode (live p es) ≡ None → unresolved p (live p es) ≡ None → uncalled mode p (live p es) ≡ Some f
      → marked mode p es ≡ Err f
  unfolding marked
  left_uncalled p es f free e u =
      step (pic_fault mode (live p es)) (live p es) (after_fixed p es) free
      ∙ step (unresolved p (live p es)) (live p es) (after_open p es) e
      ∙ stop (uncalled mode p (live p es)) (live p es) (λ parts. laid_out mode p es parts) f u

  pub closed : (p : Program) (es : List InputSymbol) → pic_fault mode (live p es) ≡ None → unresolved p (live p es) ≡ None → uncalled mode p (live p es) ≡ None
      → marked mode p es ≡ laid_out mode p es (live p es)
  unfolding marked
  closed p es free e u =
      step (pic_fault mode (live p es)) (live p es) (after_fixed p es) free
      ∙ step (unresolved p (live p es)) (live p es) (after_open p es) e
      ∙ step (uncalled mode p (live p es)) (live p es) (λ parts. laid_out mode p es parts) u

  -- ---- layout

  module _ (p : Program) (es : List InputSymbol) (parts : List Part) where
    abbrev l : Layout
    l = layout mode p parts es

    abbrev after_table : Result (List ℕ) Fault
    after_table = written mode p (image mode p parts es (layout mode p parts es)) (source_windows mode p parts es (layout mode p parts es))

    pub too_far : (x : Passed) → memory_overflow (rules_of mode p.plan) (shapes p parts) ≡ Some x → laid_out mode p es parts ≡ Err (Overflow x.what (pos x.needed))
    unfolding laid_out memory_fault
    too_far x e =
        stop (option_map passed_fault (memory_overflow (rules_of mode p.plan) (shapes p parts))) parts
        (λ parts. unless (table_fault (layout mode p parts es)) (layout mode p parts es) >>= λ l. written mode p (image mode p parts es l) (source_windows mode p parts es l))
        (Overflow x.what (pos x.needed)) (ap (option_map passed_fault) e)

    fits : memory_overflow (rules_of mode p.plan) (shapes p parts) ≡ None
        → laid_out mode p es parts ≡ (unless (table_fault (layout mode p parts es)) (layout mode p parts es) >>= λ l. written mode p (image mode p parts es l) (source_windows mode p parts es l))
    unfolding laid_out memory_fault
    fits e =
        step (option_map passed_fault (memory_overflow (rules_of mode p.plan) (shapes p parts))) parts
        (λ parts. unless (table_fault (layout mode p parts es)) (layout mode p parts es) >>= λ l. written mode p (image mode p parts es l) (source_windows mode p parts es l))
        (ap (option_map passed_fault) e)

    pub too_many : (k : ℕ) → memory_overflow (rules_of mode p.plan) (shapes p parts) ≡ None
        → table_overflow (layout mode p parts es).numbers.first_slot (length (layout mode p parts es).numbers.slots) ≡ Some k
        → laid_out mode p es parts ≡ Err (Overflow TableSize (pos k))
    unfolding table_fault
    too_many k first e =
        fits first ∙ stop (table_fault (layout mode p parts es)) (layout mode p parts es) (λ l. written mode p (image mode p parts es l) (source_windows mode p parts es l)) (Overflow TableSize (pos k))
        (ap (option_map (λ n. Overflow TableSize (pos n))) e)

    pub placed : memory_overflow (rules_of mode p.plan) (shapes p parts) ≡ None
        → table_overflow (layout mode p parts es).numbers.first_slot (length (layout mode p parts es).numbers.slots) ≡ None
        → laid_out mode p es parts ≡ written mode p (image mode p parts es (layout mode p parts es)) (source_windows mode p parts es (layout mode p parts es))
    unfolding table_fault
    placed first e =
        fits first ∙ step (table_fault (layout mode p parts es)) (layout mode p parts es) (λ l. written mode p (image mode p parts es l) (source_windows mode p parts es l))
        (ap (option_map (λ n. Overflow TableSize (pos n))) e)

  -- ---- the output

  module _ (p : Program) (i : Image) (wss : List (List Window)) where
    abbrev after_length : Result (List ℕ) Fault
    after_length = unless (reference_fault wss) wss >>= λ wss. Ok (output_bytes mode p i wss)

    pub too_long : (f : Fault) → length_fault (length (bytes_of (tree_of p.files i))) ≡ Some f → written mode p i wss ≡ Err f
    unfolding written output_fault
    too_long f e = stop (length_fault (length (bytes_of (tree_of p.files i)))) i (λ i. unless (reference_fault wss) wss >>= λ wss. Ok (output_bytes mode p i wss)) f e

    short : length_fault (length (bytes_of (tree_of p.files i))) ≡ None → written mode p i wss ≡ after_length
    unfolding written output_fault
    short e = step (length_fault (length (bytes_of (tree_of p.files i)))) i (λ i. unless (reference_fault wss) wss >>= λ wss. Ok (output_bytes mode p i wss)) e

    pub out_of_range : (needed : ℤ) → length_fault (length (bytes_of (tree_of p.files i))) ≡ None
        → value_overflow (flat_map (λ ws. ws) wss) ≡ Some needed → written mode p i wss ≡ Err (Overflow Reference needed)
    unfolding reference_fault
    out_of_range needed first e =
        short first ∙ stop (reference_fault wss) wss (λ wss. Ok (output_bytes mode p i wss)) (Overflow Reference needed) (ap (option_map (Overflow Reference)) e)

    pub wrote : length_fault (length (bytes_of (tree_of p.files i))) ≡ None → value_overflow (flat_map (λ ws. ws) wss) ≡ None
        → written mode p i wss ≡ Ok (bytes_of (tree_filled (map (map patch_of) (held mode wss)) (tree_of p.files i)))
    unfolding reference_fault output_bytes
    wrote first e =
        short first ∙ step (reference_fault wss) wss (λ wss. Ok (output_bytes mode p i wss)) (ap (option_map (Overflow Reference)) e)
