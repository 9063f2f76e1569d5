-- What the link answers, by what the calls of its steps answer.
use Rattle.std.proofs.Common.{◌≡◌, ℕ, List, length, refl, sym, ap, ◌∙◌, subst, Option, Some, None, Result, Ok, Err, ℤ, pos, All, Contains}
use Rattle.std.proofs.lemmas.List.Elements.{All-filter, All-contains_itself}
use Rattle.std.specs.Prelude.{Bool, filter, option_map}
use Rattle.link_output.specs.link_program.wl_base.declared.fault.Fault.{Fault}
use Rattle.link_output.specs.link_program.wl_base.declared.fault.Fault.TheVariants.{Overflow}
use Rattle.link_output.specs.link_program.wl_base.declared.fault.What.TheVariants.{TableSize}
use Rattle.link_output.specs.link_program.wl_base.declared.layout_error.LayoutError.{LayoutError}
use Rattle.link_output.specs.link_program.wl_base.declared.layout_error.LayoutError.TheVariants as layouts
use Rattle.link_output.specs.link_program.object_file.declared.object.Object.{Object}
use Rattle.link_output.specs.link_program.made_symbols.declared.mode.Mode.{Mode}
use Rattle.link_output.specs.link_program.made_symbols.declared.mode.Mode.TheVariants.{Plain, Shared}
use Rattle.link_output.specs.link_program.round_rules.Rounds.{Candidate, load}
use Rattle.link_output.specs.link_program.memory_layout.Memory.{memory_overflow}
use Rattle.link_output.specs.link_program.table_layout.Slots.{table_overflow}
use Rattle.link_output.specs.link_program.reloc_apply.declared.window.Window.{Window}
use Rattle.link_output.specs.link_program.image_emit.declared.tree.Image.{Image}
use Rattle.link_output.specs.link_program.image_emit.declared.measuring.Measured.{Measured}
use Rattle.link_output.specs.link_program.image_emit.Bytes.{bytes_of, tree_of}
use Rattle.link_output.specs.link_program.link_plan.declared.plan.Plan.{Plan}
use Rattle.link_output.specs.link_program.name_rules.Entries.{InputSymbol}
use Rattle.link_output.specs.link_program.link_rules.Candidates.{candidates_of}
use Rattle.link_output.specs.link_program.link_rules.ModeOf.{mode_of}
use Rattle.link_output.specs.link_program.link_rules.Program.{Program, Part, program_of}
use Rattle.link_output.specs.link_program.link_rules.Marks.{exported, repeated_export, live, pic_fault, unresolved, uncalled}
use Rattle.link_output.specs.link_program.link_rules.Keys.{numbers}
use Rattle.link_output.specs.link_program.link_rules.Values.{rules_of, shapes}
use Rattle.link_output.specs.link_program.link_rules.Output.{layout, image, source_windows, held}
use Rattle.link_output.specs.link_program.link_rules.LinkOf.{asked_names, the_readers, exporting, marked, laid_out, written, length_fault, link_program, link_of}
use Rattle.valid_shared_links.specs.valid_links.link_runs.link_inputs.Inputs.{loaded_of}
use Rattle.program_build.specs.Found.{Finds, found_of}
use Rattle.link_image.specs.link_layout.Placed.{AnswersPlacedIn, IsPlaced}
use Rattle.link_image.specs.link_numbers.Numbered.{TellsOverflow, IsNumbering}
use Rattle.link_image.specs.link_numbers.Laws.{AreImported}
use Rattle.link_output.specs.link_program.image_emit.Measures.{LieIn}
use Rattle.link_output.specs.link_program.image_emit.Pieces.{code_place, source_places, sources}
use Rattle.link_output.specs.link_program.Live.{Stage, AreLive, AllMeant}
use Rattle.link_output.specs.link_program.Program.{IsProgram}
use Rattle.link_output.specs.link_program.Stand.{PartsStand}
use Rattle.link_image.specs.link_layout.Layout.{IsLayout}
use Rattle.link_image.specs.link_layout.declared.values.Layout.{Layout as LayoutData}
use Rattle.link_output.specs.Written.{Measures, Writes, StandInSources}
use Rattle.link_output.specs.link_program.declared.error.LinkError.{LinkError}
use Rattle.link_output.specs.link_program.declared.error.LinkError.TheVariants.{Refused, OutOfMemory}
use Rattle.link_output.specs.link_program.Answers.{Fails, Stops, of_layout}
use Rattle.debug_places.specs.Tails.{the_tree}
use Rattle.link_core.specs.Answers.{Answers}
use Rattle.link_core.specs.Making.{the_image}
use Rattle.link_core.proofs.Steps as steps

-- an error that is passed on
passed : {E : Type 0} (f : E → LinkError) (said : Result (List ℕ) Fault) (e : E) (x : LinkError) → x ≡ f e → Answers (Err (f e)) said → Answers (Err x) said
passed f said e x is a = subst (λ x. Answers (Err x) said) (sym is) a

pub fails_by : (said : Result (List ℕ) Fault) (e x : LinkError) → x ≡ e → Fails e said → Fails x said
fails_by said e x is fails = subst (λ x. Fails x said) (sym is) fails

-- ---- loading

pub load_failed : (plan : Plan) (files : List (List ℕ)) (e x : LinkError) → x ≡ e → Fails e (loaded_of (mode_of plan) plan files) → Answers (Err x) (link_of plan files)
unfolding loaded_of link_of
load_failed plan files e x is fails = fails_by (link_of plan files) e x is (by e fails)
  where
    by : (e : LinkError) → Fails e (loaded_of (mode_of plan) plan files) → Answers (Err e) (link_of plan files)
    by (Refused f) fails = steps.not_loaded (mode_of plan) plan files f fails
    by OutOfMemory fails = tt

pub goes_on_loaded : (plan : Plan) (files : List (List ℕ)) (all : List Candidate) (objects : List Object) (r : Result (List ℕ) LinkError)
    → candidates_of the_readers plan files ≡ Ok all → load (mode_of plan) (asked_names plan) all ≡ Ok objects
    → (let p = program_of (mode_of plan) plan files all objects in Answers r (link_program (mode_of p.plan) p)) → Answers r (link_of plan files)
unfolding link_of program_of
goes_on_loaded plan files all objects r found given a = subst (Answers r) (sym (steps.loaded (mode_of plan) plan files all objects found given)) a

-- ---- exports

some_of_them : (test : InputSymbol → Bool) (winners : List InputSymbol) → All (Contains winners) (filter test winners)
some_of_them test winners = All-filter test (Contains winners) winners (All-contains_itself winners)

pub exports_are_winners : (mode : Mode) (p : Program) → All (Contains p.winners) (exported mode p)
unfolding exported
exports_are_winners Plain p = some_of_them _ p.winners
exports_are_winners Shared p = some_of_them _ p.winners

module _ (mode : Mode) where
  -- ---- names

  pub find_failed : (found : Mode) (plan : Plan) (objects : List Object) (p : Program) (e x : LinkError) → x ≡ e → Finds found (Err e) plan objects p → Answers (Err x) (link_program mode p)
  find_failed found plan objects p e x is finds = fails_by (link_program mode p) e x is (by e finds)
    where
      by : (e : LinkError) → Finds found (Err e) plan objects p → Answers (Err e) (link_program mode p)
      by (Refused f) finds = steps.not_named mode p f finds
      by OutOfMemory finds = tt

  pub goes_on_found : (p : Program) (r : Result (List ℕ) LinkError) → found_of p ≡ Ok p → Answers r (exporting mode p (exported mode p)) → Answers r (link_program mode p)
  goes_on_found p r found a = subst (Answers r) (sym (steps.named mode p found)) a

  -- ---- exports and marks

  pub export_repeats : (p : Program) (es : List InputSymbol) (e x : LinkError) → x ≡ e → Stops e (repeated_export mode p es) → Fails x (exporting mode p es)
  export_repeats p es e x is stops = fails_by (exporting mode p es) e x is (by e stops)
    where
      by : (e : LinkError) → Stops e (repeated_export mode p es) → Fails e (exporting mode p es)
      by (Refused f) stops = steps.repeats mode p es f stops
      by OutOfMemory stops = tt

  module _ (p : Program) (es : List InputSymbol) (e x : LinkError) (is : x ≡ e) (once : repeated_export mode p es ≡ None) where
    -- what stops the link once all exports differ
    marks_fail : Fails e (marked mode p es) → Fails x (exporting mode p es)
    marks_fail fails = fails_by (exporting mode p es) e x is (subst (Fails e) (sym (steps.exports mode p es once)) fails)

    pub code_is_fixed : Stops e (pic_fault mode (live p es)) → Fails x (exporting mode p es)
    code_is_fixed stops = marks_fail (by e stops)
      where
        by : (e : LinkError) → Stops e (pic_fault mode (live p es)) → Fails e (marked mode p es)
        by (Refused f) stops = steps.fixed mode p es f stops
        by OutOfMemory stops = tt

    module _ (free : pic_fault mode (live p es) ≡ None) where
      pub name_left_open : Stops e (unresolved p (live p es)) → Fails x (exporting mode p es)
      name_left_open stops = marks_fail (by e stops)
        where
          by : (e : LinkError) → Stops e (unresolved p (live p es)) → Fails e (marked mode p es)
          by (Refused f) stops = steps.left_open mode p es f free stops
          by OutOfMemory stops = tt

      -- constructors would be lost
      pub ctors_lost : unresolved p (live p es) ≡ None → Stops e (uncalled mode p (live p es)) → Fails x (exporting mode p es)
      ctors_lost closed stops = marks_fail (by e stops)
        where
          by : (e : LinkError) → Stops e (uncalled mode p (live p es)) → Fails e (marked mode p es)
          by (Refused f) stops = steps.left_uncalled mode p es f free closed stops
          by OutOfMemory stops = tt

  pub all_closed : (p : Program) (es : List InputSymbol) → repeated_export mode p es ≡ None → pic_fault mode (live p es) ≡ None → unresolved p (live p es) ≡ None
      → uncalled mode p (live p es) ≡ None → exporting mode p es ≡ laid_out mode p es (live p es)
  all_closed p es once free closed called = steps.exports mode p es once ∙ steps.closed mode p es free closed called

  pub choose_failed : (p : Program) (e x : LinkError) → x ≡ e → found_of p ≡ Ok p → Fails e (exporting mode p (exported mode p)) → Answers (Err x) (link_program mode p)
  choose_failed p e x is found fails = goes_on_found p (Err x) found (fails_by (exporting mode p (exported mode p)) e x is fails)

  -- the link of a program, by what laying it out answers
  pub goes_on_chosen : (p : Program) (r : Result (List ℕ) LinkError) → found_of p ≡ Ok p → exporting mode p (exported mode p) ≡ laid_out mode p (exported mode p) (live p (exported mode p))
      → Answers r (laid_out mode p (exported mode p) (live p (exported mode p))) → Answers r (link_program mode p)
  goes_on_chosen p r found same a = goes_on_found p r found (subst (Answers r) (sym same) a)

  -- ---- layout

  module _ (p : Program) (es : List InputSymbol) (parts : List Part) where
    -- nothing passes the memory's limits
    abbrev Fits : Type 0
    Fits = memory_overflow (rules_of mode p.plan) (shapes p parts) ≡ None

    abbrev slots_end : Option ℕ
    slots_end = table_overflow (numbers mode p parts es).first_slot (length (numbers mode p parts es).slots)

    pub place_failed : (e : LayoutError) (x : LinkError) → x ≡ of_layout e → AnswersPlacedIn mode p parts (Err e) → Answers (Err x) (laid_out mode p es parts)
    place_failed e x is placed = passed of_layout (laid_out mode p es parts) e x is (by e placed)
      where
        by : (e : LayoutError) → AnswersPlacedIn mode p parts (Err e) → Answers (Err (of_layout e)) (laid_out mode p es parts)
        by (layouts.Overflow what needed) (x, at, same, as_much) =
            steps.too_far mode p es parts x at ∙ ap (λ w. Err (Overflow w (pos x.needed))) (sym same) ∙ ap (λ n. Err (Overflow what n)) (sym as_much)
        by layouts.OutOfMemory placed = tt

    too_many : (end : Option ℕ) (needed : ℤ) → Fits → slots_end ≡ end → Some needed ≡ option_map pos end → laid_out mode p es parts ≡ Err (Overflow TableSize needed)
    unfolding layout
    too_many (Some k) needed fits at is = steps.too_many mode p es parts k fits at ∙ ap (λ n. Err (Overflow TableSize n)) (sym (some_is needed (pos k) is))
      where
        value : ℤ → Option ℤ → ℤ
        value n (Some m) = m
        value n None = n

        some_is : (a b : ℤ) → Some a ≡ Some b → a ≡ b
        some_is a b e = ap (value a) e
    too_many None needed fits at is = absurd (subst HasOne is tt)
      where
        HasOne : Option ℤ → Type 0
        HasOne (Some n) = Unit {0}
        HasOne None = ⊥

    pub number_failed : (A : Type 0) (e : LayoutError) (x : LinkError) → x ≡ of_layout e → Fits → TellsOverflow {A = A} (Err e) slots_end → Answers (Err x) (laid_out mode p es parts)
    number_failed A e x is fits tells = passed of_layout (laid_out mode p es parts) e x is (by e tells)
      where
        by : (e : LayoutError) → TellsOverflow {A = A} (Err e) slots_end → Answers (Err (of_layout e)) (laid_out mode p es parts)
        by (layouts.Overflow what needed) both = too_many slots_end needed fits refl both.1 ∙ ap (λ w. Err (Overflow w needed)) (sym both.0)
        by layouts.OutOfMemory both = tt

    pub goes_on_placed : (r : Result (List ℕ) LinkError) → Fits → slots_end ≡ None
        → Answers r (written mode p (image mode p parts es (layout mode p parts es)) (source_windows mode p parts es (layout mode p parts es))) → Answers r (laid_out mode p es parts)
    unfolding layout
    goes_on_placed r fits none a = subst (Answers r) (sym (steps.placed mode p es parts fits none)) a

  -- ---- writing

  module _ (p : Program) (i : Image) (wss : List (List Window)) (files : List (List ℕ)) (j : Image) (same : files ≡ p.files) (made : j ≡ i) where
    -- what is known of the image that was made, said of the image
    moved : (T : List (List ℕ) → Image → Type 0) → T files j → T p.files i
    moved T t = subst (λ fs. T fs i) same (subst (T files) made t)

    pub measure_failed : (e : LayoutError) (x : LinkError) → x ≡ of_layout e → Measures (Err e) files j → Answers (Err x) (written mode p i wss)
    measure_failed e x is measures = passed of_layout (written mode p i wss) e x is (by e (moved (Measures (Err e)) measures))
      where
        by : (e : LayoutError) → Measures (Err e) p.files i → Answers (Err (of_layout e)) (written mode p i wss)
        by (layouts.Overflow what needed) long = steps.too_long mode p i wss (Overflow what needed) long
        by layouts.OutOfMemory long = tt

    is_short : (m : Measured) → Measures (Ok m) files j → length_fault (length (bytes_of (tree_of p.files i))) ≡ None
    is_short m measures = (moved (Measures (Ok m)) measures).2

    pub write_failed : (vss : List (List Window)) (m : Measured) (e : LayoutError) (x : LinkError) → x ≡ of_layout e → Measures (Ok m) files j → Writes (Err e) wss vss files j → Answers (Err x) (written mode p i wss)
    write_failed vss m e x is measures writes = passed of_layout (written mode p i wss) e x is (by e (moved (Writes (Err e) wss vss) writes))
      where
        by : (e : LayoutError) → Writes (Err e) wss vss p.files i → Answers (Err (of_layout e)) (written mode p i wss)
        by (layouts.Overflow what needed) both = steps.out_of_range mode p i wss needed (is_short m measures) both.1 ∙ ap (λ w. Err (Overflow w needed)) (sym both.0)
        by layouts.OutOfMemory both = tt

    pub wrote : (m : Measured) (bytes : List ℕ) → Measures (Ok m) files j → Writes (Ok bytes) wss (held mode wss) files j → Answers (Ok bytes) (written mode p i wss)
    wrote m bytes measures writes =
        let both = moved (Writes (Ok bytes) wss (held mode wss)) writes in
        steps.wrote mode p i wss (is_short m measures) both.0 ∙ ap (λ bs. Ok bs) (sym both.1)

-- ---- what is laid out, and its output

pub layout_is : (p : Program) (parts : List Part) (es : List InputSymbol) (d : LayoutData) (ns : List ℕ) → IsProgram d.program p → PartsStand p → AreLive p ns parts → AllMeant parts
    → IsNumbering d.program.names.now.names d.program.resolution.now.imports d.program.tables.now.types p parts d.numbering.now (numbers (mode_of p.plan) p parts es)
    → AreImported (mode_of p.plan) d.program.resolution.now.imports p parts → IsPlaced p parts d.placed.now → IsLayout p parts es d
layout_is p parts es d ns program stand live meant numbering imported placed = record {
  asked = refl;
  program = program;
  stand = stand;
  live = (ns, live);
  meant = meant;
  numbering = numbering;
  imported = imported;
  placed = placed;
}

pub lie_there : (files others : List (List ℕ)) (i j : Image) → files ≡ others → j ≡ i → LieIn others i → LieIn files j
lie_there files others i j same made lie = subst (λ k. LieIn files k) (sym made) (subst (λ fs. LieIn fs i) (sym same) lie)

pub stand_there : (files others : List (List ℕ)) (i j : Image) (wss : List (List Window)) → files ≡ others → j ≡ i → StandInSources wss (sources (tree_of others i))
    → StandInSources wss (sources (tree_of files j))
stand_there files others i j wss same made stand =
    subst (λ k. StandInSources wss (sources (tree_of files k))) (sym made) (subst (λ fs. StandInSources wss (sources (tree_of fs i))) (sym same) stand)

-- what a measure tells of the image that was made, said of the stage's
module _ (s : Stage) (files : List (List ℕ)) (j : Image) (same : files ≡ s.program.files) (made : j ≡ the_image s) (m : Measured) where
  pub places_there : m.places ≡ source_places (tree_of files j) → m.places ≡ source_places (the_tree s)
  places_there is = is ∙ (λ i. source_places (tree_of (same i) (made i)))

  pub code_there : m.code ≡ code_place (tree_of files j) → m.code ≡ code_place (the_tree s)
  code_there is = is ∙ (λ i. code_place (tree_of (same i) (made i)))
