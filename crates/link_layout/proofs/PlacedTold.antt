-- Placed columns are those of a program.
use Rattle.std.proofs.Common.{◌≡◌, ℕ, suc, ◌-◌, ◌<◌, ◌≤◌, ◌==◌, Bool, false, not, List, [], ◌∷◌, map, filter, length, get_or, slice_get, replicate, position, Option, Some, None, option_map, unwrap_or, Result, Ok, Err, refl, sym, ap, subst, ◌∙◌, arith, pos, ℤ}
use Rattle.std.specs.Prelude.{slice_index_or, if◌then◌else◌}
use Rattle.std.specs.List.{AllPairs}
use Rattle.std.proofs.lemmas.List.{length-map, length-replicate, get_or-replicate, get_or_default}
use Rattle.std.proofs.lemmas.List.Kept.{AllPairs-filter}
use Rattle.std.proofs.lemmas.Option.{slice_get_within}
use Rattle.link_program.specs.wl_base.Choice.{unless}
use Rattle.link_program.specs.wl_base.declared.fault.What.{What}
use Rattle.link_program.specs.wl_base.declared.layout_error.LayoutError.{LayoutError}
use Rattle.link_program.specs.wl_base.declared.layout_error.LayoutError.TheVariants.{Overflow, OutOfMemory}
use Rattle.link_program.specs.made_symbols.declared.mode.Mode.{Mode}
use Rattle.link_program.specs.made_symbols.declared.mode.Mode.TheVariants.{Plain, Shared}
use Rattle.link_program.specs.memory_layout.Memory.{Passed, places, addresses, base_of, last_end, solid, memory_overflow, memory_of, too_much_of, end_after}
use Rattle.link_program.specs.memory_layout.Steps.{AreRules}
use Rattle.link_program.specs.memory_layout.declared.rules.MemoryRules.{MemoryRules}
use Rattle.link_program.specs.memory_layout.declared.rules.SegmentShape.{SegmentShape}
use Rattle.link_program.specs.memory_layout.declared.rules.Places.{Places}
use Rattle.link_program.specs.link_plan.declared.plan.Plan.{Plan}
use Rattle.link_program.specs.link_plan.Plan.{IsPlan}
use Rattle.link_program.specs.name_rules.Entries.{ImportKey}
use Rattle.link_program.specs.link_rules.Program as rules
use Rattle.link_program.specs.link_rules.Values.{rules_of, segments, solid_segments, shapes, is_zero}
use Rattle.link_program.specs.declared.program.Tables.{Tables}
use Rattle.link_program.specs.Seen.{seen_part, told_part}
use Rattle.link_program.specs.Program.{AreTables}
use Rattle.link_program.specs.Live.{AreLive}
use Rattle.link_layout.specs.declared.placing.Placed.{Placed}
use Rattle.link_layout.specs.Segments.{segment_numbers, shape_at, set_each}
use Rattle.link_layout.specs.Placed.{address_among, chunks_of, is_solid, IsPlacedIn, AnswersPlacedIn, AreColumns, AnswersColumns}
use Rattle.link_layout.proofs.Filled.{value_at, set_each_at, set_each_long, flag_kept}
use Rattle.link_layout.proofs.Pairs.{filter_pairs, list_is, map_twice}
use Rattle.link_layout.proofs.Parts.{segments_are, shapes_are, place_by_number, among_by_number, shape_told}

-- ---- what the words let through

pub are_rules : (mode : Mode) (plan : Plan) → IsPlan plan → AreRules (rules_of mode plan)
are_rules Plain plan is = (is.initial, is.max)
are_rules Shared plan is = tt

-- ---- as many addresses as segments

addresses_long : (next next_zero : ℕ) (shapes : List SegmentShape) → length (addresses next next_zero shapes) ≡ length shapes
addresses_long next next_zero [] = refl
addresses_long next next_zero (s ∷ ss) = ap suc (addresses_long (if s.zero then next else end_after next s) (if s.zero then end_after next_zero s else next_zero) ss)

placed_of : (overflow : Option LayoutError) (said given : Places) → unless overflow said ≡ Ok given → (overflow ≡ None) × (said ≡ given)
placed_of None said given e = (refl, cc)
placed_of (Some fault) said given e = absurd cc

none_of : (o : Option Passed) → option_map too_much_of o ≡ None → o ≡ None
none_of None e = refl
none_of (Some x) e = absurd cc

passed_of : (o : Option Passed) (said : Places) (what : What) (needed : ℤ) → unless (option_map too_much_of o) said ≡ Err (Overflow what needed)
    → (x : Passed) × (o ≡ Some x) × (what ≡ x.what) × (needed ≡ pos x.needed)
passed_of None said what needed e = absurd cc
passed_of (Some x) said what needed e = let a : what ≡ x.what = cc in let b : needed ≡ pos x.needed = cc in (x, refl, a, b)

places_long : (rules : MemoryRules) (shapes : List SegmentShape) → length (places rules shapes).addresses ≡ length shapes
unfolding places
places_long rules shapes = addresses_long (base_of rules) (last_end (base_of rules) (solid shapes)) shapes

-- ---- the columns

abbrev pub solid_at : Tables → List (List ℕ) → ℕ → Bool
solid_at t files n = not (shape_at t files n).zero

-- a value that is looked up, or the first one
first_or : (xs : List ℕ) (o : Option ℕ) → value_at xs o (slice_index_or xs 0 0) 0 ≡ slice_index_or xs (unwrap_or o 0) 0
first_or xs None = refl
first_or xs (Some k) = refl

module _ (mode : Mode) (names : List (List ℕ)) (imports : List ImportKey) (t : Tables) (p : rules.Program) (are : AreTables names imports t p)
    (live : List ℕ) (parts : List rules.Part) (lives : AreLive p live parts) where
  numbers_rise : AllPairs (λ a b. a < b) (segment_numbers t live)
  numbers_rise = AllPairs-filter (λ a b. a < b) _ live lives.rise

  module _ (xs : List ℕ) (long : length (segment_numbers t live) ≤ length xs) where
    address_here : (m : ℕ) (part : rules.Part) (d : ℕ) → slice_get p.parts m ≡ Some part
        → get_or (set_each (segment_numbers t live) xs (replicate (length p.parts) (slice_index_or xs 0 0))) m d ≡ address_among (chunks_of (segments parts)) xs part.chunk
    address_here m part d at =
        let ns = segment_numbers t live in
        let first = slice_index_or xs 0 0 in
        let within : m < length p.parts = slice_get_within p.parts m part at in
        let inside : m < length (replicate (length p.parts) first) = omega (arith, within, length-replicate (length p.parts) first) in
        get_or_default (set_each ns xs (replicate (length p.parts) first)) m d 0 (omega (arith, inside, set_each_long ns xs (replicate (length p.parts) first)))
        ∙ set_each_at ns xs (replicate (length p.parts) first) m 0 numbers_rise long inside
        ∙ ap (λ v. value_at xs (position (λ n. m == n) ns) v 0) (get_or-replicate (length p.parts) m first 0 within)
        ∙ first_or xs (position (λ n. m == n) ns)
        ∙ ap (λ o. slice_index_or xs (unwrap_or o 0) 0) (place_by_number p.parts are.differ m part at ns (segments parts) (segments_are names imports t p are live parts lives))

    addresses_are : set_each (segment_numbers t live) xs (replicate (length p.parts) (slice_index_or xs 0 0)) ≡ map (λ (part : rules.Part). address_among (chunks_of (segments parts)) xs part.chunk) p.parts
    addresses_are =
        let first = slice_index_or xs 0 0 in
        list_is (λ (part : rules.Part). address_among (chunks_of (segments parts)) xs part.chunk) (set_each (segment_numbers t live) xs (replicate (length p.parts) first)) p.parts
        (set_each_long (segment_numbers t live) xs (replicate (length p.parts) first) ∙ length-replicate (length p.parts) first) address_here

  -- ---- which are solid

  pub solids_are : (files : List (List ℕ)) → files ≡ p.files → map (slice_get p.parts) (filter (solid_at t files) (segment_numbers t live)) ≡ map Some (solid_segments p parts)
  solids_are files same = filter_pairs p.parts (solid_at t files) (λ part. not (is_zero p part)) (λ n part at. ap (λ (s : SegmentShape). not s.zero) (shape_told names imports t p are files same n part at))
      (segment_numbers t live) (segments parts) (segments_are names imports t p are live parts lives)

  module _ (files : List (List ℕ)) (same : files ≡ p.files) where
    solid_here : (m : ℕ) (part : rules.Part) (d : Bool) → slice_get p.parts m ≡ Some part
        → get_or (set_each (segment_numbers t live) (map (solid_at t files) (segment_numbers t live)) (replicate (length p.parts) false)) m d ≡ is_solid p parts part.chunk
    solid_here m part d at =
        let ns = segment_numbers t live in
        let xs = map (solid_at t files) ns in
        let within : m < length p.parts = slice_get_within p.parts m part at in
        let inside : m < length (replicate (length p.parts) false) = omega (arith, within, length-replicate (length p.parts) false) in
        get_or_default (set_each ns xs (replicate (length p.parts) false)) m d false (omega (arith, inside, set_each_long ns xs (replicate (length p.parts) false)))
        ∙ set_each_at ns xs (replicate (length p.parts) false) m false numbers_rise (omega (arith, length-map ns (solid_at t files))) inside
        ∙ ap (λ v. value_at xs (position (λ n. m == n) ns) v false) (get_or-replicate (length p.parts) m false false within)
        ∙ flag_kept (solid_at t files) m ns numbers_rise
        ∙ among_by_number p.parts are.differ m part at (filter (solid_at t files) ns) (solid_segments p parts) (solids_are files same)

    solid_are : set_each (segment_numbers t live) (map (solid_at t files) (segment_numbers t live)) (replicate (length p.parts) false) ≡ map (λ (part : rules.Part). is_solid p parts part.chunk) p.parts
    solid_are =
        let ns = segment_numbers t live in
        let xs = map (solid_at t files) ns in
        list_is (λ (part : rules.Part). is_solid p parts part.chunk) (set_each ns xs (replicate (length p.parts) false)) p.parts
        (set_each_long ns xs (replicate (length p.parts) false) ∙ length-replicate (length p.parts) false) solid_here

    flags_same : map (λ (s : SegmentShape). not s.zero) (map (shape_at t files) (segment_numbers t live)) ≡ map (solid_at t files) (segment_numbers t live)
    flags_same = map_twice (λ (s : SegmentShape). not s.zero) (shape_at t files) (segment_numbers t live)

    module _ (d : Placed) (rules : MemoryRules) (by : rules ≡ rules_of mode p.plan)
        (said : memory_of rules (map (shape_at t files) (segment_numbers t live)) ≡ Ok d.places)
        (columns : AreColumns (segment_numbers t live) (map (shape_at t files) (segment_numbers t live)) (length p.parts) d) where
      shaped : map (shape_at t files) (segment_numbers t live) ≡ shapes p parts
      shaped = shapes_are names imports t p are live parts lives files same

      placed_said : unless (option_map too_much_of (memory_overflow (rules_of mode p.plan) (shapes p parts))) (places (rules_of mode p.plan) (shapes p parts)) ≡ Ok d.places
      unfolding memory_of
      placed_said = (λ i. memory_of (sym by i) (sym shaped i)) ∙ said

      fits : memory_overflow (rules_of mode p.plan) (shapes p parts) ≡ None
      fits = none_of (memory_overflow (rules_of mode p.plan) (shapes p parts)) (placed_of _ _ d.places placed_said).0

      places_are : d.places ≡ places (rules_of mode p.plan) (shapes p parts)
      places_are = sym (placed_of _ _ d.places placed_said).1

      long_enough : length (segment_numbers t live) ≤ length d.places.addresses
      long_enough =
          let a : length d.places.addresses ≡ length (shapes p parts) = ap (λ (x : Places). length x.addresses) places_are ∙ places_long (rules_of mode p.plan) (shapes p parts) in
          let b : length (shapes p parts) ≡ length (segment_numbers t live) = ap length (sym shaped) ∙ length-map (segment_numbers t live) (shape_at t files) in
          omega (arith, a, b)

      pub placed : IsPlacedIn mode p parts d
      placed = record {
        places = places_are;
        addresses = columns.addresses ∙ addresses_are d.places.addresses long_enough;
        solid = columns.solid ∙ ap (λ xs. set_each (segment_numbers t live) xs (replicate (length p.parts) false)) flags_same ∙ solid_are;
      }

    pub answers : (rules : MemoryRules) → rules ≡ rules_of mode p.plan → (count : ℕ) → count ≡ length p.parts → (result : Result Placed LayoutError)
        → AnswersColumns rules (segment_numbers t live) (map (shape_at t files) (segment_numbers t live)) count result → AnswersPlacedIn mode p parts result
    unfolding memory_of
    answers rules by count long (Ok d) is =
        let columns : AreColumns (segment_numbers t live) (map (shape_at t files) (segment_numbers t live)) (length p.parts) d =
        subst (λ n. AreColumns (segment_numbers t live) (map (shape_at t files) (segment_numbers t live)) n d) long is.1 in
        (fits d rules by is.0 columns, placed d rules by is.0 columns)
    answers rules by count long (Err (Overflow what needed)) is =
        passed_of (memory_overflow (rules_of mode p.plan) (shapes p parts)) (places (rules_of mode p.plan) (shapes p parts)) what needed
        ((λ i. memory_of (sym by i) (sym (shapes_are names imports t p are live parts lives files same) i)) ∙ is)
    answers rules by count long (Err OutOfMemory) is = tt

    pub answers_by : (rules : MemoryRules) → rules ≡ rules_of mode p.plan → (numbers : List ℕ) → numbers ≡ segment_numbers t live → (shaped : List SegmentShape) → shaped ≡ map (shape_at t files) numbers
        → (count : ℕ) → count ≡ length t.parts → (result : Result Placed LayoutError) → AnswersColumns rules numbers shaped count result → AnswersPlacedIn mode p parts result
    answers_by rules by numbers nums shaped shapes count long result is =
        let e : shaped ≡ map (shape_at t files) (segment_numbers t live) = shapes ∙ ap (map (shape_at t files)) nums in
        let parts_long : length t.parts ≡ length p.parts = sym (length-map t.parts (seen_part t.types)) ∙ ap length are.parts ∙ length-map p.parts told_part in
        let f : AnswersColumns rules (segment_numbers t live) (map (shape_at t files) (segment_numbers t live)) count result =
        subst (λ ns. AnswersColumns rules ns (map (shape_at t files) (segment_numbers t live)) count result) nums (subst (λ ss. AnswersColumns rules numbers ss count result) e is) in
        answers rules by count (long ∙ parts_long) result f
