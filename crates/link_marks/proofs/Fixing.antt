-- What a shared output can't have, by the objects and by the definition.
use Rattle.std.proofs.Common.{◌≡◌, ℕ, zero, suc, ◌+◌, ◌<◌, ◌≤◌, ◌==◌, ◌&&◌, ◌||◌, not, Bool, true, false, cond, List, [], ◌∷◌, ◌++◌, length, get_or, drop, map, filter, filter_map, flat_map, find, slice_get, Option, Some, None, option_map, option_and_then, refl, sym, ap, ◌∙◌, subst, arith, inl, inr, pos, ℤ}
use Rattle.std.specs.Prelude.{replicate, is_some, if◌then◌else◌}
use Rattle.std.specs.List.{AllByRecursion, AllZip, cons_option}
use Rattle.std.specs.Option.{IsSome}
use Rattle.std.proofs.lemmas.Bool.Decides.{nat_tests}
use Rattle.std.proofs.lemmas.List.{drop_more, drop_all}
use Rattle.link_program.specs.wl_base.Choice.{first_some}
use Rattle.link_program.specs.linking_section.declared.init.InitFunc.{InitFunc}
use Rattle.link_program.specs.linking_section.declared.symbol.Symbol.{Symbol}
use Rattle.link_program.specs.linking_section.Flags.{is_local_definition}
use Rattle.link_program.specs.body_windows.declared.operand.Operand.{Operand}
use Rattle.link_program.specs.body_windows.declared.operand.Operand.TheVariants as operands
use Rattle.link_program.specs.body_windows.declared.operands.Reference.{Reference}
use Rattle.link_program.specs.body_windows.Operands.{operand_of, spread}
use Rattle.link_program.specs.object_parts.declared.parts.GlobalDef.{GlobalDef}
use Rattle.link_program.specs.object_columns.declared.functions.FunctionDef.{FunctionDef}
use Rattle.link_program.specs.object_columns.declared.segments.SegmentDef.{SegmentDef}
use Rattle.link_program.specs.object_file.declared.object.Object.{Object}
use Rattle.link_program.specs.made_symbols.declared.mode.Mode.{Mode}
use Rattle.link_program.specs.made_symbols.Made.{MadeSymbol, made}
use Rattle.link_program.specs.round_rules.Rounds.{Candidate}
use Rattle.link_program.specs.mark_bits.declared.chunk.Chunk.{Chunk}
use Rattle.link_program.specs.name_rules.Entries.{InputSymbol, ImportKey, entry_in, symbols_of}
use Rattle.link_program.specs.name_rules.Meanings.{Meaning, here, imported, null, nothing, Resolved}
use Rattle.link_program.specs.name_rules.declared.meaning.Meaning.{Meaning as Told}
use Rattle.link_program.specs.name_rules.declared.meaning.Meaning.TheVariants as told
use Rattle.link_program.specs.name_meanings.Means.{Means, row_of}
use Rattle.link_program.specs.name_rules.Further.{is_here}
use Rattle.link_program.specs.link_rules.ModeOf.{mode_of}
use Rattle.link_program.specs.link_rules.Program.{Program, Part, Ref, Named, a_symbol, named_ref, refs, ref_in, ref_to, operand_named, init_call, init_calls_in, init_calls, by_priority, is_skipped, InitCall, loose_ref, loose_part, loose_parts, indexed, function_part, segment_part, global_part, parts_in, is_part_kept, parts_of, made_parts_from, made_kind, option_onto, linker_made, no_source}
use Rattle.link_program.specs.link_rules.Marks.{is_foreign, is_absolute, is_relative, is_fixed, fixed_fault, pic_fault, refs_of}
use Rattle.link_program.specs.made_symbols.declared.mode.Mode.TheVariants.{Plain, Shared}
use Rattle.link_program.specs.declared.program.Program.{Program as Data}
use Rattle.link_program.specs.declared.program.Tables.{Tables}
use Rattle.link_program.specs.Look.{no_part, part_at}
use Rattle.link_program.specs.Seen.{seen_part, told_part}
use Rattle.link_program.specs.Program.{AreTables, IsProgram}
use Rattle.link_program.proofs.Loose.{loosened_or_not, refs_loose}
use Rattle.name_unresolved.specs.Unresolved.{AreMeant}
use Rattle.link_marks.specs.declared.live.Live.{Live}
use Rattle.link_marks.specs.Alive.{IsLive}
use Rattle.link_marks.specs.Fixed.{Fixed, first_by, is_told_here, is_foreign_told, has_value, fixed_by, fixed_symbol, fixed_operand, fixed_in, fixed_of, fixed_at, first_fixed, told_fault}
use Rattle.link_marks.proofs.AllMeant.{parts_in as parts_among}
use Rattle.link_marks.proofs.Known.{IsObject, are_objects}
use Rattle.link_marks.proofs.Leasts.{sorted_all}
use Rattle.link_marks.proofs.Members.{In, all_in, all_from, all_both, all_map, all_flat, all_kept, all_filter_map, OfOption, found_has}
use Rattle.link_marks.proofs.Opened.{Fine, symbol_of, means, resolved}
use Rattle.link_marks.proofs.Whole.{fine_from, resolved_are}
use Rattle.link_marks.proofs.Working.{at_told}
use Rattle.std.proofs.lemmas.List.Elements.{recursion_from_All}

some_at : {X : Type 0} (xs : List X) (i : ℕ) → i < length xs → IsSome (slice_get xs i)
some_at [] i below = absurd (omega arith)
some_at (x ∷ xs) zero below = refl
some_at (x ∷ xs) (suc i) below = some_at xs i (omega arith)

-- where a row is as long as the symbols, each has an answer
pub answered : {X Y : Type 0} (row : List X) (symbols : List Y) (i : ℕ) → length row ≡ length symbols → i < length symbols → IsSome (slice_get row i)
answered row symbols i same below = some_at row i (omega (arith, same, below))

-- of a type that holds no slot or address nothing is asked
pub unasked : (o : Object) (row : List Told) (kind symbol : ℕ) → (is_absolute kind || is_relative kind) ≡ false → None ≡ fixed_symbol o row kind symbol
unasked o row kind symbol neither = by_symbol (slice_get o.symbols symbol)
  where
    by_types : (a r f : Bool) (x : Fixed) → (a || r) ≡ false → None ≡ (if a || (r && f) then Some x else None)
    by_types true r f x e = absurd cc
    by_types false true f x e = absurd cc
    by_types false false f x e = refl

    by_symbol : (s : Option Symbol) → None ≡ fixed_by o.input symbol kind (slice_get row symbol) s
    by_symbol None = refl
    by_symbol (Some s) = by_types (is_absolute kind) (is_relative kind) (is_foreign_told s (slice_get row symbol)) (o.input, symbol, kind) neither

-- what is found is one of the objects
pub found_meant : (rows : List (List Told)) (objects : List Object) (input : ℕ) (o : Object) → AreMeant rows objects → find (λ (x : Object). x.input == input) objects ≡ Some o → length (row_of rows o.input) ≡ length o.symbols
found_meant rows objects input o all is =
    (found_has (λ (x : Object). length (row_of rows x.input) ≡ length x.symbols) (λ (x : Object). x.input == input) objects o
    (recursion_from_All (λ (x : Object). length (row_of rows x.input) ≡ length x.symbols) objects all) is).0

-- ---- the first of a list

module _ {A B : Type 0} (g : A → Option B) where
  pub found_here : (xs : List A) (i : ℕ) (d : A) (y : B) (total : Option B) → i < length xs → g (get_or xs i d) ≡ Some y → first_by g (drop i xs) ≡ total → Some y ≡ total
  found_here xs i d y total within is so_far =
      sym (ap (first_by g) (drop_more xs i d within) ∙ ap (λ o. first_some (o ∷ map g (drop (i + 1) xs))) is) ∙ so_far

  pub passed : (xs : List A) (i : ℕ) (d : A) (total : Option B) → i < length xs → g (get_or xs i d) ≡ None → first_by g (drop i xs) ≡ total → first_by g (drop (i + 1) xs) ≡ total
  passed xs i d total within is so_far =
      sym (ap (first_by g) (drop_more xs i d within) ∙ ap (λ o. first_some (o ∷ map g (drop (i + 1) xs))) is) ∙ so_far

  pub none_left : (xs : List A) (i : ℕ) (total : Option B) → length xs ≤ i → first_by g (drop i xs) ≡ total → None ≡ total
  none_left xs i total past so_far = sym (ap (first_by g) (drop_all i xs past)) ∙ so_far

  first_none : (xs : List A) → AllByRecursion (λ x. g x ≡ None) xs → first_by g xs ≡ None
  first_none [] all = refl
  first_none (x ∷ xs) all = ap (λ o. first_some (o ∷ map g xs)) all.0 ∙ first_none xs all.1

  first_append : (xs ys : List A) → first_by g (xs ++ ys) ≡ first_some (first_by g xs ∷ first_by g ys ∷ [])
  first_append [] ys = by (first_by g ys)
    where
      by : (o : Option B) → o ≡ first_some (None ∷ o ∷ [])
      by None = refl
      by (Some y) = refl
  first_append (x ∷ xs) ys = by (g x) (first_append xs ys)
    where
      by : (o : Option B) → first_by g (xs ++ ys) ≡ first_some (first_by g xs ∷ first_by g ys ∷ [])
          → first_some (o ∷ map g (xs ++ ys)) ≡ first_some (first_some (o ∷ map g xs) ∷ first_by g ys ∷ [])
      by None h = h
      by (Some y) h = refl

  first_filter : (q : A → Bool) (xs : List A) → first_by g (filter q xs) ≡ first_by (λ x. cond (q x) (g x) None) xs
  first_filter q [] = refl
  first_filter q (x ∷ xs) = by (q x) (first_filter q xs)
    where
      more : (o : Option B) → first_by g (filter q xs) ≡ first_by (λ x. cond (q x) (g x) None) xs → first_some (o ∷ map g (filter q xs)) ≡ first_some (o ∷ map (λ x. cond (q x) (g x) None) xs)
      more None h = h
      more (Some y) h = refl

      by : (b : Bool) → first_by g (filter q xs) ≡ first_by (λ x. cond (q x) (g x) None) xs
          → first_by g (cond b (x ∷ filter q xs) (filter q xs)) ≡ first_some (cond b (g x) None ∷ map (λ x. cond (q x) (g x) None) xs)
      by true h = more (g x) h
      by false h = h

module _ {A B : Type 0} where
  first_same : (f g : A → Option B) (xs : List A) → AllByRecursion (λ x. f x ≡ g x) xs → first_by f xs ≡ first_by g xs
  first_same f g [] all = refl
  first_same f g (x ∷ xs) all = let h = all.0 in let t = first_same f g xs all.1 in ap (λ o. first_some (o ∷ map f xs)) h ∙ by (g x) t
    where
      by : (o : Option B) → first_by f xs ≡ first_by g xs → first_some (o ∷ map f xs) ≡ first_some (o ∷ map g xs)
      by None h = h
      by (Some y) h = refl

module _ {A B C : Type 0} (g : B → Option C) where
  first_map : (f : A → B) (xs : List A) → first_by g (map f xs) ≡ first_by (λ x. g (f x)) xs
  first_map f [] = refl
  first_map f (x ∷ xs) = by (g (f x)) (first_map f xs)
    where
      by : (o : Option C) → first_by g (map f xs) ≡ first_by (λ x. g (f x)) xs → first_some (o ∷ map g (map f xs)) ≡ first_some (o ∷ map (λ x. g (f x)) xs)
      by None h = h
      by (Some y) h = refl

  first_filter_map : (f : A → Option B) (xs : List A) → first_by g (filter_map f xs) ≡ first_by (λ x. option_and_then g (f x)) xs
  first_filter_map f [] = refl
  first_filter_map f (x ∷ xs) = by (f x) (first_filter_map f xs)
    where
      more : (o : Option C) → first_by g (filter_map f xs) ≡ first_by (λ x. option_and_then g (f x)) xs → first_some (o ∷ map g (filter_map f xs)) ≡ first_some (o ∷ map (λ x. option_and_then g (f x)) xs)
      more None h = h
      more (Some y) h = refl

      by : (o : Option B) → first_by g (filter_map f xs) ≡ first_by (λ x. option_and_then g (f x)) xs
          → first_by g (cons_option o (filter_map f xs)) ≡ first_some (option_and_then g o ∷ map (λ x. option_and_then g (f x)) xs)
      by None h = h
      by (Some y) h = more (g y) h

  first_flat : (f : A → List B) (xs : List A) → first_by g (flat_map f xs) ≡ first_by (λ x. first_by g (f x)) xs
  first_flat f [] = refl
  first_flat f (x ∷ xs) = first_append g (f x) (flat_map f xs) ∙ by (first_by g (f x)) (first_flat f xs)
    where
      by : (o : Option C) → first_by g (flat_map f xs) ≡ first_by (λ x. first_by g (f x)) xs → first_some (o ∷ first_by g (flat_map f xs) ∷ []) ≡ first_some (o ∷ map (λ x. first_by g (f x)) xs)
      by None h = one (first_by g (flat_map f xs)) ∙ h
        where
          one : (o : Option C) → first_some (None ∷ o ∷ []) ≡ o
          one None = refl
          one (Some y) = refl
      by (Some y) h = refl

-- ---- references of a body

module _ (o : Object) (row : List Told) where
  numbers_pass : (n : ℕ) (rest : List Operand) → first_by (fixed_operand o row) (replicate n operands.Number ++ rest) ≡ first_by (fixed_operand o row) rest
  numbers_pass zero rest = refl
  numbers_pass (suc n) rest = numbers_pass n rest

  numbers_none : (n : ℕ) → first_by (fixed_operand o row) (replicate n operands.Number) ≡ None
  numbers_none zero = refl
  numbers_none (suc n) = numbers_none n

  pub spread_first : (rs : List Reference) (behind : ℕ) → first_by (λ r. fixed_operand o row (operand_of r)) rs ≡ first_by (fixed_operand o row) (spread rs behind)
  spread_first [] behind = sym (numbers_none behind)
  spread_first (r ∷ rs) behind = by (fixed_operand o row (operand_of r)) (spread_first rs behind) ∙ sym (numbers_pass r.numbers (operand_of r ∷ spread rs behind))
    where
      by : (x : Option Fixed) → first_by (λ r. fixed_operand o row (operand_of r)) rs ≡ first_by (fixed_operand o row) (spread rs behind)
          → first_some (x ∷ map (λ r. fixed_operand o row (operand_of r)) rs) ≡ first_some (x ∷ map (fixed_operand o row) (spread rs behind))
      by None h = h
      by (Some y) h = refl

-- ---- what is told of references

same_here : (imports : List ImportKey) (t : Told) (m : Meaning) → Means imports t m → is_told_here (Some t) ≡ is_here m
same_here imports (told.Here input symbol) (here e) h = refl
same_here imports (told.Here input symbol) (imported k) h = absurd h
same_here imports (told.Here input symbol) null h = absurd h
same_here imports (told.Here input symbol) nothing h = absurd h
same_here imports (told.Made n) (here e) h = refl
same_here imports (told.Made n) (imported k) h = absurd h
same_here imports (told.Made n) null h = absurd h
same_here imports (told.Made n) nothing h = absurd h
same_here imports (told.Import n) (here e) h = absurd h
same_here imports (told.Import n) (imported k) h = refl
same_here imports (told.Import n) null h = absurd h
same_here imports (told.Import n) nothing h = absurd h
same_here imports told.Null (here e) h = absurd h
same_here imports told.Null (imported k) h = absurd h
same_here imports told.Null null h = refl
same_here imports told.Null nothing h = absurd h
same_here imports told.Nothing (here e) h = absurd h
same_here imports told.Nothing (imported k) h = absurd h
same_here imports told.Nothing null h = absurd h
same_here imports told.Nothing nothing h = refl

abbrev triple : Ref → Fixed
triple r = (r.entry.input, r.entry.place, r.kind)

-- a reference that a shared output can't have
abbrev fixed_ref : Ref → Option Fixed
fixed_ref r = cond (is_fixed r) (Some (triple r)) None

abbrev fixed_named : Option Named → Option Fixed
fixed_named n = option_and_then (λ (m : Named). option_and_then fixed_ref (named_ref m)) n

-- a call is none
call_free : (r : Ref) → r.kind ≡ 0 → fixed_ref r ≡ None
call_free r is = ap (λ k. cond (is_absolute k || (is_relative k && is_foreign r)) (Some (r.entry.input, r.entry.place, k)) None) is

first_found : (rs : List Ref) → option_map triple (find is_fixed rs) ≡ first_by fixed_ref rs
first_found [] = refl
first_found (r ∷ rs) = by (is_fixed r) (first_found rs)
  where
    by : (b : Bool) → option_map triple (find is_fixed rs) ≡ first_by fixed_ref rs → option_map triple (cond b (Some r) (find is_fixed rs)) ≡ first_some (cond b (Some (triple r)) None ∷ map fixed_ref rs)
    by true h = refl
    by false h = h

-- The first of a part, which is a function.
abbrev part_fixed : Part → Option Fixed
part_fixed part = cond (part.chunk.kind == 0) (first_by fixed_ref (refs part)) None

module _ (mode : Mode) (allow : Bool) (objects : List Object) (rows : List (List Told)) (imports : List ImportKey) where
  -- What is found in the objects for a part is what the definition finds.
  abbrev pub Finds : Part → Type 0
  Finds part = fixed_at objects rows part.chunk ≡ part_fixed part

  module _ (o : Object) (fine : Fine mode allow objects rows imports o) where
    abbrev row : List Told
    row = row_of rows o.input

    ref_fixed : (place kind s : ℕ) (addend : ℤ) → fixed_symbol o row kind s ≡ fixed_named (option_map a_symbol (ref_in (resolved mode allow objects rows imports o) place kind s addend))
    ref_fixed place kind s addend = elim (symbol_of mode allow objects rows imports o fine s) as (λ _. fixed_symbol o row kind s ≡ fixed_named (option_map a_symbol (ref_in (resolved mode allow objects rows imports o) place kind s addend))) [
      | inl n ↦
          ap (fixed_by o.input s kind (slice_get row s)) n.0
          ∙ sym (ap (λ x. fixed_named (option_map a_symbol (ref_to place kind addend x (slice_get (map (means mode allow objects rows imports) (symbols_of objects o)) s)))) n.1)
      | inr y ↦
          let e : InputSymbol = entry_in objects o s y.symbol in
          (λ i. fixed_by o.input s kind (y.answer i) (y.there i))
          ∙ ap (λ h. cond (is_absolute kind || (is_relative kind && (not h && (is_some y.symbol.name && not (is_local_definition y.symbol)) && has_value y.symbol))) (Some (o.input, s, kind)) None)
          (same_here imports y.told (means mode allow objects rows imports e) y.tells)
          ∙ sym (λ i. fixed_named (option_map a_symbol (ref_to place kind addend (y.entry_there i) (y.meant_there i))))
    ]

    operand_fixed : (op : Operand) → fixed_operand o row op ≡ fixed_named (operand_named (resolved mode allow objects rows imports o) op)
    operand_fixed operands.Number = refl
    operand_fixed (operands.Symbol kind place s addend) = ref_fixed place kind s addend
    operand_fixed (operands.TypeRef place index) = refl
    operand_fixed operands.TableZero = refl

    body_fixed : (ops : List Operand) → first_by (fixed_operand o row) ops ≡ first_by fixed_ref (filter_map named_ref (filter_map (operand_named (resolved mode allow objects rows imports o)) ops))
    body_fixed ops =
        first_same (fixed_operand o row) (λ op. fixed_named (operand_named (resolved mode allow objects rows imports o) op)) ops (all_from _ ops (λ op h. operand_fixed op))
        ∙ sym (first_filter_map fixed_ref named_ref (filter_map (operand_named (resolved mode allow objects rows imports o)) ops)
        ∙ first_filter_map (λ (m : Named). option_and_then fixed_ref (named_ref m)) (operand_named (resolved mode allow objects rows imports o)) ops)

    function_finds : (all : List Candidate) (index : ℕ) (f : FunctionDef) → slice_get o.functions index ≡ Some f → Finds (function_part all objects (resolved mode allow objects rows imports o) index f)
    function_finds all index f is = ap (fixed_of rows index) fine.is.0 ∙ ap (fixed_in o row) is ∙ body_fixed f.operands

    each_indexed : {A : Type 0} (make : ℕ → A → Part) (xs ys : List A) (n : ℕ) → ((i : ℕ) (y : A) → slice_get ys i ≡ Some y → slice_get xs (n + i) ≡ Some y)
        → ((i : ℕ) (y : A) → slice_get xs i ≡ Some y → Finds (make i y)) → AllByRecursion Finds (indexed make n ys)
    each_indexed make xs [] n same f = tt
    each_indexed make xs (y ∷ ys) n same f = (
      f n y (ap (slice_get xs) (let e : n ≡ n + 0 = omega arith in e) ∙ same 0 y refl),
      each_indexed make xs ys (n + 1) (λ i z is. ap (slice_get xs) (let e : n + 1 + i ≡ n + suc i = omega arith in e) ∙ same (suc i) z is) f,
    )

    all_indexed : {A : Type 0} (make : ℕ → A → Part) (xs : List A) → ((i : ℕ) (y : A) → slice_get xs i ≡ Some y → Finds (make i y)) → AllByRecursion Finds (indexed make 0 xs)
    all_indexed make xs f = each_indexed make xs xs 0 (λ i y is. ap (slice_get xs) (let e : 0 + i ≡ i = omega arith in e) ∙ is) f

    object_finds : (all : List Candidate) → AllByRecursion Finds (parts_in all objects (resolved mode allow objects rows imports o))
    object_finds all =
        let r = resolved mode allow objects rows imports o in
        let fs = indexed (function_part all objects r) 0 o.functions in
        let gs = indexed (segment_part all objects r) 0 o.segments in
        let hs = indexed (global_part all objects r) 0 o.globals in
        all_kept Finds (is_part_kept all objects r) (fs ++ gs ++ hs)
        (all_both Finds (fs ++ gs) hs
        (all_both Finds fs gs (all_indexed (function_part all objects r) o.functions (function_finds all)) (all_indexed (segment_part all objects r) o.segments (λ i (g : SegmentDef) is. refl)))
        (all_indexed (global_part all objects r) o.globals (λ i (g : GlobalDef) is. refl)))

  -- ---- the linker's parts

  abbrev IsCall : Ref → Type 0
  IsCall r = r.kind ≡ 0

  ref_kind : (place kind : ℕ) (addend : ℤ) (e : Option InputSymbol) (m : Option Meaning) → OfOption (λ (r : Ref). r.kind ≡ kind) (ref_to place kind addend e m)
  ref_kind place kind addend None m = tt
  ref_kind place kind addend (Some e) None = tt
  ref_kind place kind addend (Some e) (Some m) = refl

  call_kind : (priority : ℕ) (r : Option Ref) → OfOption IsCall r → OfOption (λ (c : InitCall). IsCall c.ref) (option_map (λ (ref : Ref). record { priority = priority; ref = ref }) r)
  call_kind priority None h = tt
  call_kind priority (Some r) h = h

  inits_call : (r : Resolved) → AllByRecursion (λ (c : InitCall). IsCall c.ref) (init_calls_in r)
  inits_call r =
      all_kept (λ (c : InitCall). IsCall c.ref) (λ c. not (is_skipped c)) (filter_map (init_call r) r.object.inits)
      (all_filter_map (λ (c : InitCall). IsCall c.ref) (init_call r) r.object.inits
      (all_from _ r.object.inits (λ (i : InitFunc) k. call_kind i.priority (ref_in r 0 0 i.symbol (pos 0)) (ref_kind 0 0 (pos 0) (slice_get r.symbols i.symbol) (slice_get r.meanings i.symbol)))))

  calls_call : (rs : List Resolved) → AllByRecursion IsCall (init_calls rs)
  unfolding init_calls
  calls_call rs =
      all_map IsCall (λ (c : InitCall). c.ref) (by_priority (flat_map init_calls_in rs))
      (sorted_all (λ (c : InitCall). IsCall c.ref) (flat_map init_calls_in rs)
      (all_flat (λ (c : InitCall). IsCall c.ref) init_calls_in rs (all_from _ rs (λ r h. inits_call r))))

  symbols_named : (rs : List Ref) → filter_map named_ref (map a_symbol rs) ≡ rs
  symbols_named [] = refl
  symbols_named (r ∷ rs) = ap (λ l. r ∷ l) (symbols_named rs)

  calls_free : (rs : List Ref) → AllByRecursion IsCall rs → first_by fixed_ref (filter_map named_ref (map a_symbol rs)) ≡ None
  calls_free rs all = ap (first_by fixed_ref) (symbols_named rs) ∙ first_none fixed_ref rs (all_from _ rs (λ r h. call_free r (all_in IsCall r rs all h)))

  -- no object has input 0
  linkers_none : (os : List Object) → AllByRecursion (λ (o : Object). 0 < o.input) os → find (λ (o : Object). o.input == 0) os ≡ None
  linkers_none [] all = refl
  linkers_none (o ∷ os) all = ap (λ b. cond b (Some o) (find (λ (o : Object). o.input == 0) os)) (let h = all.0 in let e : (o.input == 0) ≡ false = grind (arith, nat_tests) in e) ∙ linkers_none os all.1

  module _ (all_fine : AllByRecursion (Fine mode allow objects rows imports) objects) where
    fine_in : (o : Object) → In o objects → Fine mode allow objects rows imports o
    fine_in o h = all_in (Fine mode allow objects rows imports) o objects all_fine h

    no_linker : find (λ (o : Object). o.input == 0) objects ≡ None
    no_linker = linkers_none objects (all_from _ objects (λ o h. (fine_in o h).is.1))

    made_finds : (calls : List Ref) → AllByRecursion IsCall calls → (place : ℕ) (m : MadeSymbol) (kind : ℕ) → Finds (record {
      chunk = record { input = 0; kind = kind; index = place };
      content = linker_made m;
      source = no_source;
      named = cond ((kind == 0) && (place == 0)) (map a_symbol calls) [];
    })
    made_finds calls are place m kind =
        ap (λ (x : Option Object). cond (kind == 0) (fixed_of rows place x) None) no_linker
        ∙ by (kind == 0) ((kind == 0) && (place == 0))
      where
        by : (b c : Bool) → cond b None None ≡ cond b (first_by fixed_ref (filter_map named_ref (cond c (map a_symbol calls) []))) None
        by false c = refl
        by true false = refl
        by true true = sym (calls_free calls are)

    one_made : (calls : List Ref) → AllByRecursion IsCall calls → (place : ℕ) (m : MadeSymbol) (rest : List Part) → AllByRecursion Finds rest → (k : Option ℕ) → AllByRecursion Finds (option_onto (option_map (λ (kind : ℕ). record {
      chunk = record { input = 0; kind = kind; index = place };
      content = linker_made m;
      source = no_source;
      named = cond ((kind == 0) && (place == 0)) (map a_symbol calls) [];
    }) k) rest)
    one_made calls are place m rest all None = all
    one_made calls are place m rest all (Some kind) = (made_finds calls are place m kind, all)

    all_made : (calls : List Ref) → AllByRecursion IsCall calls → (place : ℕ) (ms : List MadeSymbol) → AllByRecursion Finds (made_parts_from calls place ms)
    all_made calls are place [] = tt
    all_made calls are place (m ∷ ms) = one_made calls are place m (made_parts_from calls (place + 1) ms) (all_made calls are (place + 1) ms) (made_kind m.kind)

    parts_find : (all : List Candidate) → AllByRecursion Finds (parts_of mode all objects (map (resolved mode allow objects rows imports) objects))
    unfolding parts_of
    parts_find all =
        let rs = map (resolved mode allow objects rows imports) objects in
        all_both Finds (made_parts_from (init_calls rs) 0 (made mode)) (flat_map (parts_in all objects) rs) (all_made (init_calls rs) (calls_call rs) 0 (made mode))
        (all_flat Finds (parts_in all objects) rs (all_map (λ r. AllByRecursion Finds (parts_in all objects r)) (resolved mode allow objects rows imports) objects (all_from _ objects (λ o h. object_finds o (fine_in o h) all))))

  -- ---- loosened parts

  same_kind : (r : Ref) → (r.kind == 0) ≡ true → r.kind ≡ 0
  same_kind r h = grind (arith, nat_tests)

  loose_fixed : (all : List InputSymbol) (r : Ref) → fixed_ref (loose_ref all r) ≡ fixed_ref r
  loose_fixed all r = elim (loosened_or_not all r) as (λ _. fixed_ref (loose_ref all r) ≡ fixed_ref r) [
    | inl is ↦ let zero_is = same_kind r is.calls in call_free (loose_ref all r) (ap (λ (x : Ref). x.kind) is.is ∙ zero_is) ∙ sym (call_free r zero_is)
    | inr is ↦ ap fixed_ref is
  ]

  loose_finds : (all : List InputSymbol) (part : Part) → Finds part → Finds (loose_part all part)
  loose_finds all part finds =
      finds ∙ sym (ap (λ o. cond (part.chunk.kind == 0) o None)
      (ap (first_by fixed_ref) (refs_loose all part) ∙ first_map fixed_ref (loose_ref all) (refs part)
      ∙ first_same (λ r. fixed_ref (loose_ref all r)) fixed_ref (refs part) (all_from _ (refs part) (λ r h. loose_fixed all r))))

  loose_find : (loose : Bool) (all : List InputSymbol) (parts : List Part) → AllByRecursion Finds parts → AllByRecursion Finds (loose_parts loose all parts)
  loose_find false all parts h = h
  loose_find true all [] h = tt
  loose_find true all (part ∷ parts) h = (loose_finds all part h.0, loose_find true all parts h.1)

  -- ---- live parts

  found_is : (parts : List Part) → AllByRecursion Finds parts → first_by (λ (part : Part). fixed_at objects rows part.chunk) parts ≡ option_map triple (find is_fixed (refs_of (filter (λ (part : Part). part.chunk.kind == 0) parts)))
  found_is parts all =
      first_same (λ (part : Part). fixed_at objects rows part.chunk) part_fixed parts all
      ∙ sym (first_found (refs_of (filter (λ (part : Part). part.chunk.kind == 0) parts))
      ∙ first_flat fixed_ref refs (filter (λ (part : Part). part.chunk.kind == 0) parts)
      ∙ first_filter (λ part. first_by fixed_ref (refs part)) (λ (part : Part). part.chunk.kind == 0) parts)

-- the parts of numbers, as the tables tell them
module _ (ns : List (List ℕ)) (imports : List ImportKey) (t : Tables) (p : Program) (are : AreTables ns imports t p) (find_at : Chunk → Option Fixed) where
  chunks_told : (numbers : List ℕ) (parts : List Part) → map (slice_get p.parts) numbers ≡ map Some parts → first_by (λ n. find_at (part_at t n).chunk) numbers ≡ first_by (λ (part : Part). find_at part.chunk) parts
  chunks_told [] [] is = refl
  chunks_told [] (x ∷ parts) is = absurd cc
  chunks_told (n ∷ numbers) [] is = absurd cc
  chunks_told (n ∷ numbers) (x ∷ parts) is =
      let here : slice_get p.parts n ≡ Some x = cc in
      let rest : map (slice_get p.parts) numbers ≡ map Some parts = cc in
      let chunk : (part_at t n).chunk ≡ x.chunk = ap (λ x. x.chunk) (at_told (seen_part t.types) told_part t.parts p.parts n x no_part are.parts here) in
      ap (λ c. first_some (find_at c ∷ map (λ n. find_at (part_at t n).chunk) numbers)) chunk ∙ by (find_at x.chunk) (chunks_told numbers parts rest)
    where
      by : (o : Option Fixed) → first_by (λ n. find_at (part_at t n).chunk) numbers ≡ first_by (λ (part : Part). find_at part.chunk) parts
          → first_some (o ∷ map (λ n. find_at (part_at t n).chunk) numbers) ≡ first_some (o ∷ map (λ (part : Part). find_at part.chunk) parts)
      by None h = h
      by (Some y) h = refl

faults_are : (o : Option Ref) → option_map told_fault (option_map triple o) ≡ option_map fixed_fault o
faults_are None = refl
faults_are (Some r) = refl

-- What is found for the live parts is the fault of the definition.
pub fixed_is : (d : Data) (p : Program) (l : Live) (parts : List Part) → IsProgram d p → IsLive p l parts
    → option_map told_fault (first_fixed d.objects.now d.resolution.now.rows d.tables.now l.numbers) ≡ pic_fault Shared parts
unfolding pic_fault
fixed_is d p l parts is live =
    let mode = mode_of p.plan in
    let allow = p.plan.allow_undefined in
    let objects = p.objects in
    let rows = d.resolution.now.rows in
    let imports = d.resolution.now.imports in
    let same = resolved_are d p is in
    let fine : AllByRecursion (Fine mode allow objects rows imports) objects =
    fine_from mode allow objects rows imports objects (λ o h. h) (recursion_from_All (IsObject objects) objects (are_objects objects is.rise))
    (subst (AllByRecursion (λ (x : Resolved). AllZip (Means imports) (row_of rows x.object.input) x.meanings)) same (recursion_from_All _ p.resolved is.resolution.meanings)) in
    let finds : AllByRecursion (Finds mode allow objects rows imports) p.parts =
    subst (AllByRecursion (Finds mode allow objects rows imports)) (sym (is.parts_are.1 ∙ ap (λ rs. loose_parts p.plan.loose_calls p.entries (parts_of mode is.parts_are.0 objects rs)) same))
    (loose_find mode allow objects rows imports p.plan.loose_calls p.entries _ (parts_find mode allow objects rows imports fine is.parts_are.0)) in
    ap (λ os. option_map told_fault (first_fixed os rows d.tables.now l.numbers)) is.objects
    ∙ ap (option_map told_fault)
    (chunks_told d.names.now.names imports d.tables.now p is.tables (fixed_at objects rows) l.numbers parts live.are.are
    ∙ found_is mode allow objects rows imports parts (parts_among (Finds mode allow objects rows imports) p.parts l.numbers parts live.are.are finds))
    ∙ faults_are (find is_fixed (refs_of (filter (λ (part : Part). part.chunk.kind == 0) parts)))

pub plain_free : (parts : List Part) → None ≡ pic_fault Plain parts
unfolding pic_fault
plain_free parts = refl
