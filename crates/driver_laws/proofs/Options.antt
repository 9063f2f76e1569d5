-- The linker's own words before the inputs are options, and one of them names the output.
use Rattle.std.proofs.Common.{◌≡◌, ℕ, ◌-◌, ◌%◌, ◌^◌, ◌<◌, ◌≤◌, Bool, true, false, not, ◌&&◌, cond, List, [], ◌∷◌, ◌++◌, nat_lt, nat_le, nat_eq, unwrap_or, is_some, Option, Some, None, refl, sym, subst, ◌∙◌, append-nil, append_assoc, arith, flat_map}
use Rattle.std.specs.Prelude.{codes, decimal, option_to_list}
use Rattle.std.specs.Option.{option_or}
use Rattle.std.proofs.lemmas.Bool.Decides.{nat_tests}
use Rattle.wl_base.specs.Choice.{first_some, given}
use Rattle.link_words.specs.declared.kind.Kind.{Kind}
use Rattle.link_words.specs.declared.kind.Kind.TheVariants as kinds
use Rattle.link_words.specs.declared.options.Form.TheVariants as forms
use Rattle.link_words.specs.declared.options.Takes.TheVariants as takes
use Rattle.link_words.specs.declared.range.Range.{Range}
use Rattle.link_words.specs.declared.range.Range.TheVariants.{Address, Stack, Memory, Workers}
use Rattle.link_words.specs.Kinds.{same as same_kind}
use Rattle.link_words.specs.Numbers.{is_in}
use Rattle.link_words.specs.Options.{options, row_of}
use Rattle.driver_table.specs.declared.meaning.Meaning.{Meaning}
use Rattle.driver_table.specs.declared.meaning.Meaning.TheVariants.{Output, Entry, NoEntry, Undefined, Export, ExportIfDefined, ExportDynamic, NoExportDynamic, ExportTable, GcSections, NoGcSections, GlobalBase, InitialMemory, MaxMemory, StackSize, NoGrowableMemory}
use Rattle.driver_table.specs.Meanings.{same}
use Rattle.driver_table.specs.Items.{Said}
use Rattle.driver_table.specs.Texts.{line}
use Rattle.driver_table.specs.Numbers.{amount}
use Rattle.driver_fields.specs.Fields.{has, is_on, saying, latest, text, number, entry_said, entry, imported, allows_undefined, lenient, stack_first, stack_size, max_memory, threads, has_input, is_partial, is_shared, keeps_debug}
use Rattle.driver_fields.specs.Own.{wanted, exported_if, undefined_words, export_of, export_words, export_if_words, name_words, name_switches, memory_switches, switch_words, numbered, stack_words, memory_numbers, number_words, output_words, own_words}
use Rattle.driver_fields.specs.Lacking.{output_fault, beside_partial, partial_fault, memory_fault, range_fault, ranges_fault, within_stack, lacking}
use Rattle.driver_laws.proofs.Pieces.{is_quiet, AreOptions, none, both, when_so, each, flag, next_text, next_text_has, long_text, long_number, next_size, HaveKind, and_more, Ask, and_ask}
use Rattle.driver_laws.proofs.Numbers.{number_in_range}

-- ---- faults that don't apply

both_none : (b c : Bool) (x y : List ℕ) → option_or (given b x) (given c y) ≡ None → (b ≡ false) × (c ≡ false)
both_none true c x y e = absurd cc
both_none false true x y e = absurd cc
both_none false false x y e = (refl, refl)

whole_units : (t : Bool) (a unit : ℕ) → nat_eq (a % unit) 0 ≡ t → not t ≡ false → a % unit ≡ 0
whole_units true a unit is h = grind (arith, nat_tests)
whole_units false a unit is h = absurd cc

-- a number that isn't refused
in_range : (name spelled : List ℕ) (most unit : ℕ) (value : List ℕ) → range_fault name most unit spelled (Some value) ≡ None → (amount value ≤ most) × (amount value % unit ≡ 0)
in_range name spelled most unit value e =
    let b = both_none (nat_lt most (amount value)) (not (nat_eq (amount value % unit) 0)) _ _ e in
    (grind (arith, nat_tests), whole_units (nat_eq (amount value % unit) 0) (amount value) unit refl b.1)

-- ---- the last number is that of the last text

abbrev amount_or : Option (List ℕ) → ℕ
amount_or None = 0
amount_or (Some value) = amount value

abbrev amount_in : Option (List ℕ) → Option ℕ
amount_in None = None
amount_in (Some value) = Some (amount value)

number_from : (m : Meaning) (items : List Said) (t : Option (List ℕ)) → latest (saying m (λ s. amount s.value)) (amount_or t) items ≡ amount_or (latest (saying m (λ s. Some s.value)) t items)
number_from m [] t = refl
number_from m (s ∷ items) t = by (λ u. number_from m items u) (same s.meaning m)
  where
    by : ((u : Option (List ℕ)) → latest (saying m (λ s. amount s.value)) (amount_or u) items ≡ amount_or (latest (saying m (λ s. Some s.value)) u items)) → (b : Bool) → latest (saying m (λ s. amount s.value)) (unwrap_or (given b (amount s.value)) (amount_or t)) items ≡ amount_or (latest (saying m (λ s. Some s.value)) (unwrap_or (given b (Some s.value)) t) items)
    by more true = more (Some s.value)
    by more false = more t

number_is : (m : Meaning) (items : List Said) → number m items ≡ amount_or (text m items)
number_is m items = number_from m items None

size_from : (items : List Said) (t : Option (List ℕ))
    → latest (saying StackSize (λ s. Some (amount s.value))) (amount_in t) items ≡ amount_in (latest (saying StackSize (λ s. Some s.value)) t items)
size_from [] t = refl
size_from (s ∷ items) t = by (λ u. size_from items u) (same s.meaning StackSize)
  where
    by : ((u : Option (List ℕ)) → latest (saying StackSize (λ s. Some (amount s.value))) (amount_in u) items ≡ amount_in (latest (saying StackSize (λ s. Some s.value)) u items)) → (b : Bool) → latest (saying StackSize (λ s. Some (amount s.value))) (unwrap_or (given b (Some (amount s.value))) (amount_in t)) items
        ≡ amount_in (latest (saying StackSize (λ s. Some s.value)) (unwrap_or (given b (Some s.value)) t) items)
    by more true = more (Some s.value)
    by more false = more t

-- ---- words of one option

named : (front name : List ℕ) → line front name [] [] ≡ front ++ name
named front name = append-nil ((front ++ name) ++ []) ∙ append-nil (front ++ name)

as_named : (front name : List ℕ) → AreOptions ((front ++ name) ∷ []) → AreOptions (line front name [] [] ∷ [])
as_named front name = subst (λ (w : List ℕ). AreOptions (w ∷ [])) (sym (named front name))

wanted_are : (name : List ℕ) → AreOptions (wanted name)
wanted_are name = next_text kinds.Wanted (codes "-u") name refl refl refl

exported_if_are : (name : List ℕ) → AreOptions (exported_if name)
unfolding exported_if
exported_if_are name =
    both (wanted name) (line (codes "--export-if-defined=") name [] [] ∷ []) (wanted_are name)
    (as_named (codes "--export-if-defined=") name (long_text kinds.ExportIfDefined (codes "--export-if-defined") name refl refl refl))

export_of_are : (lenient : Bool) (name : List ℕ) → AreOptions (export_of lenient name)
unfolding export_of
export_of_are true name = exported_if_are name
export_of_are false name = as_named (codes "--export=") name (long_text kinds.Export (codes "--export") name refl refl refl)

names_are : (items : List Said) → AreOptions (name_words items)
unfolding name_words
names_are items =
    both (flat_map undefined_words items ++ flat_map (export_words (lenient items)) items) (flat_map export_if_words items)
    (
    both (flat_map undefined_words items) (flat_map (export_words (lenient items)) items)
    (each undefined_words (λ s. when_so (same s.meaning Undefined) (wanted s.value) (wanted_are s.value)) items)
    (each (export_words (lenient items)) (λ s. when_so (same s.meaning Export) (export_of (lenient items) s.value) (export_of_are (lenient items) s.value)) items)
    )
    (each export_if_words (λ s. when_so (same s.meaning ExportIfDefined) (exported_if s.value) (exported_if_are s.value)) items)

-- ---- the entry

latest_keeps : {A : Type 0} (P : A → Type 0) (says : Said → Option A) → ((s : Said) (a : A) → says s ≡ Some a → P a) → (items : List Said) (start : A) → P start → P (latest says start items)
latest_keeps P says keeps [] start h = h
latest_keeps {A} P says keeps (s ∷ items) start h = latest_keeps P says keeps items (unwrap_or (says s) start) (by (says s) refl)
  where
    by : (o : Option A) → says s ≡ o → P (unwrap_or o start)
    by None is = h
    by (Some a) is = keeps s a is

entry_is : (b c : Bool) (name : List ℕ) (word : Option (List ℕ)) → option_or (given b (Some (line (codes "--entry=") name [] []))) (given c (Some (line (codes "--no-entry") [] [] []))) ≡ Some word
    → AreOptions (option_to_list word)
entry_is true c name word e =
    let is : Some (line (codes "--entry=") name [] []) ≡ word = cc in
    subst (λ (w : Option (List ℕ)). AreOptions (option_to_list w)) is (as_named (codes "--entry=") name (long_text kinds.Entry (codes "--entry") name refl refl refl))
entry_is false true name word e =
    let is : Some (line (codes "--no-entry") [] [] []) ≡ word = cc in
    subst (λ (w : Option (List ℕ)). AreOptions (option_to_list w)) is (flag kinds.NoEntry (codes "--no-entry") refl refl refl)
entry_is false false name word e = absurd cc

entry_are : (items : List Said) → AreOptions (option_to_list (entry items))
entry_are items =
    latest_keeps (λ (w : Option (List ℕ)). AreOptions (option_to_list w)) entry_said (λ s a e. entry_is (same s.meaning Entry) (same s.meaning NoEntry) s.value a e) items None none

-- ---- switches

switches_are : (items : List Said) → AreOptions (switch_words items)
unfolding switch_words name_switches memory_switches
switches_are items =
    both (name_switches items) (memory_switches items)
    (
    both (cond (is_on ExportDynamic NoExportDynamic (is_shared items) items) (codes "--export-dynamic" ∷ []) [] ++ cond (has ExportTable items) (codes "--export-table" ∷ []) [])
    (cond (allows_undefined items) (codes "--allow-undefined" ∷ []) [])
    (
    both (cond (is_on ExportDynamic NoExportDynamic (is_shared items) items) (codes "--export-dynamic" ∷ []) []) (cond (has ExportTable items) (codes "--export-table" ∷ []) [])
    (when_so (is_on ExportDynamic NoExportDynamic (is_shared items) items) (codes "--export-dynamic" ∷ []) (flag kinds.ExportDynamic (codes "--export-dynamic") refl refl refl))
    (when_so (has ExportTable items) (codes "--export-table" ∷ []) (flag kinds.ExportTable (codes "--export-table") refl refl refl))
    )
    (when_so (allows_undefined items) (codes "--allow-undefined" ∷ []) (flag kinds.AllowUndefined (codes "--allow-undefined") refl refl refl))
    )
    (
    both (cond (is_some (imported items)) (codes "--import-memory" ∷ []) [] ++ cond (not (is_on GcSections NoGcSections true items)) (codes "--no-gc-sections" ∷ []) [])
    (cond (stack_first items) (codes "--stack-first" ∷ []) [])
    (
    both (cond (is_some (imported items)) (codes "--import-memory" ∷ []) []) (cond (not (is_on GcSections NoGcSections true items)) (codes "--no-gc-sections" ∷ []) [])
    (when_so (is_some (imported items)) (codes "--import-memory" ∷ []) (flag kinds.ImportMemory (codes "--import-memory") refl refl refl))
    (when_so (not (is_on GcSections NoGcSections true items)) (codes "--no-gc-sections" ∷ []) (flag kinds.NoGcSections (codes "--no-gc-sections") refl refl refl))
    )
    (when_so (stack_first items) (codes "--stack-first" ∷ []) (flag kinds.StackFirst (codes "--stack-first") refl refl refl))
    )

-- ---- numbers

number_are : (kind : Kind) (range : Range) (name : List ℕ) (n : ℕ) → row_of options name ≡ Some (record { kind = kind; takes = takes.Long (forms.Number range) }) → same_kind kind kinds.OnlyInputs ≡ false
    → is_quiet kind ≡ true → n < 2 ^ 64 → (nat_eq n 0 ≡ false → is_in range n ≡ true) → AreOptions (numbered (name ++ 61 ∷ []) n)
number_are kind range name n row more quiet small is = by (nat_eq n 0) refl
  where
    by : (t : Bool) → nat_eq n 0 ≡ t → AreOptions (cond (not t) (line (name ++ 61 ∷ []) (decimal n) [] [] ∷ []) [])
    by true zero = none
    by false some =
        as_named (name ++ 61 ∷ []) (decimal n) (subst (λ (w : List ℕ). AreOptions (w ∷ [])) (sym (append_assoc name (61 ∷ []) (decimal n)))
        (long_number kind range name (decimal n) row (number_in_range range n small (is some)) more quiet))

-- a number of a range, where the text is in it
number_fits : (name spelled : List ℕ) (most unit : ℕ) (t : Option (List ℕ)) → 0 % unit ≡ 0 → range_fault name most unit spelled t ≡ None → (amount_or t ≤ most) × (amount_or t % unit ≡ 0)
number_fits name spelled most unit None zero e = (omega arith, zero)
number_fits name spelled most unit (Some value) zero e = in_range name spelled most unit value e

address_in : (n : ℕ) → n ≤ 2 ^ 32 - 1 → is_in Address n ≡ true
address_in n h = grind (arith, nat_tests)

memory_in : (n : ℕ) → n ≤ 2 ^ 32 → n % 65536 ≡ 0 → is_in Memory n ≡ true
memory_in n h whole =
    let most : nat_le n (2 ^ 32) ≡ true = grind (arith, nat_tests) in
    let units : nat_eq (n % 65536) 0 ≡ true = grind (arith, nat_tests) in
    (λ i. most i && units i)

stack_in : (n : ℕ) → n ≤ 2 ^ 32 - 16 → n % 16 ≡ 0 → is_in Stack n ≡ true
stack_in n h whole =
    let most : nat_lt n (2 ^ 32) ≡ true = grind (arith, nat_tests) in
    let units : nat_eq (n % 16) 0 ≡ true = grind (arith, nat_tests) in
    (λ i. most i && units i)

workers_in : (n : ℕ) → n ≤ 64 → nat_eq n 0 ≡ false → is_in Workers n ≡ true
workers_in n h some =
    let least : nat_le 1 n ≡ true = grind (arith, nat_tests) in
    let most : nat_le n 64 ≡ true = grind (arith, nat_tests) in
    (λ i. least i && most i)

-- what the ranges keep
record Fit (items : List Said) : Type 0 where
  base : number GlobalBase items ≤ 2 ^ 32 - 1
  initial : number InitialMemory items ≤ 2 ^ 32
  initial_whole : number InitialMemory items % 65536 ≡ 0
  most : number MaxMemory items ≤ 2 ^ 32
  most_whole : number MaxMemory items % 65536 ≡ 0
  stack : range_fault (codes "-z stack-size") (2 ^ 32 - 16) 16 (codes "16") (text StackSize items) ≡ None

four : (a b c d : Option (List ℕ)) → first_some (a ∷ b ∷ c ∷ d ∷ []) ≡ None → (a ≡ None) × (b ≡ None) × (c ≡ None) × (d ≡ None)
four None None None None e = (refl, refl, refl, refl)
four (Some line) b c d e = absurd cc
four None (Some line) c d e = absurd cc
four None None (Some line) d e = absurd cc
four None None None (Some line) e = absurd cc

fit : (items : List Said) → ranges_fault items ≡ None → Fit items
unfolding ranges_fault
fit items e =
    let r =
    four (range_fault (codes "--global-base") (2 ^ 32 - 1) 1 (codes "1") (text GlobalBase items)) (range_fault (codes "--initial-memory") (2 ^ 32) 65536 (codes "65536") (text InitialMemory items))
    (range_fault (codes "--max-memory") (2 ^ 32) 65536 (codes "65536") (text MaxMemory items)) (range_fault (codes "-z stack-size") (2 ^ 32 - 16) 16 (codes "16") (text StackSize items)) e
    in
    let base = number_fits (codes "--global-base") (codes "1") (2 ^ 32 - 1) 1 (text GlobalBase items) refl r.0 in
    let initial = number_fits (codes "--initial-memory") (codes "65536") (2 ^ 32) 65536 (text InitialMemory items) refl r.1 in
    let most = number_fits (codes "--max-memory") (codes "65536") (2 ^ 32) 65536 (text MaxMemory items) refl r.2 in
    record {
      base = subst (λ n. n ≤ 2 ^ 32 - 1) (sym (number_is GlobalBase items)) base.0;
      initial = subst (λ n. n ≤ 2 ^ 32) (sym (number_is InitialMemory items)) initial.0;
      initial_whole = subst (λ n. n % 65536 ≡ 0) (sym (number_is InitialMemory items)) initial.1;
      most = subst (λ n. n ≤ 2 ^ 32) (sym (number_is MaxMemory items)) most.0;
      most_whole = subst (λ n. n % 65536 ≡ 0) (sym (number_is MaxMemory items)) most.1;
      stack = r.3;
    }

max_memory_are : (items : List Said) → Fit items → AreOptions (numbered (codes "--max-memory=") (max_memory items))
max_memory_are items f = by (has NoGrowableMemory items)
  where
    by : (t : Bool) → AreOptions (numbered (codes "--max-memory=") (cond t (number InitialMemory items) (number MaxMemory items)))
    by true = number_are kinds.MaxMemory Memory (codes "--max-memory") (number InitialMemory items) refl refl refl (let h = f.initial in omega (arith, h)) (λ _. memory_in (number InitialMemory items) f.initial f.initial_whole)
    by false = number_are kinds.MaxMemory Memory (codes "--max-memory") (number MaxMemory items) refl refl refl (let h = f.most in omega (arith, h)) (λ _. memory_in (number MaxMemory items) f.most f.most_whole)

memory_numbers_are : (items : List Said) → Fit items → AreOptions (memory_numbers items)
unfolding memory_numbers
memory_numbers_are items f =
    both (numbered (codes "--global-base=") (number GlobalBase items) ++ numbered (codes "--initial-memory=") (number InitialMemory items)) (numbered (codes "--max-memory=") (max_memory items))
    (
    both (numbered (codes "--global-base=") (number GlobalBase items)) (numbered (codes "--initial-memory=") (number InitialMemory items))
    (number_are kinds.GlobalBase Address (codes "--global-base") (number GlobalBase items) refl refl refl (let h = f.base in omega (arith, h)) (λ _. address_in (number GlobalBase items) f.base))
    (number_are kinds.InitialMemory Memory (codes "--initial-memory") (number InitialMemory items) refl refl refl (let h = f.initial in omega (arith, h)) (λ _. memory_in (number InitialMemory items) f.initial f.initial_whole))
    )
    (max_memory_are items f)

threads_are : (items : List Said) → AreOptions (numbered (codes "--threads=") (threads items))
threads_are items =
    let most : threads items ≤ 64 = omega arith in
    number_are kinds.Threads Workers (codes "--threads") (threads items) refl refl refl (omega (arith, most)) (workers_in (threads items) most)

stack_by : (t : Option (List ℕ)) → range_fault (codes "-z stack-size") (2 ^ 32 - 16) 16 (codes "16") t ≡ None → AreOptions (stack_words (amount_in t))
stack_by None e = none
stack_by (Some value) e =
    let fits = in_range (codes "-z stack-size") (codes "16") (2 ^ 32 - 16) 16 value e in
    subst (λ (w : List ℕ). AreOptions (codes "-z" ∷ w ∷ [])) (sym (named (codes "stack-size=") (decimal (amount value))))
    (next_size kinds.StackSize (codes "-z") (codes "stack-size") (decimal (amount value)) refl refl
    (number_in_range Stack (amount value) (let h = fits.0 in omega (arith, h)) (stack_in (amount value) fits.0 fits.1)) refl refl)

stack_are : (items : List Said) → Fit items → AreOptions (stack_words (stack_size items))
stack_are items f = subst (λ (t : Option ℕ). AreOptions (stack_words t)) (sym (size_from items None)) (stack_by (text StackSize items) f.stack)

numbers_are : (items : List Said) → Fit items → AreOptions (number_words items)
unfolding number_words
numbers_are items f =
    both (memory_numbers items ++ numbered (codes "--threads=") (threads items)) (stack_words (stack_size items))
    (both (memory_numbers items) (numbered (codes "--threads=") (threads items)) (memory_numbers_are items f) (threads_are items))
    (stack_are items f)

-- ---- all of them

output_have : (t : Option (List ℕ)) → output_fault t ≡ None → HaveKind kinds.Output (output_words t)
output_have None e = absurd cc
output_have (Some name) e = next_text_has kinds.Output (codes "-o") name refl refl refl refl

-- what the output, an object and the ranges of numbers aren't refused for
record Stands (items : List Said) : Type 0 where
  output : output_fault (text Output items) ≡ None
  object : partial_fault items ≡ None
  ranges : ranges_fault items ≡ None

stands : (items : List Said) → lacking items ≡ None → Stands items
unfolding lacking
stands items e =
    let s =
    six (output_fault (text Output items)) (partial_fault items) (memory_fault items) (ranges_fault items)
    (given (within_stack items) (line (codes "--global-base cannot be less than stack size when --stack-first is used") [] [] [])) (given (not (has_input items)) (line (codes "no input files") [] [] [])) e in
    record { output = s.0; object = s.1; ranges = s.2 }
  where
    six : (a p b c d f : Option (List ℕ)) → first_some (a ∷ p ∷ b ∷ c ∷ d ∷ f ∷ []) ≡ None → (a ≡ None) × (p ≡ None) × (c ≡ None)
    six None None None None d f e = (refl, refl, refl)
    six (Some line) p b c d f e = absurd cc
    six None (Some line) b c d f e = absurd cc
    six None None (Some line) c d f e = absurd cc
    six None None None (Some line) d f e = absurd cc

-- No shared output is asked for beside an object.
pub not_both : (items : List Said) → lacking items ≡ None → (is_shared items && is_partial items) ≡ false
unfolding partial_fault beside_partial
not_both items e =
    by (is_partial items) (is_shared items)
    (given (has ExportTable items) (line (codes "--relocatable is incompatible with --export-table") [] [] []))
    (given (is_on Entry NoEntry false items) (line (codes "entry point specified for relocatable output file") [] [] []))
    (given (is_on GcSections NoGcSections false items) (line (codes "-r and --gc-sections may not be used together") [] [] []))
    (given (has Undefined items) (line (codes "-r and --undefined may not be used together") [] [] []))
    (line (codes "-r and -shared may not be used together") [] [] []) (stands items e).object
  where
    last : (s : Bool) (a b c d : Option (List ℕ)) (l : List ℕ) → first_some (a ∷ b ∷ c ∷ d ∷ given s l ∷ []) ≡ None → s ≡ false
    last false a b c d l e = refl
    last true None None None None l e = absurd cc
    last true (Some line) b c d l e = absurd cc
    last true None (Some line) c d l e = absurd cc
    last true None None (Some line) d l e = absurd cc
    last true None None None (Some line) l e = absurd cc

    by : (p s : Bool) (a b c d : Option (List ℕ)) (l : List ℕ) → cond p (first_some (a ∷ b ∷ c ∷ d ∷ given s l ∷ [])) None ≡ None → (s && p) ≡ false
    by true s a b c d l e = (λ i. last s a b c d l e i && true)
    by false true a b c d l e = refl
    by false false a b c d l e = refl

-- The words before the inputs.
pub own_have : (items : List Said) → lacking items ≡ None → Ask (is_partial items) (is_shared items) (keeps_debug items) (own_words items)
unfolding own_words
own_have items e =
    let s = stands items e in
    let f = fit items s.ranges in
    and_ask (is_partial items) (is_shared items) (keeps_debug items) ((((output_words (text Output items) ++ option_to_list (entry items)) ++ name_words items) ++ switch_words items) ++ number_words items)
    (
    and_more kinds.Output (((output_words (text Output items) ++ option_to_list (entry items)) ++ name_words items) ++ switch_words items) (number_words items)
    (
    and_more kinds.Output ((output_words (text Output items) ++ option_to_list (entry items)) ++ name_words items) (switch_words items)
    (
    and_more kinds.Output (output_words (text Output items) ++ option_to_list (entry items)) (name_words items)
    (and_more kinds.Output (output_words (text Output items)) (option_to_list (entry items)) (output_have (text Output items) s.output) (entry_are items))
    (names_are items)
    )
    (switches_are items)
    )
    (numbers_are items f)
    )
