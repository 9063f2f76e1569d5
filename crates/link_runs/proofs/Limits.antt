-- Where no fault of a link applies, the table and the memory have sizes that can be written.
use Rattle.std.proofs.Common.{◌≡◌, ℕ, ◌+◌, ◌-◌, ◌/◌, ◌^◌, ◌<◌, ◌≤◌, List, [], ◌∷◌, length, Option, Some, None, Bool, true, false, refl, arith}
use Rattle.std.specs.Prelude.{nat_lt, IfSome, option_map}
use Rattle.std.proofs.lemmas.Bool.{ltb-false}
use Rattle.wl_base.specs.Choice.{given, first_some}
use Rattle.made_symbols.specs.declared.mode.Mode.TheVariants.{Plain}
use Rattle.name_rules.specs.Entries.{InputSymbol}
use Rattle.link_plan.specs.Plan.{IsPlan, IsMemory}
use Rattle.memory_layout.specs.Memory.{heap_base, around, around_stack, pages_over, memory_overflow, data_end, places}
use Rattle.memory_layout.specs.declared.rules.MemoryRules.{MemoryRules}
use Rattle.memory_layout.specs.declared.rules.SegmentShape.{SegmentShape}
use Rattle.image_emit.specs.Spelled.{AreLimits, IsTable, IsU32}
use Rattle.link_output.specs.link_rules.Program.{Program}
use Rattle.link_output.specs.link_rules.Marks.{live}
use Rattle.link_output.specs.link_rules.Values.{slot_count, rules_of, shapes}
use Rattle.link_output.specs.link_rules.Output.{layout, table, memory}
use Rattle.link_output.specs.link_rules.LinkOf.{table_fault, memory_fault}
use Rattle.link_facts.specs.link_worlds.Worlds.{layout_of}

mapped_none : {A B : Type 0} (f : A → B) (o : Option A) → option_map f o ≡ None → o ≡ None
mapped_none f None h = refl
mapped_none f (Some x) h = absurd (grind arith)

given_none : {A : Type 0} (b : Bool) (x : A) → given b x ≡ None → b ≡ false
given_none true x e = absurd (grind arith)
given_none false x e = refl

pub few_slots : (p : Program) (exports : List InputSymbol) → table_fault (layout_of p exports) ≡ None → 1 + slot_count (layout_of p exports) < 2 ^ 32
unfolding table_fault layout
few_slots p exports e =
    let l = layout_of p exports in
    let none = mapped_none _ _ e in
    let f = ltb-false (2 ^ 32 - 1) (1 + length l.numbers.slots) (given_none (nat_lt (2 ^ 32 - 1) (1 + length l.numbers.slots)) (1 + length l.numbers.slots) none) in
    omega (arith, f)

pub table_fits : (p : Program) (exports : List InputSymbol) → table_fault (layout_of p exports) ≡ None → IsTable (table Plain p (live p exports) exports (layout_of p exports))
table_fits p exports e = record { least = few_slots p exports e; most = few_slots p exports e }

-- ---- memory

second_none : {A : Type 0} (a b c : Option A) → first_some (a ∷ b ∷ c ∷ []) ≡ None → b ≡ None
second_none (Some x) b c h = absurd (grind arith)
second_none None None c h = refl
second_none None (Some x) c h = absurd (grind arith)

-- pages that reach to a place below 2^32
up_pages : (n least : ℕ) → n ≤ 2 ^ 32 - 1 → least ≤ 65536 → pages_over n least ≤ 65536
up_pages n least h k = omega (arith, h, k)

pages_in : (n : ℕ) → n ≤ 2 ^ 32 → n / 65536 ≤ 65536
pages_in n h = omega (arith, h)

least_in : (first : Bool) (base : Option ℕ) (stack initial : ℕ) (most : Option ℕ) → initial ≤ 2 ^ 32 → (around_stack first base stack initial most).least_pages ≤ 65536
least_in false base stack initial most h = pages_in initial h
least_in true base stack initial most h = pages_in initial h

heap_in : (rules : MemoryRules) (shapes : List SegmentShape) → memory_overflow rules shapes ≡ None → heap_base rules (data_end rules shapes) ≤ 2 ^ 32 - 1
unfolding memory_overflow
heap_in rules shapes h =
    let past = mapped_none _ _ (second_none _ _ _ h) in
    ltb-false (2 ^ 32 - 1) (heap_base rules (data_end rules shapes)) (given_none (nat_lt (2 ^ 32 - 1) (heap_base rules (data_end rules shapes))) (heap_base rules (data_end rules shapes)) past)

pages_few : (rules : MemoryRules) (shapes : List SegmentShape) → memory_overflow rules shapes ≡ None → (around rules).least_pages ≤ 65536 → (places rules shapes).pages ≤ 65536
unfolding places
pages_few rules shapes h k = up_pages (heap_base rules (data_end rules shapes)) ((around rules).least_pages) (heap_in rules shapes h) k

most_in : (o : Option ℕ) → IfSome o IsMemory → IfSome (option_map (λ n. n / 65536) o) IsU32
most_in None h = tt
most_in (Some n) h = let k = pages_in n h.1 in omega (arith, k)

pub memory_fits : (p : Program) (exports : List InputSymbol) → IsPlan p.plan → memory_fault Plain p (live p exports) ≡ None → AreLimits (memory Plain p (live p exports) exports (layout_of p exports))
unfolding memory_fault layout
memory_fits p exports plan e =
    let none = mapped_none _ _ e in
    let k = pages_few (rules_of Plain p.plan) (shapes p (live p exports)) none (least_in p.plan.stack_first p.plan.global_base p.plan.stack_size p.plan.initial_memory p.plan.max_memory plan.initial.1) in
    record { least = omega (arith, k); most = most_in p.plan.max_memory plan.max }
