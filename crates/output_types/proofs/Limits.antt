-- Where no fault of a link applies, the memory has limits as the standard asks.
use Rattle.std.proofs.Common.{◌≡◌, ℕ, ◌-◌, ◌*◌, ◌/◌, ◌^◌, ◌≤◌, List, [], ◌∷◌, Option, Some, None, Bool, true, false, refl, sym, ap, ◌∙◌, arith}
use Rattle.std.specs.Prelude.{◌&&◌, nat_lt, nat_le, IfSome, option_map}
use Rattle.std.proofs.lemmas.Bool.{and_from, ltb-false, le-leb}
use Rattle.link_worlds.specs.link_rules.object_file.wl_base.Choice.{given, first_some}
use Rattle.link_worlds.specs.link_rules.object_file.wl_base.declared.fault.What.TheVariants.{MaxMemory}
use Rattle.made_symbols.specs.declared.mode.Mode.TheVariants.{Plain}
use Rattle.link_worlds.specs.link_rules.name_rules.Entries.{InputSymbol}
use Rattle.link_plan.specs.Plan.{IsPlan, IsMemory}
use Rattle.memory_layout.specs.Memory.{heap_base, around, around_stack, pages_over, memory_overflow, passed, above_max, data_past, heap_past, max_past, base_of, placed, data_end, places}
use Rattle.memory_layout.specs.declared.rules.MemoryRules.{MemoryRules}
use Rattle.memory_layout.specs.declared.rules.SegmentShape.{SegmentShape}
use Rattle.link_worlds.specs.link_rules.Program.{Program}
use Rattle.link_worlds.specs.link_rules.Marks.{live}
use Rattle.link_worlds.specs.link_rules.Values.{rules_of, shapes}
use Rattle.link_worlds.specs.link_rules.Output.{layout, memory}
use Rattle.link_worlds.specs.link_rules.LinkOf.{memory_fault}
use Rattle.link_worlds.specs.Worlds.{layout_of}
use Rattle.wasm_valid.specs.Rules.{is_memory}

mapped_none : {A B : Type 0} (f : A → B) (o : Option A) → option_map f o ≡ None → o ≡ None
mapped_none f None h = refl
mapped_none f (Some x) h = absurd (grind arith)

given_none : {A : Type 0} (b : Bool) (x : A) → given b x ≡ None → b ≡ false
given_none true x e = absurd (grind arith)
given_none false x e = refl

second_none : {A : Type 0} (a b c : Option A) → first_some (a ∷ b ∷ c ∷ []) ≡ None → b ≡ None
second_none (Some x) b c h = absurd (grind arith)
second_none None None c h = refl
second_none None (Some x) c h = absurd (grind arith)

third_none : {A : Type 0} (a b c : Option A) → first_some (a ∷ b ∷ c ∷ []) ≡ None → c ≡ None
third_none (Some x) b c h = absurd (grind arith)
third_none None (Some x) c h = absurd (grind arith)
third_none None None None h = refl
third_none None None (Some x) h = absurd (grind arith)

-- pages that reach to a place below 2^32
up_pages : (n least : ℕ) → n ≤ 2 ^ 32 - 1 → least ≤ 65536 → pages_over n least ≤ 65536
up_pages n least h k = omega (arith, h, k)

pages_in : (n : ℕ) → n ≤ 2 ^ 32 → n / 65536 ≤ 65536
pages_in n h = omega (arith, h)

least_in : (first : Bool) (base : Option ℕ) (stack initial : ℕ) (most : Option ℕ) → initial ≤ 2 ^ 32 → (around_stack first base stack initial most).least_pages ≤ 65536
least_in false base stack initial most h = pages_in initial h
least_in true base stack initial most h = pages_in initial h

max_is : (first : Bool) (base : Option ℕ) (stack initial : ℕ) (most : Option ℕ) → (around_stack first base stack initial most).max ≡ most
max_is false base stack initial most = refl
max_is true base stack initial most = refl

heap_in : (rules : MemoryRules) (shapes : List SegmentShape) → memory_overflow rules shapes ≡ None → heap_base rules (data_end rules shapes) ≤ 2 ^ 32 - 1
unfolding memory_overflow
heap_in rules shapes h =
    let past = mapped_none _ _ (second_none _ _ _ h) in
    ltb-false (2 ^ 32 - 1) (heap_base rules (data_end rules shapes)) (given_none (nat_lt (2 ^ 32 - 1) (heap_base rules (data_end rules shapes))) (heap_base rules (data_end rules shapes)) past)

pages_few : (rules : MemoryRules) (shapes : List SegmentShape) → memory_overflow rules shapes ≡ None → (around rules).least_pages ≤ 65536 → (places rules shapes).pages ≤ 65536
unfolding places
pages_few rules shapes h k = up_pages (heap_base rules (data_end rules shapes)) ((around rules).least_pages) (heap_in rules shapes h) k

under_max : (rules : MemoryRules) (shapes : List SegmentShape) → memory_overflow rules shapes ≡ None → above_max ((places rules shapes).pages * 65536) ((around rules).max) ≡ None
unfolding memory_overflow places
under_max rules shapes h =
    mapped_none (passed MaxMemory) (above_max ((places rules shapes).pages * 65536) ((around rules).max))
    (third_none (data_past (base_of rules) (placed shapes)) (heap_past rules (data_end rules shapes)) (max_past rules (data_end rules shapes)) h)

-- limits whose least is small enough
limits_are : (n : ℕ) (o : Option ℕ) → n ≤ 65536 → IfSome o IsMemory → above_max (n * 65536) o ≡ None → is_memory (record { min = n; max = option_map (λ n. n / 65536) o }) ≡ true
limits_are n None h m a = and_from true (nat_le n 65536 && true) refl (and_from (nat_le n 65536) true (le-leb n 65536 h) refl)
limits_are n (Some most) h m a =
    let f = ltb-false most (n * 65536) (given_none (nat_lt most (n * 65536)) (n * 65536) a) in
    let l : n ≤ most / 65536 = omega (arith, f) in
    and_from (nat_le n (most / 65536)) (nat_le n 65536 && nat_le (most / 65536) 65536) (le-leb n (most / 65536) l)
    (and_from (nat_le n 65536) (nat_le (most / 65536) 65536) (le-leb n 65536 h) (le-leb (most / 65536) 65536 (pages_in most m.1)))

pub memory_is : (p : Program) (exports : List InputSymbol) → IsPlan p.plan → memory_fault Plain p (live p exports) ≡ None → is_memory (memory Plain p (live p exports) exports (layout_of p exports)) ≡ true
unfolding memory_fault layout
memory_is p exports plan e =
    let none = mapped_none _ _ e in
    let rules = rules_of Plain p.plan in
    let all = shapes p (live p exports) in
    let few = pages_few rules all none (least_in p.plan.stack_first p.plan.global_base p.plan.stack_size p.plan.initial_memory p.plan.max_memory plan.initial.1) in
    let under = ap (above_max ((places rules all).pages * 65536)) (sym (max_is p.plan.stack_first p.plan.global_base p.plan.stack_size p.plan.initial_memory p.plan.max_memory)) ∙ under_max rules all none in
    limits_are (places rules all).pages p.plan.max_memory few plan.max under
