-- The pass over instructions that are quick to tell, one after another.
use Rattle.std.proofs.Common.{◌≡◌, ℕ, zero, suc, ◌+◌, ◌-◌, ◌<◌, ◌≤◌, ◌∙◌, true, false, List, [], ◌∷◌, ◌++◌, length, drop, refl, ap, append_assoc, length-drop, arith, Option, Some, None, Ok}
use Rattle.std.specs.Prelude.{replicate}
use Rattle.std.proofs.lemmas.Bool.{lt-leb}
use Rattle.std.proofs.lemmas.List.{append-nil, replicate_more}
use Rattle.wasm_instr.specs.declared.outline.Outline.{Outline}
use Rattle.wasm_instr.specs.declared.outline.Outline.TheVariants as outlines
use Rattle.wasm_instr.specs.Bodies.{Nest}
use Rattle.wasm_instr.specs.Skimming.{outline_step, skim_at}
use Rattle.reloc_section.specs.declared.entry.Reloc.{Reloc}
use Rattle.body_windows.specs.declared.course.Course.{Course}
use Rattle.body_windows.specs.declared.immediate.Immediate.{Immediate}
use Rattle.body_windows.specs.declared.immediate.ImmediateKind.{ImmediateKind}
use Rattle.body_windows.specs.declared.immediate.ImmediateKind.TheVariants as kinds
use Rattle.body_windows.specs.declared.operand.Operand.{Operand}
use Rattle.body_windows.specs.declared.operand.Operand.TheVariants.{Number}
use Rattle.body_windows.specs.Immediates.{between, needs_window, plain_operand}
use Rattle.body_windows.specs.Merging.{State, bare_with, left_bare, offered_to, offered, offered_all, walked, outlined_immediates}
use Rattle.body_windows.specs.Quick.{IsNumber, IsFree, outline_for, EndsIn, IsNamed, IsCounted, numbered, IsClear, Takes, Stands, Goes}
use Rattle.body_windows.proofs.Steps.{same_base}
use Rattle.body_windows.proofs.Walk.{walk_on}

-- ---- numbers

no_numbers : (s : State) → numbered s 0 ≡ s
no_numbers s = ap (λ (os : List Operand). record s { operands = os }) (append-nil s.operands)

one_more : (s : State) (n : ℕ) → numbered (numbered s n) 1 ≡ numbered s (n + 1)
one_more s n =
    ap (λ (os : List Operand). record s { operands = os })
    (append_assoc s.operands (replicate n Number) (Number ∷ []) ∙ ap (λ (os : List Operand). s.operands ++ os) (replicate_more n Number))

bare_stays : (bare : Option ℕ) (base : ℕ) (i : Immediate) → needs_window i.kind ≡ false → bare_with bare base i ≡ bare
bare_stays (Some place) base i free = refl
bare_stays None base i free = rw free refl

-- an immediate that needs no window, where none begins so far
left_number : (s : State) (i : Immediate) (place n : ℕ) → s.off ≡ None → IsClear s.left place n → place ≤ s.base + i.place → s.base + i.place < place + n → needs_window i.kind ≡ false → plain_operand i.kind ≡ Number
    → offered s i ≡ numbered s 1
left_number s i place n on clear from before free plain = ap (λ (off : Option ℕ). offered_to s i off s.left) on ∙ by_left s.left clear
  where
    here : left_bare s i ≡ numbered s 1
    here = rw (plain, bare_stays s.bare s.base i free) refl

    by_left : (left : List Reloc) → IsClear left place n → offered_to s i None left ≡ numbered s 1
    by_left [] clear = here
    by_left (r ∷ rs) clear = let later : s.base + i.place < r.offset = omega (arith, clear) in rw (lt-leb r.offset (s.base + i.place) later) here

-- ---- from one place to another

-- the place of the bytes that are left
place_of : (from : ℕ) (bytes : List ℕ) (at : ℕ) → at ≤ length bytes → (from + length bytes) - length (drop at bytes) ≡ from + at
place_of from bytes at le = omega (arith, length-drop at bytes)

-- one instruction
walks : (s : State) (from : ℕ) (nest next : Nest) (bytes : List ℕ) (at mid to : ℕ) (outline : Outline) → 0 < length nest → at ≤ length bytes → mid ≤ length bytes → to ≤ length bytes
    → skim_at (from + length bytes) (drop at bytes) ≡ Ok (outline, drop mid bytes, drop to bytes) → outline_step nest outline ≡ Some next
    → walked s (from + length bytes) nest (drop at bytes) ≡ walked (offered_all s (outlined_immediates outline (from + at) (from + mid) (from + to))) (from + length bytes) next (drop to bytes)
walks s from nest next bytes at mid to outline some a m t skim step =
    let end : ℕ = from + length bytes in
    walk_on s end nest (drop at bytes) outline (drop mid bytes) (drop to bytes) next some skim (rw step refl)
    ∙ (rw (place_of from bytes at a, place_of from bytes mid m, place_of from bytes to t) refl)

-- nothing is passed
pub stays : (from : ℕ) (bytes : List ℕ) (s : State) (nest : Nest) (c : Course) → Stands s from bytes c → 0 < length nest → Goes from bytes s nest c s nest c
stays from bytes s nest c stands some = record { stands = stands; base = refl; onward = omega arith; opened = some; same = refl }

-- an instruction that has no immediate that can be a reference
pub passes : (from : ℕ) (bytes : List ℕ) (s : State) (nest next : Nest) (c : Course) (outline : Outline) (to : ℕ) → Stands s from bytes c → 0 < length nest → 0 < length next → IsFree bytes c.at outline to → outline_step nest outline ≡ Some next
    → Goes from bytes s nest c s next (record c { at = to })
passes from bytes s nest next c outline to stands some opened is step =
    record {
      stands = record { on = stands.on; clear = stands.clear; within = is.within; counted = omega (arith, stands.counted, is.onward) };
      base = refl;
      onward = omega (arith, is.onward);
      opened = opened;
      same = walks (numbered s c.numbers) from nest next bytes c.at (c.at + 1) to outline some stands.within (omega (arith, is.onward, is.within)) is.within (is.skims (from + length bytes)) step ∙ (rw (is.free (from + c.at) (from + (c.at + 1)) (from + to)) refl);
    }

-- the same, where it may not be one, and then has no byte
pub passes_plain : (from : ℕ) (bytes : List ℕ) (s : State) (nest : Nest) (c : Course) (len : ℕ) → Stands s from bytes c → 0 < length nest → (0 < len → IsFree bytes c.at outlines.Other (c.at + len)) → Goes from bytes s nest c s nest (record c { at = c.at + len })
passes_plain from bytes s nest c zero stands some free =
    let here : c.at + 0 ≡ c.at = omega arith in
    rw here (stays from bytes s nest c stands some)
passes_plain from bytes s nest c (suc len) stands some free = passes from bytes s nest nest c outlines.Other (c.at + suc len) stands some some (free (omega arith)) refl

-- ---- an instruction with one immediate that can be a reference

named_step : (nest : Nest) (kind : ImmediateKind) → IsNamed kind → outline_step nest (outline_for kind) ≡ Some nest
named_step nest kinds.FunctionIndex named = refl
named_step nest kinds.TypeIndex named = absurd named
named_step nest (kinds.TableIndex n) named = absurd named
named_step nest kinds.GlobalIndex named = refl
named_step nest kinds.MemoryOffset named = refl
named_step nest kinds.Constant named = refl

named_one : (kind : ImmediateKind) (at mid end : ℕ) → IsNamed kind → outlined_immediates (outline_for kind) at mid end ≡ between kind mid end ∷ []
named_one kinds.FunctionIndex at mid end named = refl
named_one kinds.TypeIndex at mid end named = absurd named
named_one (kinds.TableIndex n) at mid end named = absurd named
named_one kinds.GlobalIndex at mid end named = refl
named_one kinds.MemoryOffset at mid end named = refl
named_one kinds.Constant at mid end named = refl

pub counted_named : (kind : ImmediateKind) → IsCounted kind → IsNamed kind
counted_named kinds.FunctionIndex counted = absurd counted
counted_named kinds.TypeIndex counted = absurd counted
counted_named (kinds.TableIndex n) counted = absurd counted
counted_named kinds.GlobalIndex counted = absurd counted
counted_named kinds.MemoryOffset counted = tt
counted_named kinds.Constant counted = tt

counted_needs : (kind : ImmediateKind) → IsCounted kind → needs_window kind ≡ false
counted_needs kinds.FunctionIndex counted = absurd counted
counted_needs kinds.TypeIndex counted = absurd counted
counted_needs (kinds.TableIndex n) counted = absurd counted
counted_needs kinds.GlobalIndex counted = absurd counted
counted_needs kinds.MemoryOffset counted = refl
counted_needs kinds.Constant counted = refl

counted_plain : (kind : ImmediateKind) → IsCounted kind → plain_operand kind ≡ Number
counted_plain kinds.FunctionIndex counted = absurd counted
counted_plain kinds.TypeIndex counted = absurd counted
counted_plain (kinds.TableIndex n) counted = absurd counted
counted_plain kinds.GlobalIndex counted = absurd counted
counted_plain kinds.MemoryOffset counted = refl
counted_plain kinds.Constant counted = refl

-- its one immediate is offered
offers : (s : State) (from : ℕ) (nest : Nest) (bytes : List ℕ) (at mid len : ℕ) (kind : ImmediateKind) → 0 < length nest → at ≤ mid → IsNamed kind → IsNumber bytes mid len → EndsIn bytes at mid kind
    → walked s (from + length bytes) nest (drop at bytes) ≡ walked (offered s (record { kind = kind; place = from + mid; len = len })) (from + length bytes) nest (drop (mid + len) bytes)
offers s from nest bytes at mid len kind some le named number ends =
    let whole : mid + len ≤ length bytes = number.within in
    let long : (from + (mid + len)) - (from + mid) ≡ len = omega arith in
    walks s from nest nest bytes at mid (mid + len) (outline_for kind) some (omega arith) (omega arith) whole (ends len (from + length bytes) number) (named_step nest kind named)
    ∙ (rw (named_one kind (from + at) (from + mid) (from + (mid + len)) named, long) refl)

-- a number
pub passes_number : (from : ℕ) (bytes : List ℕ) (s : State) (nest : Nest) (c : Course) (mid len : ℕ) (kind : ImmediateKind) → Stands s from bytes c → 0 < length nest → c.at < mid → mid < c.next → IsCounted kind → IsNumber bytes mid len → EndsIn bytes c.at mid kind
    → Goes from bytes s nest c s nest (record { at = mid + len; numbers = c.numbers + 1; next = c.next })
passes_number from bytes s nest c mid len kind stands some lt before counted number ends =
    let i : Immediate = record { kind = kind; place = from + mid; len = len } in
    let left : offered (numbered s c.numbers) i ≡ numbered (numbered s c.numbers) 1 =
    left_number (numbered s c.numbers) i (s.base + from) c.next stands.on stands.clear (omega arith) (omega arith) (counted_needs kind counted) (counted_plain kind counted) in
    record {
      stands = record { on = stands.on; clear = stands.clear; within = number.within; counted = omega (arith, stands.counted) };
      base = refl;
      onward = omega arith;
      opened = some;
      same = offers (numbered s c.numbers) from nest bytes c.at mid len kind some (omega arith) (counted_named kind counted) number ends ∙ (rw (left, one_more s c.numbers) refl);
    }

-- a window
pub passes_window : (from : ℕ) (bytes : List ℕ) (s t : State) (nest : Nest) (c : Course) (mid next : ℕ) (kind : ImmediateKind) → Stands s from bytes c → 0 < length nest → c.at ≤ mid → IsNamed kind → IsNumber bytes mid 5 → EndsIn bytes c.at mid kind
    → Takes true s c.numbers (record { kind = kind; place = from + mid; len = 5 }) t → IsClear t.left (t.base + from) next
    → Goes from bytes s nest c t nest (record { at = mid + 5; numbers = 0; next = next })
passes_window from bytes s t nest c mid next kind stands some le named number ends takes clear =
    let i : Immediate = record { kind = kind; place = from + mid; len = 5 } in
    record {
      stands = record { on = takes.1; clear = clear; within = number.within; counted = omega arith };
      base = ap (λ (u : State). u.base) takes.0 ∙ same_base (numbered s c.numbers) (i ∷ []);
      onward = omega arith;
      opened = some;
      same = offers (numbered s c.numbers) from nest bytes c.at mid 5 kind some le named number ends ∙ (rw (no_numbers t, takes.0) refl);
    }
