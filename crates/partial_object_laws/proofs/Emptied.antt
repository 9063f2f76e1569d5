-- A body with emptied windows is a body: it is what the code would be in an output in which each number that it names is 0.
use Rattle.std.proofs.Common.{◌≡◌, ℕ, ◌==◌, Bool, true, false, List, [], ◌∷◌, ◌++◌, map, refl, ap, ◌∙◌, subst}
use Rattle.std.specs.Prelude.{Option, Some, None, option_map, ℤ, pos, if◌then◌else◌}
use Rattle.std.specs.List.{AllZip}
use Rattle.object_rules.specs.wasm_instr.declared.instr.BlockKind.TheVariants as blocks
use Rattle.object_rules.specs.wasm_instr.declared.instr.Instr.{Instr}
use Rattle.object_rules.specs.wasm_instr.declared.instr.Instr.TheVariants as instrs
use Rattle.object_rules.specs.wasm_instr.declared.body.Placed.{Placed}
use Rattle.object_rules.specs.wasm_instr.declared.body.Body.{Body}
use Rattle.object_rules.specs.wasm_instr.Bodies.{SpellsBody}
use Rattle.object_rules.specs.body_windows.declared.immediate.Immediate.{Immediate}
use Rattle.object_rules.specs.body_windows.declared.immediate.ImmediateKind.{ImmediateKind}
use Rattle.object_rules.specs.body_windows.declared.immediate.ImmediateKind.TheVariants.{FunctionIndex, TypeIndex, TableIndex, GlobalIndex, MemoryOffset, Constant}
use Rattle.object_rules.specs.body_windows.Immediates.{between, immediates_in, immediates, needs_window}
use Rattle.made_symbols.specs.declared.mode.Mode.TheVariants.{Plain}
use Rattle.name_rules.specs.Meanings.{null}
use Rattle.reloc_apply.specs.declared.window.Patch.{Patch}
use Rattle.reloc_apply.specs.Windows.{patch_of, filled}
use Rattle.link_rules.specs.Program.{Program, Ref, Named, a_symbol, a_type}
use Rattle.link_rules.specs.Values.{Layout, Asks, a_function, a_slot, an_address, a_global, a_table, asks, form_of, target_by, addend_by, named_window}
use Rattle.partial_rules.specs.Partial.{empty_window}
use Rattle.output_module.specs.link_worlds.Names.{number_at}
use Rattle.output_module.specs.link_worlds.Bodies.{place_of, named_at, number_or, constant_or, linked_at, linked_placed}
use Rattle.output_module.specs.Filled.{StandsOn, AllStandOn, names_in, patches, linked_with, FilledBody}

no_true : false ≡ true → ⊥
no_true e = absurd cc

-- ---- a layout in which what means nothing has the number 0

abbrev pub empty_layout : Layout
empty_layout = record {
  segments = [];
  places = record { addresses = []; base = 0; data_end = 0; stack_low = 0; stack_high = 0; heap_base = 0; pages = 0 };
  numbers = record { functions = []; slots = []; first_slot = 0; globals = []; types = [] };
}

abbrev pub unmeant : Named → Named
unmeant (a_symbol ref) = a_symbol (record ref { meaning = null })
unmeant (a_type w) = a_type w

empty_patch : (n : Named) → patch_of (named_window Plain empty_layout (unmeant n)) ≡ empty_window n
empty_patch (a_symbol ref) = by_asks (asks ref.kind)
  where
    nothing : Ref
    nothing = record ref { meaning = null }

    by_asks : (a : Asks) → patch_of (record { place = ref.place; form = form_of ref.kind; target = pos (target_by Plain empty_layout nothing a); addend = addend_by nothing a }) ≡ empty_window (a_symbol ref)
    by_asks a_function = refl
    by_asks a_slot = refl
    by_asks an_address = refl
    by_asks a_global = refl
    by_asks a_table = refl
empty_patch (a_type w) = refl

empty_patches : (ns : List Named) → patches empty_layout (map unmeant ns) ≡ map empty_window ns
empty_patches [] = refl
empty_patches (n ∷ ns) = let first = empty_patch n in let others = empty_patches ns in λ i. first i ∷ others i

no_number : (n : Named) → number_at empty_layout (unmeant n) ≡ 0
no_number n = ap (λ (x : Patch). x.value) (empty_patch n) ∙ zero_in n
  where
    zero_in : (n : Named) → (empty_window n).value ≡ 0
    zero_in (a_symbol ref) = refl
    zero_in (a_type w) = refl

-- ---- what stands on immediates, without meanings

abbrev pub unmeant_in : List (Option Named) → List (Option Named)
unmeant_in os = map (option_map unmeant) os

pub names_unmeant : (os : List (Option Named)) → names_in (unmeant_in os) ≡ map unmeant (names_in os)
names_unmeant [] = refl
names_unmeant (None ∷ os) = names_unmeant os
names_unmeant (Some n ∷ os) = ap (λ ns. unmeant n ∷ ns) (names_unmeant os)

one_on : (i : Immediate) (o : Option Named) → StandsOn i o → StandsOn i (option_map unmeant o)
one_on i None s = s
one_on i (Some (a_symbol ref)) s = s
one_on i (Some (a_type w)) s = s

all_on : (is : List Immediate) (os : List (Option Named)) → AllStandOn is os → AllStandOn is (unmeant_in os)
all_on [] [] s = tt
all_on [] (o ∷ os) s = absurd s
all_on (i ∷ is) [] s = absurd s
all_on (i ∷ is) (o ∷ os) s = (one_on i o s.0, all_on is os s.1)

-- ---- the immediates of the emptied body

abbrev names_type : ImmediateKind → Bool
names_type FunctionIndex = false
names_type TypeIndex = true
names_type (TableIndex n) = false
names_type GlobalIndex = false
names_type MemoryOffset = false
names_type Constant = false

-- What may stand on the one may stand on the other.
abbrev AsGood : Immediate → Immediate → Type 0
AsGood i j = (o : Option Named) → StandsOn i o → StandsOn j o

as_good : (is js : List Immediate) (os : List (Option Named)) → AllZip AsGood is js → AllStandOn is os → AllStandOn js os
as_good [] [] [] z s = tt
as_good [] [] (o ∷ os) z s = absurd s
as_good [] (j ∷ js) os z s = absurd z
as_good (i ∷ is) [] os z s = absurd z
as_good (i ∷ is) (j ∷ js) [] z s = absurd s
as_good (i ∷ is) (j ∷ js) (o ∷ os) z s = (z.0 o s.0, as_good is js os z.1 s.1)

both_good : (is js ks ls : List Immediate) → AllZip AsGood is js → AllZip AsGood ks ls → AllZip AsGood (is ++ ks) (js ++ ls)
both_good [] [] ks ls z w = w
both_good [] (j ∷ js) ks ls z w = absurd z
both_good (i ∷ is) [] ks ls z w = absurd z
both_good (i ∷ is) (j ∷ js) ks ls z w = (z.0, both_good is js ks ls z.1 w)

module _ (p : Program) (ns : List Named) where
  abbrev names : List Named
  names = map unmeant ns

  -- a table's number stays, or is 0
  table_zero : (t : ℕ) (ms : List Named) (place : ℕ) → needs_window (TableIndex t) ≡ false → needs_window (TableIndex (number_or p empty_layout t (named_at (map unmeant ms) place))) ≡ false
  table_zero t [] place none = none
  table_zero t (m ∷ ms) place none = by (place_of (unmeant m) == place) (table_zero t ms place none)
    where
      by : (b : Bool) → needs_window (TableIndex (number_or p empty_layout t (named_at (map unmeant ms) place))) ≡ false
          → needs_window (TableIndex (number_or p empty_layout t (if b then Some (unmeant m) else named_at (map unmeant ms) place))) ≡ false
      by true rest = ap (λ n. needs_window (TableIndex n)) (no_number m)
      by false rest = rest

  table_good : (t place from to : ℕ) → AsGood (between (TableIndex t) from to) (between (TableIndex (number_or p empty_layout t (named_at names place))) from to)
  table_good t place from to None s = table_zero t ns place s
  table_good t place from to (Some (a_symbol ref)) s = s
  table_good t place from to (Some (a_type w)) s = absurd (no_true (ap names_type s.2))

  constant_good : (x : Placed) (k : ℤ) (o : Option Named) → AllZip AsGood (immediates_in (instrs.I32Const k) x.at x.mid x.end) (immediates_in (constant_or p empty_layout (instrs.I32Const k) o) x.at x.mid x.end)
  constant_good x k None = ((λ o s. s), tt)
  constant_good x k (Some n) = ((λ o s. s), tt)

  instr_good : (x : Placed) (i : Instr) → AllZip AsGood (immediates_in i x.at x.mid x.end) (immediates_in (linked_at p empty_layout names x i) x.at x.mid x.end)
  instr_good x (instrs.Block op (blocks.Index n)) = ((λ o s. s), tt)
  instr_good x (instrs.Block op blocks.Empty) = tt
  instr_good x (instrs.Block op (blocks.Value v)) = tt
  instr_good x (instrs.Call f) = ((λ o s. s), tt)
  instr_good x (instrs.CallIndirect k t) = ((λ o s. s), (table_good t x.mid x.mid x.end, tt))
  instr_good x (instrs.GlobalAt op g) = ((λ o s. s), tt)
  instr_good x (instrs.Access op align offset) = ((λ o s. s), tt)
  instr_good x (instrs.I32Const k) = constant_good x k (named_at names x.mid)
  instr_good x (instrs.Plain op) = tt
  instr_good x (instrs.Branch op k) = tt
  instr_good x (instrs.BranchTable ks k) = tt
  instr_good x (instrs.SelectTyped ts) = tt
  instr_good x (instrs.Local op k) = tt
  instr_good x instrs.MemorySize = tt
  instr_good x instrs.MemoryGrow = tt
  instr_good x (instrs.I64Const k) = tt
  instr_good x (instrs.F32Const k) = tt
  instr_good x (instrs.F64Const k) = tt
  instr_good x (instrs.Truncate k) = tt
  instr_good x instrs.MemoryCopy = tt
  instr_good x instrs.MemoryFill = tt

  code_good : (code : List Placed) → AllZip AsGood (immediates code) (immediates (map (linked_placed p empty_layout names) code))
  code_good [] = tt
  code_good (x ∷ code) =
      both_good (immediates_in x.instr x.at x.mid x.end) (immediates_in (linked_at p empty_layout names x x.instr) x.at x.mid x.end) (immediates code) (immediates (map (linked_placed p empty_layout names) code))
      (instr_good x x.instr) (code_good code)

-- ---- the body

-- The body that emptied bytes spell, by what stood on the immediates of the body.
abbrev pub emptied : Program → List (Option Named) → Body → Body
emptied p os body = linked_with p empty_layout (map unmeant (names_in os)) body

pub record IsEmptied (p : Program) (os : List (Option Named)) (body : Body) (bytes : List ℕ) : Type 0 where
  pub spelled : SpellsBody (emptied p os body) (filled (map empty_window (names_in os)) bytes)
  pub on : AllStandOn (immediates (emptied p os body).code) os

pub is_emptied : FilledBody → (p : Program) (os : List (Option Named)) (body : Body) (bytes : List ℕ) → SpellsBody body bytes → AllStandOn (immediates body.code) os → IsEmptied p os body bytes
is_emptied filled_body p os body bytes spelled on =
    let names : names_in (unmeant_in os) ≡ map unmeant (names_in os) = names_unmeant os in
    let there : SpellsBody (linked_with p empty_layout (names_in (unmeant_in os)) body) (filled (patches empty_layout (names_in (unmeant_in os))) bytes) =
    filled_body p empty_layout body (unmeant_in os) bytes spelled (all_on (immediates body.code) os on) in
    let named : SpellsBody (emptied p os body) (filled (patches empty_layout (map unmeant (names_in os))) bytes) =
    subst (λ ns. SpellsBody (linked_with p empty_layout ns body) (filled (patches empty_layout ns) bytes)) names there in
    record {
      spelled = subst (λ ps. SpellsBody (emptied p os body) (filled ps bytes)) (empty_patches (names_in os)) named;
      on = as_good (immediates body.code) (immediates (emptied p os body).code) os (code_good p (names_in os) body.code) on;
    }
