-- The windows of code are written by their values in a shared output too.
use Rattle.std.proofs.Common.{◌≡◌, ℕ, List, [], ◌∷◌, map, Option, Some, None, refl, ap, ◌∙◌}
use Rattle.std.specs.Prelude.{IsTrue}
use Rattle.body_windows.specs.declared.immediate.Immediate.{Immediate}
use Rattle.body_windows.specs.declared.immediate.ImmediateKind.{ImmediateKind}
use Rattle.body_windows.specs.declared.immediate.ImmediateKind.TheVariants.{FunctionIndex, TypeIndex, TableIndex, GlobalIndex, MemoryOffset, Constant}
use Rattle.body_windows.specs.Immediates.{may_stand}
use Rattle.made_symbols.specs.declared.mode.Mode.TheVariants.{Shared}
use Rattle.reloc_apply.specs.declared.window.Window.{Window}
use Rattle.reloc_apply.specs.Windows.{patch_of}
use Rattle.output_module.specs.link_worlds.link_rules.Program.{Named, a_symbol, a_type}
use Rattle.output_module.specs.link_worlds.link_rules.Values.{Layout, named_window, form_of}
use Rattle.output_module.specs.link_worlds.link_rules.Output.{held_as}
use Rattle.output_module.specs.Filled.{StandsOn, AllStandOn, names_in, patches_in}
use Rattle.output_module.proofs.Spelled.{form_function, form_type, form_table, form_global, form_offset, form_constant}

-- no immediate of code has a window of four bytes
held_on : (k : ℕ) (w : Window) (kind : ImmediateKind) → IsTrue (may_stand k kind) → held_as (form_of k) w ≡ w
held_on k w FunctionIndex t = ap (λ f. held_as f w) (form_function k t)
held_on k w TypeIndex t = ap (λ f. held_as f w) (form_type k t)
held_on k w (TableIndex n) t = ap (λ f. held_as f w) (form_table k n t)
held_on k w GlobalIndex t = ap (λ f. held_as f w) (form_global k t)
held_on k w MemoryOffset t = ap (λ f. held_as f w) (form_offset k t)
held_on k w Constant t = ap (λ f. held_as f w) (form_constant k t)

held_named : (l : Layout) (i : Immediate) (n : Named) → StandsOn i (Some n) → held_as (named_window Shared l n).form (named_window Shared l n) ≡ named_window Shared l n
held_named l i (a_symbol ref) s = held_on ref.kind (named_window Shared l (a_symbol ref)) i.kind s.2
held_named l i (a_type w) s = refl

-- what is written for the references of a body
pub held_patches : (l : Layout) (is : List Immediate) (os : List (Option Named)) → AllStandOn is os
    → map patch_of (map (λ w. held_as w.form w) (map (named_window Shared l) (names_in os))) ≡ patches_in Shared l (names_in os)
held_patches l [] [] s = refl
held_patches l [] (o ∷ os) s = absurd s
held_patches l (i ∷ is) [] s = absurd s
held_patches l (i ∷ is) (None ∷ os) s = held_patches l is os s.1
held_patches l (i ∷ is) (Some n ∷ os) s =
    ap (λ w. patch_of w ∷ map patch_of (map (λ w. held_as w.form w) (map (named_window Shared l) (names_in os)))) (held_named l i n s.0)
    ∙ ap (λ ps. patch_of (named_window Shared l n) ∷ ps) (held_patches l is os s.1)
