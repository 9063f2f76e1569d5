-- The windows of parts stand one behind another.
use Rattle.std.proofs.Common.{◌≡◌, ℕ, ◌+◌, ◌≤◌, ◌==◌, ◌||◌, List, [], ◌∷◌, refl, sym, subst, arith, Option, Some, None, All, Bool, true, false}
use Rattle.std.specs.Prelude.{IfSome, IsTrue, slice_get, filter_map, option_map, if◌then◌else◌}
use Rattle.std.specs.List.{cons_option}
use Rattle.std.proofs.lemmas.Bool.{eqb-true}
use Rattle.std.proofs.lemmas.List.Elements.{All-head, All-tail}
use Rattle.loose_calls.specs.link_program.reloc_section.declared.entry.Reloc.{Reloc}
use Rattle.loose_calls.specs.link_program.body_windows.declared.operand.Operand.{Operand}
use Rattle.loose_calls.specs.link_program.body_windows.declared.operand.Operand.TheVariants as operands
use Rattle.loose_calls.specs.link_program.body_windows.Operands.{StandIn}
use Rattle.loose_calls.specs.link_program.reloc_apply.declared.window.Form.TheVariants.{Unsigned5, Signed5, Word4}
use Rattle.loose_calls.specs.link_program.reloc_apply.Apart.{size_of}
use Rattle.loose_calls.specs.link_program.object_file.declared.object.Object.{Object}
use Rattle.loose_calls.specs.link_program.object_file.Sound.{is_data_type, WindowNames, WindowsStandIn}
use Rattle.loose_calls.specs.link_program.name_rules.Meanings.{Resolved}
use Rattle.loose_calls.specs.link_program.link_rules.Program.{Ref, Named, a_symbol, a_type, ref_in, operand_named, window_named}
use Rattle.loose_calls.specs.link_program.link_rules.Values.{form_of}
use Rattle.loose_calls.specs.link_program.Stand.{NamedStand, named_place, named_size}
use Rattle.program_build.proofs.References.{IsAt, ref_is}

-- ---- sizes

at_most_five : (kind : ℕ) → size_of (form_of kind) ≤ 5
at_most_five kind = by ((kind == 1) || (kind == 4) || (kind == 11) || (kind == 12)) ((kind == 2) || (kind == 5))
  where
    by : (signed word : Bool) → size_of (if signed then Signed5 else if word then Word4 else Unsigned5) ≤ 5
    by true word = omega arith
    by false true = omega arith
    by false false = omega arith

four_of_data : (kind : ℕ) → IsTrue (is_data_type kind) → size_of (form_of kind) ≤ 4
four_of_data kind data' = by (kind == 2) (kind == 5) refl refl data'
  where
    by : (two five : Bool) → (kind == 2) ≡ two → (kind == 5) ≡ five → IsTrue (two || five) → size_of (form_of kind) ≤ 4
    by true five is also holds = subst (λ k. size_of (form_of k) ≤ 4) (sym (eqb-true kind 2 is)) (let four : 4 ≤ 4 = omega arith in four)
    by false true not also holds = subst (λ k. size_of (form_of k) ≤ 4) (sym (eqb-true kind 5 also)) (let four : 4 ≤ 4 = omega arith in four)
    by false false not also holds = absurd cc

-- ---- one behind another

earlier : (from later end : ℕ) (ns : List Named) → from ≤ later → NamedStand later end ns → NamedStand from end ns
earlier from later end [] before stand = omega (arith, before, stand)
earlier from later end (n ∷ ns) before stand = (omega (arith, before, stand.0), stand.1)

-- one more in front, of which the place and the size are known
in_front : (resolved : List Resolved) (from end size place kind : ℕ) (ns : List Named) (o : Option Ref) → IfSome o (IsAt resolved place kind) → from ≤ place
    → size_of (form_of kind) ≤ size → NamedStand (place + size) end ns → NamedStand from end (cons_option (option_map a_symbol o) ns)
in_front resolved from end size place kind ns None is before small rest = earlier from (place + size) end ns (omega (arith, before)) rest
in_front resolved from end size place kind ns (Some ref) is before small rest =
    let same : size_of (form_of ref.kind) ≤ size = subst (λ k. size_of (form_of k) ≤ size) (sym is.2) small in
    (omega (arith, before, is.1), earlier (ref.place + size_of (form_of ref.kind)) (place + size) end ns (omega (arith, is.1, same)) rest)

module _ (resolved : List Resolved) (i : ℕ) (r : Resolved) (at : slice_get resolved i ≡ Some r) where
  pub operands_stand : (from end : ℕ) (os : List Operand) → StandIn from end os → NamedStand from end (filter_map (operand_named r) os)
  operands_stand from end [] stand = stand
  operands_stand from end (operands.Number ∷ os) stand = operands_stand from end os stand
  operands_stand from end (operands.Symbol kind place symbol addend ∷ os) stand =
      in_front resolved from end 5 place kind (filter_map (operand_named r) os) (ref_in r place kind symbol addend) (ref_is resolved i r at place kind symbol addend)
      stand.0 (at_most_five kind) (operands_stand (place + 5) end os stand.1)
  operands_stand from end (operands.TypeRef place index ∷ os) stand = (stand.0, operands_stand (place + 5) end os stand.1)
  operands_stand from end (operands.TableZero ∷ os) stand = operands_stand from end os stand

  pub windows_stand : (o : Object) (from end : ℕ) (ws : List Reloc) → WindowsStandIn from end ws → All (WindowNames o) ws → NamedStand from end (filter_map (window_named r) ws)
  windows_stand o from end [] stand names = stand
  windows_stand o from end (w ∷ ws) stand names =
      in_front resolved from end 4 w.offset w.kind (filter_map (window_named r) ws) (ref_in r w.offset w.kind w.index w.addend) (ref_is resolved i r at w.offset w.kind w.index w.addend)
      stand.0 (four_of_data w.kind (All-head (WindowNames o) w ws names).0) (windows_stand o (w.offset + 4) end ws stand.1 (All-tail (WindowNames o) w ws names))
