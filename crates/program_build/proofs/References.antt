-- What parts refer to are symbols of the objects.
use Rattle.std.proofs.Common.{◌≡◌, ℕ, ℤ, pos, List, [], ◌∷◌, refl, Option, Some, None, All, Bool, true, false, map, not}
use Rattle.std.specs.Prelude.{IfSome, slice_get, filter_map, flat_map, option_map, filter}
use Rattle.std.proofs.lemmas.List.Elements.{All-cons, All-nil, All-head, All-tail, All-map, All-filter}
use Rattle.loose_calls.specs.link_program.reloc_section.declared.entry.Reloc.{Reloc}
use Rattle.loose_calls.specs.link_program.body_windows.declared.operand.Operand.{Operand}
use Rattle.loose_calls.specs.link_program.body_windows.declared.operand.Operand.TheVariants as operands
use Rattle.loose_calls.specs.link_program.linking_section.declared.init.InitFunc.{InitFunc}
use Rattle.loose_calls.specs.link_program.name_rules.Entries.{InputSymbol}
use Rattle.loose_calls.specs.link_program.name_rules.Meanings.{Meaning, Resolved}
use Rattle.loose_calls.specs.link_program.link_rules.Program.{Ref, Named, a_symbol, a_type, named_ref, ref_to, ref_in, operand_named, window_named, InitCall, init_call, is_skipped, init_calls_in, init_calls, by_priority}
use Rattle.loose_calls.specs.link_program.Stand.{IsSymbolOf}
use Rattle.program_build.proofs.Lists.{each_there, all_flat_map, all_filter_map, all_by_priority}

module _ (resolved : List Resolved) where
  abbrev pub IsMeant : Ref → Type 0
  IsMeant ref = IsSymbolOf resolved ref.entry ref.meaning

  -- A reference with this place and type.
  abbrev pub IsAt : ℕ → ℕ → Ref → Type 0
  IsAt place kind ref = IsMeant ref × (ref.place ≡ place) × (ref.kind ≡ kind)

  pub ref_is : (i : ℕ) (r : Resolved) → slice_get resolved i ≡ Some r → (place kind symbol : ℕ) (addend : ℤ) → IfSome (ref_in r place kind symbol addend) (IsAt place kind)
  ref_is i r at place kind symbol addend = by (slice_get r.symbols symbol) (slice_get r.meanings symbol) refl refl
    where
      by : (e : Option InputSymbol) (m : Option Meaning) → slice_get r.symbols symbol ≡ e → slice_get r.meanings symbol ≡ m → IfSome (ref_to place kind addend e m) (IsAt place kind)
      by (Some e) (Some m) has means = ((i, symbol, r, at, has, means), refl, refl)
      by (Some e) None has means = tt
      by None m has means = tt

  abbrev pub NamesMeant : Named → Type 0
  NamesMeant (a_symbol ref) = IsMeant ref
  NamesMeant (a_type w) = Unit {0}

  pub refs_meant : (ns : List Named) → All NamesMeant ns → All IsMeant (filter_map named_ref ns)
  refs_meant [] all = All-nil IsMeant
  refs_meant (a_symbol ref ∷ ns) all = All-cons IsMeant ref (filter_map named_ref ns) (All-head NamesMeant (a_symbol ref) ns all) (refs_meant ns (All-tail NamesMeant (a_symbol ref) ns all))
  refs_meant (a_type w ∷ ns) all = refs_meant ns (All-tail NamesMeant (a_type w) ns all)

  symbol_meant : (place kind : ℕ) (o : Option Ref) → IfSome o (IsAt place kind) → IfSome (option_map a_symbol o) NamesMeant
  symbol_meant place kind None is = tt
  symbol_meant place kind (Some ref) is = is.0

  module _ (i : ℕ) (r : Resolved) (at : slice_get resolved i ≡ Some r) where
    operand_meant : (o : Operand) → IfSome (operand_named r o) NamesMeant
    operand_meant operands.Number = tt
    operand_meant (operands.Symbol kind place symbol addend) = symbol_meant place kind (ref_in r place kind symbol addend) (ref_is i r at place kind symbol addend)
    operand_meant (operands.TypeRef place index) = tt
    operand_meant operands.TableZero = tt

    pub operands_meant : (os : List Operand) → All NamesMeant (filter_map (operand_named r) os)
    operands_meant os = all_filter_map NamesMeant (operand_named r) operand_meant os

    pub windows_meant : (ws : List Reloc) → All NamesMeant (filter_map (window_named r) ws)
    windows_meant ws = all_filter_map NamesMeant (window_named r) (λ w. symbol_meant w.offset w.kind (ref_in r w.offset w.kind w.index w.addend) (ref_is i r at w.offset w.kind w.index w.addend)) ws

    call_meant : (o : Option Ref) (priority : ℕ) → IfSome o (IsAt 0 0) → IfSome (option_map (λ ref. let c : InitCall = record { priority = priority; ref = ref } in c) o) (λ c. IsMeant c.ref)
    call_meant None priority is = tt
    call_meant (Some ref) priority is = is.0

    pub calls_in_meant : All (λ (c : InitCall). IsMeant c.ref) (init_calls_in r)
    calls_in_meant =
        All-filter (λ c. not (is_skipped c)) (λ (c : InitCall). IsMeant c.ref) (filter_map (init_call r) r.object.inits)
        (all_filter_map (λ (c : InitCall). IsMeant c.ref) (init_call r) (λ (f : InitFunc). call_meant (ref_in r 0 0 f.symbol (pos 0)) f.priority (ref_is i r at 0 0 f.symbol (pos 0))) r.object.inits)

  pub calls_meant : All IsMeant (init_calls resolved)
  unfolding init_calls
  calls_meant =
      All-map IsMeant (λ (c : InitCall). c.ref) (by_priority (flat_map init_calls_in resolved))
      (all_by_priority (λ c. IsMeant c.ref) (flat_map init_calls_in resolved)
      (all_flat_map (λ (c : InitCall). IsMeant c.ref) init_calls_in resolved (each_there (λ r. All (λ (c : InitCall). IsMeant c.ref) (init_calls_in r)) resolved (λ i r at. calls_in_meant i r at))))

  named_calls : (calls : List Ref) → All IsMeant calls → All NamesMeant (map a_symbol calls)
  named_calls calls all = All-map NamesMeant a_symbol calls all

  pub called_meant : (named : Bool) (calls : List Ref) → All IsMeant calls → All IsMeant (filter_map named_ref (Rattle.std.specs.Prelude.if◌then◌else◌ named (map a_symbol calls) []))
  called_meant true calls all = refs_meant (map a_symbol calls) (named_calls calls all)
  called_meant false calls all = All-nil IsMeant
