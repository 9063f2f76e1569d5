-- The exports are those of the objects.
use Rattle.std.proofs.Common.{◌≡◌, ℕ, List, [], ◌∷◌, map, position, refl, ap, ◌∙◌}
use Rattle.link_program.specs.linking_section.declared.symbol.SymbolKind.{SymbolKind}
use Rattle.link_program.specs.linking_section.declared.symbol.SymbolKind.TheVariants.{Function, Datum, GlobalVar, Section, Table}
use Rattle.link_program.specs.made_symbols.declared.mode.Mode.TheVariants.{Plain}
use Rattle.link_program.specs.name_rules.Entries.{InputSymbol, ImportKey}
use Rattle.link_program.specs.link_rules.Program as rules
use Rattle.link_program.specs.link_rules.Marks.{export_name}
use Rattle.link_program.specs.link_rules.Keys as keys
use Rattle.link_program.specs.link_rules.Values as values
use Rattle.link_program.specs.Told.{told_definition}
use Rattle.link_program.specs.Keys.{same_function_key}
use Rattle.link_layout.specs.declared.values.Layout.{Layout}
use Rattle.link_layout.specs.Layout.{IsLayoutIn}
use Rattle.link_layout.proofs.KeysTold.{function_told, function_known}
use Rattle.run_rules.specs.declared.world.Target.TheVariants.{ToFunction, ToCell}
use Rattle.link_worlds.specs.Worlds as worlds
use Rattle.link_worlds.specs.Worlds.{plan_export, target_by}
use Rattle.sym_functions.specs.sym_parts.Data.{target_seen}
use Rattle.sym_world.specs.Exports.{export_seen}
use Rattle.sym_functions.proofs.Ground.{all_fs, all_gs, function_at, own_cell}
use Rattle.sym_functions.proofs.OpsTold as ops

module _ (p : rules.Program) (parts : List rules.Part) (es : List InputSymbol) (d : Layout) (is : IsLayoutIn Plain p parts es d) where
  abbrev l : values.Layout
  l = ops.l p parts es d is

  abbrev t_names : List (List ℕ)
  t_names = d.program.names.now.names

  abbrev t_imports : List ImportKey
  t_imports = d.program.resolution.now.imports

  target_told : (e : InputSymbol) (kind : SymbolKind)
      → target_seen (all_fs d.program p is.program is.stand) (all_gs d.program p is.program is.stand) (values.address_of Plain l e) (told_definition e) kind ≡ worlds.plan_target p l e kind
  target_told e Function =
      ap (λ key. target_by ToFunction (position (same_function_key key) (all_fs d.program p is.program is.stand))) (function_told t_names t_imports e)
      ∙ ap (target_by ToFunction) (function_at d.program p is.program is.stand (keys.function_of e) (function_known t_names t_imports e))
  target_told e Datum = refl
  target_told e GlobalVar = ap (target_by ToCell) (own_cell d.program p is.program is.stand e)
  target_told e Section = refl
  target_told e Table = refl

  export_told : (e : InputSymbol) → export_seen p l (all_fs d.program p is.program is.stand) (all_gs d.program p is.program is.stand) e ≡ plan_export p l e
  export_told e = let t = target_told e e.symbol.kind in λ i. record { name = export_name p e; target = t i }

  pub exports_told : (xs : List InputSymbol) → map (export_seen p l (all_fs d.program p is.program is.stand) (all_gs d.program p is.program is.stand)) xs ≡ map (plan_export p l) xs
  exports_told [] = refl
  exports_told (e ∷ xs) = let h = export_told e in let t = exports_told xs in λ i. h i ∷ t i
