-- What a symbol means as a key, as it is told.
use Rattle.std.proofs.Common.{◌≡◌, ℕ, ◌==◌, Bool, true, false, List, None, unwrap_or, refl, sym, ap, subst, ◌∙◌, eqb-true}
use Rattle.std.specs.Prelude.{if◌then◌else◌}
use Rattle.link_program.specs.wl_base.Names.{number_of}
use Rattle.link_program.specs.linking_section.Flags.{kind_code}
use Rattle.link_program.specs.linking_section.declared.symbol.SymbolKind.TheVariants.{GlobalVar}
use Rattle.link_program.specs.made_symbols.declared.mode.Mode.TheVariants.{Plain}
use Rattle.link_program.specs.name_rules.Entries.{InputSymbol, ImportKey, name_of, is_entry, is_kind}
use Rattle.link_program.specs.name_rules.Meanings.{Meaning, here, imported, null, nothing, is_nothing}
use Rattle.link_program.specs.name_entries.View.{entry_number}
use Rattle.link_program.specs.link_rules.Program.{Ref}
use Rattle.link_program.specs.link_rules.Keys as keys
use Rattle.link_program.specs.link_rules.Keys.{linker_function, own, linker_global, own_global, got, is_null, ref_function, ref_global, ref_got, got_of, meant_function, meant_global}
use Rattle.link_program.specs.declared.keys.FunctionKey.TheVariants as functions
use Rattle.link_program.specs.declared.keys.GlobalKey.TheVariants as globals
use Rattle.link_program.specs.Told.{told_definition, told_lead}
use Rattle.link_program.specs.Keys.{told_function, told_got, told_global}
use Rattle.link_numbers.specs.Knows.{KnowsFunction, KnowsGot, KnowsGlobal}
use Rattle.link_program.specs.Meant.{function_of, function_meant, cell_meant}
use Rattle.link_layout.specs.Seen.{global_meant, global_named}

module _ (names : List (List ℕ)) (imports : List ImportKey) where
  own_told : (d : InputSymbol) (r : Bool) → (d.input == 0) ≡ r → functions.Own d.input (if r then d.place else d.index) ≡ told_function names imports (if r then linker_function d.place else own d.input d.index)
  own_told d true is = ap (λ i. functions.Own i d.place) (eqb-true d.input 0 is)
  own_told d false is = refl

  -- the function of a definition
  pub function_told : (d : InputSymbol) → function_of (told_definition d) ≡ told_function names imports (keys.function_of d)
  function_told d = own_told d (d.input == 0) refl

  own_known : (d : InputSymbol) (r : Bool) → (d.input == 0) ≡ r → KnowsFunction names imports (if r then linker_function d.place else own d.input d.index)
  own_known d true is = tt
  own_known d false is = is

  pub function_known : (d : InputSymbol) → KnowsFunction names imports (keys.function_of d)
  function_known d = own_known d (d.input == 0) refl

  -- the function that a symbol means
  pub meant_told : (e : InputSymbol) (m : Meaning) → (is_null m ≡ true → is_entry e ≡ true) → is_nothing m ≡ false → function_meant (entry_number names e) (told_lead imports m) ≡ told_function names imports (meant_function (name_of e) m)
  meant_told e (here d) named meant = function_told d
  meant_told e (imported k) named meant = refl
  meant_told e null named meant = ap (λ r. functions.Stub (unwrap_or (if r then number_of names (name_of e) else None) 0)) (named refl)
  meant_told e nothing named meant = absurd cc

  pub cell_told : (kind : ℕ) (m : Meaning) → cell_meant kind (told_lead imports m) ≡ told_got imports (got_of kind m)
  cell_told kind (here d) = refl
  cell_told kind (imported k) = refl
  cell_told kind null = refl
  cell_told kind nothing = refl

  own_global_told : (d : InputSymbol) (r : Bool) → (d.input == 0) ≡ r → globals.Own d.input (if r then d.place else d.index) ≡ told_global imports (if r then linker_global d.place else own_global d.input d.index)
  own_global_told d true is = ap (λ i. globals.Own i d.place) (eqb-true d.input 0 is)
  own_global_told d false is = refl

  -- `null` and `nothing` are the cells of null
  null_cell : (ref : Ref) (m : Meaning) → ref.meaning ≡ m → globals.Got (cell_meant (kind_code ref.entry.symbol.kind) (told_lead imports m)) ≡ told_global imports (got (ref_got ref))
  null_cell ref m is = ap globals.Got (cell_told (kind_code ref.entry.symbol.kind) m) ∙ ap (λ v. told_global imports (got (got_of (kind_code ref.entry.symbol.kind) v))) (sym is)

  global_meant_told : (ref : Ref) (m : Meaning) → ref.meaning ≡ m → global_meant (kind_code ref.entry.symbol.kind) (told_lead imports m) ≡ told_global imports (meant_global Plain ref m)
  global_meant_told ref (here d) is = own_global_told d (d.input == 0) refl
  global_meant_told ref (imported k) is = refl
  global_meant_told ref null is = null_cell ref null is
  global_meant_told ref nothing is = null_cell ref nothing is

  by_kind : (ref : Ref) (r : Bool) → (if r then global_meant (kind_code ref.entry.symbol.kind) (told_lead imports ref.meaning) else globals.Got (cell_meant (kind_code ref.entry.symbol.kind) (told_lead imports ref.meaning)))
      ≡ told_global imports (if r then meant_global Plain ref ref.meaning else got (ref_got ref))
  by_kind ref true = global_meant_told ref ref.meaning refl
  by_kind ref false = ap globals.Got (cell_told (kind_code ref.entry.symbol.kind) ref.meaning)

  -- the global that a symbol means, or the cell of its address
  pub global_told : (ref : Ref) → global_named (kind_code ref.entry.symbol.kind) (told_lead imports ref.meaning) ≡ told_global imports (ref_global Plain ref)
  global_told ref = by_kind ref (is_kind GlobalVar ref.entry)

  -- ---- the global is known in a plain output

  got_known : (kind : ℕ) (name : List ℕ) (m : Meaning) → KnowsFunction names imports (meant_function name m) → KnowsGot imports (got_of kind m)
  got_known kind name (here d) known = tt
  got_known kind name (imported k) known = known
  got_known kind name null known = tt
  got_known kind name nothing known = tt

  definition_known : (d : InputSymbol) (r : Bool) → (d.input == 0) ≡ r → KnowsGlobal imports (if r then linker_global d.place else own_global d.input d.index)
  definition_known d true is = tt
  definition_known d false is = is

  null_known : (ref : Ref) (m : Meaning) → ref.meaning ≡ m → KnowsFunction names imports (meant_function (name_of ref.entry) m) → KnowsGot imports (ref_got ref)
  null_known ref m is known = subst (λ v. KnowsGot imports (got_of (kind_code ref.entry.symbol.kind) v)) (sym is) (got_known (kind_code ref.entry.symbol.kind) (name_of ref.entry) m known)

  var_known : (ref : Ref) (m : Meaning) → ref.meaning ≡ m → KnowsFunction names imports (meant_function (name_of ref.entry) m) → KnowsGlobal imports (meant_global Plain ref m)
  var_known ref (here d) is known = definition_known d (d.input == 0) refl
  var_known ref (imported k) is known = known
  var_known ref null is known = null_known ref null is known
  var_known ref nothing is known = null_known ref nothing is known

  known_by : (ref : Ref) (r : Bool) → KnowsFunction names imports (ref_function ref) → KnowsGlobal imports (if r then meant_global Plain ref ref.meaning else got (ref_got ref))
  known_by ref true known = var_known ref ref.meaning refl known
  known_by ref false known = null_known ref ref.meaning refl known

  pub global_known : (ref : Ref) → KnowsFunction names imports (ref_function ref) → KnowsGlobal imports (ref_global Plain ref)
  global_known ref known = known_by ref (is_kind GlobalVar ref.entry) known
