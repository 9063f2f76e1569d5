-- The linker's globals, which a shared output imports, as the data tell them.
use Rattle.std.proofs.Common.{◌≡◌, ℕ, zero, suc, ◌<◌, ◌==◌, ◌||◌, Bool, true, false, not, List, [], ◌∷◌, ◌++◌, slice_get, Option, Some, None, unwrap_or, refl, sym, ap, subst, ◌∙◌, arith, pos}
use Rattle.std.specs.Prelude.{filter, filter_map, flat_map, if◌then◌else◌, is_some, option_and_then}
use Rattle.std.specs.List.{AllZip}
use Rattle.link_program.specs.linking_section.Flags.{kind_code}
use Rattle.link_program.specs.linking_section.declared.symbol.SymbolKind.TheVariants.{GlobalVar}
use Rattle.link_program.specs.made_symbols.declared.mode.Mode.TheVariants.{Shared}
use Rattle.link_program.specs.made_symbols.Made.{made, made_at}
use Rattle.link_program.specs.name_rules.Entries.{InputSymbol, ImportKey, is_kind, is_entry, entries, symbols_of, made_from}
use Rattle.link_program.specs.name_rules.Meanings.{here}
use Rattle.link_program.specs.name_rules.Further.{made_global_import}
use Rattle.link_program.specs.name_meanings.Means.{IsNumberOf}
use Rattle.link_program.specs.link_rules.Program as rules
use Rattle.link_program.specs.link_rules.Program.{Ref}
use Rattle.link_program.specs.link_rules.Keys.{linker_key, own_global, global_of}
use Rattle.link_program.specs.link_rules.Output.{layout}
use Rattle.link_program.specs.declared.keys.GlobalKey.{GlobalKey}
use Rattle.link_program.specs.declared.keys.GlobalKey.TheVariants as globals
use Rattle.link_layout.specs.declared.values.Layout.{Layout}
use Rattle.link_layout.specs.Layout.{looked, IsLayoutIn}
use Rattle.link_layout.specs.Cells.{made_place, made_import}
use Rattle.link_layout.specs.link_numbers.Knows.{KnowsGlobal}
use Rattle.link_layout.specs.link_numbers.Numbered.{Numbered}
use Rattle.link_layout.proofs.CellsTold.{IsGlobal, made_told, shared_told}
use Rattle.link_layout.proofs.KeysTold.{function_known}
use Rattle.link_layout.proofs.Linkers.{OfLinker, LinkersOwn}
use Rattle.link_layout.proofs.link_numbers_lemmas.Begun.{given_of}
use Rattle.link_layout.proofs.link_numbers_lemmas.Whole.{one_import}
use Rattle.link_debug.specs.Places.{global_place}
use Rattle.debug_places.specs.Seen.{global_among, import_among}
use Rattle.debug_places.proofs.Keys.{IsMeant, global_placed}

-- ---- each global of the linker has an import

module _ (imports : List ImportKey) (more : List InputSymbol) where
  abbrev AreImports : List ℕ → Type 0
  AreImports numbers = AllZip (IsNumberOf imports) numbers (filter_map made_global_import (made_from 0 (made Shared) ++ more))

  three_there : (numbers : List ℕ) → AreImports numbers → (i : ℕ) → i < 3 → is_some (slice_get numbers i) ≡ true
  three_there [] are i below = absurd are
  three_there (a ∷ []) are i below = absurd are.1
  three_there (a ∷ b ∷ []) are i below = absurd are.1.1
  three_there (a ∷ b ∷ c ∷ rest) are zero below = refl
  three_there (a ∷ b ∷ c ∷ rest) are (suc zero) below = refl
  three_there (a ∷ b ∷ c ∷ rest) are (suc (suc zero)) below = refl
  three_there (a ∷ b ∷ c ∷ rest) are (suc (suc (suc i))) below = absurd (omega (arith, below))

  imported : (numbers : List ℕ) → AreImports numbers → (place : ℕ) → (kind_code (made_at Shared place).kind == kind_code GlobalVar) ≡ true
      → is_some (option_and_then (slice_get numbers) (made_place place)) ≡ true
  imported numbers are zero kind = absurd cc
  imported numbers are (suc zero) kind = absurd cc
  imported numbers are (suc (suc zero)) kind = three_there numbers are 0 (omega arith)
  imported numbers are (suc (suc (suc zero))) kind = three_there numbers are 1 (omega arith)
  imported numbers are (suc (suc (suc (suc zero)))) kind = three_there numbers are 2 (omega arith)
  imported numbers are (suc (suc (suc (suc (suc zero))))) kind = absurd cc
  imported numbers are (suc (suc (suc (suc (suc (suc zero)))))) kind = absurd cc
  imported numbers are (suc (suc (suc (suc (suc (suc (suc place))))))) kind = absurd cc

-- ---- what is looked up

-- An import that is there is looked up by its number.
by_import : (n : Numbered) (own : GlobalKey) (o : Option ℕ) (r : Bool) → (r ≡ true → is_some o ≡ true)
    → (if r then import_among n o else global_among n own) ≡ global_among n (if r then globals.Import (unwrap_or o 0) else own)
by_import n own None true there = absurd (let e : false ≡ true = there refl in cc)
by_import n own (Some number) true there = refl
by_import n own o false there = refl

meant_by : (imports : List ImportKey) (e : InputSymbol) (r : Bool) → KnowsGlobal imports (if r then linker_key Shared e else own_global e.input e.index) → IsMeant imports (if r then linker_key Shared e else own_global e.input e.index)
meant_by imports e true known = known
meant_by imports e false known = known

told_by_kind : (r s : Bool) → (r ≡ true → s ≡ true) → (not r || s) ≡ true
told_by_kind false s there = refl
told_by_kind true s there = there refl

-- ---- the globals of a shared output

module _ (p : rules.Program) (parts : List rules.Part) (es : List InputSymbol) (d : Layout) (is : IsLayoutIn Shared p parts es d) where
  abbrev names : List (List ℕ)
  names = d.program.names.now.names

  abbrev imports : List ImportKey
  imports = d.program.resolution.now.imports

  others : List InputSymbol
  others = filter is_entry (flat_map (symbols_of p.objects) p.objects)

  numbers_are : AllZip (IsNumberOf imports) d.program.resolution.now.made (filter_map made_global_import (made_from 0 (made Shared) ++ others))
  unfolding entries others
  numbers_are = subst (λ all. AllZip (IsNumberOf imports) d.program.resolution.now.made (filter_map made_global_import all)) is.program.entries is.program.resolution.made

  there : (e : InputSymbol) → LinkersOwn Shared e → is_kind GlobalVar e ≡ true → (e.input == 0) ≡ true → is_some (made_import (looked d) e.place) ≡ true
  there e own kind linkers =
      let of : OfLinker Shared e = own linkers in
      imported imports others d.program.resolution.now.made numbers_are e.place (ap (λ (x : InputSymbol). is_kind GlobalVar x) (sym of.is) ∙ kind)

  -- what is looked up is the key as it is told
  abbrev naming : InputSymbol → Ref
  naming e = record { place = 0; kind = 7; addend = pos 0; entry = record e { symbol = record e.symbol { kind = GlobalVar } }; meaning = here e }

  is_global : (e : InputSymbol) → LinkersOwn Shared e → is_kind GlobalVar e ≡ true
      → IsGlobal imports (if e.input == 0 then globals.Import (unwrap_or (made_import (looked d) e.place) 0) else globals.Own e.input e.index) (global_of Shared e)
  is_global e own kind =
      shared_told names imports (one_import (given_of d.program p is.live.0 parts is.program is.stand is.live.1 is.meant)) (looked d) refl refl
      (made_told imports d.program.resolution.now.made others numbers_are)
      (naming e) 0 (function_known names imports e) refl own (told_by_kind (e.input == 0) (is_some (made_import (looked d) e.place)) (there e own kind))

  -- the number of a global that is defined
  pub shared_here : (e : InputSymbol) → LinkersOwn Shared e → is_kind GlobalVar e ≡ true
      → (if e.input == 0 then import_among d.numbering.now (option_and_then (slice_get d.program.resolution.now.made) (made_place e.place)) else global_among d.numbering.now (globals.Own e.input e.index))
      ≡ global_place (layout Shared p parts es) (global_of Shared e)
  shared_here e own kind =
      let g = is_global e own kind in
      by_import d.numbering.now (globals.Own e.input e.index) (made_import (looked d) e.place) (e.input == 0) (there e own kind)
      ∙ (ap (global_among d.numbering.now) g.is
      ∙ global_placed Shared p parts es d is (global_of Shared e) (meant_by imports e (e.input == 0) g.known))
