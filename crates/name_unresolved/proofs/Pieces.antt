-- What the parts of an object name.
use Rattle.std.proofs.Common.{◌≡◌, ℕ, zero, suc, cond, List, [], ◌∷◌, map, filter, slice_get, Option, None, refl, sym, ap, ◌∙◌}
use Rattle.std.specs.Prelude.{replicate}
use Rattle.std.specs.List.{filter_map}
use Rattle.name_meanings.specs.name_entries.linking_section.declared.init.InitFunc.{InitFunc}
use Rattle.name_meanings.specs.name_entries.reloc_section.declared.entry.Reloc.{Reloc}
use Rattle.name_meanings.specs.name_entries.body_windows.declared.operand.Operand.{Operand}
use Rattle.name_meanings.specs.name_entries.body_windows.declared.operand.Operand.TheVariants.{Number}
use Rattle.name_meanings.specs.name_entries.body_windows.declared.operands.Reference.{Reference}
use Rattle.name_meanings.specs.name_entries.body_windows.Operands.{operand_of, spread}
use Rattle.name_unresolved.specs.declared.piece.Piece.{Piece}
use Rattle.name_unresolved.specs.Refers.{SymbolAt, at, symbol_named, is_undefined_one, open_inits}
use Rattle.name_unresolved.specs.Least.{lesser, least_by}
use Rattle.name_unresolved.specs.Search.{opened, least_open, rows_in, opened_in, opened_by, opened_init}
use Rattle.name_unresolved.proofs.Least.{append_is, map_is, filter_map_is, filter_is}

-- ---- numbers name nothing

module _ (f : Operand → Option SymbolAt) (nothing : f Number ≡ None) where
  numbers : (n : ℕ) → least_by f (replicate n Number) ≡ None
  numbers zero = refl
  numbers (suc n) = ap (λ o. lesser o (least_by f (replicate n Number))) nothing ∙ numbers n

  spread_is : (rs : List Reference) (behind : ℕ) → least_by f (spread rs behind) ≡ least_by (λ r. f (operand_of r)) rs
  spread_is [] behind = numbers behind
  spread_is (r ∷ rs) behind =
      append_is f (replicate r.numbers Number) (operand_of r ∷ spread rs behind)
      ∙ ap (λ o. lesser o (lesser (f (operand_of r)) (least_by f (spread rs behind)))) (numbers r.numbers)
      ∙ ap (lesser (f (operand_of r))) (spread_is rs behind)

-- ---- pieces

pub references_are : (p : Piece) (rs : List Reference) (behind : ℕ)
    → least_by (λ r. opened_by p (operand_of r)) rs ≡ least_open (rows_in p) (map (at p.object.now) (filter_map symbol_named (spread rs behind)))
references_are p rs behind =
    sym (map_is (opened (rows_in p)) (at p.object.now) (filter_map symbol_named (spread rs behind))
    ∙ filter_map_is (opened_in p) symbol_named (spread rs behind) ∙ spread_is (opened_by p) refl rs behind)

pub windows_are : (p : Piece) (ws : List Reloc)
    → least_by (λ w. opened_in p w.index) ws ≡ least_open (rows_in p) (map (at p.object.now) (map (λ w. w.index) ws))
windows_are p ws =
    sym (map_is (opened (rows_in p)) (at p.object.now) (map (λ (w : Reloc). w.index) ws) ∙ map_is (opened_in p) (λ (w : Reloc). w.index) ws)

pub inits_are : (p : Piece) → least_by (opened_init p) p.object.now.inits ≡ least_open (rows_in p) (open_inits p.object.now)
inits_are p =
    let test = λ (s : ℕ). is_undefined_one (slice_get p.object.now.symbols s) in
    sym (map_is (opened (rows_in p)) (at p.object.now) (filter test (map (λ (i : InitFunc). i.symbol) p.object.now.inits))
    ∙ filter_is (opened_in p) test (map (λ (i : InitFunc). i.symbol) p.object.now.inits)
    ∙ map_is (λ s. cond (test s) (opened_in p s) None) (λ (i : InitFunc). i.symbol) p.object.now.inits)
