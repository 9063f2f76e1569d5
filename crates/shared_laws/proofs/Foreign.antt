-- The cell of a foreign address that live data use is among the imports, and its number is that of its import.
use Rattle.std.proofs.Common.{◌≡◌, List, ◌++◌, Some, Bool, true, false, not, refl, sym, ap, ◌∙◌, subst, arith}
use Rattle.std.specs.Prelude.{◌==◌, ◌&&◌, filter_map, slice_get, unwrap_or}
use Rattle.std.proofs.lemmas.Bool.{eq-eqb, cond-true}
use Rattle.list_places.specs.Has.{Has}
use Rattle.list_places.proofs.Lists.{has_left, has_right, second_of, filter_has, flat_has, pick_has, map_has, placed, stands}
use Rattle.wl_base.specs.Choice.{given}
use Rattle.linking_section.specs.declared.symbol.SymbolKind.TheVariants.{GlobalVar}
use Rattle.made_symbols.specs.declared.mode.Mode.TheVariants.{Shared}
use Rattle.index_layout.specs.Numbers.{number_by}
use Rattle.name_rules.specs.Entries.{InputSymbol, ImportKey, is_kind, same_import}
use Rattle.name_rules.specs.Meanings.{cell_of}
use Rattle.name_rules.specs.Further.{made_global_import}
use Rattle.link_rules.specs.Program.{Program, Part, Ref, refs}
use Rattle.link_rules.specs.Marks.{live, refs_of, is_foreign}
use Rattle.link_rules.specs.Keys.{GlobalKey, outside_global, linker_global, own_global, got, exported_datum, same_global, globals, global_imports_in, foreign_cell, foreign_cells, used_globals, parts_of_kind, cell_key, ref_got}
use Rattle.link_rules.specs.Loader.{cell_number}
use Rattle.link_rules.specs.Output.{layout}
use Rattle.link_facts.proofs.link_worlds_lemmas.Keys.{import_equal, import_itself, imports_same}
use Rattle.link_facts.proofs.link_worlds_lemmas.Live.{live_part}
use Rattle.link_facts.proofs.link_worlds_lemmas.Refs.{distinct_has}
use Rattle.shared_laws.specs.Linked.{shared_layout}
use Rattle.shared_laws.proofs.Rows.{TakesAddress, RowsTake}
use Rattle.shared_laws.proofs.Globals.{outs, owns, gots, dates, globals_are}

-- what is the same as an import is it
outside_equal : (k : ImportKey) (x : GlobalKey) → same_global (outside_global k) x ≡ true → x ≡ outside_global k
outside_equal k (outside_global j) h = ap outside_global (sym (import_equal k j h))
outside_equal k (linker_global n) h = absurd (grind arith)
outside_equal k (own_global i n) h = absurd (grind arith)
outside_equal k (got g) h = absurd (grind arith)
outside_equal k (exported_datum e) h = absurd (grind arith)

cell_given : (ref : Ref) → TakesAddress ref → is_foreign ref ≡ true → foreign_cell ref ≡ Some (cell_of ref.entry)
cell_given ref t f = by (ref.kind == 0) (is_kind GlobalVar ref.entry) (is_foreign ref) t.0 t.1 f
  where
    by : (a b c : Bool) → a ≡ false → b ≡ false → c ≡ true → given (not a && not b && c) (cell_of ref.entry) ≡ Some (cell_of ref.entry)
    by true b c x y z = absurd (grind arith)
    by false true c x y z = absurd (grind arith)
    by false false false x y z = absurd (grind arith)
    by false false true x y z = refl

module _ (p : Program) (exports : List InputSymbol) (rows : RowsTake p) where
  abbrev parts : List Part
  parts = live p exports

  cell_listed : (part : Part) (ref : Ref) → Has parts part → part.chunk.kind ≡ 1 → Has (refs part) ref → is_foreign ref ≡ true → Has (foreign_cells parts) (cell_of ref.entry)
  cell_listed part ref h k r f =
      let segment = filter_has (λ (q : Part). q.chunk.kind == 1) parts part h (eq-eqb part.chunk.kind 1 k) in
      pick_has foreign_cell (refs_of (parts_of_kind 0 parts) ++ refs_of (parts_of_kind 1 parts)) ref (cell_of ref.entry)
      (has_right (refs_of (parts_of_kind 0 parts)) (refs_of (parts_of_kind 1 parts)) ref (flat_has refs (parts_of_kind 1 parts) part ref segment r))
      (cell_given ref (rows part ref (live_part p exports part h) k r) f)

  imported_there : (k : ImportKey) → Has (foreign_cells parts) k → Has (globals Shared p parts exports) (outside_global k)
  imported_there k h =
      let made = filter_map made_global_import p.entries in
      let used = used_globals Shared p (refs_of parts) in
      let d = distinct_has same_import imports_same (made ++ foreign_cells parts ++ used) k (second_of made (foreign_cells parts) used k h) in
      let there : Has (global_imports_in Shared p parts) k = subst (Has (global_imports_in Shared p parts)) (sym (import_equal k d.0 d.2)) d.1 in
      subst (λ gs. Has gs (outside_global k)) (sym (globals_are p parts exports))
      (has_left (outs p parts exports) (owns p parts exports ++ gots p parts exports ++ dates p parts exports) (outside_global k) (map_has outside_global (global_imports_in Shared p parts) k there))

  numbered : (k : ImportKey) → Has (globals Shared p parts exports) (outside_global k)
      → slice_get (globals Shared p parts exports) (number_by same_global (globals Shared p parts exports) (outside_global k)) ≡ Some (outside_global k)
  numbered k h =
      let gs = globals Shared p parts exports in
      let n = placed (same_global (outside_global k)) gs (outside_global k) h (import_itself k) in
      let at = stands (same_global (outside_global k)) gs n.0 n.1 in
      ap (λ o. slice_get gs (unwrap_or o 0)) n.1 ∙ at.there ∙ ap Some (outside_equal k at.item at.passes)

  pub foreign_cell_numbered : (part : Part) (ref : Ref) → Has parts part → part.chunk.kind ≡ 1 → Has (refs part) ref → is_foreign ref ≡ true
      → slice_get (shared_layout p exports).numbers.globals (cell_number Shared p parts (shared_layout p exports) ref) ≡ Some (outside_global (cell_of ref.entry))
  unfolding layout
  foreign_cell_numbered part ref h k r f =
      let key : cell_key Shared ref ≡ outside_global (cell_of ref.entry) = cond-true (is_foreign ref) (outside_global (cell_of ref.entry)) (got (ref_got ref)) f in
      ap (λ x. slice_get (globals Shared p parts exports) (number_by same_global (globals Shared p parts exports) x)) key
      ∙ numbered (cell_of ref.entry) (imported_there (cell_of ref.entry) (cell_listed part ref h k r f))
