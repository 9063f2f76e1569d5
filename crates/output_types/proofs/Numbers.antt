-- What stands at the number of a live reference: the function that it names, or a global of its type.
use Rattle.std.proofs.Common.{◌≡◌, ℕ, List, Option, Some, None, Bool, true, false, refl, sym, ap, ◌∙◌, arith}
use Rattle.std.specs.Prelude.{◌==◌, if◌then◌else◌, slice_get, position, option_map, option_and_then}
use Rattle.std.proofs.lemmas.Bool.{and_parts, eqb-true}
use Rattle.list_places.proofs.Lists.{stands}
use Rattle.link_worlds.specs.link_rules.name_rules.Meanings.{is_nothing}
use Rattle.link_worlds.specs.link_rules.Program.{Program, Part, Ref}
use Rattle.link_worlds.specs.link_rules.Keys.{FunctionKey, GlobalKey, outside_global, linker_global, own_global, got, exported_datum, same_function, same_global, ref_function}
use Rattle.link_worlds.specs.link_rules.Values.{Layout}
use Rattle.link_worlds.specs.Names.{all_functions, all_cells, function_place, callee, constant_of, renaming, FunctionGets, CellGets}
use Rattle.link_worlds.proofs.Keys.{function_equal, import_equal}
use Rattle.output_types.specs.Types.{constant_cell, cell_type}

-- globals that are the same have one type
same_cell_type : (parts : List Part) (a b : GlobalKey) → same_global a b ≡ true → cell_type parts a ≡ cell_type parts b
same_cell_type parts (outside_global a) (outside_global b) h = ap (λ k. cell_type parts (outside_global k)) (import_equal a b h)
same_cell_type parts (linker_global a) (linker_global b) h = ap (λ n. cell_type parts (linker_global n)) (eqb-true a b h)
same_cell_type parts (own_global a i) (own_global b j) h =
    let r = and_parts (a == b) (i == j) h in
    ap (λ n. cell_type parts (own_global n i)) (eqb-true a b r.0) ∙ ap (λ n. cell_type parts (own_global b n)) (eqb-true i j r.1)
same_cell_type parts (got a) (got b) h = refl
same_cell_type parts (exported_datum a) (exported_datum b) h = refl
same_cell_type parts _ _ h = absurd (grind arith)

module _ (p : Program) (l : Layout) where
  -- ---- functions

  at_function : (k : FunctionKey) (n : ℕ) (o : Option ℕ) → position (same_function k) (all_functions p) ≡ o → FunctionGets (renaming p l) o n → slice_get l.numbers.functions n ≡ Some k
  at_function k n None e h = absurd h
  at_function k n (Some f) e h =
      let s = stands (same_function k) (all_functions p) f e in
      let q : position (same_function s.item) l.numbers.functions ≡ Some n = ap (option_and_then (λ j. position (same_function j) l.numbers.functions)) (sym s.there) ∙ h in
      let r = stands (same_function s.item) l.numbers.functions n q in
      r.there ∙ ap Some (sym (function_equal k s.item s.passes ∙ function_equal s.item r.item r.passes))

  -- the function that is called
  pub callee_at : (ref : Ref) (n : ℕ) → FunctionGets (renaming p l) (callee p ref) n → slice_get l.numbers.functions n ≡ Some (ref_function ref)
  callee_at ref n h = by (is_nothing ref.meaning) h
    where
      by : (b : Bool) → FunctionGets (renaming p l) (if b then None else function_place p (ref_function ref)) n → slice_get l.numbers.functions n ≡ Some (ref_function ref)
      by true h = absurd h
      by false h = at_function (ref_function ref) n (position (same_function (ref_function ref)) (all_functions p)) refl h

  -- ---- globals

  module _ (parts : List Part) where
    pub cell_at : (k : GlobalKey) (n : ℕ) (o : Option ℕ) → position (same_global k) (all_cells p) ≡ o → CellGets (renaming p l) o n → option_map (cell_type parts) (slice_get l.numbers.globals n) ≡ Some (cell_type parts k)
    cell_at k n None e h = absurd h
    cell_at k n (Some c) e h =
        let s = stands (same_global k) (all_cells p) c e in
        let q : position (same_global s.item) l.numbers.globals ≡ Some n = ap (option_and_then (λ j. position (same_global j) l.numbers.globals)) (sym s.there) ∙ h in
        let r = stands (same_global s.item) l.numbers.globals n q in
        ap (option_map (cell_type parts)) r.there ∙ ap Some (sym (same_cell_type parts k s.item s.passes ∙ same_cell_type parts s.item r.item r.passes))

    -- a cell of an address
    pub held_at : (n v : ℕ) → (renaming p l).constant n ≡ Some v → option_map (cell_type parts) (slice_get l.numbers.globals n) ≡ Some constant_cell
    held_at n v h = by (slice_get l.numbers.globals n) h
      where
        of_key : (k : GlobalKey) → constant_of l k ≡ Some v → cell_type parts k ≡ constant_cell
        of_key (outside_global k) h = absurd (grind arith)
        of_key (linker_global k) h = absurd (grind arith)
        of_key (own_global i k) h = absurd (grind arith)
        of_key (got k) h = refl
        of_key (exported_datum e) h = refl

        by : (o : Option GlobalKey) → option_and_then (constant_of l) o ≡ Some v → option_map (cell_type parts) o ≡ Some constant_cell
        by None h = absurd (grind arith)
        by (Some k) h = ap Some (of_key k h)
