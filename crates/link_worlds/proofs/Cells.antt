-- Cells keep apart, and none that is written is a constant.
use Rattle.std.proofs.Common.{◌≡◌, ℕ, ◌++◌, map, Some, None, Bool, true, false, refl, ap, ◌∙◌, subst, ⊎_elim, arith}
use Rattle.std.specs.Prelude.{slice_get, filter, filter_map, position, option_and_then}
use Rattle.std.proofs.lemmas.Option.{option_and_then_some}
use Rattle.list_places.specs.Has.{Has}
use Rattle.list_places.proofs.Lists.{has_at, has_either, has_map, has_pick, stands}
use Rattle.wl_base.specs.Choice.{given}
use Rattle.name_rules.specs.Entries.{ImportKey}
use Rattle.link_rules.specs.Program.{Program}
use Rattle.link_rules.specs.Keys.{GlobalKey, outside_global, linker_global, own_global, got, exported_datum, same_global, made_global_key, own_global_key, imports_in_order, is_global_type}
use Rattle.link_rules.specs.Values.{Layout}
use Rattle.link_worlds.specs.Names.{all_cells, constant_of, renaming}

-- a cell that can be written
abbrev pub IsPlain : GlobalKey → Type 0
IsPlain (outside_global k) = Unit {0}
IsPlain (linker_global k) = Unit {0}
IsPlain (own_global i k) = Unit {0}
IsPlain (got k) = ⊥
IsPlain (exported_datum e) = ⊥

plain_some : (b : GlobalKey → Type 0) (t : Bool) (x k : GlobalKey) → given t x ≡ Some k → b x → b k
plain_some b true x k h p = subst b (grind arith) p
plain_some b false x k h p = absurd (grind arith)

pub plain_cell : (p : Program) (k : GlobalKey) → Has (all_cells p) k → IsPlain k
plain_cell p k h =
    let outs = map outside_global (filter (λ (k : ImportKey). is_global_type k.type) (imports_in_order p)) in
    let mades = filter_map made_global_key p.parts in
    let owns = filter_map own_global_key p.parts in
    ⊎_elim
    (λ g. ⊎_elim
    (λ a. let r = has_map outside_global (filter (λ (k : ImportKey). is_global_type k.type) (imports_in_order p)) k a in subst IsPlain r.2 tt)
    (λ a. let r = has_pick made_global_key p.parts k a in plain_some IsPlain _ _ k r.2 tt)
    (has_either outs mades k g))
    (λ a. let r = has_pick own_global_key p.parts k a in plain_some IsPlain _ _ k r.2 tt)
    (has_either (outs ++ mades) owns k h)

no_constant : (l : Layout) (k d : GlobalKey) → IsPlain k → same_global k d ≡ true → constant_of l d ≡ None
no_constant l (outside_global a) (outside_global b) h e = refl
no_constant l (linker_global a) (linker_global b) h e = refl
no_constant l (own_global a i) (own_global b j) h e = refl
no_constant l (got a) d h e = absurd h
no_constant l (exported_datum a) d h e = absurd h
no_constant l _ _ h e = absurd (grind arith)

pub cells_free : (p : Program) (l : Layout) (c d : ℕ) → (renaming p l).cell c ≡ Some d → (renaming p l).constant d ≡ None
cells_free p l c d h =
    option_and_then_some (λ k. position (same_global k) l.numbers.globals) (slice_get (all_cells p) c) d h
    (λ k at place.
    let s = stands (same_global k) l.numbers.globals d place in
    ap (option_and_then (constant_of l)) s.there
    ∙ no_constant l k s.item (plain_cell p k (has_at (all_cells p) c k at)) s.passes)
