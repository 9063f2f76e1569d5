-- The tree is the object of the definition.
use Rattle.std.proofs.Common.{◌≡◌, ℕ, List, [], ◌∷◌, map, filter_map, Option, Some, None, refl, sym, ap, ◌∙◌}
use Rattle.std.specs.List.{cons_option}
use Rattle.partial_items.specs.link_program.link_rules.Program.{Program}
use Rattle.partial_items.specs.partial_rules.Relocatable.{Relocatable}
use Rattle.partial_items.specs.partial_rules.Partial as partial
use Rattle.partial_items.specs.partial_rules.Partial.{relocatable}
use Rattle.partial_items.specs.partial_bytes.declared.tree.Tree.{Tree}
use Rattle.partial_items.specs.partial_bytes.Told.{part_told, global_told, info_told, symbol_told, group_told, tree_told}

-- what is found of each
pub all_found : {A B : Type 0} (f : A → Option B) (xs : List A) (ys : List B) → map f xs ≡ map Some ys → filter_map f xs ≡ ys
all_found f [] [] same = refl
all_found f [] (y ∷ ys) same = absurd cc
all_found f (x ∷ xs) [] same = absurd cc
all_found f (x ∷ xs) (y ∷ ys) same =
    let here : f x ≡ Some y = cc in
    let others : map f xs ≡ map Some ys = cc in
    let t = all_found f xs ys others in
    λ i. cons_option (here i) (t i)

-- Each list of the tree is that of the object.
pub record IsTree (p : Program) (t : Tree) : Type 0 where
  pub types : t.types.now ≡ partial.types p
  pub imports : t.imports.now ≡ (relocatable p).imports
  pub functions : t.functions.now ≡ (relocatable p).functions
  pub globals : map global_told t.globals.now ≡ (relocatable p).globals
  pub exports : t.exports.now ≡ (relocatable p).exports
  pub bodies : map part_told t.bodies.now ≡ map (partial.windowed p) (partial.kept p 0)
  pub segments : map part_told t.segments.now ≡ map (partial.windowed p) (partial.kept p 1)
  pub infos : map info_told t.infos.now ≡ (relocatable p).infos
  pub symbols : map symbol_told t.symbols.now ≡ map (partial.symbol_for p) (partial.standing p)
  pub inits : t.inits.now ≡ (relocatable p).inits
  pub groups : map group_told t.groups.now ≡ (relocatable p).groups

pub tree_is : (p : Program) (t : Tree) → IsTree p t → tree_told t ≡ relocatable p
unfolding relocatable
tree_is p t is = λ i. record {
  types = is.types i;
  imports = is.imports i;
  functions = is.functions i;
  globals = is.globals i;
  exports = is.exports i;
  bodies = is.bodies i;
  segments = is.segments i;
  infos = is.infos i;
  symbols = is.symbols i;
  inits = is.inits i;
  groups = is.groups i;
}
