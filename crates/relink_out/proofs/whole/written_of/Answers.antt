use Rattle.std.proofs.Common.{◌≡◌, map, sym, ap, subst, ◌∙◌}
use Rattle.std.specs.Prelude.{All}
use Rattle.partial_items.specs.partial_rules.Relocatable.{relocatable_bytes}
use Rattle.partial_items.specs.partial_bytes.declared.tree.Tree.{Tree}
use Rattle.partial_items.specs.partial_bytes.Told.{part_told, global_told, info_told, symbol_told, group_told, PartFits}
use Rattle.relink_out.specs.Judged.{IsJudged}
use Rattle.relink_out.specs.Rows.{ArePartRows}
use Rattle.relink_out.proofs.Trees.{IsTree, tree_is}
use Rattle.relink_out.proofs.whole.written_of.Goals as goal

pub write-requires-after_bounds : goal.write-requires-after_bounds
write-requires-after_bounds g c κs within =
    let program = c.requires.1.1.0 in
    let strict = c.requires.1.1.1.0 in
    let stand = c.requires.1.1.1.1.0 in
    let files = c.requires.1.1.1.1.1.1.1.1.0 in
    let found = c.requires.1.1.1.1.1.1.1.1.1.0 in
    let typed = c.requires.1.1.1.1.1.1.1.1.1.1.0 in
    let held = c.requires.1.1.1.1.1.1.1.1.1.1.1.1 in
    let rows : ArePartRows g.p c.in_ok-parts.parts = c.in_ok-parts.ensures g.p program stand strict files found (c.as_slice-2.ensures ∙ typed.numbers) (c.as_slice.ensures ∙ held.symbols) in
    record { bodies = subst (All PartFits) (sym c.as_slice-7.ensures) rows.bodies_fit; segments = subst (All PartFits) (sym c.as_slice-8.ensures) rows.segments_fit }

pub returns : goal.returns
returns g c =
    let p = g.p in
    let program = c.requires.1.1.0 in
    let strict = c.requires.1.1.1.0 in
    let stand = c.requires.1.1.1.1.0 in
    let files = c.requires.1.1.1.1.1.1.1.1.0 in
    let found = c.requires.1.1.1.1.1.1.1.1.1.0 in
    let typed = c.requires.1.1.1.1.1.1.1.1.1.1.0 in
    let named = c.requires.1.1.1.1.1.1.1.1.1.1.1.0 in
    let held = c.requires.1.1.1.1.1.1.1.1.1.1.1.1 in
    let parts = c.in_ok-parts.ensures p program stand strict files found (c.as_slice-2.ensures ∙ typed.numbers) (c.as_slice.ensures ∙ held.symbols) in
    let names = c.in_ok-names.ensures p program strict found named held in
    let tree : Tree = record {
      types = c.types.result;
      imports = c.as_slice-3.result;
      functions = c.as_slice-4.result;
      globals = c.as_slice-5.result;
      exports = c.as_slice-6.result;
      bodies = c.as_slice-7.result;
      segments = c.as_slice-8.result;
      infos = c.as_slice-9.result;
      symbols = c.as_slice-10.result;
      inits = c.as_slice-11.result;
      groups = c.as_slice-12.result;
    } in
    let is : IsTree p tree = record {
      types = c.types.ensures ∙ typed.types;
      imports = c.as_slice-3.ensures ∙ typed.imports;
      functions = c.as_slice-4.ensures ∙ typed.functions;
      globals = ap (map global_told) c.as_slice-5.ensures ∙ parts.globals;
      exports = c.as_slice-6.ensures ∙ named.exports;
      bodies = ap (map part_told) c.as_slice-7.ensures ∙ parts.bodies;
      segments = ap (map part_told) c.as_slice-8.ensures ∙ parts.segments;
      infos = ap (map info_told) c.as_slice-9.ensures ∙ names.infos;
      symbols = ap (map symbol_told) c.as_slice-10.ensures ∙ names.symbols;
      inits = c.as_slice-11.ensures ∙ named.inits;
      groups = ap (map group_told) c.as_slice-12.ensures ∙ names.groups;
    } in
    subst (λ r. IsJudged (relocatable_bytes r) c.in_ok-judged.judged) (tree_is p tree is) c.in_ok-judged.ensures
