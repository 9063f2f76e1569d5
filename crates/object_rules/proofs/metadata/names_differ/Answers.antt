use Rattle.std.proofs.Common.{ℕ, ◌+◌, ◌∙◌, List, Bor, ap, sym, drop, map, get_or}
use Rattle.std.specs.Str.{bytes_eq}
use Rattle.std.specs.Cmp.Lexicographic.{nat_list_eq_equiv}
use Rattle.std.proofs.lemmas.List.{at_drop_more}
use Rattle.object_parts.specs.linking_section.declared.group.Group.{Group}
use Rattle.object_rules.specs.Differ.{all_differ}
use Rattle.object_rules.proofs.Seen.{differ_behind, none_seen, goes_on}
use Rattle.object_rules.proofs.metadata.names_differ.Goals as goal

pub loop-group-init : goal.loop-group-init
loop-group-init c =
    let names : List (List ℕ) = map (λ (g : Group). g.name) c.args.groups.now in
    ap (λ keys. differ_behind bytes_eq (λ (key : Bor (List ℕ)). key.now) keys names) c.new-seen.ensures.empty ∙ none_seen bytes_eq (λ (key : Bor (List ℕ)). key.now) names

pub loop-group-preserved : goal.loop-group-preserved
loop-group-preserved c =
    let i = c.loop-group.group-index in
    let all = c.args.groups.now in
    let here = get_or all i c.group-item.result in
    let names : List Group → List (List ℕ) = map (λ (g : Group). g.name) in
    let step = sym (at_drop_more (λ gs. differ_behind bytes_eq (λ (key : Bor (List ℕ)). key.now) c.loop-group.seen.keys (names gs)) all i c.group-item.result c.loop-group-test.true) in
    goes_on bytes_eq nat_list_eq_equiv.symm (λ (key : Bor (List ℕ)). key.now) c.loop-group.seen.keys c.insert.new.self.keys c.as_slice.result here.name (names (drop (i + 1) all)) (all_differ bytes_eq (names all))
    (c.as_slice.ensures ∙ ap (λ (g : Group). g.name) c.group-item.is) (sym c.if-not-branch.false ∙ c.in_ok-insert.ensures.added) c.in_ok-insert.ensures.keys (step ∙ c.loop-group.invariant)
