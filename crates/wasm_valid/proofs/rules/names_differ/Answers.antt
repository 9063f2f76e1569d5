use Rattle.std.proofs.Common.{ℕ, ◌+◌, ◌∙◌, ap, sym, map, drop, get_or, List, Bor}
use Rattle.std.specs.Str.{bytes_eq}
use Rattle.std.specs.Cmp.Lexicographic.{nat_list_eq_equiv}
use Rattle.std.proofs.lemmas.List.{at_drop_more}
use Rattle.wasm_module.specs.declared.parts.Export.{Export}
use Rattle.wasm_valid.specs.Rules.{all_differ}
use Rattle.wasm_valid.proofs.Seen.{differ_behind, none_seen, goes_on}
use Rattle.wasm_valid.proofs.rules.names_differ.Goals as goal

abbrev key_bytes : Bor (List ℕ) → List ℕ
key_bytes key = key.now

pub loop-export-init : goal.loop-export-init
loop-export-init c =
    let names : List (List ℕ) = map (λ (e : Export). e.name) c.args.exports.now in
    ap (λ keys. differ_behind bytes_eq key_bytes keys names) c.new-seen.ensures.empty ∙ none_seen bytes_eq key_bytes names

pub loop-export-preserved : goal.loop-export-preserved
loop-export-preserved c =
    let i = c.loop-export.export-index in
    let all = c.args.exports.now in
    let here = get_or all i c.export-item.result in
    let rest : List (List ℕ) = map (λ (e : Export). e.name) (drop (i + 1) all) in
    let is = c.as_slice.ensures ∙ ap (λ (e : Export). e.name) c.export-item.is in
    let step = sym (at_drop_more (λ es. differ_behind bytes_eq key_bytes c.loop-export.seen.keys (map (λ (e : Export). e.name) es)) all i c.export-item.result c.loop-export-test.true) in
    goes_on bytes_eq nat_list_eq_equiv.symm key_bytes c.loop-export.seen.keys c.insert.new.self.keys c.as_slice.result here.name rest
    (all_differ bytes_eq (map (λ (e : Export). e.name) all)) is (sym c.if-not-branch.false ∙ c.in_ok-insert.ensures.added) c.in_ok-insert.ensures.keys
    (step ∙ c.loop-export.invariant)
