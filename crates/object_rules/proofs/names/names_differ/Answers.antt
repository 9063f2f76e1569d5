use Rattle.std.proofs.Common.{ℕ, ◌+◌, ◌≡◌, ◌∙◌, List, Bor, ap, sym, drop, filter_map, get_or, Option, Some, None, option_copied, refl}
use Rattle.std.specs.List.{cons_option}
use Rattle.std.specs.Str.{bytes_eq}
use Rattle.std.specs.Cmp.Lexicographic.{nat_list_eq_equiv}
use Rattle.std.proofs.lemmas.List.{at_drop_more}
use Rattle.object_rules.specs.Symbols.{seen_name, names_differ}
use Rattle.object_rules.proofs.Seen.{differ_behind, none_seen, goes_on}
use Rattle.object_rules.proofs.names.names_differ.Goals as goal
use Rattle.object_rules.proofs.names.names_differ.Goals.{in-Some+in_ok-insert+else-not-branch, in_default}

pub loop-symbol-init : goal.loop-symbol-init
loop-symbol-init c =
    let names : List (List ℕ) = filter_map (seen_name c.args.imports.now) c.args.symbols.now in
    ap (λ keys. differ_behind bytes_eq (λ (key : Bor (List ℕ)). key.now) keys names) c.new-seen.ensures.empty ∙ none_seen bytes_eq (λ (key : Bor (List ℕ)). key.now) names

pub loop-symbol-preserved : goal.loop-symbol-preserved
loop-symbol-preserved c =
    let i = c.loop-symbol.symbol-index in
    let all = c.args.symbols.now in
    let here = get_or all i c.symbol-item.result in
    let is = c.symbol-item.is in
    let told = c.seen_name.ensures in
    let rest : List (List ℕ) = filter_map (seen_name c.args.imports.now) (drop (i + 1) all) in
    let step = sym (at_drop_more (λ ss. differ_behind bytes_eq (λ (key : Bor (List ℕ)). key.now) c.loop-symbol.seen.keys (filter_map (seen_name c.args.imports.now) ss)) all i c.symbol-item.result c.loop-symbol-test.true) in
    elim c.match-seen_name.branch [
      | in-Some+in_ok-insert+else-not-branch w ↦
          let named : seen_name c.args.imports.now here ≡ Some w.in-Some.name.now =
          ap (seen_name c.args.imports.now) (sym is) ∙ sym told ∙ ap option_copied w.in-Some.is in
          rw w.seen-is (goes_on bytes_eq nat_list_eq_equiv.symm (λ (key : Bor (List ℕ)). key.now) c.loop-symbol.seen.keys w.insert.new.self.keys w.in-Some.name w.in-Some.name.now rest (names_differ c.args.imports.now all)
          refl (sym w.if-not-branch.false ∙ w.in_ok-insert.ensures.added) w.in_ok-insert.ensures.keys
          (ap (λ (o : Option (List ℕ)). differ_behind bytes_eq (λ (key : Bor (List ℕ)). key.now) c.loop-symbol.seen.keys (cons_option o rest)) (sym named) ∙ step ∙ c.loop-symbol.invariant))
      | in_default w ↦
          let nameless : seen_name c.args.imports.now here ≡ None = ap (seen_name c.args.imports.now) (sym is) ∙ sym w.in_default.ensures in
          rw w.seen-is (ap (λ (o : Option (List ℕ)). differ_behind bytes_eq (λ (key : Bor (List ℕ)). key.now) c.loop-symbol.seen.keys (cons_option o rest)) (sym nameless) ∙ step ∙ c.loop-symbol.invariant)
    ]
