-- A global whose import is none of those that were given, or one of them.
use Rattle.std.proofs.Common.{◌≡◌, Bool, true, false, not, ◌||◌, List, [], ◌∷◌, ◌++◌, cond, map, None, Some, refl, sym, ap, ◌∙◌, arith}
use Rattle.std.specs.List.{list_any}
use Rattle.indexmap.specs.IndexSet.{insert_key}
use Rattle.run_rules.specs.declared.session.GivenGlobal.{GivenGlobal}
use Rattle.run_script.specs.declared.givens.Pair.{Pair}
use Rattle.run_script.specs.declared.script.Script.{Script}
use Rattle.run_script.specs.declared.item.Item.TheVariants.{First}
use Rattle.run_script.specs.Scripts.{Went, is_again, with_item}
use Rattle.run_script.specs.Givens.{pair_of, same_pair, with_given}

again_is : (g : GivenGlobal) (gs : List GivenGlobal) → list_any (same_pair (pair_of g)) (map pair_of gs) ≡ list_any (is_again g) gs
again_is g [] = refl
again_is g (h ∷ gs) = ap (λ b. is_again g h || b) (again_is g gs)

pairs_with : (gs : List GivenGlobal) (g : GivenGlobal) → map pair_of gs ++ pair_of g ∷ [] ≡ map pair_of (gs ++ g ∷ [])
pairs_with [] g = refl
pairs_with (h ∷ gs) g = ap (λ ps. pair_of h ∷ ps) (pairs_with gs g)

not_true : (b : Bool) → true ≡ not b → b ≡ false
not_true true e = e
not_true false e = refl

not_false : (b : Bool) → false ≡ not b → b ≡ true
not_false true e = refl
not_false false e = e

module _ (gs : List GivenGlobal) (g : GivenGlobal) (keys after : List Pair) (seen : keys ≡ map pair_of gs) (inserted : after ≡ insert_key same_pair keys (pair_of g)) where
  known : (b : Bool) → list_any (same_pair (pair_of g)) keys ≡ b → list_any (is_again g) gs ≡ b
  known b e = sym (again_is g gs) ∙ ap (list_any (same_pair (pair_of g))) (sym seen) ∙ e

  keys_after : (b : Bool) → list_any (same_pair (pair_of g)) keys ≡ b → after ≡ cond b (map pair_of gs) (map pair_of (gs ++ g ∷ []))
  keys_after b e =
      inserted ∙ ap (λ c. cond c keys (keys ++ pair_of g ∷ [])) e ∙ ap (λ ks. cond b ks (ks ++ pair_of g ∷ [])) seen ∙ ap (cond b (map pair_of gs)) (pairs_with gs g)

  -- it is new
  pub is_new : true ≡ not (list_any (same_pair (pair_of g)) keys) → with_given gs g ≡ Some (gs ++ g ∷ [])
  is_new added = ap (λ b. cond b None (Some (gs ++ g ∷ []))) (known false (not_true (list_any (same_pair (pair_of g)) keys) added))

  pub pairs_new : true ≡ not (list_any (same_pair (pair_of g)) keys) → after ≡ map pair_of (gs ++ g ∷ [])
  pairs_new added = keys_after false (not_true (list_any (same_pair (pair_of g)) keys) added)

  -- it was given
  pub is_known : false ≡ not (list_any (same_pair (pair_of g)) keys) → with_given gs g ≡ None
  is_known added = ap (λ b. cond b None (Some (gs ++ g ∷ []))) (known true (not_false (list_any (same_pair (pair_of g)) keys) added))

  pub pairs_known : false ≡ not (list_any (same_pair (pair_of g)) keys) → after ≡ map pair_of gs
  pairs_known added = keys_after true (not_false (list_any (same_pair (pair_of g)) keys) added)

-- what giving a global makes of a script
pub given_on : (s : Script) (g : GivenGlobal) (went : Bool) (now : List GivenGlobal) → Went (with_given s.session.globals g) went now → Went (with_item s (First g)) went (record s { session = record s.session { globals = now } })
given_on s g went now h = by (list_any (is_again g) s.session.globals) went h
  where
    by : (b went : Bool) → Went (cond b None (Some (s.session.globals ++ g ∷ []))) went now → Went (cond b None (Some (record s { session = record s.session { globals = s.session.globals ++ g ∷ [] } }))) went (record s { session = record s.session { globals = now } })
    by true true e = absurd (grind arith)
    by true false e = refl
    by false true e = let same : s.session.globals ++ g ∷ [] ≡ now = grind arith in ap (λ gs. Some (record s { session = record s.session { globals = gs } })) same
    by false false e = absurd (grind arith)

pub ruleset giving = (is_new, pairs_new, is_known, pairs_known, given_on)
