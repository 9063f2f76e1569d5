-- What objects say, added one section after another.
use Rattle.std.proofs.Common.{◌≡◌, ℕ, Bool, true, false, cond, List, [], ◌∷◌, ◌++◌, map, filter, flat_map, length, Some, Result, Ok, Err, refl, sym, ap, subst, ◌∙◌, append_assoc}
use Rattle.std.specs.Prelude.{◌&&◌}
use Rattle.std.specs.List.{list_all}
use Rattle.wl_base.specs.Choice.{◌>>=◌}
use Rattle.wl_base.specs.declared.fault.Fault.{Fault}
use Rattle.wasm_grammar.specs.declared.fault.Stop.{Stop}
use Rattle.debug_rules.specs.Sections.{Custom, customs}
use Rattle.debug_rules.specs.Faults.{Input}
use Rattle.feature_section.specs.declared.feature.Feature.{Feature}
use Rattle.feature_section.specs.Reading.{features_at}
use Rattle.feature_section.specs.Union.{is_used, with_name, with_features, with_objects, union_of}
use Rattle.debug_out.specs.declared.error.DebugError.{DebugError}
use Rattle.debug_out.specs.Answers.{Answers}
use Rattle.object_features.specs.Said.{all_of, is_features, told_in, section_said, object_said, said}
use Rattle.object_features.specs.Onto.{is_plain, are_plain, Noted, none_noted, noted_with, with_section, with_sections, noted_onto, noted_of, noted_in, behind, said_onto, Has}

-- ---- of one object

module _ {S : Type 0} (step : S → List Feature → S) (nothing : (s : S) → step s [] ≡ s) (append : (s : S) (fs gs : List Feature) → step s (fs ++ gs) ≡ step (step s fs) gs) where
  abbrev Joined : S → Result (List (List Feature)) Fault → Result S Fault
  Joined s parts = parts >>= λ ps. Ok (step s (flat_map (λ fs. fs) ps))

  one_section : (s : S) (fs : List Feature) (others : Result (List (List Feature)) Fault)
      → Joined (step s fs) others ≡ Joined s (others >>= λ ps. Ok (fs ∷ ps))
  one_section s fs (Err e) = refl
  one_section s fs (Ok ps) = ap Ok (sym (append s fs (flat_map (λ gs. gs) ps)))

  sections_said : (input : ℕ) (s : S) (cs : List Custom) → with_sections step input s cs ≡ Joined s (all_of (map (section_said input) (filter is_features cs)))
  sections_said input s [] = ap Ok (sym (nothing s))
  sections_said input s (c ∷ cs) = by (is_features c) (λ more. sections_said input more cs)
    where
      by : (b : Bool) → ((more : S) → with_sections step input more cs ≡ Joined more (all_of (map (section_said input) (filter is_features cs))))
          → (cond b (section_said input c >>= λ features. Ok (step s features)) (Ok s) >>= λ more. with_sections step input more cs) ≡ Joined s (all_of (map (section_said input) (cond b (c ∷ filter is_features cs) (filter is_features cs))))
      by true others = at (section_said input c)
        where
          at : (first : Result (List Feature) Fault)
              → ((first >>= λ fs. Ok (step s fs)) >>= λ more. with_sections step input more cs)
              ≡ Joined s (first >>= λ fs. all_of (map (section_said input) (filter is_features cs)) >>= λ ps. Ok (fs ∷ ps))
          at (Err e) = refl
          at (Ok fs) = others (step s fs) ∙ one_section s fs (all_of (map (section_said input) (filter is_features cs)))
      by false others = others s

  object_of : (i : Input) (s : S) → with_sections step i.input s (customs i.bytes) ≡ (object_said i >>= λ features. Ok (step s features))
  object_of i s = sections_said i.input s (customs i.bytes) ∙ by (all_of (map (section_said i.input) (filter is_features (customs i.bytes))))
    where
      by : (parts : Result (List (List Feature)) Fault)
          → Joined s parts ≡ ((parts >>= λ ps. Ok (flat_map (λ fs. fs) ps)) >>= λ features. Ok (step s features))
      by (Ok ps) = refl
      by (Err e) = refl

-- ---- what is noted

with_nothing : (n : Noted) → noted_with n [] ≡ n
with_nothing n = by n.plain
  where
    by : (b : Bool) → (let m : Noted = record { names = n.names; plain = b && true } in m) ≡ record { names = n.names; plain = b }
    by true = refl
    by false = refl

names_append : (names : List (List ℕ)) (fs gs : List Feature) → with_features names (fs ++ gs) ≡ with_features (with_features names fs) gs
names_append names [] gs = refl
names_append names (f ∷ fs) gs = names_append (cond (is_used f.mark) (with_name names f.name) names) fs gs

plain_append : (b : Bool) (fs gs : List Feature) → (b && are_plain (fs ++ gs)) ≡ ((b && are_plain fs) && are_plain gs)
plain_append false fs gs = refl
plain_append true [] gs = refl
plain_append true (f ∷ fs) gs = by (is_plain f.mark) (plain_append true fs gs)
  where
    by : (b : Bool) → are_plain (fs ++ gs) ≡ (are_plain fs && are_plain gs) → (b && are_plain (fs ++ gs)) ≡ ((b && are_plain fs) && are_plain gs)
    by true others = others
    by false others = refl

noted_append : (n : Noted) (fs gs : List Feature) → noted_with n (fs ++ gs) ≡ noted_with (noted_with n fs) gs
noted_append n fs gs = ap (λ names. (let m : Noted = record { names = names; plain = n.plain && are_plain (fs ++ gs) } in m)) (names_append n.names fs gs)
    ∙ ap (λ b. (let m : Noted = record { names = with_features (with_features n.names fs) gs; plain = b } in m)) (plain_append n.plain fs gs)

-- ---- of all objects

abbrev noted_all : Noted → List (List Feature) → Noted
noted_all n objects = record { names = with_objects n.names objects; plain = n.plain && list_all are_plain objects }

abbrev United : Noted → Result (List (List Feature)) Fault → Result Noted Fault
United n objects = objects >>= λ os. Ok (noted_all n os)

and_assoc : (a b c : Bool) → ((a && b) && c) ≡ (a && (b && c))
and_assoc true b c = refl
and_assoc false b c = refl

and_true : (a : Bool) → (a && true) ≡ a
and_true true = refl
and_true false = refl

noted_more : (n : Noted) (fs : List Feature) (os : List (List Feature)) → noted_all (noted_with n fs) os ≡ noted_all n (fs ∷ os)
noted_more n fs os = ap (λ b. (let m : Noted = record { names = with_objects (with_features n.names fs) os; plain = b } in m)) (and_assoc n.plain (are_plain fs) (list_all are_plain os))

inputs_said : (inputs : List Input) (n : Noted) → noted_onto n inputs ≡ United n (all_of (map object_said inputs))
inputs_said [] n = ap (λ b. (let r : Result Noted Fault = Ok (record { names = n.names; plain = b }) in r)) (sym (and_true n.plain))
inputs_said (i ∷ is) n = ap (λ (r : Result Noted Fault). r >>= λ more. noted_onto more is) (object_of noted_with with_nothing noted_append i n) ∙ at (object_said i) (λ more. inputs_said is more)
  where
    onto : (fs : List Feature) (os : Result (List (List Feature)) Fault) → United (noted_with n fs) os ≡ United n (os >>= λ xs. Ok (fs ∷ xs))
    onto fs (Ok os) = ap Ok (noted_more n fs os)
    onto fs (Err e) = refl

    at : (first : Result (List Feature) Fault) → ((more : Noted) → noted_onto more is ≡ United more (all_of (map object_said is)))
        → ((first >>= λ fs. Ok (noted_with n fs)) >>= λ more. noted_onto more is) ≡ United n (first >>= λ fs. all_of (map object_said is) >>= λ os. Ok (fs ∷ os))
    at (Err e) others = refl
    at (Ok fs) others = others (noted_with n fs) ∙ onto fs (all_of (map object_said is))

all_said : (inputs : List Input) → noted_onto none_noted inputs ≡ noted_in inputs
unfolding said union_of
all_said inputs = inputs_said inputs none_noted

pub as_noted : (result : Result Noted DebugError) (inputs : List Input) → Answers result (noted_onto none_noted inputs) → Answers result (noted_in inputs)
as_noted result inputs told = subst (λ (r : Result Noted Fault). Answers result r) (all_said inputs) told

-- ---- lists

behind_nothing : (fs : List Feature) → behind fs [] ≡ fs
behind_nothing [] = refl
behind_nothing (f ∷ fs) = ap (λ xs. f ∷ xs) (behind_nothing fs)

behind_append : (front fs gs : List Feature) → behind front (fs ++ gs) ≡ behind (behind front fs) gs
behind_append front fs gs = sym (append_assoc front fs gs)

abbrev Listed : List (List Feature) → Result (List (List Feature)) Fault → Result (List (List Feature)) Fault
Listed front objects = objects >>= λ os. Ok (front ++ os)

lists_said : (inputs : List Input) (front : List (List Feature)) → said_onto front inputs ≡ Listed front (all_of (map object_said inputs))
lists_said [] front = ap Ok (sym (append_nothing front))
  where
    append_nothing : (xs : List (List Feature)) → xs ++ [] ≡ xs
    append_nothing [] = refl
    append_nothing (x ∷ xs) = ap (λ ys. x ∷ ys) (append_nothing xs)
lists_said (i ∷ is) front = ap (λ (r : Result (List Feature) Fault). r >>= λ features. said_onto (front ++ features ∷ []) is) (object_of behind behind_nothing behind_append i []) ∙ at (object_said i) (λ more. lists_said is more)
  where
    onto : (fs : List Feature) (os : Result (List (List Feature)) Fault) → Listed (front ++ fs ∷ []) os ≡ Listed front (os >>= λ xs. Ok (fs ∷ xs))
    onto fs (Ok os) = ap Ok (append_assoc front (fs ∷ []) os)
    onto fs (Err e) = refl

    at : (first : Result (List Feature) Fault) → ((more : List (List Feature)) → said_onto more is ≡ Listed more (all_of (map object_said is)))
        → ((first >>= λ fs. Ok (behind [] fs)) >>= λ features. said_onto (front ++ features ∷ []) is) ≡ Listed front (first >>= λ fs. all_of (map object_said is) >>= λ os. Ok (fs ∷ os))
    at (Err e) others = refl
    at (Ok fs) others = others (front ++ fs ∷ []) ∙ onto fs (all_of (map object_said is))

all_lists : (inputs : List Input) → said_onto [] inputs ≡ said inputs
unfolding said
all_lists inputs = lists_said inputs [] ∙ by (all_of (map object_said inputs))
  where
    by : (r : Result (List (List Feature)) Fault) → Listed [] r ≡ r
    by (Ok os) = refl
    by (Err e) = refl

pub as_said : (result : Result (List (List Feature)) DebugError) (inputs : List Input) → Answers result (said_onto [] inputs) → Answers result (said inputs)
as_said result inputs told = subst (λ (r : Result (List (List Feature)) Fault). Answers result r) (all_lists inputs) told

-- ---- twice the same

noted_again : (n : Noted) (features : List Feature) → ((names : List (List ℕ)) (fs : List Feature) → with_features (with_features names fs) fs ≡ with_features names fs)
    → noted_with (noted_with n features) features ≡ noted_with n features
noted_again n features twice =
    ap (λ names. (let m : Noted = record { names = names; plain = (n.plain && are_plain features) && are_plain features } in m)) (twice n.names features)
    ∙ ap (λ b. (let m : Noted = record { names = with_features n.names features; plain = b } in m)) (by n.plain (are_plain features))
  where
    by : (a b : Bool) → ((a && b) && b) ≡ (a && b)
    by true true = refl
    by true false = refl
    by false b = refl

told_read : (input at : ℕ) (r : Result (List Feature) Stop) (features : List Feature) → told_in input at r ≡ Ok features → r ≡ Ok features
told_read input at (Ok fs) features e = ap Ok (same fs features e)
  where
    same : (a b : List Feature) → (let r : Result (List Feature) Fault = Ok a in r) ≡ Ok b → a ≡ b
    same a b e = cc
told_read input at (Err stop) features e = absurd cc

-- all that a section says is noted
pub has_now : (n now : Noted) (input : ℕ) (c : Custom) (features : List Feature) → ((names : List (List ℕ)) (fs : List Feature) → with_features (with_features names fs) fs ≡ with_features names fs)
    → section_said input c ≡ Ok features → now ≡ noted_with n features → Has now (Some c.content)
has_now n now input c features twice said is =
    let same : noted_with now features ≡ now = ap (λ (m : Noted). noted_with m features) is ∙ (noted_again n features twice ∙ sym is) in
    (features, told_read input c.at (features_at (length c.content) c.content) features said, same)
