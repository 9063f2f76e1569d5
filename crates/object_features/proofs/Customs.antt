-- The section is a custom section, and no fault of it is one of the check of an output.
use Rattle.std.proofs.Common.{◌≡◌, ℕ, zero, suc, ◌^◌, ◌<◌, nat_lt, Bool, true, false, cond, List, [], ◌∷◌, ◌++◌, map, filter, flat_map, length, Option, Some, None, Result, Ok, Err, refl, sym, ap, subst, arith, length-append}
use Rattle.std.specs.Prelude.{if◌then◌else◌, IsUtf8, ◌==◌, ◌&&◌, not, codes, slice_index, is_some, option_map, option_and_then, slice_index_or}
use Rattle.std.specs.List.{list_all}
use Rattle.std.proofs.lemmas.Bool.{ltb-true, and_parts}
use Rattle.std.proofs.lemmas.Str.{IsUtf8-from_ascii}
use Rattle.leb_codec.specs.Shortest.{u32}
use Rattle.leb_codec.proofs.Computed.{u32_spells}
use Rattle.image_emit.specs.Bytes.{sized}
use Rattle.wl_base.specs.Choice.{first_some, unless, ◌>>=◌}
use Rattle.wl_base.specs.declared.fault.Fault.{Fault}
use Rattle.wl_base.specs.declared.fault.Fault.TheVariants as faults
use Rattle.wl_base.specs.declared.fault.FeatureRule.TheVariants as rules
use Rattle.wl_base.specs.declared.fault.InvalidAt.{InvalidAt}
use Rattle.wasm_grammar.specs.declared.fault.Stop.{Stop}
use Rattle.wasm_module.specs.Sections.{IsCustom, AreCustoms}
use Rattle.link_plan.specs.declared.plan.FeatureWords.{FeatureWords}
use Rattle.debug_rules.specs.Sections.{Custom, customs}
use Rattle.debug_rules.specs.Faults.{Input}
use Rattle.feature_section.specs.declared.feature.Feature.{Feature}
use Rattle.feature_section.specs.declared.conflict.Conflict.{Conflict}
use Rattle.feature_section.specs.Reading.{features_at}
use Rattle.feature_section.specs.Section.{features_payload, features_section}
use Rattle.feature_section.specs.Union.{is_used, is_among}
use Rattle.feature_section.specs.Conflict.{first_conflict}
use Rattle.object_features.specs.Said.{all_of, is_features, told_in, section_said, object_said, said}
use Rattle.object_features.specs.Check.{numbers_of, outside, first_outside, rule_of, said_at, conflict_fault, first_against, fault_among}
use Rattle.object_features.specs.Tail.{features_of, features_fault, kept_section, feature_tail}
use Rattle.object_features.specs.Laws.{FeaturesAreCustom}

-- ---- a custom section

low_at : (bytes : List ℕ) → list_all (λ b. nat_lt b 128) bytes ≡ true → (i : ℕ) → slice_index bytes i < 128
low_at [] e zero = omega arith
low_at [] e (suc i) = omega arith
low_at (x ∷ xs) e zero = ltb-true x 128 (and_parts (nat_lt x 128) (list_all (λ b. nat_lt b 128) xs) e).0
low_at (x ∷ xs) e (suc i) = low_at xs (and_parts (nat_lt x 128) (list_all (λ b. nat_lt b 128) xs) e).1 i

text : IsUtf8 (codes "target_features")
text = IsUtf8-from_ascii (codes "target_features") (low_at (codes "target_features") refl)

custom : (rest : List ℕ) → length (0 ∷ sized (sized (codes "target_features") ++ rest)) < 2 ^ 32 → IsCustom (0 ∷ sized (sized (codes "target_features") ++ rest))
custom rest short =
    let name : List ℕ = codes "target_features" in
    let payload : List ℕ = sized name ++ rest in
    let long = length-append (u32 (length payload)) payload in
    let few : length payload < 2 ^ 32 = omega (arith, short, long) in
    let few_name : length name < 2 ^ 32 = omega arith in
    (0 ∷ [], sized payload, refl, (u32 (length payload), payload, u32_spells (length payload) few, (name, sized name, rest, (text, (u32 (length name), name, u32_spells (length name) few_name, refl, refl)), refl), refl), refl)

none : List ℕ
none = []

no_customs : AreCustoms []
no_customs = (0, refl)

by_count : (b : Bool) (rest : List ℕ) → length (if b then none else 0 ∷ sized (sized (codes "target_features") ++ rest)) < 2 ^ 32 → AreCustoms (if b then none else 0 ∷ sized (sized (codes "target_features") ++ rest))
unfolding none
by_count true rest short = (0, refl)
by_count false rest short = (1, (0 ∷ sized (sized (codes "target_features") ++ rest), [], custom rest short, refl, append_none (0 ∷ sized (sized (codes "target_features") ++ rest))))
  where
    append_none : (ys : List ℕ) → ys ≡ ys ++ []
    append_none [] = refl
    append_none (y ∷ ys) = ap (λ zs. y ∷ zs) (append_none ys)

section_custom : (names : List (List ℕ)) → length (features_section names) < 2 ^ 32 → AreCustoms (features_section names)
unfolding features_section none
section_custom names short = by_count (length names == 0) (features_payload names) short

kept_custom : (b : Bool) (names : List (List ℕ)) → length (if b then features_section names else none) < 2 ^ 32 → AreCustoms (if b then features_section names else none)
unfolding none
kept_custom true names short = section_custom names short
kept_custom false names short = no_customs

ok_same : {A : Type 0} (a b : A) → (let r : Result A Fault = Ok a in r) ≡ Ok b → a ≡ b
ok_same a b e = cc

pub are_custom : FeaturesAreCustom
unfolding feature_tail none
are_custom None inputs section e short = subst AreCustoms (ok_same [] section e) no_customs
are_custom (Some w) inputs section e short = by (said inputs) e
  where
    judged : (lists : List (List Feature)) (o : Option Fault) → unless o (kept_section w (features_of w lists)) ≡ Ok section → AreCustoms section
    judged lists None e =
        let same : kept_section w (features_of w lists) ≡ section = ok_same (kept_section w (features_of w lists)) section e in
        subst AreCustoms same (kept_custom w.kept (features_of w lists) (subst (λ (bytes : List ℕ). length bytes < 2 ^ 32) (sym same) short))
    judged lists (Some f) e = absurd cc

    by : (r : Result (List (List Feature)) Fault) → (r >>= λ lists. unless (features_fault w inputs lists) (kept_section w (features_of w lists))) ≡ Ok section → AreCustoms section
    by (Ok lists) e = judged lists (features_fault w inputs lists) e
    by (Err f) e = absurd cc

-- ---- faults

abbrev IsOther : Fault → Type 0
IsOther f = (at : InvalidAt) → f ≡ faults.Invalid at → ⊥

abbrev AreOther : {A : Type 0} → Result A Fault → Type 0
AreOther (Ok a) = Unit {0}
AreOther (Err f) = IsOther f

abbrev IsOtherIf : Option Fault → Type 0
IsOtherIf None = Unit {0}
IsOtherIf (Some f) = IsOther f

other_by : {A B : Type 0} (r : Result A Fault) (next : A → Result B Fault) → AreOther r → ((a : A) → AreOther (next a)) → AreOther (r >>= next)
other_by (Ok a) next first others = others a
other_by (Err f) next first others = first

-- of reading

one_other : (input at : ℕ) (r : Result (List Feature) Stop) → AreOther (told_in input at r)
one_other input at (Ok features) = tt
one_other input at (Err stop) = λ at e. absurd cc

sections_other : (input : ℕ) (cs : List Custom) → AreOther (all_of (map (section_said input) cs))
sections_other input [] = tt
sections_other input (c ∷ cs) =
    other_by (section_said input c) (λ (fs : List Feature). all_of (map (section_said input) cs) >>= λ more. Ok (fs ∷ more)) (one_other input c.at (features_at (length c.content) c.content))
    (λ fs. other_by (all_of (map (section_said input) cs)) (λ (more : List (List Feature)). Ok (fs ∷ more)) (sections_other input cs) (λ more. tt))

object_other : (i : Input) → AreOther (object_said i)
object_other i =
    other_by (all_of (map (section_said i.input) (filter is_features (customs i.bytes)))) (λ (parts : List (List Feature)). Ok (flat_map (λ features. features) parts))
    (sections_other i.input (filter is_features (customs i.bytes))) (λ parts. tt)

objects_other : (inputs : List Input) → AreOther (all_of (map object_said inputs))
objects_other [] = tt
objects_other (i ∷ is) =
    other_by (object_said i) (λ (fs : List Feature). all_of (map object_said is) >>= λ more. Ok (fs ∷ more)) (object_other i)
    (λ fs. other_by (all_of (map object_said is)) (λ (more : List (List Feature)). Ok (fs ∷ more)) (objects_other is) (λ more. tt))

said_other : (inputs : List Input) → AreOther (said inputs)
unfolding said
said_other inputs = objects_other inputs

-- of the check

two_other : (a b : Option Fault) → IsOtherIf a → IsOtherIf b → IsOtherIf (first_some (a ∷ b ∷ []))
two_other None None first second = tt
two_other None (Some f) first second = second
two_other (Some f) b first second = first

outside_other : (names : List (List ℕ)) (input : ℕ) (features : List Feature) → IsOtherIf (outside names input features)
outside_other names input [] = tt
outside_other names input (f ∷ fs) = by (is_used f.mark && not (is_among names f.name)) (outside_other names input fs)
  where
    by : (b : Bool) → IsOtherIf (outside names input fs) → IsOtherIf (cond b (Some (faults.Feature f.name input 0 rules.NotAllowed)) (outside names input fs))
    by true others = λ at e. absurd cc
    by false others = others

first_other : (names : List (List ℕ)) (numbers : List ℕ) (objects : List (List Feature)) → IsOtherIf (first_outside names numbers objects)
first_other names [] objects = tt
first_other names (n ∷ ns) [] = tt
first_other names (n ∷ ns) (fs ∷ others) = two_other (outside names n fs) (first_outside names ns others) (outside_other names n fs) (first_other names ns others)

conflict_other : (numbers : List ℕ) (objects : List (List Feature)) (c : Conflict) → IsOtherIf (conflict_fault numbers objects c)
conflict_other numbers objects c = by (said_at objects c.against)
  where
    by : (o : Option Feature) → IsOtherIf (option_map (λ f. faults.Feature f.name (slice_index_or numbers c.object 0) (slice_index_or numbers c.against.object 0) (rule_of f.mark)) o)
    by None = tt
    by (Some f) = λ at e. absurd cc

against_other : (numbers : List ℕ) (objects : List (List Feature)) → IsOtherIf (first_against numbers objects)
against_other numbers objects = by (first_conflict objects)
  where
    by : (o : Option Conflict) → IsOtherIf (option_and_then (conflict_fault numbers objects) o)
    by None = tt
    by (Some c) = conflict_other numbers objects c

among_other : (names : List (List ℕ)) (only : Bool) (numbers : List ℕ) (objects : List (List Feature)) → IsOtherIf (fault_among names only numbers objects)
among_other names only numbers objects = two_other (cond only (first_outside names numbers objects) None) (first_against numbers objects) (by only) (against_other numbers objects)
  where
    by : (b : Bool) → IsOtherIf (cond b (first_outside names numbers objects) None)
    by true = first_other names numbers objects
    by false = tt

fault_other : (w : FeatureWords) (inputs : List Input) (lists : List (List Feature)) → IsOtherIf (features_fault w inputs lists)
fault_other w inputs lists = by w.checked
  where
    by : (b : Bool) → IsOtherIf (cond b (fault_among (features_of w lists) (is_some w.allowed) (numbers_of inputs) lists) None)
    by true = among_other (features_of w lists) (is_some w.allowed) (numbers_of inputs) lists
    by false = tt

unless_other : {A : Type 0} (o : Option Fault) (a : A) → IsOtherIf o → AreOther (unless o a)
unless_other None a other = tt
unless_other (Some f) a other = other

tail_other : (words : Option FeatureWords) (inputs : List Input) → AreOther (feature_tail words inputs)
unfolding feature_tail
tail_other None inputs = tt
tail_other (Some w) inputs =
    other_by (said inputs) (λ (lists : List (List Feature)). unless (features_fault w inputs lists) (kept_section w (features_of w lists))) (said_other inputs)
    (λ lists. unless_other (features_fault w inputs lists) (kept_section w (features_of w lists)) (fault_other w inputs lists))

-- No fault of it is one of the check of an output.
pub dont_judge : (words : Option FeatureWords) (inputs : List Input) (at : InvalidAt) → feature_tail words inputs ≡ Err (faults.Invalid at) → ⊥
dont_judge words inputs at e = by (feature_tail words inputs) (tail_other words inputs) e
  where
    by : (r : Result (List ℕ) Fault) → AreOther r → r ≡ Err (faults.Invalid at) → ⊥
    by (Ok section) other e = cc
    by (Err f) other e = other at (let same : f ≡ faults.Invalid at = cc in same)
