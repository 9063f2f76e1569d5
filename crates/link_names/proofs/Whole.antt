-- The names of a link from those of its parts.
use Rattle.std.proofs.Common.{◌≡◌, ℕ, ◌<◌, List, [], ◌∷◌, ◌++◌, length, map, refl, sym, ap, ◌∙◌, Option, Some, All, subst, arith}
use Rattle.std.specs.Prelude.{flat_map, bytes_eq, IsSome}
use Rattle.std.specs.List.{IsDistinct}
use Rattle.std.proofs.lemmas.List.{length-map}
use Rattle.std.proofs.lemmas.List.Concat.{flat_map_single}
use Rattle.std.proofs.lemmas.List.Elements.{All-weaker, All-map}
use Rattle.object_file.specs.wl_base.Names.{Names, number_of}
use Rattle.object_file.specs.declared.object.Object.{Object}
use Rattle.made_symbols.specs.declared.mode.Mode.{Mode}
use Rattle.made_symbols.specs.Made.{made}
use Rattle.std.specs.Prelude.{Result, Ok, Err, IsErr}
use Rattle.std.specs.Result.{IsErrAnd}
use Rattle.object_file.specs.wl_base.declared.name_table.NameFault.{NameFault}
use Rattle.object_file.specs.wl_base.declared.name_table.NameFault.TheVariants.{TooMany, OutOfMemory}
use Rattle.link_names.specs.Numbered as N
use Rattle.link_names.specs.Numbered.{Numbers, AreNumbers, Held, Short, all_names, different_names, entry_names, group_names, symbol_name, is_entry_symbol, number_seen, numbers_seen}
use Rattle.link_names.specs.Interning.{more, Gains, Takes, TellsAll, one, names_in, groups_in, made_name, made_number, symbols_numbered, groups_numbered}
use Rattle.link_names.proofs.More.{more_append, longer}
use Rattle.link_names.proofs.Held.{Numbered, all_held, all_stay, lists_held, lists_stay, more_distinct, none_distinct, filtered}

entries_are : (o : Object) → names_in o ≡ entry_names o
entries_are o = sym (filtered is_entry_symbol symbol_name o.symbols)

groups_are : (o : Object) → groups_in o ≡ group_names o
groups_are o = flat_map_single (λ g. g.name) o.groups

singles : (words : List (List ℕ)) → flat_map one words ≡ words
singles [] = refl
singles (w ∷ words) = ap (λ (ws : List (List ℕ)). w ∷ ws) (singles words)

held_is : (names : List (List ℕ)) (x : List ℕ) → Numbered names x → Held names x
held_is names x h = subst IsSome (sym h.1) cc

pub names_after : (mode : Mode) (words : List (List ℕ)) (objects : List Object) (t0 t1 t2 t3 t4 : Names) → t0.names ≡ []
    → Gains t0 t1 (flat_map made_name (made mode)) → Gains t1 t2 (flat_map names_in objects) → Gains t2 t3 (flat_map groups_in objects) → Gains t3 t4 (flat_map one words)
    → t4.names ≡ different_names mode words objects
names_after mode words objects t0 t1 t2 t3 t4 none a b c d =
    let made_are : flat_map made_name (made mode) ≡ map (λ m. m.name) (made mode) = flat_map_single (λ m. m.name) (made mode) in
    let at1 : t1.names ≡ more [] (map (λ m. m.name) (made mode)) = ap (λ (t : Names). t.names) a.0 ∙ (λ j. more (none j) (made_are j)) in
    let at2 : t2.names ≡ more [] (map (λ m. m.name) (made mode) ++ flat_map entry_names objects) =
    ap (λ (t : Names). t.names) b.0 ∙ (λ j. more (at1 j) (flat_map (λ o. entries_are o j) objects)) ∙ sym (more_append [] (map (λ m. m.name) (made mode)) (flat_map entry_names objects)) in
    let at3 : t3.names ≡ more [] (map (λ m. m.name) (made mode) ++ flat_map entry_names objects ++ flat_map group_names objects) =
    ap (λ (t : Names). t.names) c.0 ∙ (λ j. more (at2 j) (flat_map (λ o. groups_are o j) objects)) ∙ sym (more_append [] (map (λ m. m.name) (made mode) ++ flat_map entry_names objects) (flat_map group_names objects)) in
    ap (λ (t : Names). t.names) d.0 ∙ (λ j. more (at3 j) (singles words j)) ∙ sym (more_append [] (map (λ m. m.name) (made mode) ++ flat_map entry_names objects ++ flat_map group_names objects) words)

-- ---- the whole

all_is : (names xs : List (List ℕ)) → All (Numbered names) xs → All (Held names) xs
all_is names xs h = All-weaker (Numbered names) (Held names) (held_is names) xs h

lists_are : {A : Type 0} (f g : A → List (List ℕ)) (same : (a : A) → f a ≡ g a) (names : List (List ℕ)) (os : List A) → All (λ o. All (Numbered names) (f o)) os → All (λ o. All (Held names) (g o)) os
lists_are f g same names os h = All-weaker (λ o. All (Numbered names) (f o)) (λ o. All (Held names) (g o)) (λ o held. all_is names (g o) (subst (λ ys. All (Numbered names) ys) (same o) held)) os h

twice : {A B C : Type 0} (f : B → C) (g : A → B) (xs : List A) → map (λ x. f (g x)) xs ≡ map f (map g xs)
twice f g [] = refl
twice f g (x ∷ xs) = ap (λ ys. f (g x) ∷ ys) (twice f g xs)

seen_short : (numbers : List ℕ) → Short numbers → Short (numbers_seen numbers)
seen_short numbers short = omega (arith, length-map numbers number_seen, short)

module _ (mode : Mode) (words : List (List ℕ)) (objects : List Object) (t0 t1 t2 t3 t4 : Names) (made' : List ℕ) (symbols groups : List (List ℕ)) where
  pub numbers_are : t0.names ≡ [] → Gains t0 t1 (flat_map made_name (made mode)) → Gains t1 t2 (flat_map names_in objects) → Gains t2 t3 (flat_map groups_in objects) → Gains t3 t4 (flat_map one words)
      → TellsAll made_number (λ n. Some n) (made mode) t1.names made' → TellsAll symbols_numbered numbers_seen objects t2.names symbols → TellsAll groups_numbered (map (λ n. Some n)) objects t3.names groups
      → All (λ (ns : List ℕ). Short ns) symbols → All (λ (ns : List ℕ). Short ns) groups
      → AreNumbers mode objects (record { names = t4.names; made = made'; symbols = map numbers_seen symbols; groups = groups })
  numbers_are none a b c d made_told symbols_told groups_told short groups_short =
      let later3 = flat_map one words in
      let later2 = flat_map groups_in objects ++ later3 in
      let later1 = flat_map names_in objects ++ later2 in
      let from3 : t4.names ≡ more t3.names later3 = ap (λ (t : Names). t.names) d.0 in
      let from2 : t4.names ≡ more t2.names later2 = from3 ∙ ap (λ (t : Names). more t.names later3) c.0 ∙ sym (more_append t2.names (flat_map groups_in objects) later3) in
      let from1 : t4.names ≡ more t1.names later1 = from2 ∙ ap (λ (t : Names). more t.names later2) b.0 ∙ sym (more_append t1.names (flat_map names_in objects) later2) in
      let made1 : All (Numbered t1.names) (map (λ m. m.name) (made mode)) =
      subst (λ ys. All (Numbered t1.names) ys) (flat_map_single (λ m. m.name) (made mode))
      (subst (λ (t : Names). All (Numbered t.names) (flat_map made_name (made mode))) (sym a.0) (all_held t0.names (flat_map made_name (made mode)))) in
      let symbols2 : All (λ o. All (Numbered t2.names) (names_in o)) objects =
      subst (λ (t : Names). All (λ o. All (Numbered t.names) (names_in o)) objects) (sym b.0) (lists_held names_in t1.names objects) in
      let groups3 : All (λ o. All (Numbered t3.names) (groups_in o)) objects =
      subst (λ (t : Names). All (λ o. All (Numbered t.names) (groups_in o)) objects) (sym c.0) (lists_held groups_in t2.names objects) in
      record {
        differ = subst (IsDistinct bytes_eq) (sym (names_after mode words objects t0 t1 t2 t3 t4 none a b c d)) (more_distinct [] (all_names mode words objects) none_distinct);
        few = omega (arith, d.1.0, d.1.1);
        made_held = subst (λ ns. All (Held ns) (map (λ m. m.name) (made mode))) (sym from1) (all_is (more t1.names later1) (map (λ m. m.name) (made mode)) (all_stay t1.names later1 (map (λ m. m.name) (made mode)) made1));
        made = made_told later1 ∙ ap (λ ns. map (made_number ns) (made mode)) (sym from1);
        symbols_held = subst (λ ns. All (λ o. All (Held ns) (entry_names o)) objects) (sym from2) (lists_are names_in entry_names entries_are (more t2.names later2) objects (lists_stay names_in t2.names later2 objects symbols2));
        symbols = symbols_told later2 ∙ ap (λ ns. map (symbols_numbered ns) objects) (sym from2);
        short = All-map (λ (ns : List (Option ℕ)). Short ns) numbers_seen symbols (All-weaker (λ (ns : List ℕ). Short ns) (λ ns. Short (numbers_seen ns)) seen_short symbols short);
        groups_held = subst (λ ns. All (λ o. All (Held ns) (group_names o)) objects) (sym from3) (lists_are groups_in group_names groups_are (more t3.names later3) objects (lists_stay groups_in t3.names later3 objects groups3));
        groups = groups_told later3 ∙ ap (λ ns. map (groups_numbered ns) objects) (sym from3) ∙ (λ j. map (λ o. twice (number_of t4.names) (λ g. g.name) o.groups j) objects);
        groups_short = groups_short;
      }

-- ---- too many

different_is : (mode : Mode) (words : List (List ℕ)) (objects : List Object)
    → different_names mode words objects ≡ more (more (more (more [] (flat_map made_name (made mode))) (flat_map names_in objects)) (flat_map groups_in objects)) (flat_map one words)
different_is mode words objects =
    let a = map (λ m. m.name) (made mode) in
    let b = flat_map entry_names objects in
    let c = flat_map group_names objects in
    more_append [] (a ++ b ++ c) words ∙ ap (λ ns. more ns words) (more_append [] (a ++ b) c ∙ ap (λ ns. more ns c) (more_append [] a b))
    ∙ (λ j. more (more (more (more [] (sym (flat_map_single (λ m. m.name) (made mode)) j)) (flat_map (λ o. sym (entries_are o) j) objects)) (flat_map (λ o. sym (groups_are o) j) objects)) (sym (singles words) j))

module _ (mode : Mode) (words : List (List ℕ)) (objects : List Object) (t0 : Names) (none : t0.names ≡ []) where
  pub too_many_made : t0.limit < length (more t0.names (flat_map made_name (made mode))) → t0.limit < length (different_names mode words objects)
  too_many_made full =
      let a = more [] (flat_map made_name (made mode)) in
      let b = more a (flat_map names_in objects) in
      let c = more b (flat_map groups_in objects) in
      let full' = subst (λ ns. t0.limit < length (more ns (flat_map made_name (made mode)))) none full in
      subst (λ (ns : List (List ℕ)). t0.limit < length ns) (sym (different_is mode words objects))
      (omega (arith, full', longer a (flat_map names_in objects), longer b (flat_map groups_in objects), longer c (flat_map one words)))

  pub too_many_entries : (t1 : Names) → Gains t0 t1 (flat_map made_name (made mode)) → t1.limit < length (more t1.names (flat_map names_in objects)) → t0.limit < length (different_names mode words objects)
  too_many_entries t1 first full =
      let a = more [] (flat_map made_name (made mode)) in
      let b = more a (flat_map names_in objects) in
      let c = more b (flat_map groups_in objects) in
      let at : t1.names ≡ a = ap (λ (t : Names). t.names) first.0 ∙ ap (λ ns. more ns (flat_map made_name (made mode))) none in
      let full' = subst (λ ns. t1.limit < length (more ns (flat_map names_in objects))) at full in
      subst (λ (ns : List (List ℕ)). t0.limit < length ns) (sym (different_is mode words objects))
      (omega (arith, full', ap (λ (t : Names). t.limit) first.0, longer b (flat_map groups_in objects), longer c (flat_map one words)))

  pub too_many_groups : (t1 t2 : Names) → Gains t0 t1 (flat_map made_name (made mode)) → Gains t1 t2 (flat_map names_in objects) → t2.limit < length (more t2.names (flat_map groups_in objects)) → t0.limit < length (different_names mode words objects)
  too_many_groups t1 t2 first second full =
      let a = more [] (flat_map made_name (made mode)) in
      let b = more a (flat_map names_in objects) in
      let c = more b (flat_map groups_in objects) in
      let at1 : t1.names ≡ a = ap (λ (t : Names). t.names) first.0 ∙ ap (λ ns. more ns (flat_map made_name (made mode))) none in
      let at : t2.names ≡ b = ap (λ (t : Names). t.names) second.0 ∙ ap (λ ns. more ns (flat_map names_in objects)) at1 in
      let full' = subst (λ ns. t2.limit < length (more ns (flat_map groups_in objects))) at full in
      subst (λ (ns : List (List ℕ)). t0.limit < length ns) (sym (different_is mode words objects))
      (omega (arith, full', ap (λ (t : Names). t.limit) first.0, ap (λ (t : Names). t.limit) second.0, longer c (flat_map one words)))

  pub too_many_words : (t1 t2 t3 : Names) → Gains t0 t1 (flat_map made_name (made mode)) → Gains t1 t2 (flat_map names_in objects) → Gains t2 t3 (flat_map groups_in objects) → t3.limit < length (more t3.names (flat_map one words)) → t0.limit < length (different_names mode words objects)
  too_many_words t1 t2 t3 first second third full =
      let a = more [] (flat_map made_name (made mode)) in
      let b = more a (flat_map names_in objects) in
      let c = more b (flat_map groups_in objects) in
      let at1 : t1.names ≡ a = ap (λ (t : Names). t.names) first.0 ∙ ap (λ ns. more ns (flat_map made_name (made mode))) none in
      let at2 : t2.names ≡ b = ap (λ (t : Names). t.names) second.0 ∙ ap (λ ns. more ns (flat_map names_in objects)) at1 in
      let at : t3.names ≡ c = ap (λ (t : Names). t.names) third.0 ∙ ap (λ ns. more ns (flat_map groups_in objects)) at2 in
      let full' = subst (λ ns. t3.limit < length (more ns (flat_map one words))) at full in
      subst (λ (ns : List (List ℕ)). t0.limit < length ns) (sym (different_is mode words objects))
      (omega (arith, full', ap (λ (t : Names). t.limit) first.0, ap (λ (t : Names). t.limit) second.0, ap (λ (t : Names). t.limit) third.0))

-- ---- by what a call answered

pub fails : {B : Type 0} (P : List (List ℕ) → B → Type 0) (mode : Mode) (words : List (List ℕ)) (objects : List Object) (limit : ℕ) (t0 t last : Names) (ys : List (List ℕ)) (r : Result B NameFault) (s : Result N.Numbered NameFault) (e : NameFault)
    → t0.limit ≡ limit → (t.limit < length (more t.names ys) → t0.limit < length (different_names mode words objects)) → Takes P r t last ys → r ≡ Err e → IsErr s × IsErrAnd s (λ b. b ≡ e) → Numbers s limit mode words objects
fails P mode words objects limit t0 t last ys (Ok a) s e limited full told is is' = absurd cc
fails P mode words objects limit t0 t last ys (Err d) (Ok n) e limited full told is is' = let no = is'.0 in absurd cc
fails P mode words objects limit t0 t last ys (Err TooMany) (Err TooMany) e limited full told is is' = subst (λ n. n < length (different_names mode words objects)) limited (full told)
fails P mode words objects limit t0 t last ys (Err OutOfMemory) (Err TooMany) e limited full told is is' = let same = is'.1 in absurd cc
fails P mode words objects limit t0 t last ys (Err d) (Err OutOfMemory) e limited full told is is' = tt
