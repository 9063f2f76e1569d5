-- The groups that objects win, with their members, are those of the definition.
use Rattle.std.proofs.Common.{◌≡◌, ℕ, zero, suc, ◌+◌, ◌-◌, ◌<◌, ◌≤◌, ◌==◌, Bool, true, false, ◌&&◌, ◌||◌, cond, List, [], ◌∷◌, ◌++◌, map, filter, filter_map, flat_map, find, fold, length, replicate, get_or, slice_get, Option, Some, None, option_map, option_and_then, refl, sym, ap, subst, ◌∙◌, arith, append_assoc, append-nil, set, length-set, get_or-set_same, get_or-set_other}
use Rattle.std.specs.Prelude.{if◌then◌else◌, bytes_eq}
use Rattle.std.specs.Option.{option_or}
use Rattle.std.specs.List.{list_any, cons_option, IsDistinct}
use Rattle.std.proofs.lemmas.Bool.Decides.{nat_tests}
use Rattle.std.proofs.lemmas.List.{length-append, map-append, length-replicate, get_or-replicate}
use Rattle.std.proofs.lemmas.List.Folds.{find-append}
use Rattle.std.proofs.lemmas.Option.{slice_get-map, slice_get_within, same_Some, none-some, get_or_from_slice_get}
use Rattle.partial_tree.specs.link_program.wl_base.Choice.{given}
use Rattle.partial_tree.specs.link_program.wl_base.Names.{number_of}
use Rattle.partial_tree.specs.link_program.linking_section.declared.group.Member.{Member}
use Rattle.partial_tree.specs.link_program.linking_section.declared.group.Group.{Group}
use Rattle.partial_tree.specs.link_program.linking_section.declared.symbol.SymbolKind.TheVariants.{Function as FunctionKind}
use Rattle.partial_tree.specs.link_program.object_file.declared.object.Object.{Object}
use Rattle.partial_tree.specs.link_program.object_file.Spaces.{function_imports}
use Rattle.partial_tree.specs.link_program.made_symbols.declared.mode.Mode.TheVariants.{Plain}
use Rattle.partial_tree.specs.link_program.link_names.Numbered.{group_names}
use Rattle.partial_tree.specs.link_program.name_rules.Entries.{has_group, group_winner, is_input}
use Rattle.partial_tree.specs.link_program.name_entries.View.{is_number}
use Rattle.partial_tree.specs.link_program.link_rules.Program.{Program, Part, chunk_at}
use Rattle.partial_tree.specs.link_program.declared.program.Program.{Program as Data}
use Rattle.partial_tree.specs.link_program.Program.{IsProgramOf}
use Rattle.partial_tree.proofs.link_program_lemmas.name_entries_lemmas.Numbers.{number_is, name_at}
use Rattle.partial_tree.specs.partial_rules.Partial as partial
use Rattle.partial_tree.specs.partial_rules.Partial.{relocatable}
use Rattle.partial_tree.specs.partial_parts.Kept.{place_in, AreKept}
use Rattle.partial_tree.proofs.partial_parts_lemmas.Parts.{place_is_told}
use Rattle.partial_items.specs.declared.groups.GroupAt.{GroupAt}
use Rattle.partial_items.specs.declared.groups.Owner.{Owner}
use Rattle.partial_items.specs.Groups.{offered, offered_from, first_inputs, Places, member_with, members_of, Won, none_won, with_group, with_offer, with_groups, owner_of, with_objects, all_won, group_there, group_with, rows_from}

-- ---- who wins

-- What an input offers for the number of a name.
record Offer : Type 0 where
  input : ℕ
  number : ℕ

abbrev offer_of : ℕ → ℕ → Offer
offer_of input n = record { input = input; number = n }

abbrev number : Offer → Option ℕ
number f = Some f.number

abbrev passes : ℕ → Offer → Bool
passes i f = is_number i (number f) && true

abbrev noted : List (Option ℕ) → Offer → List (Option ℕ)
noted column f = offered f.input column f.number

-- what stands at a number, where an offer more is noted
one_noted : (column : List (Option ℕ)) (f : Offer) (i : ℕ) → i < length column → get_or (noted column f) i None ≡ (if f.number == i then option_or (get_or column i None) (Some f.input) else get_or column i None)
one_noted column f i lt = by (f.number == i) refl
  where
    by : (b : Bool) → (f.number == i) ≡ b → get_or (set column f.number (option_or (get_or column f.number None) (Some f.input))) i None ≡ (if b then option_or (get_or column i None) (Some f.input) else get_or column i None)
    by true is =
        let same : f.number ≡ i = grind (arith, nat_tests) in
        ap (λ k. get_or (set column k (option_or (get_or column k None) (Some f.input))) i None) same ∙ get_or-set_same column i (option_or (get_or column i None) (Some f.input)) None lt
    by false is =
        let apart : i ≡ f.number → ⊥ = λ e. let back : f.number ≡ i = sym e in grind (arith, nat_tests) in
        get_or-set_other column f.number i (option_or (get_or column f.number None) (Some f.input)) None apart

or_none : (o : Option ℕ) → o ≡ option_or o None
or_none None = refl
or_none (Some a) = refl

one_first : (c : Option ℕ) (f : Offer) (b : Bool) (r : Option Offer) → option_or (if b then option_or c (Some f.input) else c) (option_map (λ (x : Offer). x.input) r)
    ≡ option_or c (option_map (λ (x : Offer). x.input) (cond (b && true) (Some f) r))
one_first (Some x) f true r = refl
one_first (Some x) f false r = refl
one_first None f true r = refl
one_first None f false r = refl

firsts : (column : List (Option ℕ)) (fs : List Offer) (i : ℕ) → i < length column
    → get_or (fold noted column fs) i None ≡ option_or (get_or column i None) (option_map (λ (x : Offer). x.input) (find (passes i) fs))
firsts column [] i lt = or_none (get_or column i None)
firsts column (f ∷ fs) i lt =
    let within : i < length (noted column f) = subst (λ n. i < n) (sym (length-set column f.number (option_or (get_or column f.number None) (Some f.input)))) lt in
    firsts (noted column f) fs i within
    ∙ (ap (λ o. option_or o (option_map (λ (x : Offer). x.input) (find (passes i) fs))) (one_noted column f i lt)
    ∙ one_first (get_or column i None) f (f.number == i) (find (passes i) fs))

firsts_of : (n : ℕ) (fs : List Offer) (i : ℕ) → i < n → get_or (fold noted (replicate n None) fs) i None ≡ option_map (λ (x : Offer). x.input) (find (passes i) fs)
firsts_of n fs i lt =
    let within : i < length (replicate {A = Option ℕ} n None) = subst (λ m. i < m) (sym (length-replicate {A = Option ℕ} n None)) lt in
    firsts (replicate n None) fs i within
    ∙ ap (λ o. option_or o (option_map (λ (x : Offer). x.input) (find (passes i) fs))) (get_or-replicate n i None None lt)

row_folds : (input : ℕ) (column : List (Option ℕ)) (ns : List ℕ) → fold (offered input) column ns ≡ fold noted column (map (offer_of input) ns)
row_folds input column [] = refl
row_folds input column (n ∷ ns) = row_folds input (offered input column n) ns

fold_append : {A C : Type 0} (g : C → A → C) (c : C) (xs ys : List A) → fold g c (xs ++ ys) ≡ fold g (fold g c xs) ys
fold_append g c [] ys = refl
fold_append g c (x ∷ xs) ys = fold_append g (g c x) xs ys

module _ (rows : List (List ℕ)) where
  abbrev offers : ℕ → List Object → List Offer
  offers k [] = []
  offers k (o ∷ os) = map (offer_of o.input) (get_or rows k []) ++ offers (k + 1) os

  all_fold : (k : ℕ) (column : List (Option ℕ)) (os : List Object) → offered_from rows k column os ≡ fold noted column (offers k os)
  all_fold k column [] = refl
  all_fold k column (o ∷ os) =
      all_fold (k + 1) (fold (offered o.input) column (get_or rows k [])) os
      ∙ (ap (λ c. fold noted c (offers (k + 1) os)) (row_folds o.input column (get_or rows k []))
      ∙ sym (fold_append noted column (map (offer_of o.input) (get_or rows k [])) (offers (k + 1) os)))

-- the first of an object's, or else of those behind it
first_of_row : (input i : ℕ) (ns : List ℕ) (rest : List Offer) → option_map (λ (f : Offer). f.input) (find (passes i) (map (offer_of input) ns ++ rest))
    ≡ cond (list_any (λ n. n == i) ns) (Some input) (option_map (λ (f : Offer). f.input) (find (passes i) rest))
first_of_row input i [] rest = refl
first_of_row input i (n ∷ ns) rest = by (n == i) (first_of_row input i ns rest)
  where
    others : Option ℕ
    others = option_map (λ (f : Offer). f.input) (find (passes i) rest)

    by : (b : Bool) → option_map (λ (f : Offer). f.input) (find (passes i) (map (offer_of input) ns ++ rest)) ≡ cond (list_any (λ n. n == i) ns) (Some input) others
        → option_map (λ (f : Offer). f.input) (cond (b && true) (Some (offer_of input n)) (find (passes i) (map (offer_of input) ns ++ rest))) ≡ cond (b || list_any (λ n. n == i) ns) (Some input) others
    by true again = refl
    by false again = again

module _ (names : List (List ℕ)) (differ : IsDistinct bytes_eq names) (i : ℕ) (name : List ℕ) (at : slice_get names i ≡ Some name) where
  one_named : (n : ℕ) (other : List ℕ) → number_of names other ≡ Some n → (n == i) ≡ bytes_eq other name
  one_named n other is = ap (is_number i) (sym is) ∙ number_is names other name i (bytes_eq other name) differ at refl

  has_it : (ns : List ℕ) (gs : List Group) → map Some ns ≡ map (number_of names) (map (λ (g : Group). g.name) gs) → list_any (λ n. n == i) ns ≡ list_any (λ (g : Group). bytes_eq g.name name) gs
  has_it [] [] same = refl
  has_it [] (g ∷ gs) same = absurd cc
  has_it (n ∷ ns) [] same = absurd cc
  has_it (n ∷ ns) (g ∷ gs) same =
      let here : number_of names g.name ≡ Some n = cc in
      let others : map Some ns ≡ map (number_of names) (map (λ (g : Group). g.name) gs) = cc in
      let h = one_named n g.name here in
      let t = has_it ns gs others in
      λ j. h j || t j

  -- the numbers of the groups of objects from a place on
  abbrev Numbered : List (List ℕ) → ℕ → List Object → Type 0
  Numbered rows k os = (j : ℕ) (o : Object) → slice_get os j ≡ Some o → map Some (get_or rows (k + j) []) ≡ map (number_of names) (group_names o)

  winner_is : (rows : List (List ℕ)) (k : ℕ) (os : List Object) → Numbered rows k os → option_map (λ (f : Offer). f.input) (find (passes i) (offers rows k os)) ≡ group_winner os name
  winner_is rows k [] each = refl
  winner_is rows k (o ∷ os) each =
      let none : k + 0 ≡ k = omega arith in
      let own : map Some (get_or rows k []) ≡ map (number_of names) (group_names o) = sym (ap (λ m. map Some (get_or rows m [])) none) ∙ each 0 o refl in
      let again = winner_is rows (k + 1) os (λ j x is. let moved : k + suc j ≡ k + 1 + j = omega arith in sym (ap (λ m. map Some (get_or rows m [])) moved) ∙ each (suc j) x is) in
      first_of_row o.input i (get_or rows k []) (offers rows (k + 1) os)
      ∙ ((λ m. cond (has_it (get_or rows k []) o.groups own m) (Some o.input) (again m)) ∙ pulled (has_group name o))
    where
      pulled : (b : Bool) → cond b (Some o.input) (group_winner os name) ≡ option_map (λ (o : Object). o.input) (cond b (Some o) (find (has_group name) os))
      pulled true = refl
      pulled false = refl

  pub winners_are : (rows : List (List ℕ)) (objects : List Object) → Numbered rows 0 objects → get_or (first_inputs (length names) rows objects) i None ≡ group_winner objects name
  winners_are rows objects each =
      ap (λ column. get_or column i None) (all_fold rows 0 (replicate (length names) None) objects)
      ∙ (firsts_of (length names) (offers rows 0 objects) i (slice_get_within names i name at)
      ∙ winner_is rows 0 objects each)

-- ---- one group more

get_front : {A : Type 0} (xs ys : List A) (i : ℕ) (d : A) → i < length xs → get_or (xs ++ ys) i d ≡ get_or xs i d
get_front [] ys i d lt = absurd (omega (arith, lt))
get_front (x ∷ xs) ys zero d lt = refl
get_front (x ∷ xs) ys (suc i) d lt = get_front xs ys i d (omega (arith, lt))

get_end : {A : Type 0} (xs : List A) (y d : A) → get_or (xs ++ y ∷ []) (length xs) d ≡ y
get_end [] y d = refl
get_end (x ∷ xs) y d = get_end xs y d

module _ (objects : List Object) where
  rows_append : (ms : List (List Member)) (m : List Member) (g : GroupAt) (at : ℕ) (gs : List GroupAt) → at + length gs ≡ length ms
      → rows_from objects (ms ++ m ∷ []) at (gs ++ g ∷ []) ≡ rows_from objects ms at gs ++ cons_option (group_with (group_there objects g) m) []
  rows_append ms m g at [] long =
      let here : at ≡ length ms = let e : at + 0 ≡ length ms = long in omega (arith, e) in
      ap (λ (x : List Member). cons_option (group_with (group_there objects g) x) []) (ap (λ k. get_or (ms ++ m ∷ []) k []) here ∙ get_end ms m [])
  rows_append ms m g at (x ∷ gs) long =
      let below : at < length ms = omega (arith, long) in
      let h = get_front ms (m ∷ []) at [] below in
      let again = rows_append ms m g (at + 1) gs (omega (arith, long)) in
      (λ i. cons_option (group_with (group_there objects x) (h i)) (again i))
      ∙ behind (group_with (group_there objects x) (get_or ms at [])) (rows_from objects ms (at + 1) gs) (cons_option (group_with (group_there objects g) m) [])
    where
      behind : (o : Option Group) (ys zs : List Group) → cons_option o (ys ++ zs) ≡ cons_option o ys ++ zs
      behind None ys zs = refl
      behind (Some y) ys zs = refl

  abbrev tell : Won → List Group
  tell w = rows_from objects w.members 0 w.groups

  abbrev Even : Won → Type 0
  Even w = length w.groups ≡ length w.members

  -- ---- the groups of an object

  module _ (l : Places) (winners : List (Option ℕ)) (k : ℕ) (o : Object) (here : slice_get objects k ≡ Some o) where
    abbrev owner : Owner
    owner = owner_of k o

    abbrev made : Group → Group
    made g = record { name = g.name; members = members_of l owner g }

    put_even : (w : Won) (place : ℕ) (g : Group) → Even w → Even (with_group l owner w place g)
    put_even w place g even =
        let a = length-append w.groups ((let at : GroupAt = record { object = k; place = place } in at) ∷ []) in
        let b = length-append w.members (members_of l owner g ∷ []) in
        a ∙ (ap (λ n. n + 1) even ∙ sym b)

    put_tells : (w : Won) (place : ℕ) (g : Group) → Even w → slice_get o.groups place ≡ Some g → tell (with_group l owner w place g) ≡ tell w ++ made g ∷ []
    put_tells w place g even at =
        let none : 0 + length w.groups ≡ length w.members = omega (arith, even) in
        rows_append w.members (members_of l owner g) (record { object = k; place = place }) 0 w.groups none
        ∙ ap (λ x. tell w ++ cons_option (group_with x (members_of l owner g)) []) (ap (option_and_then (λ (o : Object). slice_get o.groups place)) here ∙ at)

    module _ (names : List (List ℕ)) (won : (i : ℕ) (name : List ℕ) → slice_get names i ≡ Some name → get_or winners i None ≡ group_winner objects name) where
      abbrev wins : Group → Bool
      wins g = is_input o.input (group_winner objects g.name)

      record Told (w : Won) (gs : List Group) (new : Won) : Type 0 where
        even : Even new
        tells : tell new ≡ tell w ++ map made (filter wins gs)

      all_told : (w : Won) (place : ℕ) (gs : List Group) (ns : List ℕ) → Even w → map Some ns ≡ map (number_of names) (map (λ (g : Group). g.name) gs)
          → ((j : ℕ) (g : Group) → slice_get gs j ≡ Some g → slice_get o.groups (place + j) ≡ Some g) → Told w gs (with_groups l winners owner w place gs ns)
      all_told w place [] ns even same there = record { even = even; tells = sym (append-nil (tell w)) }
      all_told w place (g ∷ gs) [] even same there = absurd cc
      all_told w place (g ∷ gs) (n ∷ ns) even same there =
          subst (λ b. Told w (g ∷ gs) (with_groups l winners owner (if b then with_group l owner w place g else w) (place + 1) gs ns)) (sym known)
          (by (wins g) refl (λ v e. all_told v (place + 1) gs ns e others (λ j x at. let moved : place + suc j ≡ place + 1 + j = omega arith in sym (ap (slice_get o.groups) moved) ∙ there (suc j) x at)))
        where
          numbered : number_of names g.name ≡ Some n
          numbered = cc

          others : map Some ns ≡ map (number_of names) (map (λ (g : Group). g.name) gs)
          others = cc

          known : is_input o.input (get_or winners n None) ≡ wins g
          known = ap (is_input o.input) (won n g.name (name_at names g.name n numbered))

          place_here : slice_get o.groups place ≡ Some g
          place_here = let none : place + 0 ≡ place = omega arith in sym (ap (slice_get o.groups) none) ∙ there 0 g refl

          by : (b : Bool) → wins g ≡ b → ((v : Won) → Even v → Told v gs (with_groups l winners owner v (place + 1) gs ns))
              → Told w (g ∷ gs) (with_groups l winners owner (if b then with_group l owner w place g else w) (place + 1) gs ns)
          by true is again =
              let v : Won = with_group l owner w place g in
              let r = again v (put_even w place g even) in
              record {
                even = r.even;
                tells =
                    r.tells
                    ∙ (ap (λ xs. xs ++ map made (filter wins gs)) (put_tells w place g even place_here)
                    ∙ (append_assoc (tell w) (made g ∷ []) (map made (filter wins gs))
                    ∙ ap (λ b. tell w ++ map made (cond b (g ∷ filter wins gs) (filter wins gs))) (sym is)));
              }
          by false is again =
              let r = again w even in
              record { even = r.even; tells = r.tells ∙ ap (λ b. tell w ++ map made (cond b (g ∷ filter wins gs) (filter wins gs))) (sym is) }

-- ---- all of them

module _ (d : Data) (p : Program) (is : IsProgramOf Plain d p) (l : Places) (are : AreKept p l.kept) (chunks : l.chunks ≡ map (λ (part : Part). part.chunk) p.parts) (counted : l.functions ≡ length (partial.open_of p FunctionKind)) where
  abbrev names : List (List ℕ)
  names = d.names.now.names

  abbrev rows : List (List ℕ)
  rows = d.names.now.groups

  abbrev winners : List (Option ℕ)
  winners = first_inputs (length names) rows p.objects

  get_past : {A : Type 0} (xs : List A) (k : ℕ) (x : A) (e : A) → slice_get xs k ≡ Some x → get_or xs k e ≡ x
  get_past xs k x e at = get_or_from_slice_get xs k x e at

  numbered : (k : ℕ) (o : Object) → slice_get p.objects k ≡ Some o → map Some (get_or rows k []) ≡ map (number_of names) (group_names o)
  numbered k o at = by (slice_get rows k) refl
    where
      told : slice_get (map (map Some) rows) k ≡ Some (map (number_of names) (group_names o))
      told = ap (λ xs. slice_get xs k) is.numbers.groups ∙ (slice_get-map (λ (o : Object). map (number_of names) (group_names o)) p.objects k ∙ ap (option_map (λ (o : Object). map (number_of names) (group_names o))) at)

      by : (x : Option (List ℕ)) → slice_get rows k ≡ x → map Some (get_or rows k []) ≡ map (number_of names) (group_names o)
      by None none = absurd (none-some (map (number_of names) (group_names o)) (sym (slice_get-map (map Some) rows k ∙ ap (option_map (map Some)) none) ∙ told))
      by (Some ns) there =
          ap (map Some) (get_or_from_slice_get rows k ns [] there)
          ∙ same_Some (map Some ns) (map (number_of names) (group_names o)) (sym (slice_get-map (map Some) rows k ∙ ap (option_map (map Some)) there) ∙ told)

  won : (i : ℕ) (name : List ℕ) → slice_get names i ≡ Some name → get_or winners i None ≡ group_winner p.objects name
  won i name at = winners_are names is.numbers.differ i name at rows p.objects (λ j o there. let plain : 0 + j ≡ j = omega arith in ap (λ k. map Some (get_or rows k [])) plain ∙ numbered j o there)

  -- ---- members

  member_is : (o : Object) (m : Member) → member_with l o.input (length (function_imports o)) m ≡ partial.member_for p o m
  member_is o m =
      let a = place_is_told p l.kept l.chunks (chunk_at o.input 1 m.index) (omega arith) chunks are in
      let b = place_is_told p l.kept l.chunks (chunk_at o.input 0 (m.index - length (function_imports o))) (omega arith) chunks are in
      λ i. if m.kind == 0 then Some (record { kind = 0; index = a i })
      else if m.kind == 1 then Some (record { kind = 1; index = counted i + b i })
      else None

  members_are : (o : Object) (ms : List Member) → filter_map (member_with l o.input (length (function_imports o))) ms ≡ filter_map (partial.member_for p o) ms
  members_are o [] = refl
  members_are o (m ∷ ms) = let h = member_is o m in let r = members_are o ms in λ i. cons_option (h i) (r i)

  groups_of : (k : ℕ) (o : Object) (gs : List Group) → map (λ (g : Group). let x : Group = record { name = g.name; members = members_of l (owner_of k o) g } in x) gs ≡ map (partial.group_for p o) gs
  groups_of k o [] = refl
  groups_of k o (g ∷ gs) = let h = members_are o g.members in let r = groups_of k o gs in λ i. (record { name = g.name; members = h i }) ∷ r i

  -- ---- objects

  from : (w : Won) (k : ℕ) (os : List Object) → Even p.objects w → ((j : ℕ) (o : Object) → slice_get os j ≡ Some o → slice_get p.objects (k + j) ≡ Some o)
      → tell p.objects (with_objects l winners rows k w os) ≡ tell p.objects w ++ flat_map (partial.groups_in p) os
  from w k [] even there = sym (append-nil (tell p.objects w))
  from w k (o ∷ os) even there =
      let none : k + 0 ≡ k = omega arith in
      let here : slice_get p.objects k ≡ Some o = sym (ap (slice_get p.objects) none) ∙ there 0 o refl in
      let v : Won = with_groups l winners (owner_of k o) w 0 o.groups (get_or rows k []) in
      let r = all_told p.objects l winners k o here names won w 0 o.groups (get_or rows k []) even (numbered k o here) (λ j g at. let plain : 0 + j ≡ j = omega arith in ap (slice_get o.groups) plain ∙ at) in
      let own : tell p.objects v ≡ tell p.objects w ++ partial.groups_in p o =
      r.tells ∙ ap (λ gs. tell p.objects w ++ gs) (groups_of k o (filter (λ (g : Group). is_input o.input (group_winner p.objects g.name)) o.groups)) in
      from v (k + 1) os r.even (λ j x at. let moved : k + suc j ≡ k + 1 + j = omega arith in sym (ap (slice_get p.objects) moved) ∙ there (suc j) x at)
      ∙ (ap (λ gs. gs ++ flat_map (partial.groups_in p) os) own
      ∙ append_assoc (tell p.objects w) (partial.groups_in p o) (flat_map (partial.groups_in p) os))

  pub groups_are : tell p.objects (all_won l (length names) rows p.objects) ≡ (relocatable p).groups
  unfolding relocatable
  groups_are = from none_won 0 p.objects refl (λ j o at. let plain : 0 + j ≡ j = omega arith in ap (slice_get p.objects) plain ∙ at)
