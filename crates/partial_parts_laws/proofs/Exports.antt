-- What is exported has the same names in the later link.
use Rattle.std.proofs.Common.{◌≡◌, ℕ, zero, suc, ◌+◌, ◌-◌, ◌<◌, ◌≤◌, ◌==◌, Bool, true, false, List, [], ◌∷◌, ◌++◌, map, length, inl, inr, ⊎_elim, refl, sym, ap, ◌∙◌, subst, arith}
use Rattle.std.specs.Prelude.{if◌then◌else◌, Option, Some, None, option_map, option_and_then, unwrap_or, position, find, slice_get, flat_map}
use Rattle.std.specs.List.{AllZip}
use Rattle.std.proofs.lemmas.Bool.{ne_eqb, eqb-true}
use Rattle.std.proofs.lemmas.Option.{slice_get-map}
use Rattle.list_places.specs.Has.{Has, Stands}
use Rattle.list_places.proofs.Lists.{has_either, has_left, has_right, has_flat, map_has, all_has, has_filter, placed, stands as stands_at, some_is}
use Rattle.name_rules.specs.object_file.linking_section.declared.symbol.SymbolKind.{SymbolKind}
use Rattle.name_rules.specs.object_file.linking_section.declared.symbol.SymbolKind.TheVariants.{Function}
use Rattle.name_rules.specs.object_file.linking_section.Flags.{kind_code}
use Rattle.name_rules.specs.object_file.object_columns.declared.functions.FunctionDef.{FunctionDef}
use Rattle.name_rules.specs.object_file.declared.object.Object.{Object}
use Rattle.name_rules.specs.object_file.Spaces.{function_imports}
use Rattle.made_symbols.specs.declared.mode.Mode.TheVariants.{Plain}
use Rattle.made_symbols.specs.Made.{made}
use Rattle.name_rules.specs.Entries.{InputSymbol, name_of, is_kind, index_in, entries, symbols_of, made_from}
use Rattle.name_rules.specs.Meanings.{Resolved}
use Rattle.mark_bits.specs.declared.chunk.Chunk.{Chunk}
use Rattle.link_rules.specs.Program.{Program, Part, is_winner, winners_of, chunk_at, chunk_by, same_chunk}
use Rattle.link_rules.specs.Marks.{resolved_at, export_name}
use Rattle.partial_rules.specs.Partial.{kept, place_of, open_of, exported_name, defined_index}
use Rattle.partial_laws.specs.Inputs.{Run, Objects, as_input, alone, later, whole_objects, run_objects, later_objects, AreCut}
use Rattle.partial_laws.specs.Loaded.{Rise}
use Rattle.partial_laws.specs.Standing.{alone_symbol, joining}
use Rattle.partial_laws.specs.Joining.{Joining}
use Rattle.partial_laws.specs.Joined.{linked_symbols}
use Rattle.partial_laws.proofs.Instance.{all_from_has}
use Rattle.partial_laws.proofs.Joins.{all_made}
use Rattle.partial_laws.proofs.Members.{chunk_equal, chunk_itself}
use Rattle.partial_laws.proofs.Loading.{rise_above, rise_found, run_rise}
use Rattle.partial_laws.proofs.Regions.{entry_linked}
use Rattle.partial_laws.proofs.Programs.{programs_are_of}
use Rattle.partial_parts_laws.specs.Linked.{Linked, Links, program, alone_program, whole_program, later_program}
use Rattle.partial_parts_laws.specs.PartsRead.{IsFunction}
use Rattle.partial_parts_laws.specs.Moves.{StandsInLinks}
use Rattle.partial_parts_laws.specs.Alike.{HeldSymbol}
use Rattle.partial_parts_laws.specs.AlikeLinks.{WordsStay, ExportNamesStay}
use Rattle.partial_parts_laws.proofs.Parts.{res, resolved_are}
use Rattle.partial_parts_laws.proofs.Runs.{chunks_kept}
use Rattle.partial_parts_laws.proofs.Symbols.{symbol_input}
use Rattle.partial_parts_laws.proofs.MovingLaws.{parts_are_moved, low_entry, high_entry, joined_is, chunk_there, entry_held}
use Rattle.partial_parts_laws.proofs.Referred.{kinds_equal}
use Rattle.partial_parts_laws.proofs.Linking.{later_rise, winner_held}

-- ---- finding

find_of_map : {A B : Type 0} (f : A → B) (t : B → Bool) (xs : List A) → find t (map f xs) ≡ option_map f (find (λ x. t (f x)) xs)
find_of_map f t [] = refl
find_of_map {A} {B} f t (x ∷ xs) = by_test (t (f x)) (find_of_map f t xs)
  where
    by_test : (b : Bool) → find t (map f xs) ≡ option_map f (find (λ y. t (f y)) xs) → (if b then Some (f x) else find t (map f xs)) ≡ option_map f (if b then Some x else find (λ y. t (f y)) xs)
    by_test true rest = refl
    by_test false rest = rest

find_none : {A : Type 0} (t : A → Bool) (xs : List A) → ((x : A) → Has xs x → t x ≡ false) → find t xs ≡ None
find_none t [] none = refl
find_none {A} t (x ∷ xs) none = ap (λ (b : Bool). if b then Some x else find t xs) (none x (inl refl)) ∙ find_none t xs (λ y has. none y (inr has))

then_map : {A B C : Type 0} (f : A → B) (g : B → Option C) (o : Option A) → option_and_then g (option_map f o) ≡ option_and_then (λ x. g (f x)) o
then_map f g None = refl
then_map f g (Some x) = refl

zip_at : {A B : Type 0} (R : A → B → Type 0) (xs : List A) (ys : List B) → AllZip R xs ys → (k : ℕ) (x : A) → slice_get xs k ≡ Some x → (y : B) × (slice_get ys k ≡ Some y) × R x y
zip_at R [] ys z k x is = absurd cc
zip_at R (a ∷ as') [] z k x is = absurd z
zip_at R (a ∷ as') (b ∷ bs) z zero x is = (b, refl, subst (λ c. R c b) (some_is a x is) z.0)
zip_at R (a ∷ as') (b ∷ bs) z (suc k) x is = zip_at R as' bs z.1 k x is

-- The name that the function at an index of an input is exported under.
abbrev name_in : Object → ℕ → Option (List ℕ)
name_in o i = option_and_then (λ (f : FunctionDef). f.export_name) (slice_get o.functions i)

abbrev name_at : List Object → ℕ → ℕ → Option (List ℕ)
name_at objects n i = option_and_then (λ (o : Object). name_in o i) (find (λ (o : Object). o.input == n) objects)

module _ (l : Linked) (objects : List Object) where
  resolved_name : (n i : ℕ) → option_and_then (λ (r : Resolved). name_in r.object i) (resolved_at (program l objects).resolved n) ≡ name_at objects n i
  resolved_name n i =
      ap (λ rs. option_and_then (λ (r : Resolved). name_in r.object i) (find (λ (r : Resolved). r.object.input == n) rs)) (resolved_are l objects)
      ∙ (ap (option_and_then (λ (r : Resolved). name_in r.object i)) (find_of_map (λ o. res l objects o) (λ (r : Resolved). r.object.input == n) objects)
      ∙ then_map (λ o. res l objects o) (λ (r : Resolved). name_in r.object i) (find (λ (o : Object). o.input == n) objects))

  export_is : (e : InputSymbol) → export_name (program l objects) e ≡ (if is_kind Function e then unwrap_or (name_at objects e.input e.index) (name_of e) else name_of e)
  export_is e = ap (λ o. if is_kind Function e then unwrap_or o (name_of e) else name_of e) (resolved_name e.input e.index)

  found_name : Rise 0 objects → (o : Object) → Has objects o → (i : ℕ) → name_at objects o.input i ≡ name_in o i
  found_name r o has i = ap (option_and_then (λ (x : Object). name_in x i)) (rise_found 0 objects r o has)

  none_name : Rise 0 objects → (i : ℕ) → name_at objects 0 i ≡ None
  none_name r i =
      ap (option_and_then (λ (x : Object). name_in x i))
      (find_none (λ (x : Object). x.input == 0) objects (λ x has. let lt = all_has (λ (y : Object). 0 < y.input) objects (rise_above 0 objects r) x has in ne_eqb x.input 0 (λ e. omega (arith, lt, e))))

module _ (run : Run) (os : Objects) (ls : Links) (s : StandsInLinks run os ls) where
  abbrev cut : AreCut run os
  cut = s.names.cut

  abbrev p : Program
  p = alone_program run os ls

  abbrev P : Program
  P = whole_program run os ls

  abbrev Q : Program
  Q = later_program run os ls

  abbrev W : List Object
  W = whole_objects os

  abbrev L : List Object
  L = later_objects run os

  abbrev RO : List Object
  RO = run_objects run os

  abbrev j : Joining
  j = joining run os p

  rise_w : Rise 0 W
  rise_w = s.names.loaded.rise

  rise_l : Rise 0 L
  rise_l = later_rise run os cut s.names.loaded.rise

  abbrev in_run : Object → Object
  in_run o = as_input (alone run o.input) o

  abbrev behind_object : Object → Object
  behind_object o = as_input (later run o.input) o

  less : (n a m : ℕ) → n ≡ m → m + a - n ≡ a
  less n a m same = omega (arith, same)

  -- a function of the run
  run_name : (d : InputSymbol) → HeldSymbol run os ls d → d.symbol.kind ≡ Function → (o : Object) → Has os.middle o → d.input ≡ o.input → name_at L (j.move d).input (j.move d).index ≡ name_in o d.index
  run_name d held kind o ho input =
      ap (λ n. name_at L n (j.move d).index) input_is
      ∙ (ap (name_at L os.joined.input) index_is
      ∙ (found_name ls.after L rise_l os.joined (has_right os.before (os.joined ∷ map behind_object os.behind) os.joined (inl refl)) (place_of p 0 c)
      ∙ (ap (λ n. name_in os.joined n) (ap (λ x. unwrap_or x 0) spot.1) ∙ by_item (slice_get (kept p 0) spot.0) refl (sym (slice_get-map (λ (y : Part). y.chunk) (kept p 0) spot.0) ∙ at.there))))
    where
      gt : run.first < d.input
      gt = let lt = all_has (λ (x : Object). run.first < x.input) os.middle cut.from o ho in omega (arith, lt, input)

      le : d.input ≤ run.first + run.many
      le = let lo = all_has (λ (x : Object). x.input ≤ run.first + run.many) os.middle cut.to o ho in omega (arith, lo, input)

      c : Chunk
      c = chunk_at (alone run d.input) 0 d.index

      there : Has (chunks_kept run os ls s 0) (chunk_at (alone run d.input) 0 d.index)
      there = chunk_there run os ls s (chunk_at d.input 0 d.index) (entry_held run os ls s d (chunk_at d.input 0 d.index) held (ap (chunk_by d) kind)) gt le

      spot : (k : ℕ) × (position (same_chunk (chunk_at (alone run d.input) 0 d.index)) (chunks_kept run os ls s 0) ≡ Some k)
      spot = placed (same_chunk (chunk_at (alone run d.input) 0 d.index)) (chunks_kept run os ls s 0) (chunk_at (alone run d.input) 0 d.index) there (chunk_itself (chunk_at (alone run d.input) 0 d.index))

      at : Stands (same_chunk (chunk_at (alone run d.input) 0 d.index)) (chunks_kept run os ls s 0) spot.0
      at = stands_at (same_chunk (chunk_at (alone run d.input) 0 d.index)) (chunks_kept run os ls s 0) spot.0 spot.1

      index_for : SymbolKind → ℕ
      index_for k = index_in os.joined (record d.symbol { index = defined_index p (alone_symbol run os d) k }) k

      input_is : (j.move d).input ≡ os.joined.input
      input_is = ap (λ (x : InputSymbol). x.input) (joined_is run os ls s d held gt le)

      index_is : (j.move d).index ≡ place_of p 0 (chunk_at (alone run d.input) 0 d.index)
      index_is =
          ap (λ (x : InputSymbol). x.index) (joined_is run os ls s d held gt le)
          ∙ (ap index_for kind ∙ less (length (function_imports os.joined)) (place_of p 0 (chunk_at (alone run d.input) 0 d.index)) (length (open_of p Function)) s.read.functions_imported)

      by_item : (x : Option Part) → slice_get (kept p 0) spot.0 ≡ x → option_map (λ (y : Part). y.chunk) x ≡ Some at.item → name_in os.joined spot.0 ≡ name_in o d.index
      by_item None is told = absurd cc
      by_item (Some b) is told =
          let z = zip_at (IsFunction os.joined ls.after p) (kept p 0) os.joined.functions s.read.functions spot.0 b is in
          let chunk : b.chunk ≡ chunk_at (alone run d.input) 0 d.index = some_is b.chunk at.item told ∙ sym (chunk_equal (chunk_at (alone run d.input) 0 d.index) at.item at.passes) in
          ap (option_and_then (λ (f : FunctionDef). f.export_name)) z.1
          ∙ (z.2.export_name ∙ (ap (exported_name p) chunk
          ∙ (resolved_name ls.run_alone RO (alone run d.input) d.index
          ∙ (ap (λ n. name_at RO (alone run n) d.index) input
          ∙ found_name ls.run_alone RO (run_rise run os cut s.names.loaded.rise) (in_run o) (map_has (λ (y : Object). as_input (alone run y.input) y) os.middle o ho) d.index))))

  function_name : (d : InputSymbol) → Has (linked_symbols W) d → HeldSymbol run os ls d → d.symbol.kind ≡ Function → name_at L (j.move d).input (j.move d).index ≡ name_at W d.input d.index
  function_name d known held kind =
      ⊎_elim (λ own. of_linker (all_has (λ (x : InputSymbol). x.input ≡ 0) (made_from 0 (made Plain)) (all_made (λ (x : InputSymbol). x.input ≡ 0) (λ place m. refl) 0 (made Plain)) d own))
      (λ rest. let f = has_flat (symbols_of W) W d rest in of_object f.0 f.1 (symbol_input W f.0 d f.2))
      (has_either (made_from 0 (made Plain)) (flat_map (symbols_of W) W) d known)
    where
      of_linker : d.input ≡ 0 → name_at L (j.move d).input (j.move d).index ≡ name_at W d.input d.index
      of_linker none =
          ap (λ (x : InputSymbol). name_at L x.input x.index) (low_entry run os ls s d (omega (arith, none)))
          ∙ (ap (λ n. name_at L n d.index) none ∙ (none_name ls.after L rise_l d.index ∙ (sym (none_name ls.whole W rise_w d.index) ∙ sym (ap (λ n. name_at W n d.index) none))))

      whole_is : (o : Object) → Has W o → d.input ≡ o.input → name_at W d.input d.index ≡ name_in o d.index
      whole_is o ho input = ap (λ n. name_at W n d.index) input ∙ found_name ls.whole W rise_w o ho d.index

      of_before : (o : Object) → Has W o → Has os.before o → d.input ≡ o.input → name_at L (j.move d).input (j.move d).index ≡ name_in o d.index
      of_before o ho has input =
          let le = all_has (λ (x : Object). x.input ≤ run.first) os.before cut.before o has in
          ap (λ (x : InputSymbol). name_at L x.input x.index) (low_entry run os ls s d (omega (arith, le, input)))
          ∙ (ap (λ n. name_at L n d.index) input ∙ found_name ls.after L rise_l o (has_left os.before (os.joined ∷ map behind_object os.behind) o has) d.index)

      of_behind : (o : Object) → Has os.behind o → d.input ≡ o.input → name_at L (j.move d).input (j.move d).index ≡ name_in o d.index
      of_behind o has input =
          let lt = all_has (λ (x : Object). run.first + run.many < x.input) os.behind cut.behind o has in
          ap (λ (x : InputSymbol). name_at L x.input x.index) (high_entry run os ls s d (omega (arith, lt, input)))
          ∙ (ap (λ n. name_at L (later run n) d.index) input
          ∙ found_name ls.after L rise_l (behind_object o) (has_right os.before (os.joined ∷ map behind_object os.behind) (behind_object o) (inr (map_has (λ (y : Object). as_input (later run y.input) y) os.behind o has))) d.index)

      of_object : (o : Object) → Has W o → d.input ≡ o.input → name_at L (j.move d).input (j.move d).index ≡ name_at W d.input d.index
      of_object o ho input =
          ⊎_elim (λ before. of_before o ho before input ∙ sym (whole_is o ho input))
          (λ rest. ⊎_elim (λ middle. run_name d held kind o middle input ∙ sym (whole_is o ho input)) (λ behind. of_behind o behind input ∙ sym (whole_is o ho input)) (has_either os.middle os.behind o rest))
          (has_either os.before (os.middle ++ os.behind) o ho)

  winner_known : (d : InputSymbol) → Has P.winners d → Has (linked_symbols W) d
  unfolding winners_of
  winner_known d has =
      entry_linked W d (has_filter (is_winner (entries Plain W)) (entries Plain W) d (subst (λ xs. Has xs d) ((programs_are_of ls.whole.plan ls.whole.files ls.whole.all W).winners_are ∙ ap winners_of (programs_are_of ls.whole.plan ls.whole.files ls.whole.all W).entries_are) has)).0

  pub export_names : WordsStay ls → ExportNamesStay run os ls
  export_names w = all_from_has (λ (e : InputSymbol). export_name Q (j.move e) ≡ export_name P e) P.winners (λ e has. one e (winner_known e has) (winner_held run os ls s w e has))
    where
      by_kind : (e : InputSymbol) → Has (linked_symbols W) e → HeldSymbol run os ls e → (b : Bool) → is_kind Function e ≡ b
          → (if b then unwrap_or (name_at L (j.move e).input (j.move e).index) (name_of e) else name_of e) ≡ (if b then unwrap_or (name_at W e.input e.index) (name_of e) else name_of e)
      by_kind e known held false is = refl
      by_kind e known held true is = ap (λ o. unwrap_or o (name_of e)) (function_name e known held (kinds_equal e.symbol.kind Function (eqb-true (kind_code e.symbol.kind) (kind_code Function) is)))

      one : (e : InputSymbol) → Has (linked_symbols W) e → HeldSymbol run os ls e → export_name Q (j.move e) ≡ export_name P e
      one e known held =
          let m = parts_are_moved run os ls s in
          export_is ls.after L (j.move e)
          ∙ (ap (λ k. if kind_code k == kind_code Function then unwrap_or (name_at L (j.move e).input (j.move e).index) (name_of (j.move e)) else name_of (j.move e)) (m.entry_kind e held)
          ∙ (ap (λ n. if is_kind Function e then unwrap_or (name_at L (j.move e).input (j.move e).index) n else n) (m.entry_name e held)
          ∙ (by_kind e known held (is_kind Function e) refl ∙ sym (export_is ls.whole W e))))
