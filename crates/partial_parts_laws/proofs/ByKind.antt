-- The parts of one kind of the whole link and of the later one, side by side.
use Rattle.std.proofs.Common.{◌≡◌, ℕ, ◌+◌, ◌<◌, ◌≤◌, ◌==◌, Bool, true, List, ◌∷◌, ◌++◌, map, filter, length, sym, ap, ◌∙◌, subst}
use Rattle.std.specs.Prelude.{if◌then◌else◌, Some, slice_get, flat_map}
use Rattle.std.specs.List.{AllZip}
use Rattle.std.proofs.lemmas.List.Concat.{flat_map-cons, flat_map-append}
use Rattle.list_places.specs.Has.{Has}
use Rattle.list_places.proofs.Lists.{all_has}
use Rattle.name_rules.specs.object_file.linking_section.declared.member_kinds.TheConstants as members
use Rattle.mark_bits.specs.declared.kinds.TheConstants as chunks
use Rattle.mark_bits.specs.declared.chunk.Chunk.{Chunk}
use Rattle.name_rules.specs.object_file.declared.object.Object.{Object}
use Rattle.name_rules.specs.object_file.Spaces.{function_imports}
use Rattle.name_rules.specs.Entries.{is_kept}
use Rattle.name_rules.specs.Meanings.{Resolved}
use Rattle.link_rules.specs.Program.{Part, indexed, kept_in, chunk_at}
use Rattle.partial_laws.specs.Inputs.{Run, Objects, as_input, alone, later, whole_objects, later_objects, AreCut}
use Rattle.partial_laws.proofs.Symbols.{flat_of_map}
use Rattle.partial_laws.proofs.Stated.{parts_are_kept}
use Rattle.partial_parts_laws.specs.Linked.{Links}
use Rattle.partial_parts_laws.specs.Moves.{StandsInLinks}
use Rattle.partial_parts_laws.proofs.Parts.{res}
use Rattle.partial_parts_laws.proofs.Zips.{zip_more, zip_append, zip_filter, zip_flat, zip_items}

-- ---- which chunks are kept

abbrev kept_by : Chunk → Bool → Bool → Bool
kept_by c f d = if c.kind == chunks.FUNCTION then f else if c.kind == chunks.SEGMENT then d else true

both_kept : (c : Chunk) (f g d e : Bool) → f ≡ g → d ≡ e → kept_by c f d ≡ kept_by c g e
both_kept c f g d e a b = ap (λ x. kept_by c x d) a ∙ ap (kept_by c g) b

module _ (run : Run) (os : Objects) (ls : Links) (s : StandsInLinks run os ls) where
  abbrev cut : AreCut run os
  cut = s.names.cut

  abbrev W : List Object
  W = whole_objects os

  abbrev L : List Object
  L = later_objects run os

  abbrev behind_object : Object → Object
  behind_object o = as_input (later run o.input) o

  abbrev run_object : Object → Object
  run_object o = as_input (alone run o.input) o

  pub kept_before : (o : Object) → Has os.before o → (c d : Chunk) → d.kind ≡ c.kind → d.index ≡ c.index → kept_in L o d ≡ kept_in W o c
  kept_before o has c d kind index =
      let le = all_has (λ (x : Object). x.input ≤ run.first) os.before cut.before o has in
      ap (λ n. kept_in L o (chunk_at d.input n d.index)) kind ∙ (ap (λ n. kept_in L o (chunk_at d.input c.kind n)) index
      ∙ both_kept c (is_kept L o members.FUNCTION (c.index + length_of o)) (is_kept W o members.FUNCTION (c.index + length_of o)) (is_kept L o members.DATA c.index) (is_kept W o members.DATA c.index)
      ((parts_are_kept run os cut).before o members.FUNCTION (c.index + length_of o) le) ((parts_are_kept run os cut).before o members.DATA c.index le))
    where
      length_of : Object → ℕ
      length_of x = length (function_imports x)

  pub kept_behind : (o : Object) → Has os.behind o → (c d : Chunk) → d.kind ≡ c.kind → d.index ≡ c.index → kept_in L (behind_object o) d ≡ kept_in W o c
  kept_behind o has c d kind index =
      let lt = all_has (λ (x : Object). run.first + run.many < x.input) os.behind cut.behind o has in
      ap (λ n. kept_in L (behind_object o) (chunk_at d.input n d.index)) kind ∙ (ap (λ n. kept_in L (behind_object o) (chunk_at d.input c.kind n)) index
      ∙ both_kept c (is_kept L (behind_object o) members.FUNCTION (c.index + length (function_imports o))) (is_kept W o members.FUNCTION (c.index + length (function_imports o)))
      (is_kept L (behind_object o) members.DATA c.index) (is_kept W o members.DATA c.index)
      ((parts_are_kept run os cut).behind o members.FUNCTION (c.index + length (function_imports o)) lt) ((parts_are_kept run os cut).behind o members.DATA c.index lt))

  -- ---- the parts of all objects

  pub whole_zip : {A B : Type 0} (T : A → B → Type 0) (f : Object → List A) (g : Object → List B) (own : List A) (own_too : List B)
      → AllZip T own own_too
      → ((o : Object) → Has os.before o → AllZip T (f o) (g o))
      → AllZip T (flat_map f os.middle) (g os.joined)
      → ((o : Object) → Has os.behind o → AllZip T (f o) (g (behind_object o)))
      → AllZip T (own ++ flat_map f W) (own_too ++ flat_map g L)
  whole_zip T f g own own_too mine before middle behind =
      zip_append T own (flat_map f W) own_too (flat_map g L) mine
      (subst (λ xs. AllZip T xs (flat_map g L)) (sym whole_is) (subst (AllZip T (flat_map f os.before ++ (flat_map f os.middle ++ flat_map f os.behind))) (sym later_is)
      (zip_append T (flat_map f os.before) (flat_map f os.middle ++ flat_map f os.behind) (flat_map g os.before) (g os.joined ++ flat_map (λ o. g (behind_object o)) os.behind)
      (zip_flat T f g os.before before)
      (zip_append T (flat_map f os.middle) (flat_map f os.behind) (g os.joined) (flat_map (λ o. g (behind_object o)) os.behind) middle (zip_flat T f (λ o. g (behind_object o)) os.behind behind)))))
    where
      whole_is : flat_map f W ≡ flat_map f os.before ++ (flat_map f os.middle ++ flat_map f os.behind)
      whole_is = flat_map-append f os.before (os.middle ++ os.behind) ∙ ap (λ xs. flat_map f os.before ++ xs) (flat_map-append f os.middle os.behind)

      later_is : flat_map g L ≡ flat_map g os.before ++ (g os.joined ++ flat_map (λ o. g (behind_object o)) os.behind)
      later_is =
          flat_map-append g os.before (os.joined ∷ map behind_object os.behind)
          ∙ ap (λ xs. flat_map g os.before ++ xs) (flat_map-cons g os.joined (map behind_object os.behind) ∙ ap (λ xs. g os.joined ++ xs) (flat_of_map behind_object g os.behind))

  -- ---- of one kind

  module _ (T : Part → Part → Type 0) (A : Type 0) (make make_too : Object → ℕ → A → Part) where
    abbrev whole_res : Object → Resolved
    whole_res = res ls.whole W

    abbrev later_res : Object → Resolved
    later_res = res ls.after L

    pub before_zip : (o : Object) → Has os.before o → (xs : List A)
        → ((n : ℕ) (x : A) → slice_get xs n ≡ Some x → ((make_too o n x).chunk.kind ≡ (make o n x).chunk.kind) × ((make_too o n x).chunk.index ≡ (make o n x).chunk.index))
        → ((n : ℕ) (x : A) → slice_get xs n ≡ Some x → T (make o n x) (make_too o n x))
        → AllZip T (filter (λ (x : Part). kept_in W o x.chunk) (indexed (make o) 0 xs)) (filter (λ (x : Part). kept_in L o x.chunk) (indexed (make_too o) 0 xs))
    before_zip o has xs chunk each =
        zip_more R T (λ x y r. r.0) (filter t (indexed (make o) 0 xs)) (filter u (indexed (make_too o) 0 xs))
        (zip_filter R t u (λ x y r. r.1) (indexed (make o) 0 xs) (indexed (make_too o) 0 xs)
        (zip_items R (make o) (make_too o) xs (λ k x is. (each k x is, let c = chunk k x is in kept_before o has (make o k x).chunk (make_too o k x).chunk c.0 c.1))))
      where
        t : Part → Bool
        t = λ (x : Part). kept_in W o x.chunk

        u : Part → Bool
        u = λ (x : Part). kept_in L o x.chunk

        R : Part → Part → Type 0
        R x y = T x y × (u y ≡ t x)

    pub behind_zip : (o : Object) → Has os.behind o → (xs : List A)
        → ((n : ℕ) (x : A) → slice_get xs n ≡ Some x → ((make_too (behind_object o) n x).chunk.kind ≡ (make o n x).chunk.kind) × ((make_too (behind_object o) n x).chunk.index ≡ (make o n x).chunk.index))
        → ((n : ℕ) (x : A) → slice_get xs n ≡ Some x → T (make o n x) (make_too (behind_object o) n x))
        → AllZip T (filter (λ (x : Part). kept_in W o x.chunk) (indexed (make o) 0 xs)) (filter (λ (x : Part). kept_in L (behind_object o) x.chunk) (indexed (make_too (behind_object o)) 0 xs))
    behind_zip o has xs chunk each =
        zip_more R T (λ x y r. r.0) (filter t (indexed (make o) 0 xs)) (filter u (indexed (make_too (behind_object o)) 0 xs))
        (zip_filter R t u (λ x y r. r.1) (indexed (make o) 0 xs) (indexed (make_too (behind_object o)) 0 xs)
        (zip_items R (make o) (make_too (behind_object o)) xs (λ k x is. (each k x is, let c = chunk k x is in kept_behind o has (make o k x).chunk (make_too (behind_object o) k x).chunk c.0 c.1))))
      where
        t : Part → Bool
        t = λ (x : Part). kept_in W o x.chunk

        u : Part → Bool
        u = λ (x : Part). kept_in L (behind_object o) x.chunk

        R : Part → Part → Type 0
        R x y = T x y × (u y ≡ t x)
