-- The parts of the run in the whole link, and those of the one object that stands for it, side by side.
use Rattle.std.proofs.Common.{◌≡◌, ℕ, ◌+◌, ◌<◌, ◌≤◌, ◌==◌, Bool, true, false, not, ◌&&◌, List, filter, length, refl, sym, ap, ◌∙◌, subst}
use Rattle.std.specs.Prelude.{Some, slice_get, unwrap_or, flat_map}
use Rattle.std.specs.List.{AllZip}
use Rattle.list_places.specs.Has.{Has}
use Rattle.list_places.proofs.Lists.{all_has, apart_filter}
use Rattle.name_rules.specs.object_file.linking_section.declared.member_kinds.TheConstants as members
use Rattle.name_rules.specs.object_file.object_parts.declared.parts.GlobalDef.{GlobalDef}
use Rattle.name_rules.specs.object_file.object_columns.declared.functions.FunctionDef.{FunctionDef}
use Rattle.name_rules.specs.object_file.object_columns.declared.segments.SegmentDef.{SegmentDef}
use Rattle.name_rules.specs.object_file.declared.object.Object.{Object}
use Rattle.name_rules.specs.object_file.Spaces.{function_imports}
use Rattle.name_rules.specs.Entries.{is_kept}
use Rattle.link_rules.specs.Program.{Program, Part, function_part, segment_part, global_part, kept_in}
use Rattle.link_rules.specs.Marks.{is_object_part}
use Rattle.link_rules.specs.Keys.{parts_of_kind}
use Rattle.partial_rules.specs.Partial.{kept, place_of}
use Rattle.partial_laws.specs.Inputs.{Run, Objects, as_input, alone, whole_objects, run_objects, later_objects, AreCut}
use Rattle.partial_laws.specs.Kept.{is_taken_away}
use Rattle.partial_laws.proofs.Stated.{parts_are_kept}
use Rattle.partial_laws.proofs.Loading.{run_rise}
use Rattle.partial_parts_laws.specs.Linked.{Links, alone_program}
use Rattle.partial_parts_laws.specs.PartsRead.{IsFunction, IsSegment, IsGlobal}
use Rattle.partial_parts_laws.specs.Moves.{StandsInLinks}
use Rattle.partial_parts_laws.proofs.Zips.{zip_middle, zip_items, zip_beside_has, flat_alike}
use Rattle.partial_parts_laws.proofs.Parts.{res, object_parts, function_parts, segment_parts, global_parts, functions_in, segments_in, globals_in}
use Rattle.partial_parts_laws.proofs.Runs.{kept_is, function_taken, segment_taken}
use Rattle.partial_parts_laws.proofs.Once.{same_part, parts_apart, place_is}

and_true : (b : Bool) → b ≡ (b && true)
and_true true = refl
and_true false = refl

and_false : (b : Bool) → false ≡ (b && false)
and_false true = refl
and_false false = refl

module _ (run : Run) (os : Objects) (ls : Links) (s : StandsInLinks run os ls) where
  abbrev cut : AreCut run os
  cut = s.names.cut

  abbrev p : Program
  p = alone_program run os ls

  abbrev W : List Object
  W = whole_objects os

  abbrev L : List Object
  L = later_objects run os

  abbrev RO : List Object
  RO = run_objects run os

  abbrev al_object : Object → Object
  al_object o = as_input (alone run o.input) o

  -- a kept part of the run alone stands at its own place
  placed_at : (k n : ℕ) (b : Part) → slice_get (kept p k) n ≡ Some b → place_of p k b.chunk ≡ n
  placed_at k n b is =
      ap (λ o. unwrap_or o 0) (place_is (kept p k)
      (apart_filter same_part (λ part. is_object_part part && (part.chunk.kind == k)) p.parts (parts_apart ls.run_alone RO (run_rise run os cut s.names.loaded.rise) s.strict_alone)) n b is)

  abbrev whole_kept : Object → Part → Bool
  whole_kept o = λ (x : Part). kept_in W o x.chunk

  abbrev run_kept : Object → Part → Bool
  run_kept o = λ (x : Part). kept_in RO (al_object o) x.chunk

  abbrev joined_kept : Part → Bool
  joined_kept = λ (x : Part). kept_in L os.joined x.chunk

  above : (o : Object) → Has os.middle o → run.first < o.input
  above o has = all_has (λ (x : Object). run.first < x.input) os.middle cut.from o has

  within : (o : Object) → Has os.middle o → o.input ≤ run.first + run.many
  within o has = all_has (λ (x : Object). x.input ≤ run.first + run.many) os.middle cut.to o has

  -- ---- functions

  abbrev also_function : Part → Bool
  also_function = λ (b : Part). not (is_taken_away os os.joined members.FUNCTION (place_of p 0 b.chunk + length (function_imports os.joined)))

  abbrev whole_function : Object → ℕ → FunctionDef → Part
  whole_function o = λ n f. function_part ls.whole.all W (res ls.whole W o) n f

  abbrev run_function : Object → ℕ → FunctionDef → Part
  run_function o = λ n f. function_part ls.run_alone.all RO (res ls.run_alone RO (al_object o)) n f

  abbrev joined_function : ℕ → FunctionDef → Part
  joined_function = λ n f. function_part ls.after.all L (res ls.after L os.joined) n f

  functions_are : kept p 0 ≡ flat_map (λ o. filter (run_kept o) (function_parts ls.run_alone RO (al_object o))) os.middle
  functions_are =
      kept_is run os ls s 0
      ∙ flat_alike (λ o. parts_of_kind 0 (object_parts ls.run_alone RO (al_object o))) (λ o. filter (run_kept o) (function_parts ls.run_alone RO (al_object o))) os.middle (λ o. functions_in ls.run_alone RO (al_object o))

  function_kept : (o : Object) → Has os.middle o → (n : ℕ) (f : FunctionDef) → slice_get o.functions n ≡ Some f
      → (run_kept o (run_function o n f) && also_function (run_function o n f)) ≡ whole_kept o (whole_function o n f)
  function_kept o has n f is = by_kept (is_kept RO (al_object o) members.FUNCTION (n + length (function_imports o))) refl
      ∙ sym ((parts_are_kept run os cut).of_run o members.FUNCTION (n + length (function_imports o)) (above o has) (within o has))
    where
      by_kept : (c : Bool) → is_kept RO (al_object o) members.FUNCTION (n + length (function_imports o)) ≡ c → (c && also_function (run_function o n f)) ≡ (not (is_taken_away os o members.FUNCTION (n + length (function_imports o))) && c)
      by_kept true keeps = ap not (function_taken run os ls s o has n f is keeps) ∙ and_true (not (is_taken_away os o members.FUNCTION (n + length (function_imports o))))
      by_kept false keeps = and_false (not (is_taken_away os o members.FUNCTION (n + length (function_imports o))))

  pub functions_middle : (R S T : Part → Part → Type 0)
      → ((o : Object) → Has os.middle o → (n : ℕ) (f : FunctionDef) → slice_get o.functions n ≡ Some f → R (whole_function o n f) (run_function o n f))
      → ((b : Part) → Has (kept p 0) b → (n : ℕ) (f : FunctionDef) → slice_get os.joined.functions n ≡ Some f → place_of p 0 b.chunk ≡ n → IsFunction os.joined ls.after p b f → S b (joined_function n f))
      → ((x y z : Part) → Has (kept p 0) y → R x y → S y z → T x z)
      → AllZip T (flat_map (λ o. filter (whole_kept o) (function_parts ls.whole W o)) os.middle) (filter joined_kept (function_parts ls.after L os.joined))
  functions_middle R S T first second both =
      zip_middle R S T whole_kept run_kept also_function joined_kept (λ o. function_parts ls.whole W o) (λ o. function_parts ls.run_alone RO (al_object o)) os.middle (function_parts ls.after L os.joined)
      (λ o has. zip_items (λ a b. R a b × ((run_kept o b && also_function b) ≡ whole_kept o a)) (whole_function o) (run_function o) o.functions (λ n f is. (first o has n f is, function_kept o has n f is)))
      (subst (λ xs. AllZip (λ b z. S b z × (joined_kept z ≡ also_function b)) xs (function_parts ls.after L os.joined)) functions_are behind)
      (λ x y z has. both x y z (subst (λ xs. Has xs y) (sym functions_are) has))
    where
      behind : AllZip (λ b z. S b z × (joined_kept z ≡ also_function b)) (kept p 0) (function_parts ls.after L os.joined)
      behind =
          zip_beside_has (kept p 0) os.joined.functions (IsFunction os.joined ls.after p) (λ b z. S b z × (joined_kept z ≡ also_function b)) joined_function
          (λ n b f has hb hf r. (
            second b has n f hf (placed_at 0 n b hb) r,
            (parts_are_kept run os cut).joined members.FUNCTION (n + length (function_imports os.joined))
                ∙ ap (λ k. not (is_taken_away os os.joined members.FUNCTION (k + length (function_imports os.joined)))) (sym (placed_at 0 n b hb)),
          ))
          s.read.functions

  -- ---- segments

  abbrev also_segment : Part → Bool
  also_segment = λ (b : Part). not (is_taken_away os os.joined members.DATA (place_of p 1 b.chunk))

  abbrev whole_segment : Object → ℕ → SegmentDef → Part
  whole_segment o = λ n g. segment_part ls.whole.all W (res ls.whole W o) n g

  abbrev run_segment : Object → ℕ → SegmentDef → Part
  run_segment o = λ n g. segment_part ls.run_alone.all RO (res ls.run_alone RO (al_object o)) n g

  abbrev joined_segment : ℕ → SegmentDef → Part
  joined_segment = λ n g. segment_part ls.after.all L (res ls.after L os.joined) n g

  segments_are : kept p 1 ≡ flat_map (λ o. filter (run_kept o) (segment_parts ls.run_alone RO (al_object o))) os.middle
  segments_are =
      kept_is run os ls s 1
      ∙ flat_alike (λ o. parts_of_kind 1 (object_parts ls.run_alone RO (al_object o))) (λ o. filter (run_kept o) (segment_parts ls.run_alone RO (al_object o))) os.middle (λ o. segments_in ls.run_alone RO (al_object o))

  segment_kept : (o : Object) → Has os.middle o → (n : ℕ) (g : SegmentDef) → slice_get o.segments n ≡ Some g
      → (run_kept o (run_segment o n g) && also_segment (run_segment o n g)) ≡ whole_kept o (whole_segment o n g)
  segment_kept o has n g is = by_kept (is_kept RO (al_object o) members.DATA n) refl ∙ sym ((parts_are_kept run os cut).of_run o members.DATA n (above o has) (within o has))
    where
      by_kept : (c : Bool) → is_kept RO (al_object o) members.DATA n ≡ c → (c && also_segment (run_segment o n g)) ≡ (not (is_taken_away os o members.DATA n) && c)
      by_kept true keeps = ap not (segment_taken run os ls s o has n g is keeps) ∙ and_true (not (is_taken_away os o members.DATA n))
      by_kept false keeps = and_false (not (is_taken_away os o members.DATA n))

  pub segments_middle : (R S T : Part → Part → Type 0)
      → ((o : Object) → Has os.middle o → (n : ℕ) (g : SegmentDef) → slice_get o.segments n ≡ Some g → R (whole_segment o n g) (run_segment o n g))
      → ((b : Part) → Has (kept p 1) b → (n : ℕ) (g : SegmentDef) → slice_get os.joined.segments n ≡ Some g → place_of p 1 b.chunk ≡ n → IsSegment os.joined ls.after p b g → S b (joined_segment n g))
      → ((x y z : Part) → Has (kept p 1) y → R x y → S y z → T x z)
      → AllZip T (flat_map (λ o. filter (whole_kept o) (segment_parts ls.whole W o)) os.middle) (filter joined_kept (segment_parts ls.after L os.joined))
  segments_middle R S T first second both =
      zip_middle R S T whole_kept run_kept also_segment joined_kept (λ o. segment_parts ls.whole W o) (λ o. segment_parts ls.run_alone RO (al_object o)) os.middle (segment_parts ls.after L os.joined)
      (λ o has. zip_items (λ a b. R a b × ((run_kept o b && also_segment b) ≡ whole_kept o a)) (whole_segment o) (run_segment o) o.segments (λ n g is. (first o has n g is, segment_kept o has n g is)))
      (subst (λ xs. AllZip (λ b z. S b z × (joined_kept z ≡ also_segment b)) xs (segment_parts ls.after L os.joined)) segments_are behind)
      (λ x y z has. both x y z (subst (λ xs. Has xs y) (sym segments_are) has))
    where
      behind : AllZip (λ b z. S b z × (joined_kept z ≡ also_segment b)) (kept p 1) (segment_parts ls.after L os.joined)
      behind =
          zip_beside_has (kept p 1) os.joined.segments (IsSegment os.joined ls.after p) (λ b z. S b z × (joined_kept z ≡ also_segment b)) joined_segment
          (λ n b g has hb hg r. (
            second b has n g hg (placed_at 1 n b hb) r,
            (parts_are_kept run os cut).joined members.DATA n ∙ ap (λ k. not (is_taken_away os os.joined members.DATA k)) (sym (placed_at 1 n b hb)),
          ))
          s.read.segments

  -- ---- globals, which no group takes away

  abbrev whole_global : Object → ℕ → GlobalDef → Part
  whole_global o = λ n g. global_part ls.whole.all W (res ls.whole W o) n g

  abbrev run_global : Object → ℕ → GlobalDef → Part
  run_global o = λ n g. global_part ls.run_alone.all RO (res ls.run_alone RO (al_object o)) n g

  abbrev joined_global : ℕ → GlobalDef → Part
  joined_global = λ n g. global_part ls.after.all L (res ls.after L os.joined) n g

  globals_are : kept p 2 ≡ flat_map (λ o. filter (run_kept o) (global_parts ls.run_alone RO (al_object o))) os.middle
  globals_are =
      kept_is run os ls s 2
      ∙ flat_alike (λ o. parts_of_kind 2 (object_parts ls.run_alone RO (al_object o))) (λ o. filter (run_kept o) (global_parts ls.run_alone RO (al_object o))) os.middle (λ o. globals_in ls.run_alone RO (al_object o))

  pub globals_middle : (R S T : Part → Part → Type 0)
      → ((o : Object) → Has os.middle o → (n : ℕ) (g : GlobalDef) → slice_get o.globals n ≡ Some g → R (whole_global o n g) (run_global o n g))
      → ((b : Part) → Has (kept p 2) b → (n : ℕ) (g : GlobalDef) → slice_get os.joined.globals n ≡ Some g → place_of p 2 b.chunk ≡ n → IsGlobal os.joined ls.after p b g → S b (joined_global n g))
      → ((x y z : Part) → Has (kept p 2) y → R x y → S y z → T x z)
      → AllZip T (flat_map (λ o. filter (whole_kept o) (global_parts ls.whole W o)) os.middle) (filter joined_kept (global_parts ls.after L os.joined))
  globals_middle R S T first second both =
      zip_middle R S T whole_kept run_kept (λ b. true) joined_kept (λ o. global_parts ls.whole W o) (λ o. global_parts ls.run_alone RO (al_object o)) os.middle (global_parts ls.after L os.joined)
      (λ o has. zip_items (λ a b. R a b × ((run_kept o b && true) ≡ whole_kept o a)) (whole_global o) (run_global o) o.globals (λ n g is. (first o has n g is, refl)))
      (subst (λ xs. AllZip (λ b z. S b z × (joined_kept z ≡ true)) xs (global_parts ls.after L os.joined)) globals_are behind)
      (λ x y z has. both x y z (subst (λ xs. Has xs y) (sym globals_are) has))
    where
      behind : AllZip (λ b z. S b z × (joined_kept z ≡ true)) (kept p 2) (global_parts ls.after L os.joined)
      behind =
          zip_beside_has (kept p 2) os.joined.globals (IsGlobal os.joined ls.after p) (λ b z. S b z × (joined_kept z ≡ true)) joined_global
          (λ n b g has hb hg r. (second b has n g hg (placed_at 2 n b hb) r, refl)) s.read.globals
