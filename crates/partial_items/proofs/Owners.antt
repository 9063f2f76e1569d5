-- What the kept parts are is what their objects have at their places.
use Rattle.std.proofs.Common.{◌≡◌, ℕ, suc, ◌+◌, ◌<◌, ◌==◌, Bool, true, false, ◌&&◌, cond, List, [], ◌∷◌, ◌++◌, map, filter, flat_map, find, length, get_or, slice_get, Option, Some, None, option_map, option_and_then, refl, sym, ap, subst, ◌∙◌, arith, All}
use Rattle.std.specs.Prelude.{if◌then◌else◌, IfSome}
use Rattle.std.specs.List.{AllByRecursion}
use Rattle.std.proofs.lemmas.Bool.{eqb-true}
use Rattle.std.proofs.lemmas.List.Elements.{All-append, All-cons, All-nil, All-head, All-tail, All-filter}
use Rattle.std.proofs.lemmas.Option.{slice_get-map, same_Some, none-some, get_or_from_slice_get, slice_get_within}
use Rattle.partial_tree.specs.link_program.linking_section.declared.symbol.SymbolKind.{SymbolKind}
use Rattle.partial_tree.specs.link_program.linking_section.declared.symbol.SymbolKind.TheVariants.{Function, Datum, GlobalVar, Section, Table}
use Rattle.partial_tree.specs.link_program.object_columns.declared.functions.FunctionDef.{FunctionDef}
use Rattle.partial_tree.specs.link_program.object_columns.declared.segments.SegmentDef.{SegmentDef}
use Rattle.partial_tree.specs.link_program.object_parts.declared.parts.GlobalDef.{GlobalDef}
use Rattle.partial_tree.specs.link_program.object_file.declared.object.Object.{Object}
use Rattle.partial_tree.specs.link_program.object_file.Spaces.{defined_type}
use Rattle.partial_tree.specs.link_program.made_symbols.declared.mode.Mode.TheVariants.{Plain}
use Rattle.partial_tree.specs.link_program.made_symbols.Made.{made, MadeSymbol}
use Rattle.partial_tree.specs.link_program.round_rules.Rounds.{Candidate}
use Rattle.partial_tree.specs.link_program.name_rules.Entries.{InputSymbol, made_entry}
use Rattle.partial_tree.specs.link_program.name_rules.Meanings.{Resolved, resolve, resolved_in, uses_of}
use Rattle.partial_tree.specs.link_program.name_entries.View.{InputsRise}
use Rattle.partial_tree.specs.link_program.link_rules.Program.{Program, Part, Ref, Content, function, segment, global, linker_made, no_source, a_symbol, init_calls, parts_of, parts_in, loose_parts, made_parts_from, made_part, made_kind, option_onto, indexed, function_part, segment_part, global_part, is_part_kept}
use Rattle.partial_tree.specs.link_program.declared.program.Program.{Program as Data}
use Rattle.partial_tree.specs.link_program.Program.{IsProgramOf}
use Rattle.partial_items.specs.Owned.{object_at, content_in, content_of}
use Rattle.partial_items.proofs.Sought.{found_itself}

-- ---- where the object of an input stands

is_there : (objects : List Object) (place input : ℕ) (o : Object) → InputsRise 0 objects → slice_get objects place ≡ Some o → (o.input == input) ≡ true → slice_get objects place ≡ object_at objects input
is_there objects place input o rise at same =
    let own : get_or objects place o ≡ o = get_or_from_slice_get objects place o o at in
    at
    ∙ (sym (ap (λ (x : Object). Some x) own)
    ∙ (sym (found_itself objects place o rise (slice_get_within objects place o at))
    ∙ ap (object_at objects) (ap (λ (x : Object). x.input) own ∙ eqb-true o.input input same)))

pub is_near : (objects : List Object) (place input own : ℕ) → InputsRise 0 objects → Some own ≡ option_map (λ (o : Object). o.input) (slice_get objects place) → (own == input) ≡ true
    → slice_get objects place ≡ object_at objects input
is_near objects place input own rise is same = by (slice_get objects place) refl is
  where
    by : (x : Option Object) → slice_get objects place ≡ x → Some own ≡ option_map (λ (o : Object). o.input) x → slice_get objects place ≡ object_at objects input
    by None at e = absurd (none-some own (sym e))
    by (Some o) at e = is_there objects place input o rise at (ap (λ n. n == input) (sym (same_Some own o.input e)) ∙ same)

-- ---- the parts of an object

-- A part of an object is what the object has there.
abbrev pub Owned : List Object → Part → Type 0
Owned objects part = (part.chunk.input == 0) ≡ false → content_of objects part.chunk ≡ Some part.content

indexed_all : {A B : Type 0} (Q : B → Type 0) (f : ℕ → A → B) (at : ℕ) (xs : List A) → ((k : ℕ) (x : A) → slice_get xs k ≡ Some x → Q (f (at + k) x)) → All Q (indexed f at xs)
indexed_all Q f at [] each = All-nil Q
indexed_all Q f at (x ∷ xs) each =
    let none : at + 0 ≡ at = omega arith in
    All-cons Q (f at x) (indexed f (at + 1) xs) (subst (λ n. Q (f n x)) none (each 0 x refl))
    (indexed_all Q f (at + 1) xs (λ k y is. let moved : at + suc k ≡ at + 1 + k = omega arith in subst (λ n. Q (f n y)) moved (each (suc k) y is)))

module _ (objects : List Object) (all : List Candidate) (r : Resolved) (own : object_at objects r.object.input ≡ Some r.object) where
  from_there : (kind k : ℕ) (c : Content) → content_in r.object kind k ≡ Some c → option_and_then (λ o. content_in o kind (0 + k)) (object_at objects r.object.input) ≡ Some c
  from_there kind k c is =
      let plain : 0 + k ≡ k = omega arith in
      ap (option_and_then (λ o. content_in o kind (0 + k))) own ∙ (ap (content_in r.object kind) plain ∙ is)

  object_owns : All (Owned objects) (parts_in all objects r)
  object_owns =
      let o = r.object in
      All-filter (is_part_kept all objects r) (Owned objects) _
      (All-append (Owned objects) _ _
      (All-append (Owned objects) _ _
      (indexed_all (Owned objects) (function_part all objects r) 0 o.functions (λ k f at input. from_there 0 k (function (defined_type o f)) (ap (option_map (λ (f : FunctionDef). function (defined_type o f))) at)))
      (indexed_all (Owned objects) (segment_part all objects r) 0 o.segments (λ k g at input. from_there 1 k (segment g.info) (ap (option_map (λ (g : SegmentDef). segment g.info)) at))))
      (indexed_all (Owned objects) (global_part all objects r) 0 o.globals (λ k g at input. from_there 2 k (global g) (ap (option_map (λ (g : GlobalDef). global g)) at))))

-- ---- the linker's own

module _ (objects : List Object) (calls : List Ref) where
  made_owned : (e : InputSymbol) (m : MadeSymbol) → IfSome (made_part calls e m) (Owned objects)
  made_owned e m = by m.kind
    where
      by : (kind : SymbolKind) → IfSome (option_map (λ kind. let part : Part = record {
        chunk = record { input = 0; kind = kind; index = e.place };
        content = linker_made m;
        source = no_source;
        named = if (kind == 0) && (e.place == 0) then map a_symbol calls else [];
      } in part) (made_kind kind)) (Owned objects)
      by Function = λ input. absurd cc
      by Datum = tt
      by GlobalVar = λ input. absurd cc
      by Section = tt
      by Table = tt

  onto : (o : Option Part) (parts : List Part) → IfSome o (Owned objects) → All (Owned objects) parts → All (Owned objects) (option_onto o parts)
  onto None parts is all = all
  onto (Some part) parts is all = All-cons (Owned objects) part parts is all

  all_made : (place : ℕ) (ms : List MadeSymbol) → All (Owned objects) (made_parts_from calls place ms)
  all_made place [] = All-nil (Owned objects)
  all_made place (m ∷ ms) = onto (made_part calls (made_entry place m) m) (made_parts_from calls (place + 1) ms) (made_owned (made_entry place m) m) (all_made (place + 1) ms)

-- ---- all parts

module _ (p : Program) (es : List InputSymbol) (allow : Bool) (all : List Candidate) where
  abbrev resolved : Object → Resolved
  resolved o = resolved_in Plain (uses_of Plain p.objects) allow es p.objects o

  of_objects : (os : List Object) → All (λ (o : Object). object_at p.objects o.input ≡ Some o) os → All (Owned p.objects) (flat_map (parts_in all p.objects) (map resolved os))
  of_objects [] each = All-nil (Owned p.objects)
  of_objects (o ∷ os) each =
      All-append (Owned p.objects) (parts_in all p.objects (resolved o)) (flat_map (parts_in all p.objects) (map resolved os))
      (object_owns p.objects all (resolved o) (All-head (λ (o : Object). object_at p.objects o.input ≡ Some o) o os each))
      (of_objects os (All-tail (λ (o : Object). object_at p.objects o.input ≡ Some o) o os each))

  of_all : InputsRise 0 p.objects → All (Owned p.objects) (parts_of Plain all p.objects (resolve Plain allow es p.objects))
  unfolding parts_of resolve
  of_all rise =
      All-append (Owned p.objects) (made_parts_from (init_calls (map resolved p.objects)) 0 (made Plain)) (flat_map (parts_in all p.objects) (map resolved p.objects))
      (all_made p.objects (init_calls (map resolved p.objects)) 0 (made Plain))
      (of_objects p.objects (λ k d within. found_itself p.objects k d rise within))

-- Each part of an object is what the object has there.
pub all_owned : (d : Data) (p : Program) → IsProgramOf Plain d p → p.plan.loose_calls ≡ false → All (Owned p.objects) p.parts
all_owned d p is strict =
    subst (All (Owned p.objects)) (sym plain) (subst (λ rs. All (Owned p.objects) (parts_of Plain is.parts_are.0 p.objects rs)) (sym is.resolved) (of_all p p.entries p.plan.allow_undefined is.parts_are.0 is.rise))
  where
    plain : p.parts ≡ parts_of Plain is.parts_are.0 p.objects p.resolved
    plain = is.parts_are.1 ∙ ap (λ b. loose_parts b p.entries (parts_of Plain is.parts_are.0 p.objects p.resolved)) strict
