-- What is made of kept functions, segments and globals is what the definition makes of them.
use Rattle.std.proofs.Common.{◌≡◌, ℕ, zero, suc, ◌+◌, ◌-◌, ◌<◌, ◌==◌, Bool, true, false, cond, List, [], ◌∷◌, map, filter_map, find, length, get_or, slice_get, position, Option, Some, None, option_map, option_and_then, unwrap_or, refl, sym, ap, subst, ◌∙◌, arith, All}
use Rattle.std.specs.Prelude.{if◌then◌else◌}
use Rattle.std.proofs.lemmas.Bool.{eqb-true}
use Rattle.std.proofs.lemmas.List.Elements.{All-head, All-tail}
use Rattle.std.proofs.lemmas.Option.{slice_get-map, same_Some, none-some}
use Rattle.partial_tree.specs.link_program.wasm_types.declared.function.FuncType.{FuncType}
use Rattle.partial_tree.specs.link_program.wasm_module.declared.parts.Export.{Export}
use Rattle.partial_tree.specs.link_program.linking_section.declared.symbol.SymbolKind.TheVariants.{Function as FunctionKind}
use Rattle.partial_tree.specs.link_program.object_columns.declared.functions.FunctionDef.{FunctionDef}
use Rattle.partial_tree.specs.link_program.object_columns.declared.segments.SegmentDef.{SegmentDef}
use Rattle.partial_tree.specs.link_program.object_parts.declared.parts.GlobalDef.{GlobalDef}
use Rattle.partial_tree.specs.link_program.object_file.declared.object.Object.{Object}
use Rattle.partial_tree.specs.link_program.object_file.Objects.{no_info}
use Rattle.partial_tree.specs.link_program.object_file.Spaces.{no_type, defined_type}
use Rattle.partial_tree.specs.link_program.mark_bits.declared.chunk.Chunk.{Chunk}
use Rattle.partial_tree.specs.link_program.made_symbols.declared.mode.Mode.TheVariants.{Plain}
use Rattle.partial_tree.specs.link_program.name_rules.Entries.{InputSymbol}
use Rattle.partial_tree.specs.link_program.name_rules.Meanings.{Resolved, resolve, resolved_in, uses_of}
use Rattle.partial_tree.specs.link_program.link_rules.Program as rules
use Rattle.partial_tree.specs.link_program.link_rules.Program.{Program, Part, same_chunk, function, segment, global, linker_made}
use Rattle.partial_tree.specs.link_program.link_rules.Keys.{content_type}
use Rattle.partial_tree.specs.link_program.link_rules.Marks.{resolved_at}
use Rattle.partial_tree.specs.link_program.declared.program.Program.{Program as Data}
use Rattle.partial_tree.specs.link_program.declared.program.Tables.{Tables}
use Rattle.partial_tree.specs.link_program.declared.part.Content.{Content}
use Rattle.partial_tree.specs.link_program.declared.part.Content.TheVariants as contents
use Rattle.partial_tree.specs.link_program.declared.part.Part.{Part as Told}
use Rattle.partial_tree.specs.link_program.Look.{no_part, part_at}
use Rattle.partial_tree.specs.link_program.Seen.{SeenPart, a_function, seen_content, told_content, HasType}
use Rattle.partial_tree.specs.link_program.Program.{IsProgramOf}
use Rattle.partial_tree.proofs.link_program_lemmas.Chunks.{stands_at}
use Rattle.partial_tree.specs.partial_rules.Partial as partial
use Rattle.partial_tree.specs.partial_rules.Partial.{relocatable}
use Rattle.partial_tree.specs.partial_parts.Kept.{Kept, place_at, AreKept}
use Rattle.partial_items.specs.Owned.{object_at, segment_at, global_at, content_in, content_of}
use Rattle.partial_items.specs.Types.{content_number, function_type_number}
use Rattle.partial_items.specs.Items.{chunk_of, spelled, global_for, export_name, export_with, export_for, info_for}
use Rattle.partial_items.proofs.Owners.{Owned, all_owned}
use Rattle.partial_items.proofs.Listed.{IsKept, all_kept, of_object, of_kind, at_number, maps_agree, founds_agree, part_seen}

-- ---- what stands at a chunk of a kind

record Stands (objects : List Object) (c : Chunk) (kind : ℕ) (x : rules.Content) : Type 0 where
  object : Object
  found : object_at objects c.input ≡ Some object
  there : content_in object kind c.index ≡ Some x

stands_there : (objects : List Object) (c : Chunk) (kind : ℕ) (x : rules.Content) → content_of objects c ≡ Some x → (c.kind == kind) ≡ true → Stands objects c kind x
stands_there objects c kind x is same = by (object_at objects c.input) refl
  where
    by : (o : Option Object) → object_at objects c.input ≡ o → Stands objects c kind x
    by None none = absurd (none-some x (sym (ap (option_and_then (λ o. content_in o c.kind c.index)) none) ∙ is))
    by (Some o) found = record {
      object = o;
      found = found;
      there = sym (ap (λ k. content_in o k c.index) (eqb-true c.kind kind same)) ∙ (sym (ap (option_and_then (λ o. content_in o c.kind c.index)) found) ∙ is);
    }

-- a function
is_function : (objects : List Object) (c : Chunk) (x : rules.Content) → Stands objects c 0 x → (t : FuncType) × (x ≡ function t)
is_function objects c x s = by (slice_get s.object.functions c.index) s.there
  where
    by : (f : Option FunctionDef) → option_map (λ (f : FunctionDef). function (defined_type s.object f)) f ≡ Some x → (t : FuncType) × (x ≡ function t)
    by None is = absurd (none-some x is)
    by (Some f) is = (defined_type s.object f, sym (same_Some (function (defined_type s.object f)) x is))

-- a segment
info_is : (p : Program) (objects : List Object) (c : Chunk) (x : rules.Content) → Stands objects c 1 x → unwrap_or (option_map (λ (g : SegmentDef). g.info) (segment_at objects c)) no_info ≡ partial.content_info p x
info_is p objects c x s =
    ap (λ o. unwrap_or (option_map (λ (g : SegmentDef). g.info) (option_and_then (λ (o : Object). slice_get o.segments c.index) o)) no_info) s.found
    ∙ by (slice_get s.object.segments c.index) s.there
  where
    by : (g : Option SegmentDef) → option_map (λ (g : SegmentDef). segment g.info) g ≡ Some x → unwrap_or (option_map (λ (g : SegmentDef). g.info) g) no_info ≡ partial.content_info p x
    by None is = absurd (none-some x is)
    by (Some g) is = ap (partial.content_info p) (same_Some (segment g.info) x is)

-- a global
global_is : (p : Program) (c : Chunk) (x : rules.Content) → Stands p.objects c 2 x → option_map (spelled p.files c.input) (global_at p.objects c) ≡ partial.global_in p c.input x
global_is p c x s =
    ap (λ o. option_map (spelled p.files c.input) (option_and_then (λ (o : Object). slice_get o.globals c.index) o)) s.found
    ∙ by (slice_get s.object.globals c.index) s.there
  where
    by : (g : Option GlobalDef) → option_map (λ (g : GlobalDef). global g) g ≡ Some x → option_map (spelled p.files c.input) g ≡ partial.global_in p c.input x
    by None is = absurd (none-some x is)
    by (Some g) is = ap (partial.global_in p c.input) (same_Some (global g) x is)

-- ---- types by number

mapped_number : (f : FuncType → ℕ) (types : List FuncType) (n : ℕ) → n < length types → get_or (map f types) n 0 ≡ f (get_or types n no_type)
mapped_number f [] n lt = absurd (omega (arith, lt))
mapped_number f (t ∷ types) zero lt = refl
mapped_number f (t ∷ types) (suc n) lt = mapped_number f types n (omega (arith, lt))

content_is : (f : FuncType → ℕ) (types : List FuncType) (c : Content) (t : FuncType) → seen_content types c ≡ a_function t → HasType types c → content_number (map f types) c ≡ f t
content_is f types (contents.Function number) t same there = mapped_number f types number there ∙ ap f (let e : get_or types number no_type ≡ t = cc in e)
content_is f types (contents.Segment align flags) t same there = absurd cc
content_is f types (contents.Global kind value) t same there = absurd cc
content_is f types contents.Made t same there = absurd cc

all_or : {A : Type 0} (P : A → Type 0) (xs : List A) (n : ℕ) (d : A) → All P xs → P d → P (get_or xs n d)
all_or P [] n d all none = none
all_or P (x ∷ xs) zero d all none = All-head P x xs all
all_or P (x ∷ xs) (suc n) d all none = all_or P xs n d (All-tail P x xs all) none

-- ---- by the tables of a program

module _ (d : Data) (p : Program) (is : IsProgramOf Plain d p) where
  abbrev t : Tables
  t = d.tables.now

  chunk_is : (n : ℕ) (part : Part) → slice_get p.parts n ≡ Some part → chunk_of t n ≡ part.chunk
  chunk_is n part at = ap (λ (s : SeenPart). s.chunk) (part_seen d p is n part at)

  module _ (strict : p.plan.loose_calls ≡ false) where
    stands : (kind n : ℕ) (part : Part) → slice_get p.parts n ≡ Some part → IsKept kind part → Stands p.objects part.chunk kind part.content
    stands kind n part at kept =
        stands_there p.objects part.chunk kind part.content (at_number (Owned p.objects) p.parts n part (all_owned d p is strict) at (of_object kind part kept)) (of_kind kind part kept)

    type_is : (n : ℕ) (part : Part) → slice_get p.parts n ≡ Some part → IsKept 0 part → function_type_number t (map (partial.type_number p) t.types) n ≡ partial.type_number p (content_type part.content)
    type_is n part at kept =
        let f = is_function p.objects part.chunk part.content (stands 0 n part at kept) in
        content_is (partial.type_number p) t.types (part_at t n).content f.0
        (ap (λ (s : SeenPart). s.content) (part_seen d p is n part at) ∙ ap told_content f.1)
        (all_or (λ (x : Told). HasType t.types x.content) t.parts n no_part is.tables.types_there tt)
        ∙ sym (ap (λ x. partial.type_number p (content_type x)) f.1)

    pub functions_are : (numbers ns : List ℕ) → numbers ≡ map (partial.type_number p) t.types → map (slice_get p.parts) ns ≡ map Some (partial.kept p 0)
        → map (function_type_number t numbers) ns ≡ (relocatable p).functions
    unfolding relocatable
    functions_are numbers ns numbered same =
        ap (λ xs. map (function_type_number t xs) ns) numbered
        ∙ maps_agree p.parts (IsKept 0) (function_type_number t (map (partial.type_number p) t.types)) (λ (part : Part). partial.type_number p (content_type part.content)) type_is ns (partial.kept p 0) same (all_kept p 0)

    one_global : (n : ℕ) (part : Part) → slice_get p.parts n ≡ Some part → IsKept 2 part → global_for p.files p.objects t n ≡ partial.global_in p part.chunk.input part.content
    one_global n part at kept =
        ap (λ (c : Chunk). option_map (spelled p.files c.input) (global_at p.objects c)) (chunk_is n part at) ∙ global_is p part.chunk part.content (stands 2 n part at kept)

    pub globals_are : (ns : List ℕ) → map (slice_get p.parts) ns ≡ map Some (partial.kept p 2) → filter_map (global_for p.files d.objects.now t) ns ≡ (relocatable p).globals
    unfolding relocatable
    globals_are ns same =
        ap (λ os. filter_map (global_for p.files os t) ns) is.objects
        ∙ founds_agree p.parts (IsKept 2) (global_for p.files p.objects t) (λ (part : Part). partial.global_in p part.chunk.input part.content) one_global ns (partial.kept p 2) same (all_kept p 2)

    one_info : (n : ℕ) (part : Part) → slice_get p.parts n ≡ Some part → IsKept 1 part → info_for p.objects t n ≡ partial.content_info p part.content
    one_info n part at kept =
        ap (λ (c : Chunk). unwrap_or (option_map (λ (g : SegmentDef). g.info) (segment_at p.objects c)) no_info) (chunk_is n part at) ∙ info_is p p.objects part.chunk part.content (stands 1 n part at kept)

    pub infos_are : (ns : List ℕ) → map (slice_get p.parts) ns ≡ map Some (partial.kept p 1) → map (info_for d.objects.now t) ns ≡ (relocatable p).infos
    unfolding relocatable
    infos_are ns same =
        ap (λ os. map (info_for os t) ns) is.objects
        ∙ maps_agree p.parts (IsKept 1) (info_for p.objects t) (λ (part : Part). partial.content_info p part.content) one_info ns (partial.kept p 1) same (all_kept p 1)

  -- ---- exports

  abbrev resolved : Object → Resolved
  resolved o = resolved_in Plain (uses_of Plain p.objects) p.plan.allow_undefined p.entries p.objects o

  abbrev exported_in : ℕ → Object → Option (List ℕ)
  exported_in index o = option_and_then (λ (f : FunctionDef). f.export_name) (slice_get o.functions index)

  in_turn : (index : ℕ) (o : Option Object) → option_and_then (λ (f : FunctionDef). f.export_name) (option_and_then (λ (o : Object). slice_get o.functions index) o) ≡ option_and_then (exported_in index) o
  in_turn index None = refl
  in_turn index (Some o) = refl

  by_resolved : (input index : ℕ) (os : List Object) → option_and_then (exported_in index) (find (λ (o : Object). o.input == input) os)
      ≡ option_and_then (λ (r : Resolved). exported_in index r.object) (find (λ (r : Resolved). r.object.input == input) (map resolved os))
  by_resolved input index [] = refl
  by_resolved input index (o ∷ os) = by (o.input == input) (by_resolved input index os)
    where
      by : (b : Bool) → option_and_then (exported_in index) (find (λ (o : Object). o.input == input) os) ≡ option_and_then (λ (r : Resolved). exported_in index r.object) (find (λ (r : Resolved). r.object.input == input) (map resolved os))
          → option_and_then (exported_in index) (cond b (Some o) (find (λ (o : Object). o.input == input) os))
          ≡ option_and_then (λ (r : Resolved). exported_in index r.object) (cond b (Some (resolved o)) (find (λ (r : Resolved). r.object.input == input) (map resolved os)))
      by true again = refl
      by false again = again

  resolved_are : p.resolved ≡ map resolved p.objects
  unfolding resolve
  resolved_are = is.resolved

  name_is : (c : Chunk) → export_name p.objects c ≡ partial.exported_name p c
  name_is c =
      in_turn c.index (object_at p.objects c.input)
      ∙ (by_resolved c.input c.index p.objects
      ∙ ap (λ rs. option_and_then (λ (r : Resolved). exported_in c.index r.object) (resolved_at rs c.input)) (sym resolved_are))

  -- the place of a kept part is the one that is noted
  pub place_is : (k : Kept) → AreKept p k → (kind n : ℕ) (part : Part) → kind < 3 → slice_get p.parts n ≡ Some part → IsKept kind part → get_or k.places n 0 ≡ partial.place_of p kind part.chunk
  place_is k are kind n part below at kept =
      let chunks : List Chunk = map (λ (x : Part). x.chunk) p.parts in
      let there : slice_get chunks n ≡ Some part.chunk = slice_get-map (λ (x : Part). x.chunk) p.parts n ∙ ap (option_map (λ (x : Part). x.chunk)) at in
      let number : position (same_chunk part.chunk) chunks ≡ Some n = stands_at chunks part.chunk n there (λ m other. is.tables.differ m n part.chunk other there) in
      let same : part.chunk.kind ≡ kind = eqb-true part.chunk.kind kind (of_kind kind part kept) in
      sym (ap (place_at k) number)
      ∙ (are.places part.chunk (of_object kind part kept) (subst (λ m. m < 3) (sym same) below)
      ∙ ap (λ m. partial.place_of p m part.chunk) same)

  one_export : (k : Kept) (imported : ℕ) → AreKept p k → imported ≡ length (partial.open_of p FunctionKind) → (n : ℕ) (part : Part) → slice_get p.parts n ≡ Some part → IsKept 0 part
      → export_for p.objects t k imported n ≡ partial.export_for p part
  one_export k imported are counted n part at kept =
      let place = place_is k are 0 n part (omega arith) at kept in
      let name = ap (export_name p.objects) (chunk_is n part at) ∙ name_is part.chunk in
      λ i. option_map (export_with (counted i + place i)) (name i)

  pub exports_are : (k : Kept) (imported : ℕ) → AreKept p k → imported ≡ length (partial.open_of p FunctionKind) → filter_map (export_for d.objects.now t k imported) k.functions ≡ (relocatable p).exports
  unfolding relocatable
  exports_are k imported are counted =
      ap (λ os. filter_map (export_for os t k imported) k.functions) is.objects
      ∙ founds_agree p.parts (IsKept 0) (export_for p.objects t k imported) (partial.export_for p) (one_export k imported are counted) k.functions (partial.kept p 0) are.functions (all_kept p 0)
