-- The chunks of each kind are those of the whole link, moved, in one order.
use Rattle.std.proofs.Common.{◌≡◌, ℕ, zero, suc, ◌+◌, ◌<◌, ◌≤◌, ◌==◌, Bool, true, false, ◌&&◌, List, [], ◌∷◌, ◌++◌, map, filter, refl, sym, ap, ◌∙◌, subst, arith}
use Rattle.std.specs.Prelude.{if◌then◌else◌, nat_lt, nat_le, Option, Some, None, option_map, flat_map}
use Rattle.std.specs.List.{AllZip}
use Rattle.std.proofs.lemmas.Bool.{lt-ltb, le-ltb}
use Rattle.std.proofs.lemmas.Bool.Decides.{nat_tests}
use Rattle.list_places.specs.Has.{Has}
use Rattle.list_places.proofs.Lists.{all_has}
use Rattle.made_symbols.specs.declared.mode.Mode.TheVariants.{Plain}
use Rattle.made_symbols.specs.Made.{MadeSymbol, made}
use Rattle.name_rules.specs.object_file.object_parts.declared.parts.GlobalDef.{GlobalDef}
use Rattle.name_rules.specs.object_file.object_columns.declared.functions.FunctionDef.{FunctionDef}
use Rattle.name_rules.specs.object_file.object_columns.declared.segments.SegmentDef.{SegmentDef}
use Rattle.name_rules.specs.object_file.declared.object.Object.{Object}
use Rattle.name_rules.specs.Entries.{made_entry}
use Rattle.mark_bits.specs.declared.chunk.Chunk.{Chunk}
use Rattle.link_rules.specs.Program.{Program, Part, Ref, option_onto, made_kind, made_parts_from, init_calls, function_part, segment_part, global_part, kept_in, chunk_at}
use Rattle.link_rules.specs.Keys.{parts_of_kind}
use Rattle.partial_rules.specs.Partial.{place_of}
use Rattle.partial_laws.specs.Inputs.{Run, Objects, as_input, alone, later, whole_objects, run_objects, later_objects, AreCut}
use Rattle.partial_parts_laws.specs.Linked.{Links, alone_program, whole_program, later_program}
use Rattle.partial_parts_laws.specs.Moves.{moved_chunk, StandsInLinks, ChunksMove, ChunksAreMoved}
use Rattle.partial_parts_laws.proofs.Zips.{zip_map, zip_filter, flat_alike}
use Rattle.partial_parts_laws.proofs.Parts.{res, own_parts, object_parts, parts_by, function_parts, segment_parts, global_parts, functions_in, segments_in, globals_in}
use Rattle.partial_parts_laws.proofs.ByKind.{whole_zip, before_zip, behind_zip}
use Rattle.partial_parts_laws.proofs.RunParts.{own_part}
use Rattle.partial_parts_laws.proofs.Middles.{functions_middle, segments_middle, globals_middle}

module _ (run : Run) (os : Objects) (p : Program) where
  abbrev move : Chunk → Chunk
  move = moved_chunk run os p

  pub chunk_before : (c : Chunk) → c.input ≤ run.first → move c ≡ c
  chunk_before c le =
      let no : nat_lt run.first c.input ≡ false = le-ltb run.first c.input le in
      let low : nat_le c.input run.first ≡ true = grind (arith, nat_tests, le) in
      ap (λ (b : Bool). if b && nat_le c.input (run.first + run.many) then joined_at else (if nat_le c.input run.first then c else chunk_at (later run c.input) c.kind c.index)) no
      ∙ ap (λ (b : Bool). if b then c else chunk_at (later run c.input) c.kind c.index) low
    where
      joined_at : Chunk
      joined_at = chunk_at os.joined.input c.kind (place_of p c.kind (chunk_at (alone run c.input) c.kind c.index))

  and_false : (b : Bool) → (b && false) ≡ false
  and_false true = refl
  and_false false = refl

  pub chunk_behind : (c : Chunk) → run.first + run.many < c.input → move c ≡ chunk_at (later run c.input) c.kind c.index
  chunk_behind c lt =
      let no : nat_le c.input (run.first + run.many) ≡ false = grind (arith, nat_tests, lt) in
      let high : nat_le c.input run.first ≡ false = grind (arith, nat_tests, lt) in
      ap (λ (b : Bool). if nat_lt run.first c.input && b then joined_at else (if nat_le c.input run.first then c else chunk_at (later run c.input) c.kind c.index)) no
      ∙ (ap (λ (b : Bool). if b then joined_at else (if nat_le c.input run.first then c else chunk_at (later run c.input) c.kind c.index)) (and_false (nat_lt run.first c.input))
      ∙ ap (λ (b : Bool). if b then c else chunk_at (later run c.input) c.kind c.index) high)
    where
      joined_at : Chunk
      joined_at = chunk_at os.joined.input c.kind (place_of p c.kind (chunk_at (alone run c.input) c.kind c.index))

  pub chunk_inside : (c : Chunk) → run.first < c.input → c.input ≤ run.first + run.many → move c ≡ chunk_at os.joined.input c.kind (place_of p c.kind (chunk_at (alone run c.input) c.kind c.index))
  chunk_inside c gt le =
      let low : nat_lt run.first c.input ≡ true = lt-ltb run.first c.input gt in
      let high : nat_le c.input (run.first + run.many) ≡ true = grind (arith, nat_tests, le) in
      ap (λ (b : Bool). if b then joined_at else (if nat_le c.input run.first then c else chunk_at (later run c.input) c.kind c.index))
      (ap (λ (b : Bool). b && nat_le c.input (run.first + run.many)) low ∙ high)
    where
      joined_at : Chunk
      joined_at = chunk_at os.joined.input c.kind (place_of p c.kind (chunk_at (alone run c.input) c.kind c.index))

-- the linker's parts, whatever init functions are called
pub own_zip : (T : Part → Part → Type 0) (calls calls_too : List Ref) → ((at : ℕ) (m : MadeSymbol) (k : ℕ) → T (own_part calls (made_entry at m) m k) (own_part calls_too (made_entry at m) m k))
    → (at : ℕ) (ms : List MadeSymbol) → AllZip T (made_parts_from calls at ms) (made_parts_from calls_too at ms)
own_zip T calls calls_too each at [] = tt
own_zip T calls calls_too each at (m ∷ ms) = by_kind (made_kind m.kind) (own_zip T calls calls_too each (at + 1) ms)
  where
    by_kind : (k : Option ℕ) → AllZip T (made_parts_from calls (at + 1) ms) (made_parts_from calls_too (at + 1) ms)
        → AllZip T (option_onto (option_map (own_part calls (made_entry at m) m) k) (made_parts_from calls (at + 1) ms)) (option_onto (option_map (own_part calls_too (made_entry at m) m) k) (made_parts_from calls_too (at + 1) ms))
    by_kind None rest = rest
    by_kind (Some k) rest = (each at m k, rest)

module _ (run : Run) (os : Objects) (ls : Links) (s : StandsInLinks run os ls) where
  abbrev cut : AreCut run os
  cut = s.names.cut

  abbrev p : Program
  p = alone_program run os ls

  abbrev W : List Object
  W = whole_objects os

  abbrev L : List Object
  L = later_objects run os

  abbrev RO : List Object
  RO = run_objects run os

  abbrev behind_object : Object → Object
  behind_object o = as_input (later run o.input) o

  abbrev run_object : Object → Object
  run_object o = as_input (alone run o.input) o

  abbrev Moved : Part → Part → Type 0
  Moved x y = y.chunk ≡ moved_chunk run os p x.chunk

  abbrev whole_calls : List Ref
  whole_calls = init_calls (whole_program run os ls).resolved

  abbrev later_calls : List Ref
  later_calls = init_calls (later_program run os ls).resolved

  record Of (k : ℕ) (a b : Part) : Type 0 where
    kind : a.chunk.kind ≡ k
    from : run.first < a.chunk.input
    to : a.chunk.input ≤ run.first + run.many
    chunk : b.chunk ≡ chunk_at (alone run a.chunk.input) a.chunk.kind a.chunk.index

  abbrev Stood : ℕ → Part → Part → Type 0
  Stood k b z = z.chunk ≡ chunk_at os.joined.input k (place_of p k b.chunk)

  both : (k : ℕ) (x y z : Part) → Of k x y → Stood k y z → Moved x z
  both k x y z o st =
      st ∙ (ap (λ (c : Chunk). chunk_at os.joined.input k (place_of p k c)) o.chunk
      ∙ (ap (λ n. chunk_at os.joined.input n (place_of p n (chunk_at (alone run x.chunk.input) x.chunk.kind x.chunk.index))) (sym o.kind) ∙ sym (chunk_inside run os p x.chunk o.from o.to)))

  own_moved : (k : ℕ) → AllZip Moved (parts_of_kind k (own_parts ls.whole W)) (parts_of_kind k (own_parts ls.after L))
  own_moved k =
      zip_filter Moved (λ x. x.chunk.kind == k) (λ y. y.chunk.kind == k)
      (λ x y e. ap (λ (c : Chunk). c.kind == k) e ∙ kind_stays x.chunk) (own_parts ls.whole W) (own_parts ls.after L)
      (own_zip Moved whole_calls later_calls (λ at m kind. sym (chunk_before run os p (chunk_at 0 kind at) (omega arith))) 0 (made Plain))
    where
      kind_stays : (c : Chunk) → ((moved_chunk run os p c).kind == k) ≡ (c.kind == k)
      kind_stays c = by_test (nat_lt run.first c.input && nat_le c.input (run.first + run.many)) (nat_le c.input run.first)
        where
          by_test : (a b : Bool) → ((if a then chunk_at os.joined.input c.kind (place_of p c.kind (chunk_at (alone run c.input) c.kind c.index)) else (if b then c else chunk_at (later run c.input) c.kind c.index)).kind == k) ≡ (c.kind == k)
          by_test true b = refl
          by_test false true = refl
          by_test false false = refl

  before_moved : (o : Object) → Has os.before o → (kind n : ℕ) → chunk_at o.input kind n ≡ moved_chunk run os p (chunk_at o.input kind n)
  before_moved o has kind n = sym (chunk_before run os p (chunk_at o.input kind n) (all_has (λ (x : Object). x.input ≤ run.first) os.before cut.before o has))

  behind_moved : (o : Object) → Has os.behind o → (kind n : ℕ) → chunk_at (later run o.input) kind n ≡ moved_chunk run os p (chunk_at o.input kind n)
  behind_moved o has kind n = sym (chunk_behind run os p (chunk_at o.input kind n) (all_has (λ (x : Object). run.first + run.many < x.input) os.behind cut.behind o has))

  inside : (o : Object) → Has os.middle o → (k : ℕ) (a b : Part) → a.chunk.kind ≡ k → a.chunk.input ≡ o.input → b.chunk ≡ chunk_at (alone run a.chunk.input) a.chunk.kind a.chunk.index → Of k a b
  inside o has k a b kind input chunk =
      let gt = all_has (λ (x : Object). run.first < x.input) os.middle cut.from o has in
      let le = all_has (λ (x : Object). x.input ≤ run.first + run.many) os.middle cut.to o has in
      record { kind = kind; from = omega (arith, gt, input); to = omega (arith, le, input); chunk = chunk }

  functions_moved : AllZip Moved (parts_of_kind 0 (whole_program run os ls).parts) (parts_of_kind 0 (later_program run os ls).parts)
  functions_moved =
      subst (λ xs. AllZip Moved xs (parts_of_kind 0 (later_program run os ls).parts)) (sym whole_is) (subst (AllZip Moved (parts_of_kind 0 (own_parts ls.whole W) ++ flat_map whole_kept W)) (sym later_is)
      (whole_zip run os ls s Moved whole_kept later_kept (parts_of_kind 0 (own_parts ls.whole W)) (parts_of_kind 0 (own_parts ls.after L)) (own_moved 0)
      (λ o has. before_zip run os ls s Moved FunctionDef whole_function later_function o has o.functions (λ n f is. (refl, refl)) (λ n f is. before_moved o has 0 n))
      (functions_middle run os ls s (Of 0) (Stood 0) Moved
      (λ o has n f is. inside o has 0 (whole_function o n f) (function_part ls.run_alone.all RO (res ls.run_alone RO (run_object o)) n f) refl refl refl)
      (λ b has n f is place reads. ap (chunk_at os.joined.input 0) (sym place))
      (λ x y z has. both 0 x y z))
      (λ o has. behind_zip run os ls s Moved FunctionDef whole_function later_function o has o.functions (λ n f is. (refl, refl)) (λ n f is. behind_moved o has 0 n))))
    where
      whole_function : Object → ℕ → FunctionDef → Part
      whole_function o = λ n f. function_part ls.whole.all W (res ls.whole W o) n f

      later_function : Object → ℕ → FunctionDef → Part
      later_function o = λ n f. function_part ls.after.all L (res ls.after L o) n f

      whole_kept : Object → List Part
      whole_kept o = filter (λ (x : Part). kept_in W o x.chunk) (function_parts ls.whole W o)

      later_kept : Object → List Part
      later_kept o = filter (λ (x : Part). kept_in L o x.chunk) (function_parts ls.after L o)

      whole_is : parts_of_kind 0 (whole_program run os ls).parts ≡ parts_of_kind 0 (own_parts ls.whole W) ++ flat_map whole_kept W
      whole_is = parts_by ls.whole W s.strict (λ part. part.chunk.kind == 0) ∙ ap (λ xs. parts_of_kind 0 (own_parts ls.whole W) ++ xs) (flat_alike (λ o. parts_of_kind 0 (object_parts ls.whole W o)) whole_kept W (functions_in ls.whole W))

      later_is : parts_of_kind 0 (later_program run os ls).parts ≡ parts_of_kind 0 (own_parts ls.after L) ++ flat_map later_kept L
      later_is = parts_by ls.after L s.strict_after (λ part. part.chunk.kind == 0) ∙ ap (λ xs. parts_of_kind 0 (own_parts ls.after L) ++ xs) (flat_alike (λ o. parts_of_kind 0 (object_parts ls.after L o)) later_kept L (functions_in ls.after L))

  segments_moved : AllZip Moved (parts_of_kind 1 (whole_program run os ls).parts) (parts_of_kind 1 (later_program run os ls).parts)
  segments_moved =
      subst (λ xs. AllZip Moved xs (parts_of_kind 1 (later_program run os ls).parts)) (sym whole_is) (subst (AllZip Moved (parts_of_kind 1 (own_parts ls.whole W) ++ flat_map whole_kept W)) (sym later_is)
      (whole_zip run os ls s Moved whole_kept later_kept (parts_of_kind 1 (own_parts ls.whole W)) (parts_of_kind 1 (own_parts ls.after L)) (own_moved 1)
      (λ o has. before_zip run os ls s Moved SegmentDef whole_segment later_segment o has o.segments (λ n f is. (refl, refl)) (λ n f is. before_moved o has 1 n))
      (segments_middle run os ls s (Of 1) (Stood 1) Moved
      (λ o has n f is. inside o has 1 (whole_segment o n f) (segment_part ls.run_alone.all RO (res ls.run_alone RO (run_object o)) n f) refl refl refl)
      (λ b has n f is place reads. ap (chunk_at os.joined.input 1) (sym place))
      (λ x y z has. both 1 x y z))
      (λ o has. behind_zip run os ls s Moved SegmentDef whole_segment later_segment o has o.segments (λ n f is. (refl, refl)) (λ n f is. behind_moved o has 1 n))))
    where
      whole_segment : Object → ℕ → SegmentDef → Part
      whole_segment o = λ n f. segment_part ls.whole.all W (res ls.whole W o) n f

      later_segment : Object → ℕ → SegmentDef → Part
      later_segment o = λ n f. segment_part ls.after.all L (res ls.after L o) n f

      whole_kept : Object → List Part
      whole_kept o = filter (λ (x : Part). kept_in W o x.chunk) (segment_parts ls.whole W o)

      later_kept : Object → List Part
      later_kept o = filter (λ (x : Part). kept_in L o x.chunk) (segment_parts ls.after L o)

      whole_is : parts_of_kind 1 (whole_program run os ls).parts ≡ parts_of_kind 1 (own_parts ls.whole W) ++ flat_map whole_kept W
      whole_is = parts_by ls.whole W s.strict (λ part. part.chunk.kind == 1) ∙ ap (λ xs. parts_of_kind 1 (own_parts ls.whole W) ++ xs) (flat_alike (λ o. parts_of_kind 1 (object_parts ls.whole W o)) whole_kept W (segments_in ls.whole W))

      later_is : parts_of_kind 1 (later_program run os ls).parts ≡ parts_of_kind 1 (own_parts ls.after L) ++ flat_map later_kept L
      later_is = parts_by ls.after L s.strict_after (λ part. part.chunk.kind == 1) ∙ ap (λ xs. parts_of_kind 1 (own_parts ls.after L) ++ xs) (flat_alike (λ o. parts_of_kind 1 (object_parts ls.after L o)) later_kept L (segments_in ls.after L))

  globals_moved : AllZip Moved (parts_of_kind 2 (whole_program run os ls).parts) (parts_of_kind 2 (later_program run os ls).parts)
  globals_moved =
      subst (λ xs. AllZip Moved xs (parts_of_kind 2 (later_program run os ls).parts)) (sym whole_is) (subst (AllZip Moved (parts_of_kind 2 (own_parts ls.whole W) ++ flat_map whole_kept W)) (sym later_is)
      (whole_zip run os ls s Moved whole_kept later_kept (parts_of_kind 2 (own_parts ls.whole W)) (parts_of_kind 2 (own_parts ls.after L)) (own_moved 2)
      (λ o has. before_zip run os ls s Moved GlobalDef whole_global later_global o has o.globals (λ n f is. (refl, refl)) (λ n f is. before_moved o has 2 n))
      (globals_middle run os ls s (Of 2) (Stood 2) Moved
      (λ o has n f is. inside o has 2 (whole_global o n f) (global_part ls.run_alone.all RO (res ls.run_alone RO (run_object o)) n f) refl refl refl)
      (λ b has n f is place reads. ap (chunk_at os.joined.input 2) (sym place))
      (λ x y z has. both 2 x y z))
      (λ o has. behind_zip run os ls s Moved GlobalDef whole_global later_global o has o.globals (λ n f is. (refl, refl)) (λ n f is. behind_moved o has 2 n))))
    where
      whole_global : Object → ℕ → GlobalDef → Part
      whole_global o = λ n f. global_part ls.whole.all W (res ls.whole W o) n f

      later_global : Object → ℕ → GlobalDef → Part
      later_global o = λ n f. global_part ls.after.all L (res ls.after L o) n f

      whole_kept : Object → List Part
      whole_kept o = filter (λ (x : Part). kept_in W o x.chunk) (global_parts ls.whole W o)

      later_kept : Object → List Part
      later_kept o = filter (λ (x : Part). kept_in L o x.chunk) (global_parts ls.after L o)

      whole_is : parts_of_kind 2 (whole_program run os ls).parts ≡ parts_of_kind 2 (own_parts ls.whole W) ++ flat_map whole_kept W
      whole_is = parts_by ls.whole W s.strict (λ part. part.chunk.kind == 2) ∙ ap (λ xs. parts_of_kind 2 (own_parts ls.whole W) ++ xs) (flat_alike (λ o. parts_of_kind 2 (object_parts ls.whole W o)) whole_kept W (globals_in ls.whole W))

      later_is : parts_of_kind 2 (later_program run os ls).parts ≡ parts_of_kind 2 (own_parts ls.after L) ++ flat_map later_kept L
      later_is = parts_by ls.after L s.strict_after (λ part. part.chunk.kind == 2) ∙ ap (λ xs. parts_of_kind 2 (own_parts ls.after L) ++ xs) (flat_alike (λ o. parts_of_kind 2 (object_parts ls.after L o)) later_kept L (globals_in ls.after L))

  of_kind : (k : ℕ) → AllZip Moved (parts_of_kind k (whole_program run os ls).parts) (parts_of_kind k (later_program run os ls).parts)
      → map (λ (part : Part). part.chunk) (parts_of_kind k (later_program run os ls).parts) ≡ map (λ (part : Part). moved_chunk run os p part.chunk) (parts_of_kind k (whole_program run os ls).parts)
  of_kind k z = zip_map Moved (λ (part : Part). moved_chunk run os p part.chunk) (λ (part : Part). part.chunk) (λ x y e. e) (parts_of_kind k (whole_program run os ls).parts) (parts_of_kind k (later_program run os ls).parts) z

  chunks_move : ChunksMove run os ls
  chunks_move zero lt = of_kind 0 functions_moved
  chunks_move (suc zero) lt = of_kind 1 segments_moved
  chunks_move (suc (suc zero)) lt = of_kind 2 globals_moved
  chunks_move (suc (suc (suc k))) lt = absurd (omega (arith, lt))

pub chunks_are_moved : ChunksAreMoved
chunks_are_moved run os ls s = chunks_move run os ls s
