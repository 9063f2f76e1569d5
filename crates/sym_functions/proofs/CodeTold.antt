-- What functions run, and their types, is what the objects have.
use Rattle.std.proofs.Common.{◌≡◌, ℕ, zero, suc, ◌+◌, ◌==◌, Bool, true, false, ◌&&◌, List, [], ◌∷◌, ◌++◌, map, filter_map, slice_get, Option, Some, None, option_map, refl, sym, ap, subst, ◌∙◌}
use Rattle.std.specs.Prelude.{find, cond, Result, Ok, Err}
use Rattle.std.specs.List.{All}
use Rattle.std.proofs.lemmas.Bool.{eqb-true, eq-eqb}
use Rattle.std.proofs.lemmas.List.Elements.{All-head, All-tail, All-cons}
use Rattle.std.proofs.lemmas.Option.{slice_get-map}
use Rattle.wasm_grammar.specs.declared.fault.Stop.{Stop}
use Rattle.wasm_instr.specs.declared.instr.Instr.TheVariants as instrs
use Rattle.wasm_instr.specs.declared.body.Body.{Body}
use Rattle.wasm_instr.specs.Bodies.{body_at}
use Rattle.run_rules.specs.declared.op.Op.{Op}
use Rattle.run_rules.specs.declared.op.Op.TheVariants.{Own}
use Rattle.run_rules.specs.declared.world.Source.{Source}
use Rattle.run_rules.specs.declared.world.Source.TheVariants.{Nowhere, Code}
use Rattle.link_program.specs.image_emit.Bytes.{file_part}
use Rattle.link_program.specs.mark_bits.declared.chunk.Chunk.{Chunk}
use Rattle.link_program.specs.made_symbols.declared.mode.Mode.TheVariants.{Plain}
use Rattle.link_program.specs.name_rules.Entries.{InputSymbol, ImportKey}
use Rattle.link_program.specs.link_rules.Program as rules
use Rattle.link_program.specs.link_rules.Program.{refs, named_ref, a_symbol, a_type, chunk_at}
use Rattle.link_program.specs.link_rules.Marks.{refs_of}
use Rattle.link_program.specs.link_rules.Keys.{callable, is_function_at}
use Rattle.link_program.specs.link_rules.Values as values
use Rattle.link_program.specs.declared.named.Named.{Named}
use Rattle.link_program.specs.declared.named.Named.TheVariants as items
use Rattle.link_program.specs.declared.part.Part.{Part}
use Rattle.link_program.specs.Seen.{seen_named, told_named}
use Rattle.link_program.specs.Look.{part_at, row_at, chunk_number}
use Rattle.link_program.proofs.Chunks.{stands_at}
use Rattle.link_image.specs.link_layout.declared.values.Layout.{Layout}
use Rattle.link_image.specs.link_layout.Layout.{IsLayoutIn}
use Rattle.link_image.proofs.link_layout_lemmas.Parts.{part_told, row_told, same_part}
use Rattle.link_keys.proofs.Any.{all_none}
use Rattle.link_keys.proofs.Imports.{both}
use Rattle.link_image.proofs.Lists.{first_ones, last_ones}
use Rattle.link_worlds.specs.Bodies as bodies
use Rattle.link_worlds.specs.Bodies.{plan_op}
use Rattle.sym_parts.specs.Sought.{Known, symbol_of}
use Rattle.sym_parts.specs.Ops.{op_seen}
use Rattle.sym_parts.specs.Code.{all_of, body_seen, part_source, call_named, calling, calls_seen}
use Rattle.sym_functions.proofs.Known.{KnownRef}
use Rattle.sym_functions.proofs.Ground.{known}
use Rattle.sym_functions.proofs.OpsTold.{IsSought, IsKnownNamed, op_told}
use Rattle.sym_functions.proofs.OpsTold as ops

-- ---- lists of which all items are there

-- All are there, and each is what is told of it.
pub all_told : {A B : Type 0} (f : A → Option B) (g : A → B) → ((x : A) (y : B) → f x ≡ Some y → y ≡ g x) → (xs : List A) (ys : List B) → all_of (map f xs) ≡ Some ys → ys ≡ map g xs
all_told f g each [] ys e = let a : [] ≡ ys = cc in sym a
all_told {A} {B} f g each (x ∷ xs) ys e = by_first (f x) refl (λ zs rest. all_told f g each xs zs rest) e
  where
    by_rest : (y : B) → f x ≡ Some y → ((zs : List B) → all_of (map f xs) ≡ Some zs → zs ≡ map g xs) → (o : Option (List B)) → all_of (map f xs) ≡ o → option_map (λ rest. y ∷ rest) o ≡ Some ys → ys ≡ map g (x ∷ xs)
    by_rest y first again None rest e = absurd cc
    by_rest y first again (Some zs) rest e =
        let a : y ∷ zs ≡ ys = cc in
        sym a ∙ ap (λ y. y ∷ zs) (each x y first) ∙ ap (λ zs. g x ∷ zs) (again zs rest)

    by_first : (o : Option B) → f x ≡ o → ((zs : List B) → all_of (map f xs) ≡ Some zs → zs ≡ map g xs) → all_of (o ∷ map f xs) ≡ Some ys → ys ≡ map g (x ∷ xs)
    by_first None first again e = absurd cc
    by_first (Some y) first again e = by_rest y first again (all_of (map f xs)) refl e

-- Each that is there is what is told of it.
pub all_given : {A B C : Type 0} (f : B → Option C) (told : A → B) (g : A → C) (xs : List A) (ys : List C) → All (λ x. (y : C) → f (told x) ≡ Some y → y ≡ g x) xs → map f (map told xs) ≡ map Some ys → ys ≡ map g xs
all_given f told g [] [] each e = refl
all_given f told g [] (y ∷ ys) each e = absurd cc
all_given f told g (x ∷ xs) [] each e = absurd cc
all_given {A} {B} {C} f told g (x ∷ xs) (y ∷ ys) each e =
    let first : f (told x) ≡ Some y = cc in
    let rest : map f (map told xs) ≡ map Some ys = cc in
    let here = All-head (λ x. (y : C) → f (told x) ≡ Some y → y ≡ g x) x xs each y first in
    let there = all_given f told g xs ys (All-tail (λ x. (y : C) → f (told x) ≡ Some y → y ≡ g x) x xs each) rest in
    λ i. here i ∷ there i

-- ---- parts that are found

-- The one part that has a chunk.
find_one : {A : Type 0} (test : A → Bool) (xs : List A) (n : ℕ) (x : A) → slice_get xs n ≡ Some x → test x ≡ true → ((m : ℕ) (y : A) → slice_get xs m ≡ Some y → test y ≡ true → y ≡ x) → find test xs ≡ Some x
find_one test [] n x at is only = absurd cc
find_one {A} test (y ∷ xs) n x at is only = by_head (test y) refl n at (λ m rest. find_one test xs m x rest is (λ k z there t. only (suc k) z there t))
  where
    by_head : (r : Bool) → test y ≡ r → (n : ℕ) → slice_get (y ∷ xs) n ≡ Some x → ((m : ℕ) → slice_get xs m ≡ Some x → find test xs ≡ Some x) → cond r (Some y) (find test xs) ≡ Some x
    by_head true t n at again = ap Some (only 0 y refl t)
    by_head false t zero at again = absurd (let e : y ≡ x = cc in let a : test y ≡ true = ap test e ∙ is in let b : true ≡ false = sym a ∙ t in cc)
    by_head false t (suc m) at again = again m at

module _ (p : rules.Program) (parts : List rules.Part) (es : List InputSymbol) (d : Layout) (is : IsLayoutIn Plain p parts es d) where
  abbrev t_names : List (List ℕ)
  t_names = d.program.names.now.names

  abbrev t_imports : List ImportKey
  t_imports = d.program.resolution.now.imports

  -- A part of a kind, by its number.
  pub record IsPart (kind : ℕ) (part : rules.Part) : Type 0 where
    pub number : ℕ
    pub at : slice_get p.parts number ≡ Some part
    pub chunk : chunk_number d.program.tables.now.chunks (chunk_at part.chunk.input kind part.chunk.index) ≡ Some number
    pub found : find (λ (x : rules.Part). (x.chunk.kind == kind) && (x.chunk.input == part.chunk.input) && (x.chunk.index == part.chunk.index)) p.parts ≡ Some part

  chunk_of_kind : (c : Chunk) (kind : ℕ) → (c.kind == kind) ≡ true → chunk_at c.input kind c.index ≡ c
  chunk_of_kind c kind e = let k : kind ≡ c.kind = sym (eqb-true c.kind kind e) in λ i. record { input = c.input; kind = k i; index = c.index }

  one_chunk : (c y : Chunk) (kind : ℕ) → (c.kind == kind) ≡ true → ((y.kind == kind) && (y.input == c.input) && (y.index == c.index)) ≡ true → y ≡ c
  one_chunk c y kind e t =
      let a = both ((y.kind == kind) && (y.input == c.input)) (y.index == c.index) t in
      let b = both (y.kind == kind) (y.input == c.input) a.0 in
      let kinds : y.kind ≡ c.kind = eqb-true y.kind kind b.0 ∙ sym (eqb-true c.kind kind e) in
      let input : y.input ≡ c.input = eqb-true y.input c.input b.1 in
      let index : y.index ≡ c.index = eqb-true y.index c.index a.1 in
      λ i. record { input = input i; kind = kinds i; index = index i }

  itself : (c : Chunk) (kind : ℕ) → (c.kind == kind) ≡ true → ((c.kind == kind) && (c.input == c.input) && (c.index == c.index)) ≡ true
  itself c kind e = rw (e, eq-eqb c.input c.input refl, eq-eqb c.index c.index refl) refl

  pub part_of : (kind n : ℕ) (part : rules.Part) → slice_get p.parts n ≡ Some part → (part.chunk.kind == kind) ≡ true → IsPart kind part
  part_of kind n part at code =
      let there : slice_get d.program.tables.now.chunks n ≡ Some part.chunk =
      ap (λ xs. slice_get xs n) is.program.tables.chunks ∙ slice_get-map (λ (x : rules.Part). x.chunk) p.parts n ∙ ap (option_map (λ (x : rules.Part). x.chunk)) at in
      let only : (m : ℕ) → slice_get d.program.tables.now.chunks m ≡ Some part.chunk → m ≡ n =
      (λ m here. is.program.tables.differ m n part.chunk (ap (λ xs. slice_get xs m) (sym is.program.tables.chunks) ∙ here) (ap (λ xs. slice_get xs n) (sym is.program.tables.chunks) ∙ there)) in
      record {
        number = n;
        at = at;
        chunk = ap (chunk_number d.program.tables.now.chunks) (chunk_of_kind part.chunk kind code) ∙ stands_at d.program.tables.now.chunks part.chunk n there only;
        found = find_one (λ (x : rules.Part). (x.chunk.kind == kind) && (x.chunk.input == part.chunk.input) && (x.chunk.index == part.chunk.index)) p.parts n part at (itself part.chunk kind code)
            (λ m y here t. same_part p.parts is.program.tables.differ m n y part here at (one_chunk part.chunk y.chunk kind code t));
      }

  -- what a part names is known
  named_known : (ns : List rules.Named) → All (KnownRef t_imports (callable p)) (filter_map named_ref ns) → All (IsKnownNamed p parts es d is) ns
  named_known [] all = all_none (IsKnownNamed p parts es d is)
  named_known (a_symbol ref ∷ ns) all =
      All-cons (IsKnownNamed p parts es d is) (a_symbol ref) ns (All-head (KnownRef t_imports (callable p)) ref (filter_map named_ref ns) all) (named_known ns (All-tail (KnownRef t_imports (callable p)) ref (filter_map named_ref ns) all))
  named_known (a_type w ∷ ns) all = All-cons (IsKnownNamed p parts es d is) (a_type w) ns tt (named_known ns all)

  refs_known : (parts : List rules.Part) → All (KnownRef t_imports (callable p)) (refs_of parts) → (n : ℕ) (part : rules.Part) → slice_get parts n ≡ Some part → All (KnownRef t_imports (callable p)) (refs part)
  refs_known [] all n part at = absurd cc
  refs_known (x ∷ xs) all zero part at = let same : x ≡ part = cc in subst (λ (y : rules.Part). All (KnownRef t_imports (callable p)) (refs y)) same (first_ones (KnownRef t_imports (callable p)) (refs x) (refs_of xs) all)
  refs_known (x ∷ xs) all (suc n) part at = refs_known xs (last_ones (KnownRef t_imports (callable p)) (refs x) (refs_of xs) all) n part at

  pub part_known : (n : ℕ) (part : rules.Part) → slice_get p.parts n ≡ Some part → All (IsKnownNamed p parts es d is) part.named
  part_known n part at = named_known part.named (refs_known p.parts (known d.program p is.program is.stand) n part at)

  pub row_is : (n : ℕ) (part : rules.Part) → slice_get p.parts n ≡ Some part
      → map (seen_named d.program.tables.now.symbols d.program.tables.now.types) (row_at d.program.tables.now n) ≡ map (told_named t_names t_imports) part.named
  row_is n part at = row_told t_names t_imports d.program.tables.now p is.program.tables n part at

  pub source_is : (n : ℕ) (part : rules.Part) → slice_get p.parts n ≡ Some part → (part_at d.program.tables.now n).source ≡ part.source
  source_is n part at = ap (λ x. x.source) (part_told t_names t_imports d.program.tables.now p is.program.tables n part at)

  -- ---- sources

  module _ (k : Known) (sought : IsSought p parts es d is k) (files : List (List ℕ)) (same_files : files ≡ p.files) where
    abbrev l : values.Layout
    l = ops.l p parts es d is

    body_told : (row : List Named) (ns : List rules.Named) → map (seen_named d.program.tables.now.symbols d.program.tables.now.types) row ≡ map (told_named t_names t_imports) ns → All (IsKnownNamed p parts es d is) ns
        → (b : Result Body Stop) (s : Source) → body_seen k row b ≡ Some s → s ≡ bodies.plan_body p l ns b
    body_told row ns e all (Err stop) s is_s = let a : Nowhere ≡ s = cc in sym a
    body_told row ns e all (Ok b) s is_s = by_code (all_of (map (op_seen k row) b.code)) refl is_s
      where
        by_code : (o : Option (List Op)) → all_of (map (op_seen k row) b.code) ≡ o → option_map (Code b.locals) o ≡ Some s → s ≡ Code b.locals (map (plan_op p l ns) b.code)
        by_code None are is_s = absurd cc
        by_code (Some code) are is_s =
            let a : Code b.locals code ≡ s = cc in
            sym a ∙ ap (Code b.locals) (all_told (op_seen k row) (plan_op p l ns) (λ x y is_y. op_told p parts es d is k sought row ns e all x y is_y) b.code code are)

    -- The function of an object.
    pub own_told : (n : ℕ) (part : rules.Part) → slice_get p.parts n ≡ Some part → (part.chunk.kind == 0) ≡ true → (s : Source)
        → part_source k files (chunk_number k.tables.chunks (chunk_at part.chunk.input 0 part.chunk.index)) ≡ Some s → s ≡ bodies.plan_part p l (find (is_function_at part.chunk.input part.chunk.index) p.parts)
    own_told n part at code s is_s =
        let w = part_of 0 n part at code in
        let source : file_part files (part_at k.tables w.number).source ≡ file_part p.files part.source =
        ap (λ t. file_part files (part_at t w.number).source) sought.tables ∙ ap (file_part files) (source_is w.number part w.at) ∙ ap (λ fs. file_part fs part.source) same_files in
        let here : body_seen k (row_at d.program.tables.now w.number) (body_at (file_part p.files part.source)) ≡ Some s =
        ap (λ bytes. body_seen k (row_at d.program.tables.now w.number) (body_at bytes)) (sym source)
        ∙ ap (λ t. body_seen k (row_at t w.number) (body_at (file_part files (part_at k.tables w.number).source))) (sym sought.tables)
        ∙ ap (part_source k files) (sym (ap (λ t. chunk_number t.chunks (chunk_at part.chunk.input 0 part.chunk.index)) sought.tables ∙ w.chunk))
        ∙ is_s in
        body_told (row_at d.program.tables.now w.number) part.named (row_is w.number part w.at) (part_known w.number part w.at) (body_at (file_part p.files part.source)) s here
        ∙ ap (bodies.plan_part p l) (sym w.found)

    calls_row : (row : List Named) (ns : List rules.Named) → map (seen_named d.program.tables.now.symbols d.program.tables.now.types) row ≡ map (told_named t_names t_imports) ns → All (IsKnownNamed p parts es d is) ns
        → filter_map (call_named k) row ≡ map (bodies.call_of p l) (filter_map named_ref ns)
    calls_row [] [] e all = refl
    calls_row [] (y ∷ ns) e all = absurd cc
    calls_row (x ∷ row) [] e all = absurd cc
    calls_row (items.Symbol kind place addend symbol ∷ row) (a_symbol ref ∷ ns) e all =
        let first : seen_named d.program.tables.now.symbols d.program.tables.now.types (items.Symbol kind place addend symbol) ≡ told_named t_names t_imports (a_symbol ref) = cc in
        let rest : map (seen_named d.program.tables.now.symbols d.program.tables.now.types) row ≡ map (told_named t_names t_imports) ns = cc in
        ap (λ op. op ∷ filter_map (call_named k) row) (ops.call_symbol p parts es d is k sought (symbol_of k symbol) ref (ops.ref_of p parts es d is k sought kind place addend symbol ref first).0 (All-head (IsKnownNamed p parts es d is) (a_symbol ref) ns all))
        ∙ ap (λ ops. bodies.call_of p l ref ∷ ops) (calls_row row ns rest (All-tail (IsKnownNamed p parts es d is) (a_symbol ref) ns all))
    calls_row (items.Symbol kind place addend symbol ∷ row) (a_type w ∷ ns) e all = absurd cc
    calls_row (items.Type place number ∷ row) (a_symbol ref ∷ ns) e all = absurd cc
    calls_row (items.Type place number ∷ row) (a_type w ∷ ns) e all =
        let rest : map (seen_named d.program.tables.now.symbols d.program.tables.now.types) row ≡ map (told_named t_names t_imports) ns = cc in
        calls_row row ns rest (All-tail (IsKnownNamed p parts es d is) (a_type w) ns all)

    -- The linker's function.
    pub linker_told : (n : ℕ) (part : rules.Part) → slice_get p.parts n ≡ Some part → (part.chunk.input == 0) ≡ true → (part.chunk.kind == 0) ≡ true
        → calls_seen k (chunk_number k.tables.chunks (chunk_at 0 0 part.chunk.index)) ≡ bodies.plan_calls p l (find (is_function_at 0 part.chunk.index) p.parts)
    linker_told n part at mine code =
        let w = part_of 0 n part at code in
        let none : part.chunk.input ≡ 0 = eqb-true part.chunk.input 0 mine in
        ap (calls_seen k) (ap (λ t. chunk_number t.chunks (chunk_at 0 0 part.chunk.index)) sought.tables ∙ ap (λ i. chunk_number d.program.tables.now.chunks (chunk_at i 0 part.chunk.index)) (sym none) ∙ w.chunk)
        ∙ ap (λ t. calling k (row_at t w.number)) sought.tables
        ∙ ap (λ xs. Code [] (xs ++ Own (instrs.Plain 0x0B) ∷ [])) (calls_row (row_at d.program.tables.now w.number) part.named (row_is w.number part w.at) (part_known w.number part w.at))
        ∙ ap (bodies.plan_calls p l) (sym w.found)
        ∙ ap (λ i. bodies.plan_calls p l (find (is_function_at i part.chunk.index) p.parts)) none
