-- An output that can be written has few functions.
use Rattle.std.proofs.Common.{◌≡◌, ℕ, ◌+◌, ◌-◌, ◌<◌, ◌≤◌, List, [], ◌∷◌, ◌++◌, length, map, None, Bool, true, false, refl, sym, ◌∙◌, arith, length-append}
use Rattle.std.specs.Prelude.{◌^◌, ◌==◌, nat_lt, pos, negsuc, neg_ℤ, ◌≤ℤ◌, ◌<ℤ◌, not, filter, filter_map, cond, All, position}
use Rattle.made_symbols.specs.declared.mode.Mode.TheVariants.{Plain}
use Rattle.name_rules.specs.Entries.{InputSymbol}
use Rattle.image_emit.specs.Bytes.{Tree, bytes_of}
use Rattle.image_emit.specs.Spelled.{IsSpellable, IsU32, IsConstant, IsElement, entries}
use Rattle.image_emit.specs.Filled.{each_filled}
use Rattle.image_emit.specs.Bytes.{source_bytes}
use Rattle.reloc_apply.specs.declared.window.Patch.{Patch}
use Rattle.link_runs.proofs.Ranges.{IsRanged}
use Rattle.link_output.specs.link_rules.Program.{Program, Part}
use Rattle.link_output.specs.link_rules.Marks.{imports_memory}
use Rattle.link_output.specs.link_rules.Keys.{FunctionKey, outside, linker_function, stub, own}
use Rattle.link_output.specs.link_rules.Values.{Layout}
use Rattle.link_output.specs.link_rules.Output.{image, function_import, global_import, is_import, defined, memory_import, source_windows}
use Rattle.std.proofs.lemmas.List.Elements.{All-cons, All-nil}
use Rattle.list_places.proofs.Lists.{position_below}
use Rattle.std.proofs.lemmas.Int.{ints}
use Rattle.std.proofs.lemmas.Bool.{ltb-true, ltb-false}
use Rattle.wasm_types.specs.declared.const_expr.ConstExpr.TheVariants as exprs
use Rattle.link_output.specs.link_rules.Values.{solid_segments, slot_count}
use Rattle.link_output.specs.link_rules.Keys.{function_number, same_function}
use Rattle.link_output.specs.link_rules.Output.{first_address}
use Rattle.reloc_apply.specs.Windows.{patch_of, signed32}
use Rattle.link_output.specs.link_rules.Output.{body_of}
use Rattle.link_output.specs.link_rules.Keys.{type_place, type_of}
use Rattle.wasm_types.specs.Same.{same_type}
use Rattle.link_facts.specs.link_worlds.Worlds.{linked_tree}

length_map : {A B : Type 0} (f : A → B) (xs : List A) → length (map f xs) ≡ length xs
length_map f [] = refl
length_map f (x ∷ xs) = let l : length (map f xs) ≡ length xs = length_map f xs in omega (arith, l)

some_entries : (t : Tree) → length t.imports + length t.functions ≤ entries t
some_entries t = omega arith

module _ (p : Program) (parts : List Part) (exports : List InputSymbol) (l : Layout) where
  split : (ks : List FunctionKey) → length ks ≡ length (filter_map (function_import Plain p parts exports l) ks) + length (filter (λ f. not (is_import Plain p parts exports l f)) ks)
  split [] = refl
  split (outside k ∷ ks) = let h = split ks in omega (arith, h)
  split (linker_function n ∷ ks) = let h = split ks in omega (arith, h)
  split (stub name ∷ ks) = let h = split ks in omega (arith, h)
  split (own i n ∷ ks) = let h = split ks in omega (arith, h)

  among : {A : Type 0} (a b c d : List A) → length c ≤ length (((a ++ b) ++ c) ++ d)
  among a b c d =
      let x = length-append ((a ++ b) ++ c) d in
      let y = length-append (a ++ b) c in
      omega (arith, x, y)

  functions_are : length (image Plain p parts exports l).functions ≡ length (defined Plain p parts exports l)
  unfolding image
  functions_are = length_map _ (defined Plain p parts exports l)

  imports_are : length (filter_map (function_import Plain p parts exports l) l.numbers.functions) ≤ length (image Plain p parts exports l).imports
  unfolding image
  imports_are = among (cond (imports_memory Plain p) (memory_import Plain p parts exports l) []) [] (filter_map (function_import Plain p parts exports l) l.numbers.functions) (filter_map (global_import Plain p parts exports l) l.numbers.globals)

  pub few_functions : ((t : Tree) → entries t ≤ length (bytes_of t)) → IsU32 (length (bytes_of (linked_tree p parts exports l))) → length l.numbers.functions < 2 ^ 32
  few_functions law s =
      let t = linked_tree p parts exports l in
      let a : length (image Plain p parts exports l).imports + length (image Plain p parts exports l).functions ≤ entries t = some_entries t in
      let b : entries t ≤ length (bytes_of t) = law t in
      let c : length (bytes_of t) < 2 ^ 32 = s in
      let d = split l.numbers.functions in
      omega (arith, a, b, c, d, functions_are, imports_are)

all_map : {A : Type 0} (f : A → ℕ) (xs : List A) → ((x : A) → IsU32 (f x)) → All IsU32 (map f xs)
all_map f [] h = All-nil IsU32
all_map f (x ∷ xs) h = All-cons IsU32 (f x) (map f xs) (h x) (all_map f xs h)

filled_many : (pss : List (List Patch)) (bs : List (List ℕ)) → length (each_filled pss bs) ≡ length bs
filled_many pss [] = refl
filled_many [] (b ∷ bs) = refl
filled_many (ps ∷ pss) (b ∷ bs) = let l : length (each_filled pss bs) ≡ length bs = filled_many pss bs in omega (arith, l)

-- what stands for a number of 32 bits has a sign and 32 bits, whatever the number
pub signed_fits : (n : ℕ) → IsConstant (exprs.I32 (signed32 n))
signed_fits n = onto (nat_lt n (2 ^ 31)) refl
  where
    onto : (b : Bool) → nat_lt n (2 ^ 31) ≡ b → (neg_ℤ (pos (2 ^ 31)) ≤ℤ cond b (pos n) (negsuc (2 ^ 32 - 1 - n))) × (cond b (pos n) (negsuc (2 ^ 32 - 1 - n)) <ℤ pos (2 ^ 31))
    onto true e = let k : n < 2 ^ 31 = ltb-true n (2 ^ 31) e in (omega (arith, ints, k), omega (arith, ints, k))
    onto false e = let k : 2 ^ 31 ≤ n = ltb-false n (2 ^ 31) e in (omega (arith, ints, k), omega (arith, ints, k))

some_types : (t : Tree) → length t.types ≤ entries t
some_types t = omega arith

module _ (p : Program) (parts : List Part) (exports : List InputSymbol) (l : Layout) where
  pub few_types : ((t : Tree) → entries t ≤ length (bytes_of t)) → IsU32 (length (bytes_of (linked_tree p parts exports l))) → length l.numbers.types < 2 ^ 32
  unfolding image
  few_types law s =
      let t = linked_tree p parts exports l in
      let a : length l.numbers.types ≤ entries t = some_types t in
      let b : entries t ≤ length (bytes_of t) = law t in
      let c : length (bytes_of t) < 2 ^ 32 = s in
      omega (arith, a, b, c)

  elements_fit : ((t : Tree) → entries t ≤ length (bytes_of t)) → IsRanged (linked_tree p parts exports l) → (b : Bool)
      → All IsElement (cond b [] (record { table = None; offset = exprs.I32 (pos 1); functions = map (function_number l.numbers) l.numbers.slots } ∷ []))
  elements_fit law s true = All-nil IsElement
  elements_fit law s false = All-cons IsElement (record { table = None; offset = exprs.I32 (pos 1); functions = map (function_number l.numbers) l.numbers.slots }) []
      (record {
        table = tt;
        offset = (omega (arith, ints), omega (arith, ints));
        functions = all_map (function_number l.numbers) l.numbers.slots (λ f. position_below (same_function f) l.numbers.functions (position (same_function f) l.numbers.functions) refl (2 ^ 32) (few_functions p parts exports l law s.short));
      }) (All-nil IsElement)

  pub spells : ((t : Tree) → entries t ≤ length (bytes_of t)) → IsRanged (linked_tree p parts exports l) → IsSpellable (linked_tree p parts exports l)
  unfolding image
  spells law s = record {
    short = s.short;
    custom = tt;
    imports = s.imports;
    functions = all_map (λ f. type_place l.numbers (type_of p parts f)) (defined Plain p parts exports l) (λ f. position_below (same_type (type_of p parts f)) l.numbers.types (position (same_type (type_of p parts f)) l.numbers.types) refl (2 ^ 32) (few_types law s.short));
    tables = s.tables;
    memories = s.memories;
    globals = s.globals;
    exports = s.exports;
    elements = elements_fit law s (slot_count l == 0);
    code = length_map _ (defined Plain p parts exports l) ∙ sym (filled_many (map (map patch_of) (source_windows Plain p parts exports l)) (map (source_bytes p.files) (map (body_of Plain p parts exports l) (defined Plain p parts exports l))) ∙ length_map (source_bytes p.files) (map (body_of Plain p parts exports l) (defined Plain p parts exports l)) ∙ length_map (body_of Plain p parts exports l) (defined Plain p parts exports l));
    offset = signed_fits (first_address Plain p parts exports l (solid_segments p parts));
  }
