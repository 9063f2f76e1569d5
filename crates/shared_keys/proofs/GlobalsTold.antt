-- The imported globals of a shared output, by number and as the definition has them.
use Rattle.std.proofs.Common.{◌≡◌, ℕ, nat_eq, ◌==◌, Bool, true, false, cond, List, [], ◌∷◌, ◌++◌, map, filter, filter_map, slice_get, Option, Some, None, option_map, refl, sym, ap, subst, ◌∙◌}
use Rattle.std.specs.Prelude.{if◌then◌else◌}
use Rattle.std.specs.List.{list_any, All, AllZip}
use Rattle.std.proofs.lemmas.List.Elements.{All-cons, All-append, All-head, All-tail, filter_map-append}
use Rattle.indexmap.specs.IndexSet.{insert_key, insert_all}
use Rattle.link_keys.specs.link_program.wl_base.Choice.{distinct, distinct_onto}
use Rattle.link_keys.specs.link_program.index_layout.Numbers.{number_by}
use Rattle.link_keys.specs.link_program.name_rules.Entries.{ImportKey, same_import}
use Rattle.link_keys.specs.link_program.name_meanings.Means.{IsNumberOf}
use Rattle.link_keys.specs.link_program.link_rules.Program as rules
use Rattle.link_keys.specs.link_program.link_rules.Program.{Ref, refs}
use Rattle.link_keys.specs.link_program.link_rules.Marks.{refs_of}
use Rattle.link_keys.specs.link_program.link_rules.Keys.{foreign_cell, foreign_cells, parts_of_kind}
use Rattle.link_keys.specs.link_program.declared.program.Tables.{Tables}
use Rattle.link_keys.specs.link_program.Program.{AreTables}
use Rattle.link_keys.specs.LiveRefs.{live_refs}
use Rattle.link_keys.specs.Lists.{global_imports}
use Rattle.link_keys.proofs.Any.{all_none}
use Rattle.link_keys.proofs.Equals.{holds_at, same_numbers}
use Rattle.link_keys.proofs.Heard.{onto_append}
use Rattle.link_keys.proofs.Imports.{import_equal, import_itself}
use Rattle.link_keys.proofs.LiveTold.{told_refs, live_refs_told, chunk_is}
use Rattle.link_keys.proofs.ToldLists.{distinct_told_onto}
use Rattle.shared_keys.specs.Cells.{OneEach}
use Rattle.shared_keys.specs.Foreign.{put_parts}
use Rattle.shared_keys.specs.Lists.{import_numbers}
use Rattle.shared_keys.proofs.CellsTold.{is_of, CellKnown, cell_asked, Put, parts_put, none_parts, cells_told, cells_held}

-- ---- live parts of a kind

module _ (names : List (List ℕ)) (imports : List ImportKey) (t : Tables) (p : rules.Program) (are : AreTables names imports t p) (kind : ℕ) where
  abbrev is_part : rules.Part → Bool
  is_part part = part.chunk.kind == kind

  -- Those of the numbers, and those of the parts.
  kept_are : (live : List ℕ) (parts : List rules.Part) → map (slice_get p.parts) live ≡ map Some parts → map (slice_get p.parts) (filter (is_of t kind) live) ≡ map Some (filter is_part parts)
  kept_are [] [] e = refl
  kept_are [] (part ∷ parts) e = absurd cc
  kept_are (n ∷ live) [] e = absurd cc
  kept_are (n ∷ live) (part ∷ parts) e =
      let at : slice_get p.parts n ≡ Some part = cc in
      let rest : map (slice_get p.parts) live ≡ map Some parts = cc in
      ap (λ b. map (slice_get p.parts) (cond b (n ∷ filter (is_of t kind) live) (filter (is_of t kind) live))) (ap (λ c. c.kind == kind) (chunk_is names imports t p are n part at))
      ∙ by (is_part part) at (kept_are live parts rest)
    where
      by : (b : Bool) → slice_get p.parts n ≡ Some part → map (slice_get p.parts) (filter (is_of t kind) live) ≡ map Some (filter is_part parts)
          → map (slice_get p.parts) (cond b (n ∷ filter (is_of t kind) live) (filter (is_of t kind) live)) ≡ map Some (cond b (part ∷ filter is_part parts) (filter is_part parts))
      by true at again = ap (λ o. o ∷ map (slice_get p.parts) (filter (is_of t kind) live)) at ∙ ap (λ os. Some part ∷ os) again
      by false at again = again

  -- What cells live parts of the kind put behind others.
  pub record PutOf (parts : List rules.Part) (old now : List ℕ) : Type 0 where
    pub cells : now ≡ insert_all nat_eq old (map (number_by same_import imports) (filter_map foreign_cell (refs_of (parts_of_kind kind parts))))
    pub held : All (λ k. list_any (same_import k) imports ≡ true) (filter_map foreign_cell (refs_of (parts_of_kind kind parts)))

  pub put_of : (live : List ℕ) (parts : List rules.Part) → map (slice_get p.parts) live ≡ map Some parts → (old now : List ℕ)
      → put_parts names imports t kind (Some old) live ≡ Some now → PutOf parts old now
  put_of live parts live_are old now e =
      let put : Put names imports (live_refs t (filter (is_of t kind) live)) old now = parts_put names imports t kind live old now e in
      let told = live_refs_told names imports t p are (filter (is_of t kind) live) (parts_of_kind kind parts) (kept_are live parts live_are) in
      let known : All (CellKnown names imports) (told_refs names imports (parts_of_kind kind parts)) = subst (All (CellKnown names imports)) told put.known in
      record {
        cells = put.cells ∙ ap (λ rs. insert_all nat_eq old (filter_map (cell_asked names imports) rs)) told ∙ ap (insert_all nat_eq old) (cells_told names imports (parts_of_kind kind parts) known);
        held = cells_held names imports (parts_of_kind kind parts) known;
      }

-- ---- numbers that are put behind others, each once

inserted : (seen xs : List ℕ) → insert_all nat_eq seen xs ≡ distinct_onto nat_eq seen xs
inserted seen [] = refl
inserted seen (x ∷ xs) = inserted (insert_key nat_eq seen x) xs

module _ (imports : List ImportKey) where
  abbrev pub Held : ImportKey → Type 0
  Held k = list_any (same_import k) imports ≡ true

  abbrev number : ImportKey → ℕ
  number k = number_by same_import imports k

  seen_held : (seen : List ImportKey) (k : ImportKey) (r : Bool) → All Held seen → Held k → All Held (if r then seen else seen ++ k ∷ [])
  seen_held seen k true held one = held
  seen_held seen k false held one = All-append Held seen (k ∷ []) held (All-cons Held k [] one (all_none Held))

  pub onto_held : (seen xs : List ImportKey) → All Held seen → All Held xs → All Held (distinct_onto same_import seen xs)
  onto_held seen [] held all = held
  onto_held seen (x ∷ xs) held all =
      onto_held (if list_any (same_import x) seen then seen else seen ++ x ∷ []) xs (seen_held seen x (list_any (same_import x) seen) held (All-head Held x xs all)) (All-tail Held x xs all)

  put_told : (old : List ℕ) (seen xs : List ImportKey) → old ≡ map number seen → All Held seen → All Held xs → insert_all nat_eq old (map number xs) ≡ map number (distinct_onto same_import seen xs)
  put_told old seen xs is held all =
      ap (λ ns. insert_all nat_eq ns (map number xs)) is
      ∙ inserted (map number seen) (map number xs)
      ∙ distinct_told_onto number same_import nat_eq Held (λ a b ka kb. same_numbers same_import import_equal import_itself imports a b ka kb) seen xs held all

  -- ---- the linker's globals

  pub made_told : OneEach imports → (ns : List ℕ) (ks : List ImportKey) → AllZip (IsNumberOf imports) ns ks → (ns ≡ map number ks) × All Held ks
  made_told one [] [] all = (refl, all_none Held)
  made_told one [] (k ∷ ks) all = absurd all
  made_told one (n ∷ ns) [] all = absurd all
  made_told one (n ∷ ns) (k ∷ ks) all =
      let rest = made_told one ns ks all.1 in
      let held : list_any (same_import k) imports ≡ true = holds_at same_import import_equal import_itself imports n k all.0 in
      (ap (λ m. m ∷ ns) (sym (one n k all.0)) ∙ ap (λ ms. number k ∷ ms) rest.0, All-cons Held k ks held rest.1)

-- ---- all

module _ (names : List (List ℕ)) (imports : List ImportKey) (t : Tables) (p : rules.Program) (are : AreTables names imports t p) (live : List ℕ) (parts : List rules.Part)
    (live_are : map (slice_get p.parts) live ≡ map Some parts) (made : List ImportKey) (made_held : All (Held imports) made) (used : List ImportKey) (used_held : All (Held imports) used) (flags : List Bool)
    (used_are : global_imports imports flags ≡ map (number_by same_import imports) used) where
  pub record AreImports (numbers : List ℕ) : Type 0 where
    pub told : numbers ≡ map (number_by same_import imports) (distinct same_import (made ++ foreign_cells parts ++ used))
    pub held : All (Held imports) (distinct same_import (made ++ foreign_cells parts ++ used))

  abbrev code : List ImportKey
  code = filter_map foreign_cell (refs_of (parts_of_kind 0 parts))

  abbrev data_cells : List ImportKey
  data_cells = filter_map foreign_cell (refs_of (parts_of_kind 1 parts))

  one_by_one : distinct same_import (made ++ foreign_cells parts ++ used) ≡ distinct_onto same_import (distinct_onto same_import (distinct_onto same_import (distinct same_import made) code) data_cells) used
  one_by_one =
      onto_append same_import [] (made ++ foreign_cells parts) used
      ∙ ap (λ ks. distinct_onto same_import ks used)
      (onto_append same_import [] made (foreign_cells parts)
      ∙ ap (distinct_onto same_import (distinct same_import made)) (filter_map-append foreign_cell (refs_of (parts_of_kind 0 parts)) (refs_of (parts_of_kind 1 parts)))
      ∙ onto_append same_import (distinct same_import made) (filter_map foreign_cell (refs_of (parts_of_kind 0 parts))) (filter_map foreign_cell (refs_of (parts_of_kind 1 parts))))

  -- The imported globals.
  pub imports_told : (mades : List ℕ) → mades ≡ map (number_by same_import imports) made → (numbers : List ℕ) → import_numbers names imports mades t live flags ≡ Some numbers → AreImports numbers
  imports_told mades mades_are numbers e = by_code (put_parts names imports t 0 (Some (insert_all nat_eq [] mades)) live) refl e
    where
      by_data : (c1 c2 : List ℕ) → put_parts names imports t 0 (Some (insert_all nat_eq [] mades)) live ≡ Some c1 → put_parts names imports t 1 (Some c1) live ≡ Some c2
          → insert_all nat_eq c2 (global_imports imports flags) ≡ numbers → AreImports numbers
      by_data c1 c2 e1 e2 en =
          let first = put_of names imports t p are 0 live parts live_are (insert_all nat_eq [] mades) c1 e1 in
          let second = put_of names imports t p are 1 live parts live_are c1 c2 e2 in
          let begun : All (Held imports) (distinct same_import made) = onto_held imports [] made (all_none (Held imports)) made_held in
          let i0 : insert_all nat_eq [] mades ≡ map (number_by same_import imports) (distinct same_import made) =
          ap (insert_all nat_eq []) mades_are ∙ put_told imports [] [] made refl (all_none (Held imports)) made_held in
          let code_keys = filter_map foreign_cell (refs_of (parts_of_kind 0 parts)) in
          let data_keys = filter_map foreign_cell (refs_of (parts_of_kind 1 parts)) in
          let k1 = distinct_onto same_import (distinct same_import made) code_keys in
          let i1 : c1 ≡ map (number_by same_import imports) k1 = first.cells ∙ put_told imports (insert_all nat_eq [] mades) (distinct same_import made) code_keys i0 begun first.held in
          let h1 : All (Held imports) k1 = onto_held imports (distinct same_import made) code_keys begun first.held in
          let k2 = distinct_onto same_import k1 data_keys in
          let i2 : c2 ≡ map (number_by same_import imports) k2 = second.cells ∙ put_told imports c1 k1 data_keys i1 h1 second.held in
          let h2 : All (Held imports) k2 = onto_held imports k1 data_keys h1 second.held in
          record {
            told = sym en ∙ ap (insert_all nat_eq c2) used_are ∙ put_told imports c2 k2 used i2 h2 used_held ∙ ap (map (number_by same_import imports)) (sym one_by_one);
            held = subst (All (Held imports)) (sym one_by_one) (onto_held imports k2 used h2 used_held);
          }

      by_cells : (c1 : List ℕ) → put_parts names imports t 0 (Some (insert_all nat_eq [] mades)) live ≡ Some c1 → (o : Option (List ℕ)) → put_parts names imports t 1 (Some c1) live ≡ o
          → option_map (λ cs. insert_all nat_eq cs (global_imports imports flags)) o ≡ Some numbers → AreImports numbers
      by_cells c1 e1 None e2 en = absurd cc
      by_cells c1 e1 (Some c2) e2 en = by_data c1 c2 e1 e2 cc

      by_code : (o : Option (List ℕ)) → put_parts names imports t 0 (Some (insert_all nat_eq [] mades)) live ≡ o
          → option_map (λ cs. insert_all nat_eq cs (global_imports imports flags)) (put_parts names imports t 1 o live) ≡ Some numbers → AreImports numbers
      by_code None e1 en = absurd (let z : None ≡ Some numbers = sym (ap (option_map (λ cs. insert_all nat_eq cs (global_imports imports flags))) (none_parts names imports t 1 live)) ∙ en in cc)
      by_code (Some c1) e1 en = by_cells c1 e1 (put_parts names imports t 1 (Some c1) live) refl en
