-- Windows that lie in a part: emptying them leaves it as long, and their relocations have places in its section.
use Rattle.std.proofs.Common.{◌≡◌, ℕ, zero, suc, take, get_or, ◌+◌, ◌<◌, ◌≤◌, ◌^◌, nat_le, nat_lt, true, List, [], ◌∷◌, length, map, refl, ap, ◌∙◌, arith, rules, length-append}
use Rattle.std.specs.Prelude.{All, ◌&&◌}
use Rattle.std.specs.List.{AllByRecursion, list_all, flat_map}
use Rattle.std.proofs.lemmas.Bool.{and_parts, leb-true}
use Rattle.std.proofs.lemmas.List.Elements.{All-from_recursion, recursion_from_All}
use Rattle.leb_codec.specs.Shortest.{u32}
use Rattle.reloc_section.specs.declared.entry.Reloc.{Reloc}
use Rattle.reloc_apply.specs.Apart.{LiesIn, size_of}
use Rattle.reloc_apply.proofs.Over.{long_all}
use Rattle.link_rules.specs.Values.{form_of}
use Rattle.partial_rules.specs.Relocatable.{reloc, later}
use Rattle.link_program.specs.declared.named.Named.{Named}
use Rattle.partial_bytes.specs.declared.tree.Numbers.{Numbers}
use Rattle.partial_bytes.specs.declared.tree.Part.{Part}
use Rattle.partial_bytes.specs.declared.tree.Tree.{Tree}
use Rattle.partial_bytes.specs.declared.part.PartKind.{PartKind}
use Rattle.partial_bytes.specs.Relocs.{reloc_by, relocs_by, relocs_of}
use Rattle.partial_bytes.specs.Told.{empty_of, emptied, PartFits, TreeFits}
use Rattle.partial_bytes.specs.Pieces.{entry_fits}
use Rattle.partial_bytes.specs.Written.{head_of, lead, part_len, part_spelled, entries, window_fits, part_fits}

-- ---- windows in so many bytes, judged and known

pub all_of : (len : ℕ) (xs : List Reloc) → list_all (window_fits len) xs ≡ true → AllByRecursion (LiesIn len) (map empty_of xs)
all_of len [] h = tt
all_of len (x ∷ xs) h =
    let p = and_parts (window_fits len x) (list_all (window_fits len) xs) h in
    (leb-true (x.offset + size_of (form_of x.kind)) len p.0, all_of len xs p.1)

judged : (len : ℕ) (xs : List Reloc) → AllByRecursion (LiesIn len) (map empty_of xs) → list_all (window_fits len) xs ≡ true
judged len [] h = refl
judged len (x ∷ xs) h =
    let e : window_fits len x ≡ true = is_le (x.offset + size_of (form_of x.kind)) len h.0 in
    ap (λ b. b && list_all (window_fits len) xs) e ∙ judged len xs h.1
  where
    is_le : (a b : ℕ) → a ≤ b → nat_le a b ≡ true
    is_le a b le = search rules

pub part_judged : (p : Part) → PartFits p → part_fits p ≡ true
part_judged p h = judged (length p.bytes.now) (relocs_of p) (recursion_from_All (LiesIn (length p.bytes.now)) (map empty_of (relocs_of p)) h)

pub parts_judged : (ps : List Part) → All PartFits ps → list_all part_fits ps ≡ true
parts_judged ps h = by ps (recursion_from_All PartFits ps h)
  where
    by : (ps : List Part) → AllByRecursion PartFits ps → list_all part_fits ps ≡ true
    by [] h = refl
    by (p ∷ ps) h = ap (λ b. b && list_all part_fits ps) (part_judged p h.0) ∙ by ps h.1

-- what is looked at of each window
pub fits_made : (len : ℕ) (n : Numbers) (xs : List Named) → list_all (λ x. window_fits len (reloc_by n x)) xs ≡ list_all (window_fits len) (relocs_by n xs)
fits_made len n [] = refl
fits_made len n (x ∷ xs) = ap (λ b. window_fits len (reloc_by n x) && b) (fits_made len n xs)

-- ---- how long

pub emptied_long : (xs : List Reloc) (bytes : List ℕ) → list_all (window_fits (length bytes)) xs ≡ true → length (emptied xs bytes) ≡ length bytes
emptied_long xs bytes h = long_all (map empty_of xs) bytes (All-from_recursion (LiesIn (length bytes)) (map empty_of xs) (all_of (length bytes) xs h))

pub head_long : (kind : PartKind) (bytes : List ℕ) → length (head_of kind bytes) ≡ length (lead kind) + length (u32 (length bytes))
head_long kind bytes = length-append (lead kind) (u32 (length bytes))

pub part_long : (kind : PartKind) (p : Part) → part_fits p ≡ true → length (part_spelled kind p) ≡ part_len kind p
part_long kind p h =
    omega (arith, length-append (head_of kind p.bytes.now) (emptied (relocs_of p) p.bytes.now), head_long kind p.bytes.now, emptied_long (relocs_of p) p.bytes.now h)

-- ---- places of relocations

pub entries_fit : (xs : List Reloc) (from len : ℕ) → list_all (window_fits len) xs ≡ true → from + len < 2 ^ 32 → list_all (entry_fits from) xs ≡ true
entries_fit [] from len h low = refl
entries_fit (x ∷ xs) from len h low =
    let p = and_parts (window_fits len x) (list_all (window_fits len) xs) h in
    let le = leb-true (x.offset + size_of (form_of x.kind)) len p.0 in
    let e : entry_fits from x ≡ true = is_lt (from + x.offset) (omega (arith, le, low)) in
    ap (λ b. b && list_all (entry_fits from) xs) e ∙ entries_fit xs from len p.1 low
  where
    is_lt : (a : ℕ) → a < 2 ^ 32 → nat_lt a (2 ^ 32) ≡ true
    is_lt a lt = search rules

-- there is room for one item more
pub item_room : {X : Type 0} (f : X → List ℕ) (xs : List X) (i : ℕ) (d : X) → i < length xs
    → length (flat_map f (take i xs)) + length (f (get_or xs i d)) ≤ length (flat_map f xs)
item_room f [] i d lt = absurd (omega (arith, lt))
item_room f (x ∷ xs) zero d lt = omega (arith, length-append (f x) (flat_map f xs))
item_room f (x ∷ xs) (suc i) d lt =
    omega (arith, item_room f xs i d (omega (arith, lt)), length-append (f x) (flat_map f xs), length-append (f x) (flat_map f (take i xs)))

-- the same of the entries of what windows name
pub entry_room : (from : ℕ) (n : Numbers) (xs : List Named) (i : ℕ) (d : Named) → i < length xs → (r : Reloc) → r ≡ reloc_by n (get_or xs i d)
    → length (entries from n (take i xs)) + length (reloc (later from r)) ≤ length (entries from n xs)
entry_room from n xs i d lt r is =
    omega (arith, ap (λ x. length (reloc (later from x))) is, item_room (λ x. reloc (later from (reloc_by n x))) xs i d lt)

-- ---- all parts

parts_known : (ps : List Part) → list_all part_fits ps ≡ true → All PartFits ps
parts_known ps h = All-from_recursion PartFits ps (by ps h)
  where
    by : (ps : List Part) → list_all part_fits ps ≡ true → AllByRecursion PartFits ps
    by [] h = tt
    by (p ∷ ps) h =
        let q = and_parts (part_fits p) (list_all part_fits ps) h in
        (All-from_recursion (LiesIn (length p.bytes.now)) (map empty_of (relocs_of p)) (all_of (length p.bytes.now) (relocs_of p) q.0), by ps q.1)

pub tree_known : (t : Tree) → list_all part_fits t.bodies.now ≡ true → list_all part_fits t.segments.now ≡ true → TreeFits t
tree_known t bodies segments = record { bodies = parts_known t.bodies.now bodies; segments = parts_known t.segments.now segments }
