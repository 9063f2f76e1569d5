-- Which pieces there are: their bytes, and that they fit.
use Rattle.std.proofs.Common.{◌≡◌, ℕ, ◌+◌, ◌<◌, ◌^◌, true, List, [], ◌∷◌, ◌++◌, length, map, drop, get_or, refl, sym, ap, ◌∙◌, subst, arith, append_assoc, length-append}
use Rattle.std.specs.Prelude.{◌&&◌, ◌==◌, codes}
use Rattle.std.specs.List.{flat_map, list_all}
use Rattle.std.proofs.lemmas.Bool.{and_parts, eq-eqb}
use Rattle.std.proofs.lemmas.List.{at_drop_more}
use Rattle.std.proofs.lemmas.Grind.{flat_map-append}
use Rattle.leb_codec.specs.Shortest.{u32}
use Rattle.reloc_section.specs.declared.entry.Reloc.{Reloc}
use Rattle.image_emit.specs.Bytes.{sized, vector}
use Rattle.partial_rules.specs.Relocatable.{reloc, later, reloc_section}
use Rattle.partial_bytes.specs.declared.tree.Part.{Part as Lent}
use Rattle.partial_bytes.specs.declared.tree.Tree.{Tree}
use Rattle.partial_bytes.specs.declared.part.PartKind.{PartKind}
use Rattle.partial_bytes.specs.declared.part.PartKind.TheVariants.{Body, Segment}
use Rattle.partial_bytes.specs.declared.pieces.Piece.{Piece}
use Rattle.partial_bytes.specs.declared.pieces.Piece.TheVariants.{Head, Part, Relocs}
use Rattle.partial_bytes.specs.Pieces.{reloc_head, piece_bytes, pieces_bytes, part_pieces, reloc_pieces, fits, Fit}
use Rattle.partial_bytes.specs.Relocs.{relocs_of}
use Rattle.partial_bytes.specs.Written.{head_len, payload_len, part_spelled, parts_section, relocs_at, relocs_in, part_fits, part_entries, front_of, linking_section, code_at, data_at, written}
use Rattle.partial_bytes.proofs.Bridge.{flat_told, entries_made}
use Rattle.partial_bytes.proofs.Fitting.{entries_fit}

-- ---- bytes of lists of pieces

pub both_bytes : (qs rs : List Piece) → pieces_bytes (qs ++ rs) ≡ pieces_bytes qs ++ pieces_bytes rs
both_bytes qs rs = flat_map-append piece_bytes qs rs

nil_behind : (xs : List ℕ) → xs ++ [] ≡ xs
nil_behind [] = refl
nil_behind (x ∷ xs) = ap (λ ys. x ∷ ys) (nil_behind xs)

pub one_bytes : (qs : List Piece) (q : Piece) → pieces_bytes (qs ++ q ∷ []) ≡ pieces_bytes qs ++ piece_bytes q
one_bytes qs q = both_bytes qs (q ∷ []) ∙ ap (λ zs. pieces_bytes qs ++ zs) (nil_behind (piece_bytes q))

parts_bytes : (kind : PartKind) (ps : List Lent) → pieces_bytes (part_pieces kind ps) ≡ flat_map (part_spelled kind) ps
parts_bytes kind ps = sym (flat_told piece_bytes (Part kind) ps)

relocs_bytes : (kind : PartKind) (at : ℕ) (ps : List Lent) → pieces_bytes (reloc_pieces kind at ps) ≡ flat_map reloc (relocs_at kind at ps)
relocs_bytes kind at [] = refl
relocs_bytes kind at (p ∷ ps) =
    (λ i. entries_made (at + head_len kind p) p i ++ relocs_bytes kind (at + head_len kind p + length p.bytes.now) ps i)
    ∙ sym (flat_map-append reloc (map {A = Reloc} {B = Reloc} (later (at + head_len kind p)) (relocs_of p)) (relocs_at kind (at + head_len kind p + length p.bytes.now) ps))

-- ---- fitting lists of pieces

pub both_fit : (qs rs : List Piece) → Fit qs → Fit rs → Fit (qs ++ rs)
both_fit [] rs h k = k
both_fit (q ∷ qs) rs h k =
    let p = and_parts (fits q) (list_all fits qs) h in
    ap (λ b. b && list_all fits (qs ++ rs)) p.0 ∙ both_fit qs rs p.1 k

pub one_fit : (qs : List Piece) (q : Piece) → Fit qs → fits q ≡ true → Fit (qs ++ q ∷ [])
one_fit qs q h k = both_fit qs (q ∷ []) h (ap (λ b. b && true) k)

pub parts_fit : (kind : PartKind) (ps : List Lent) → list_all part_fits ps ≡ true → Fit (part_pieces kind ps)
parts_fit kind [] h = refl
parts_fit kind (p ∷ ps) h =
    let q = and_parts (part_fits p) (list_all part_fits ps) h in
    ap (λ b. b && list_all fits (part_pieces kind ps)) q.0 ∙ parts_fit kind ps q.1

-- ---- a section of parts

pub no_section : (id : ℕ) (kind : PartKind) (ps : List Lent) (front : List ℕ) → length ps ≡ 0 → front ≡ front ++ parts_section id kind ps
no_section id kind [] front is = sym (nil_behind front)
no_section id kind (p ∷ ps) front is = absurd (omega (arith, is))

pub section_laid : (id : ℕ) (kind : PartKind) (ps : List Lent) (qs rs ss : List Piece) (size count : ℕ) → 0 < length ps
    → size ≡ payload_len kind ps → count ≡ length ps → rs ≡ qs ++ Head id size count ∷ [] → ss ≡ rs ++ part_pieces kind ps
    → pieces_bytes ss ≡ pieces_bytes qs ++ parts_section id kind ps
section_laid id kind [] qs rs ss size count there is many first then = absurd (omega (arith, there))
section_laid id kind (p ∷ ps) qs rs ss size count there is many first then =
    let all : List Lent = p ∷ ps in
    ap pieces_bytes then ∙ both_bytes rs (part_pieces kind all)
    ∙ (λ i. pieces_bytes (first i) ++ parts_bytes kind all i)
    ∙ ap (λ zs. zs ++ flat_map (part_spelled kind) all) (one_bytes qs (Head id size count))
    ∙ (λ i. (pieces_bytes qs ++ (id ∷ u32 (is i) ++ u32 (many i))) ++ flat_map (part_spelled kind) all)
    ∙ append_assoc (pieces_bytes qs) (id ∷ u32 (payload_len kind all) ++ u32 (length all)) (flat_map (part_spelled kind) all)

pub section_fit : (id : ℕ) (kind : PartKind) (ps : List Lent) (qs rs ss : List Piece) (size count : ℕ)
    → rs ≡ qs ++ Head id size count ∷ [] → ss ≡ rs ++ part_pieces kind ps → list_all part_fits ps ≡ true → Fit qs → Fit ss
section_fit id kind ps qs rs ss size count first then h k =
    subst Fit (sym then) (both_fit rs (part_pieces kind ps) (subst Fit (sym first) (one_fit qs (Head id size count) k refl)) (parts_fit kind ps h))

-- ---- a section of relocations

pub no_relocs : (name : List ℕ) (target : ℕ) (xs : List Reloc) (front : List ℕ) → length xs ≡ 0 → front ≡ front ++ reloc_section name target xs
no_relocs name target [] front is = sym (nil_behind front)
no_relocs name target (x ∷ xs) front is = absurd (omega (arith, is))

-- how long the payload is
pub payload_long : (name : List ℕ) (target : ℕ) (xs : List Reloc) (count len : ℕ) → count ≡ length xs → len ≡ length (flat_map reloc xs)
    → length (sized name) + length (u32 target) + length (u32 count) + len ≡ length (sized name ++ (u32 target ++ vector reloc xs))
payload_long name target xs count len many long =
    let number = ap (λ n. length (u32 n)) many in
    omega (arith, length-append (sized name) (u32 target ++ vector reloc xs), length-append (u32 target) (vector reloc xs), length-append (u32 (length xs)) (flat_map reloc xs), number, long)

pub relocs_long : (name : List ℕ) (target : ℕ) (xs : List Reloc) (size n : ℕ) → 0 < length xs → size ≡ length (sized name ++ (u32 target ++ vector reloc xs)) → n ≡ 1 + length (u32 size) + size
    → n ≡ length (reloc_section name target xs)
relocs_long name target [] size n there is all = absurd (omega (arith, there))
relocs_long name target (x ∷ xs) size n there is all =
    let payload : List ℕ = sized name ++ (u32 target ++ vector reloc (x ∷ xs)) in
    let number = ap (λ k. length (u32 k)) is in
    omega (arith, all, is, number, length-append (u32 (length payload)) payload)

module _ (name : List ℕ) (target : ℕ) (kind : PartKind) (ps : List Lent) where
  regrouped : (size count : List ℕ) (rest : List ℕ) → (0 ∷ size ++ sized name ++ u32 target ++ count) ++ rest ≡ 0 ∷ (size ++ (sized name ++ (u32 target ++ (count ++ rest))))
  regrouped size count rest =
      append_assoc (0 ∷ size ++ sized name ++ u32 target) count rest
      ∙ (append_assoc (0 ∷ size ++ sized name) (u32 target) (count ++ rest)
      ∙ append_assoc (0 ∷ size) (sized name) (u32 target ++ (count ++ rest)))

  section_is : (xs : List Reloc) (size count : ℕ) → 0 < length xs → size ≡ length (sized name ++ (u32 target ++ vector reloc xs)) → count ≡ length xs
      → reloc_head name size target count ++ flat_map reloc xs ≡ reloc_section name target xs
  section_is [] size count there is many = absurd (omega (arith, there))
  section_is (x ∷ xs) size count there is many =
      (λ i. reloc_head name (is i) target (many i) ++ flat_map reloc (x ∷ xs))
      ∙ regrouped (u32 (length (sized name ++ (u32 target ++ vector reloc (x ∷ xs))))) (u32 (length (x ∷ xs))) (flat_map reloc (x ∷ xs))

  pub relocs_laid : (qs rs ss : List Piece) (size count at : ℕ) → 0 < length (relocs_in kind ps)
      → size ≡ length (sized name ++ (u32 target ++ vector reloc (relocs_in kind ps))) → count ≡ length (relocs_in kind ps) → at ≡ length (u32 (length ps))
      → pieces_bytes rs ≡ pieces_bytes qs ++ reloc_head name size target count → ss ≡ rs ++ reloc_pieces kind at ps
      → pieces_bytes ss ≡ pieces_bytes qs ++ reloc_section name target (relocs_in kind ps)
  relocs_laid qs rs ss size count at there is many from first then =
      let xs = relocs_in kind ps in
      ap pieces_bytes then ∙ both_bytes rs (reloc_pieces kind at ps)
      ∙ (λ i. first i ++ relocs_bytes kind at ps i)
      ∙ ap (λ n. (pieces_bytes qs ++ reloc_head name size target count) ++ flat_map reloc (relocs_at kind n ps)) from
      ∙ append_assoc (pieces_bytes qs) (reloc_head name size target count) (flat_map reloc xs)
      ∙ ap (λ zs. pieces_bytes qs ++ zs) (section_is xs size count there is many)

-- ---- all pieces

pub all_bytes : (t : Tree) (q l : Piece) (code_name data_name : List ℕ) (code later_code : ℕ) (a b c d e f : List Piece)
    → piece_bytes q ≡ front_of t → piece_bytes l ≡ linking_section t → code_name ≡ codes "reloc.CODE" → data_name ≡ codes "reloc.DATA" → code ≡ code_at t → later_code ≡ data_at t
    → a ≡ q ∷ []
    → pieces_bytes b ≡ pieces_bytes a ++ parts_section 10 Body t.bodies.now
    → pieces_bytes c ≡ pieces_bytes b ++ parts_section 11 Segment t.segments.now
    → d ≡ c ++ l ∷ []
    → pieces_bytes e ≡ pieces_bytes d ++ reloc_section code_name code (relocs_in Body t.bodies.now)
    → pieces_bytes f ≡ pieces_bytes e ++ reloc_section data_name later_code (relocs_in Segment t.segments.now)
    → pieces_bytes f ≡ written t
all_bytes t q l code_name data_name code later_code a b c d e f front linking named named_too place place_too first bodies segments fourth relocs relocs_too =
    let at_front : pieces_bytes a ≡ front_of t = ap pieces_bytes first ∙ (nil_behind (piece_bytes q) ∙ front) in
    let at_bodies = bodies ∙ ap (λ zs. zs ++ parts_section 10 Body t.bodies.now) at_front in
    let at_segments = segments ∙ ap (λ zs. zs ++ parts_section 11 Segment t.segments.now) at_bodies in
    let at_linking = ap pieces_bytes fourth ∙ (one_bytes c l ∙ (λ i. at_segments i ++ linking i)) in
    let at_relocs = relocs ∙ (λ i. at_linking i ++ reloc_section (named i) (place i) (relocs_in Body t.bodies.now)) in
    relocs_too ∙ (λ i. at_relocs i ++ reloc_section (named_too i) (place_too i) (relocs_in Segment t.segments.now))

-- ---- relocations of one part more

pub entries_more : (kind : PartKind) (ps : List Lent) (i : ℕ) (d : Lent) → i < length ps → (qs rs whole : List Piece) (at from end len : ℕ)
    → from ≡ at + head_len kind (get_or ps i d) → end ≡ from + length (get_or ps i d).bytes.now → len ≡ length (part_entries from (get_or ps i d))
    → rs ≡ qs ++ Relocs from len (get_or ps i d) ∷ [] → qs ++ reloc_pieces kind at (drop i ps) ≡ whole → rs ++ reloc_pieces kind end (drop (i + 1) ps) ≡ whole
entries_more kind ps i d lt qs rs whole at from end len is next long put so_far =
    let p = get_or ps i d in
    let long_of : ℕ → ℕ = λ n. length (part_entries n p) in
    (λ j. put j ++ reloc_pieces kind (next j) (drop (i + 1) ps))
    ∙ ap (λ n. (qs ++ Relocs from n p ∷ []) ++ reloc_pieces kind (from + length p.bytes.now) (drop (i + 1) ps)) long
    ∙ (λ j. (qs ++ Relocs (is j) (long_of (is j)) p ∷ []) ++ reloc_pieces kind (is j + length p.bytes.now) (drop (i + 1) ps))
    ∙ behind qs (Relocs (at + head_len kind p) (long_of (at + head_len kind p)) p) (reloc_pieces kind (at + head_len kind p + length p.bytes.now) (drop (i + 1) ps))
    ∙ sym (at_drop_more (λ (xs : List Lent). qs ++ reloc_pieces kind at xs) ps i d lt)
    ∙ so_far
  where
    behind : (xs : List Piece) (y : Piece) (zs : List Piece) → (xs ++ y ∷ []) ++ zs ≡ xs ++ y ∷ zs
    behind xs y zs = simp append_assoc

pub entries_fit_more : (ps : List Lent) (i : ℕ) (d : Lent) → i < length ps → (qs rs : List Piece) (from end len : ℕ)
    → end ≡ from + length (get_or ps i d).bytes.now → end < 2 ^ 32 → len ≡ length (part_entries from (get_or ps i d))
    → rs ≡ qs ++ Relocs from len (get_or ps i d) ∷ []
    → list_all part_fits (drop i ps) ≡ true → Fit qs → Fit rs × (list_all part_fits (drop (i + 1) ps) ≡ true)
entries_fit_more ps i d lt qs rs from end len next low long put h k =
    let p = get_or ps i d in
    let here : list_all part_fits (p ∷ drop (i + 1) ps) ≡ true = subst (λ (zs : List Lent). list_all part_fits zs ≡ true) (at_drop_more (λ (xs : List Lent). xs) ps i d lt) h in
    let both = and_parts (part_fits p) (list_all part_fits (drop (i + 1) ps)) here in
    let low_ones = entries_fit (relocs_of p) from (length p.bytes.now) both.0 (omega (arith, next, low)) in
    let entry : fits (Relocs from len p) ≡ true =
    ap (λ b. b && (len == length (part_entries from p))) low_ones ∙ eq-eqb len (length (part_entries from p)) long in
    (subst Fit (sym put) (one_fit qs (Relocs from len p) k entry), both.1)
