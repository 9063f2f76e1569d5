-- Sections that are grouped by name are the joined sections.
use Rattle.std.proofs.Common.{ℕ, zero, suc, ◌≡◌, ◌∙◌, ◌+◌, ◌<◌, ◌≤◌, List, [], ◌∷◌, ◌++◌, length, map, filter, flat_map, take, drop, get_or, slice_get, slice_index_or, Option, Some, refl, ap, sym, subst, arith, append_assoc}
use Rattle.std.specs.List.{AllByRecursion}
use Rattle.std.proofs.lemmas.List.{map-append, take_more, at_drop_more}
use Rattle.std.proofs.Math.ListN.{drop_of_length-le}
use Rattle.std.proofs.lemmas.Option.{get_or_from_slice_get}
use Rattle.leb_codec.specs.Shortest.{u32}
use Rattle.wl_base.specs.Names.{number_of}
use Rattle.image_emit.specs.Bytes.{sized}
use Rattle.debug_rules.specs.Faults.{Debug}
use Rattle.debug_rules.specs.Joined.{Places, place_at, written, is_named, length_of, payload_of, section_of, content_of}
use Rattle.debug_out.specs.declared.refs.DebugRef.{DebugRef}
use Rattle.debug_out.specs.declared.groups.Groups.{Groups}
use Rattle.debug_out.specs.Refs.{debug_seen}
use Rattle.debug_out.specs.Grouped.{IsGrouped, HasRows, payload_len}
use Rattle.debug_out.specs.Windows.{Stands, head_of, contents_by}
use Rattle.std.specs.Borrow.{Bor}
use Rattle.std.proofs.lemmas.Grind.{flat_map-append}
use Rattle.debug_out.specs.declared.pieces.Piece.{Piece}
use Rattle.debug_out.specs.declared.pieces.Piece.TheVariants.{Head, Content}
use Rattle.debug_out.specs.Pieces.{head_bytes, piece_bytes, pieces_bytes, Fits}
use Rattle.debug_out.proofs.Stands.{both}
use Rattle.debug_out.proofs.Long.{payload_long, all_kept}

pub seen_more : (all : List DebugRef) (i : ℕ) (d : DebugRef) → d ≡ get_or all i d → i < length all → map debug_seen (take i all) ++ debug_seen d ∷ [] ≡ map debug_seen (take (i + 1) all)
seen_more all i d is lt =
    ap (λ (x : DebugRef). map debug_seen (take i all) ++ debug_seen x ∷ []) is
    ∙ sym (ap (map debug_seen) (take_more all i d lt) ∙ map-append debug_seen (take i all) (get_or all i d ∷ []))

by_rows : (rows : List (List (Option ℕ))) (ds : List Debug) (p : Places) (xs : List Debug) → HasRows rows ds → contents_by rows p xs ≡ flat_map (content_of ds p) xs
by_rows rows ds p xs has = λ i. flat_map (λ (d : Debug). written (λ at. has d.object at i) p d) xs

regroup : (out a b : List ℕ) (n m : ℕ) → n ≡ m → (out ++ (0 ∷ (u32 n ++ a))) ++ b ≡ out ++ (0 ∷ (u32 m ++ (a ++ b)))
regroup out a b n m e = ap (λ k. (out ++ (0 ∷ (u32 k ++ a))) ++ b) e ∙ simp append_assoc

-- what is put for a name is its joined section
pub section_put : (names : List (List ℕ)) (g : Groups) (ds : List Debug) (p : Places) (n : ℕ) (name out : List ℕ)
    → number_of names name ≡ Some n → IsGrouped names g ds → AllByRecursion Stands ds
    → out ++ head_of name (slice_index_or g.lengths.items n 0) ++ contents_by g.rows.items p (map debug_seen (slice_index_or g.members.items n [])) ≡ out ++ section_of ds p name
section_put names g ds p n name out at has stand =
    let lengths = has.1 n name at in
    let members = has.0 n name at in
    ap (λ k. out ++ head_of name k ++ contents_by g.rows.items p (map debug_seen (slice_index_or g.members.items n []))) lengths
    ∙ (ap (λ xs. out ++ head_of name (length_of name ds) ++ contents_by g.rows.items p xs) members
    ∙ (ap (λ bytes. out ++ head_of name (length_of name ds) ++ bytes) (by_rows g.rows.items ds p (filter (is_named name) ds) has.2)
    ∙ regroup out (sized name) (flat_map (content_of ds p) (filter (is_named name) ds)) (payload_len name (length_of name ds)) (length (payload_of ds p name)) (sym (payload_long ds p name stand))))

pub section_goes : (names : List (List ℕ)) (g : Groups) (ds : List Debug) (p : Places) (n : ℕ) (name : List ℕ) (len : ℕ) (members : List DebugRef) (old mid new : List ℕ)
    → slice_get names n ≡ Some name → number_of names name ≡ Some n → slice_index_or g.lengths.items n 0 ≡ len → slice_index_or g.members.items n [] ≡ members
    → mid ≡ old ++ head_of name len → new ≡ mid ++ contents_by g.rows.items p (map debug_seen members)
    → IsGrouped names g ds → AllByRecursion Stands ds → new ≡ old ++ section_of ds p (slice_index_or names n [])
section_goes names g ds p n name len members old mid new here own l m head contents has stand =
    let at : slice_index_or names n [] ≡ name = get_or_from_slice_get names n name [] here in
    contents
    ∙ (ap (λ bytes. bytes ++ contents_by g.rows.items p (map debug_seen members)) head
    ∙ (ap (λ k. old ++ head_of name k ++ contents_by g.rows.items p (map debug_seen members)) (sym l)
    ∙ (ap (λ xs. old ++ head_of name (slice_index_or g.lengths.items n 0) ++ contents_by g.rows.items p (map debug_seen xs)) (sym m)
    ∙ (section_put names g ds p n name old own has stand
    ∙ ap (λ x. old ++ section_of ds p x) (sym at)))))

so_grouped : (a b c : List ℕ) → (a ++ b) ++ c ≡ a ++ (b ++ c)
so_grouped a b c = simp append_assoc

-- one joined section more
pub joined_step : (f : List ℕ → List ℕ) (names : List (List ℕ)) (n : ℕ) (out new whole : List ℕ) → n < length names → new ≡ out ++ f (slice_index_or names n [])
    → out ++ flat_map f (drop n names) ≡ whole → new ++ flat_map f (drop (n + 1) names) ≡ whole
joined_step f names n out new whole lt is so_far =
    ap (λ bytes. bytes ++ flat_map f (drop (n + 1) names)) is
    ∙ (so_grouped out (f (slice_index_or names n [])) (flat_map f (drop (n + 1) names))
    ∙ (sym (at_drop_more (λ xs. out ++ flat_map f xs) names n [] lt) ∙ so_far))

take_all : {A : Type 0} (xs : List A) (i : ℕ) → length xs ≤ i → take i xs ≡ xs
take_all [] zero le = refl
take_all [] (suc i) le = refl
take_all (x ∷ xs) zero le = absurd (omega (arith, le))
take_all (x ∷ xs) (suc i) le = ap (λ ys. x ∷ ys) (take_all xs i (omega (arith, le)))

pub seen_all : (all : List DebugRef) (i : ℕ) → length all ≤ i → map debug_seen (take i all) ≡ map debug_seen all
seen_all all i le = ap (map debug_seen) (take_all all i le)

-- ---- pieces

head_is : (name : List ℕ) (len : ℕ) → head_bytes name (length name) (payload_len name len) ++ [] ≡ head_of name len
head_is name len = nil_behind (head_of name len)
  where
    nil_behind : (xs : List ℕ) → xs ++ [] ≡ xs
    nil_behind [] = refl
    nil_behind (x ∷ xs) = ap (λ ys. x ∷ ys) (nil_behind xs)

contents_are : (rows : List (List (Option ℕ))) (p : Places) (members : List DebugRef) → pieces_bytes rows p (map Content members) ≡ contents_by rows p (map debug_seen members)
contents_are rows p [] = refl
contents_are rows p (d ∷ ds) = ap (λ bytes. written (place_at rows d.object) p (debug_seen d) ++ bytes) (contents_are rows p ds)

-- the pieces of a name are its joined section
pub section_pieces : (names : List (List ℕ)) (g : Groups) (ds : List Debug) (p : Places) (n : ℕ) (name : List ℕ) (lent : Bor (List ℕ)) (len : ℕ) (members : List DebugRef) (old mid new : List Piece)
    → slice_get names n ≡ Some name → number_of names name ≡ Some n → slice_index_or g.lengths.items n 0 ≡ len → slice_index_or g.members.items n [] ≡ members → lent.now ≡ name
    → mid ≡ old ++ Head lent (length lent.now) (payload_len lent.now len) ∷ [] → new ≡ mid ++ map Content members
    → IsGrouped names g ds → AllByRecursion Stands ds
    → pieces_bytes g.rows.items p new ≡ pieces_bytes g.rows.items p old ++ section_of ds p (slice_index_or names n [])
section_pieces names g ds p n name lent len members old mid new here own l m same head contents has stand =
    let f = piece_bytes g.rows.items p in
    let first : pieces_bytes g.rows.items p mid ≡ pieces_bytes g.rows.items p old ++ head_of name len =
    ap (flat_map f) head
    ∙ (flat_map-append f old (Head lent (length lent.now) (payload_len lent.now len) ∷ [])
    ∙ (ap (λ bytes. pieces_bytes g.rows.items p old ++ bytes) (head_is lent.now len) ∙ ap (λ k. pieces_bytes g.rows.items p old ++ head_of k len) same)) in
    let behind : pieces_bytes g.rows.items p new ≡ pieces_bytes g.rows.items p mid ++ contents_by g.rows.items p (map debug_seen members) =
    ap (flat_map f) contents ∙ (flat_map-append f mid (map Content members) ∙ ap (λ bytes. pieces_bytes g.rows.items p mid ++ bytes) (contents_are g.rows.items p members)) in
    section_goes names g ds p n name len members (pieces_bytes g.rows.items p old) (pieces_bytes g.rows.items p mid) (pieces_bytes g.rows.items p new) here own l m first behind has stand

all_fit : (members : List DebugRef) → AllByRecursion Stands (map debug_seen members) → AllByRecursion Fits (map Content members)
all_fit [] h = tt
all_fit (d ∷ ds) h = (h.0, all_fit ds h.1)

pub section_fits : (names : List (List ℕ)) (g : Groups) (ds : List Debug) (n : ℕ) (name : List ℕ) (lent : Bor (List ℕ)) (own payload : ℕ) (members : List DebugRef) (old mid new : List Piece)
    → number_of names name ≡ Some n → slice_index_or g.members.items n [] ≡ members
    → mid ≡ old ++ Head lent own payload ∷ [] → new ≡ mid ++ map Content members
    → IsGrouped names g ds → AllByRecursion Stands ds → AllByRecursion Fits old → AllByRecursion Fits new
section_fits names g ds n name lent own payload members old mid new at m head contents has stand fit =
    let kept : AllByRecursion Stands (filter (is_named name) ds) = all_kept Stands (is_named name) ds stand in
    let of_members : AllByRecursion Stands (map debug_seen members) =
    subst (AllByRecursion Stands) (sym (has.0 n name at) ∙ ap (map debug_seen) m) kept in
    let front : AllByRecursion Fits mid = subst (AllByRecursion Fits) (sym head) (both Fits old (Head lent own payload ∷ []) fit (tt, tt)) in
    subst (AllByRecursion Fits) (sym contents) (both Fits mid (map Content members) front (all_fit members of_members))

-- all joined sections
pub joined_done : (f : List ℕ → List ℕ) (names : List (List ℕ)) (n : ℕ) (out whole : List ℕ) → length names ≤ n → out ++ flat_map f (drop n names) ≡ whole → out ≡ whole
joined_done f names n out whole le so_far =
    sym (nil_behind out) ∙ (ap (λ xs. out ++ flat_map f xs) (sym (drop_of_length-le names le)) ∙ so_far)
  where
    nil_behind : (xs : List ℕ) → xs ++ [] ≡ xs
    nil_behind [] = refl
    nil_behind (x ∷ xs) = ap (λ ys. x ∷ ys) (nil_behind xs)
