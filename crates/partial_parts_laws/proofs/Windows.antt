-- The windows of segments that stand one behind another: each has its own relocations, at their places in its bytes.
use Rattle.std.proofs.Common.{◌≡◌, ℕ, ◌+◌, ◌-◌, ◌<◌, ◌≤◌, Bool, true, List, [], ◌∷◌, ◌++◌, map, length, inl, inr, refl, sym, ap, ◌∙◌, subst, arith}
use Rattle.std.specs.Prelude.{flat_map}
use Rattle.std.specs.List.{AllZip, prefix_len}
use Rattle.std.proofs.Math.Seq.{drop-append_seam, take-append_seam}
use Rattle.std.proofs.lemmas.Bool.{lt-ltb, le-ltb}
use Rattle.std.proofs.lemmas.List.{length-append}
use Rattle.std.proofs.lemmas.List.Concat.{flat_map-cons}
use Rattle.list_places.specs.Has.{Has}
use Rattle.name_rules.specs.object_file.reloc_section.declared.entry.Reloc.{Reloc}
use Rattle.name_rules.specs.object_file.linking_section.declared.segment.SegmentInfo.{SegmentInfo}
use Rattle.name_rules.specs.object_file.object_columns.declared.segments.SegmentDef.{SegmentDef}
use Rattle.object_file.specs.Objects.{window_from, segments_from, other_infos}
use Rattle.object_rules.specs.object_parts.Code.{begins_before, before, behind}
use Rattle.partial_rules.specs.Relocatable.{Windowed, segment, segment_head, later, relocs_from}
use Rattle.partial_rules.specs.ReadAs.{told_from, data_part}

-- ---- each has the relocations that begin before its end

own_first : (p : Reloc → Bool) (xs ys : List Reloc) → ((x : Reloc) → Has xs x → p x ≡ true) → prefix_len p ys ≡ 0 → prefix_len p (xs ++ ys) ≡ length xs
own_first p [] ys all none = none
own_first p (x ∷ xs) ys all none = rw (all x (inl refl)) (omega (arith, own_first p xs ys (λ y h. all y (inr h)) none))

moved_inside : (q len : ℕ) (rs : List Reloc) → ((r : Reloc) → Has rs r → r.offset < len) → (x : Reloc) → Has (map {A = Reloc} {B = Reloc} (later q) rs) x → begins_before (q + len) x ≡ true
moved_inside q len [] inside x has = absurd has
moved_inside q len (r ∷ rs) inside x (inl e) = subst (λ y. begins_before (q + len) y ≡ true) e (lt-ltb (q + r.offset) (q + len) (omega (arith, inside r (inl refl))))
moved_inside q len (r ∷ rs) inside x (inr has) = moved_inside q len rs (λ y h. inside y (inr h)) x has

-- those of later ones begin behind it
pub later_behind : (head : List ℕ → List ℕ) (at limit : ℕ) (ws : List Windowed) → limit ≤ at → prefix_len (begins_before limit) (relocs_from head at ws) ≡ 0
later_behind head at limit [] le = refl
later_behind head at limit (w ∷ ws) le = by_own w.relocs (later_behind head (at + length (head w.bytes) + length w.bytes) limit ws (omega (arith, le)))
  where
    by_own : (rs : List Reloc) → prefix_len (begins_before limit) (relocs_from head (at + length (head w.bytes) + length w.bytes) ws) ≡ 0
        → prefix_len (begins_before limit) (map {A = Reloc} {B = Reloc} (later (at + length (head w.bytes))) rs ++ relocs_from head (at + length (head w.bytes) + length w.bytes) ws) ≡ 0
    by_own [] rest = rest
    by_own (r ∷ rs) rest = rw (le-ltb (at + length (head w.bytes) + r.offset) limit (omega (arith, le))) refl

split : (q len : ℕ) (rs others : List Reloc) → ((r : Reloc) → Has rs r → r.offset < len) → prefix_len (begins_before (q + len)) others ≡ 0
    → prefix_len (begins_before (q + len)) (map {A = Reloc} {B = Reloc} (later q) rs ++ others) ≡ length (map {A = Reloc} {B = Reloc} (later q) rs)
split q len rs others inside none = own_first (begins_before (q + len)) (map {A = Reloc} {B = Reloc} (later q) rs) others (moved_inside q len rs inside) none

pub own_before : (q len : ℕ) (rs others : List Reloc) → ((r : Reloc) → Has rs r → r.offset < len) → prefix_len (begins_before (q + len)) others ≡ 0
    → before (q + len) (map {A = Reloc} {B = Reloc} (later q) rs ++ others) ≡ map {A = Reloc} {B = Reloc} (later q) rs
own_before q len rs others inside none = rw (split q len rs others inside none) (take-append_seam (map {A = Reloc} {B = Reloc} (later q) rs) others)

pub others_behind : (q len : ℕ) (rs others : List Reloc) → ((r : Reloc) → Has rs r → r.offset < len) → prefix_len (begins_before (q + len)) others ≡ 0
    → behind (q + len) (map {A = Reloc} {B = Reloc} (later q) rs ++ others) ≡ others
others_behind q len rs others inside none = rw (split q len rs others inside none) (drop-append_seam (map {A = Reloc} {B = Reloc} (later q) rs) others)

back_again : (q : ℕ) (rs : List Reloc) → map {A = Reloc} {B = Reloc} (window_from q) (map {A = Reloc} {B = Reloc} (later q) rs) ≡ rs
back_again q [] = refl
back_again q (r ∷ rs) = let same : q + r.offset - q ≡ r.offset = omega arith in λ i. record r { offset = same i } ∷ back_again q rs i

-- ---- segments from a place of the payload on, which starts at a place of the object; the end is that of the payload

pub own_windows : (start at end : ℕ) (infos : List SegmentInfo) (ws : List Windowed) → end ≡ start + at + length (flat_map segment ws) → ((w : Windowed) → Has ws w → (r : Reloc) → Has w.relocs r → r.offset < length w.bytes)
    → AllZip (λ (w : Windowed) (g : SegmentDef). g.windows ≡ w.relocs) ws (segments_from start (relocs_from segment_head at ws) infos (told_from (data_part end) segment ws))
own_windows start at end infos [] place inside = tt
own_windows start at end infos (w ∷ ws) place inside =
    let rest : List ℕ = flat_map segment ws in
    let cut : flat_map segment (w ∷ ws) ≡ segment w ++ rest = flat_map-cons segment w ws in
    let q : ℕ = at + length (segment_head w.bytes) in
    let len : ℕ = length w.bytes in
    let others : List Reloc = relocs_from segment_head (q + len) ws in
    let state : List Reloc = map {A = Reloc} {B = Reloc} (later q) w.relocs ++ others in
    let long : length (flat_map segment (w ∷ ws)) ≡ length (segment_head w.bytes) + len + length rest =
    ap (λ xs. length xs) cut ∙ (length-append (segment w) rest ∙ ap (λ n. n + length rest) (length-append (segment_head w.bytes) w.bytes)) in
    let ends : end ≡ start + (q + len) + length rest = omega (arith, place, long) in
    let base : end - length rest - len - start ≡ q = omega (arith, ends) in
    let top : end - length rest - len + len - start ≡ q + len = omega (arith, ends) in
    let none : prefix_len (begins_before (q + len)) others ≡ 0 = later_behind segment_head (q + len) (q + len) ws (omega arith) in
    let mine : before (end - length rest - len + len - start) state ≡ map {A = Reloc} {B = Reloc} (later q) w.relocs =
    ap (λ n. before n state) top ∙ own_before q len w.relocs others (inside w (inl refl)) none in
    let left : behind (end - length rest - len + len - start) state ≡ others =
    ap (λ n. behind n state) top ∙ others_behind q len w.relocs others (inside w (inl refl)) none in (
      ap (λ n. map {A = Reloc} {B = Reloc} (window_from n) (before (end - length rest - len + len - start) state)) base
          ∙ (ap (λ rs. map {A = Reloc} {B = Reloc} (window_from q) rs) mine ∙ back_again q w.relocs),
      subst (λ rs. AllZip (λ (w : Windowed) (g : SegmentDef). g.windows ≡ w.relocs) ws (segments_from start rs (other_infos infos) (told_from (data_part end) segment ws))) (sym left)
          (own_windows start (q + len) end (other_infos infos) ws ends (λ v h. inside v (inr h))),
    )
