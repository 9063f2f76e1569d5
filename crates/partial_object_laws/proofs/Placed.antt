-- Where the windows of bodies stand in the bytes of a relocatable object.
use Rattle.std.proofs.Common.{◌≡◌, ℕ, ◌+◌, ◌-◌, ◌<◌, ◌==◌, Bool, false, List, [], ◌∷◌, ◌++◌, map, length, inl, inr, ⊎_elim, refl, sym, ap, ◌∙◌, subst, arith, append_assoc, length-append}
use Rattle.std.specs.Prelude.{flat_map, slice_index_or, if◌then◌else◌}
use Rattle.std.proofs.lemmas.List.{get_or-append-add, get_or_append_left}
use Rattle.std.proofs.lemmas.List.Concat.{flat_map-cons}
use Rattle.list_places.specs.Has.{Has}
use Rattle.list_places.proofs.Lists.{has_either, has_map}
use Rattle.object_file.specs.leb_codec.Shortest.{u32}
use Rattle.object_rules.specs.Windows.{start_of as start_in}
use Rattle.name_rules.specs.object_file.reloc_section.declared.entry.Reloc.{Reloc}
use Rattle.image_emit.specs.Bytes.{vector, func_type, import_entry, export}
use Rattle.partial_rules.specs.Relocatable.{Relocatable, Windowed, body, body_head, spelled_global, later, relocs_from, section_relocs, relocatable_bytes}
use Rattle.partial_rules.specs.Sections.{Raw, raws_bytes, spans, sec, behind_code, start_of, sections_told}
use Rattle.partial_parts_laws.proofs.Sectioned.{stands_in, before_code}

-- A relocation of a body: which, and that the body's bytes stand where its places count from.
pub record OfBody (text : List ℕ) (start : ℕ) (ws : List Windowed) (y : Reloc) : Type 0 where
  pub whole : Windowed
  pub there : Has ws whole
  pub own : Reloc
  pub one_of : Has whole.relocs own
  pub by : ℕ
  pub is : later by own ≡ y
  pub stands : (k : ℕ) → k < length whole.bytes → slice_index_or text (start + (by + k)) 0 ≡ slice_index_or whole.bytes k 0

stands_here : (text front own back : List ℕ) (at k : ℕ) → text ≡ front ++ (own ++ back) → at ≡ length front → k < length own → slice_index_or text (at + k) 0 ≡ slice_index_or own k 0
stands_here text front own back at k is place low =
    ap (λ n. slice_index_or text (n + k) 0) place
    ∙ (ap (λ ts. slice_index_or ts (length front + k) 0) is ∙ (get_or-append-add front (own ++ back) k 0 ∙ get_or_append_left own back 0 k low))

pub of_body : (text front back : List ℕ) (start at : ℕ) (ws : List Windowed) → text ≡ front ++ (flat_map body ws ++ back) → start + at ≡ length front → (y : Reloc) → Has (relocs_from body_head at ws) y → OfBody text start ws y
of_body text front back start at [] is place y has = absurd has
of_body text front back start at (w ∷ ws) is place y has =
    let head : List ℕ = body_head w.bytes in
    let rest : List ℕ = flat_map body ws in
    let cut : text ≡ front ++ ((head ++ w.bytes) ++ (rest ++ back)) = is ∙ (ap (λ xs. front ++ (xs ++ back)) (flat_map-cons body w ws) ∙ ap (λ xs. front ++ xs) (append_assoc (head ++ w.bytes) rest back)) in
    let here : text ≡ (front ++ head) ++ (w.bytes ++ (rest ++ back)) = cut ∙ (ap (λ xs. front ++ xs) (append_assoc head w.bytes (rest ++ back)) ∙ sym (append_assoc front head (w.bytes ++ (rest ++ back)))) in
    let behind : text ≡ (front ++ (head ++ w.bytes)) ++ (rest ++ back) = cut ∙ sym (append_assoc front (head ++ w.bytes) (rest ++ back)) in
    let q : ℕ = at + length head in
    let at_own : start + q ≡ length (front ++ head) = omega (arith, place, length-append front head) in
    let at_rest : start + (q + length w.bytes) ≡ length (front ++ (head ++ w.bytes)) = omega (arith, place, length-append front (head ++ w.bytes), length-append head w.bytes) in
    ⊎_elim
    (λ own.
    let m = has_map {X = Reloc} {Y = Reloc} (later q) w.relocs y own in
    record {
      whole = w;
      there = inl refl;
      own = m.0;
      one_of = m.1;
      by = q;
      is = m.2;
      stands = λ k low. let same : start + (q + k) ≡ start + q + k = omega arith in ap (λ n. slice_index_or text n 0) same ∙ stands_here text (front ++ head) w.bytes (rest ++ back) (start + q) k here at_own low;
    })
    (λ later_on.
    let o = of_body text (front ++ (head ++ w.bytes)) back start (q + length w.bytes) ws behind at_rest y later_on in
    record { whole = o.whole; there = inr o.there; own = o.own; one_of = o.one_of; by = o.by; is = o.is; stands = o.stands })
    (has_either (map {A = Reloc} {B = Reloc} (later q) w.relocs) (relocs_from body_head (q + length w.bytes) ws) y has)

-- ---- where the payload of code begins

start_skips : {A : Type 0} (want end id : ℕ) (item : A → List ℕ) (xs : List A) (ss : List Raw) → (id == want) ≡ false → start_in want (spans end (sec id item xs ++ ss)) ≡ start_in want (spans end ss)
start_skips want end id item [] ss other = refl
start_skips want end id item (x ∷ xs) ss other =
    ap (λ (b : Bool). if b then end - length (vector item (x ∷ xs) ++ raws_bytes ss) else start_in want (spans end ss)) other

code_first : (end : ℕ) (xs : List Windowed) (w : Windowed) (ws : List Windowed) (ss : List Raw) → xs ≡ w ∷ ws → start_in 10 (spans end (sec 10 body xs ++ ss)) ≡ start_of end (vector body xs) ss
code_first end xs w ws ss some = subst (λ zs. start_in 10 (spans end (sec 10 body zs ++ ss)) ≡ start_of end (vector body zs) ss) (sym some) refl

module _ (r : Relocatable) where
  code_begins : (w : Windowed) (ws : List Windowed) → r.bodies ≡ w ∷ ws → start_in 10 (sections_told r) ≡ start_of (length (relocatable_bytes r)) (vector body r.bodies) (behind_code r)
  code_begins w ws some =
      let end : ℕ = length (relocatable_bytes r) in
      let f : List Raw = sec 10 body r.bodies ++ behind_code r in
      let e : List Raw = sec 7 export r.exports ++ f in
      let d : List Raw = sec 6 spelled_global r.globals ++ e in
      let b : List Raw = sec 3 (λ (n : ℕ). u32 n) r.functions ++ d in
      let a : List Raw = sec 2 import_entry r.imports ++ b in
      start_skips 10 end 1 func_type r.types a refl ∙ (start_skips 10 end 2 import_entry r.imports b refl ∙ (start_skips 10 end 3 (λ (n : ℕ). u32 n) r.functions d refl
      ∙ (start_skips 10 end 6 spelled_global r.globals e refl ∙ (start_skips 10 end 7 export r.exports f refl ∙ code_first end r.bodies w ws (behind_code r) some))))

  -- A relocation of the code, by the body that it is from.
  pub in_section : (y : Reloc) → Has (section_relocs body_head r.bodies) y → OfBody (relocatable_bytes r) (start_in 10 (sections_told r)) r.bodies y
  in_section y has = by_bodies r.bodies refl
    where
      by_bodies : (ws : List Windowed) → r.bodies ≡ ws → OfBody (relocatable_bytes r) (start_in 10 (sections_told r)) r.bodies y
      by_bodies [] none = absurd (subst (λ ws. Has (section_relocs body_head ws) y) none has)
      by_bodies (w ∷ ws) some =
          let before = before_code r in
          let s = stands_in 10 body r.bodies w ws before.0 (behind_code r) (relocatable_bytes r) some before.1 in
          of_body (relocatable_bytes r) s.front (raws_bytes (behind_code r)) (start_in 10 (sections_told r)) (length (u32 (length r.bodies))) r.bodies s.are
          (ap (λ n. n + length (u32 (length r.bodies))) (code_begins w ws some) ∙ s.from) y has
