-- Where the windows of joined sections stand in an output, and that they hold their words.
use Rattle.std.proofs.Common.{ℕ, zero, suc, ◌≡◌, ◌∙◌, ◌+◌, ◌-◌, ◌≤◌, List, [], ◌∷◌, ◌++◌, length, take, drop, map, filter, flat_map, slice_range, Contains, Option, inl, inr, refl, ap, sym, subst, arith, append_assoc}
use Rattle.std.specs.List.{AllByRecursion}
use Rattle.std.proofs.lemmas.List.{length-drop}
use Rattle.std.proofs.lemmas.List.Elements.{All-from_recursion, All-contains}
use Rattle.std.proofs.lemmas.Slice.Eq.{bytes_eq-Decides}
use Rattle.object_file.specs.leb_codec.Shortest.{u32}
use Rattle.object_file.specs.reloc_section.declared.entry.Reloc.{Reloc}
use Rattle.valid_links.specs.link_runs.link_program.reloc_apply.Windows.{little}
use Rattle.valid_links.specs.link_runs.link_program.image_emit.Bytes.{sized}
use Rattle.debug_customs.specs.debug_rules.Faults.{Debug}
use Rattle.debug_customs.specs.debug_rules.Joined.{Places, dead_word, place_at, begins, word_of, value_of, is_named, names_of, payload_of, section_of, content_of, tail_of}
use Rattle.debug_out.specs.Windows.{Stands}
use Rattle.debug_out.proofs.Bounds.{in_bounds}
use Rattle.debug_out.proofs.Long.{written_long}
use Rattle.debug_out.proofs.Stands.{it_stands, word_held}
use Rattle.debug_out.proofs.Within.{In, in_from, in_filter, in_map, in_distinct}
use Rattle.debug_links.specs.Offsets.{front_of, Holds}

-- ---- lists

split : {A : Type 0} (xs : List A) (x : A) → In x xs → (before : List A) × (after : List A) × (xs ≡ before ++ x ∷ after)
split [] x h = absurd h
split (y ∷ ys) x (inl e) = ([], ys, ap (λ z. z ∷ ys) e)
split (y ∷ ys) x (inr h) = let s = split ys x h in (y ∷ s.0, s.1, ap (λ zs. y ∷ zs) s.2)

flat_both : {A : Type 0} (f : A → List ℕ) (before : List A) (x : A) (after : List A) → flat_map f (before ++ x ∷ after) ≡ flat_map f before ++ (f x ++ flat_map f after)
flat_both f [] x after = refl
flat_both f (y ∷ before) x after = ap (λ z. f y ++ z) (flat_both f before x after) ∙ sym (append_assoc (f y) (flat_map f before) (f x ++ flat_map f after))

drop_more : (front rest : List ℕ) (k : ℕ) → drop (length front + k) (front ++ rest) ≡ drop k rest
drop_more [] rest k = let n : 0 + k ≡ k = omega arith in ap (λ j. drop j rest) n
drop_more (x ∷ front) rest k = let n : suc (length front) + k ≡ suc (length front + k) = omega arith in ap (λ j. drop j (x ∷ front ++ rest)) n ∙ drop_more front rest k

take_front : (n : ℕ) (xs ys : List ℕ) → n ≤ length xs → take n (xs ++ ys) ≡ take n xs
take_front zero xs ys le = refl
take_front (suc n) [] ys le = absurd (omega (arith, le))
take_front (suc n) (x ∷ xs) ys le = ap (λ zs. x ∷ zs) (take_front n xs ys (omega (arith, le)))

drop_front : (n : ℕ) (xs ys : List ℕ) → n ≤ length xs → drop n (xs ++ ys) ≡ drop n xs ++ ys
drop_front zero xs ys le = refl
drop_front (suc n) [] ys le = absurd (omega (arith, le))
drop_front (suc n) (x ∷ xs) ys le = drop_front n xs ys (omega (arith, le))

-- four bytes of what stands behind a front
window_at : (front content rest : List ℕ) (k : ℕ) → k + 4 ≤ length content → slice_range (front ++ (content ++ rest)) (length front + k) (length front + k + 4) ≡ slice_range content k (k + 4)
window_at front content rest k le =
    let n : length front + k + 4 - (length front + k) ≡ 4 = omega arith in
    let m : k + 4 - k ≡ 4 = omega arith in
    let room : 4 ≤ length (drop k content) = omega (arith, le, length-drop k content) in
    ap (λ j. take j (drop (length front + k) (front ++ (content ++ rest)))) n
    ∙ (ap (take 4) (drop_more front (content ++ rest) k ∙ drop_front k content rest (omega (arith, le)))
    ∙ (take_front 4 (drop k content) rest room ∙ ap (λ j. take j (drop k content)) (sym m)))

-- the same of a whole, by what the four bytes are
window_in : (whole front content rest four : List ℕ) (k : ℕ) → whole ≡ front ++ (content ++ rest) → k + 4 ≤ length content → slice_range content k (k + 4) ≡ four → slice_range whole (length front + k) (length front + k + 4) ≡ four
window_in whole front content rest four k is le held = ap (λ zs. slice_range zs (length front + k) (length front + k + 4)) is ∙ (window_at front content rest k le ∙ held)

-- ---- where a contribution stands

regrouped : (b fe size name cb cd ca rest : List ℕ) → b ++ (fe ++ ((0 ∷ (size ++ (name ++ (cb ++ (cd ++ ca))))) ++ rest)) ≡ (b ++ (fe ++ ((0 ∷ size ++ name) ++ cb))) ++ (cd ++ (ca ++ rest))
regrouped b fe size name cb cd ca rest = simp append_assoc

module _ (bytes : List ℕ) (all : List Debug) (p : Places) where
  -- of the names and the contributions as they are split
  stands : (d : Debug) (earlier later : List (List ℕ)) (before after : List Debug) → names_of all ≡ earlier ++ d.section.name ∷ later → filter (is_named d.section.name) all ≡ before ++ d ∷ after
      → (rest : List ℕ) × (bytes ++ tail_of all p ≡ front_of bytes all p earlier d.section.name before ++ (content_of all p d ++ rest))
  unfolding tail_of
  stands d earlier later before after names own =
      let name = d.section.name in
      let size = u32 (length (payload_of all p name)) in
      let inner : flat_map (content_of all p) (filter (is_named name) all) ≡ flat_map (content_of all p) before ++ (content_of all p d ++ flat_map (content_of all p) after) =
      ap (flat_map (content_of all p)) own ∙ flat_both (content_of all p) before d after in
      let outer : flat_map (section_of all p) (names_of all) ≡ flat_map (section_of all p) earlier ++ (section_of all p name ++ flat_map (section_of all p) later) =
      ap (flat_map (section_of all p)) names ∙ flat_both (section_of all p) earlier name later in (
        flat_map (content_of all p) after ++ flat_map (section_of all p) later,
        ap (λ z. bytes ++ z) outer
            ∙ (ap (λ z. bytes ++ (flat_map (section_of all p) earlier ++ ((0 ∷ (size ++ (sized name ++ z))) ++ flat_map (section_of all p) later))) inner
            ∙ regrouped bytes (flat_map (section_of all p) earlier) size (sized name) (flat_map (content_of all p) before) (content_of all p d) (flat_map (content_of all p) after) (flat_map (section_of all p) later)),
      )

  lies_in : (d : Debug) (r : Reloc) → Stands d → Contains d.relocs r → r.offset + 4 ≤ length d.section.content
  lies_in d r is at =
      let P : Reloc → Type 0 = λ r. r.offset + 4 ≤ length d.section.content in
      All-contains P d.relocs r (All-from_recursion P d.relocs (in_bounds (length d.section.content) 0 d.relocs is)) at

  pub holds : (d : Debug) (r : Reloc) → AllByRecursion Stands all → Contains all d → Contains d.relocs r → Holds bytes (bytes ++ tail_of all p) all p d r (value_of (begins all d.object) p d r)
  holds d r stand at in_d =
      let name = d.section.name in
      let there = in_from all d at in
      let is = it_stands all d stand at in
      let names = split (names_of all) name (in_distinct (map (λ (x : Debug). x.section.name) all) name (in_map (λ (x : Debug). x.section.name) d all there)) in
      let own = split (filter (is_named name) all) d (in_filter (is_named name) d all ((bytes_eq-Decides name name).1 refl) there) in
      let s = stands d names.0 names.1 own.0 own.1 names.2 own.2 in
      let long = written_long (begins all d.object) p d is in
      record {
        earlier = names.0;
        later = names.1;
        names = names.2;
        before = own.0;
        after = own.1;
        contributions = own.2;
        window = window_in (bytes ++ tail_of all p) (front_of bytes all p names.0 name own.0) (content_of all p d) s.0 (little (value_of (begins all d.object) p d r)) r.offset s.1
            (omega (arith, lies_in d r is in_d, long))
            (word_held (value_of (begins all d.object) p d) d.relocs d.section.content r is in_d);
      }

  -- a place in a function
  of_function : (begin : ℕ → Option ℕ) (d : Debug) (r : Reloc) → r.kind ≡ 8 → value_of begin p d r ≡ word_of (dead_word d.section.name) r.addend (place_at p.bodies d.object r.index)
  of_function begin d r k = rw (k) refl

  pub holds_place : (d : Debug) (r : Reloc) (place : Option ℕ) → AllByRecursion Stands all → Contains all d → Contains d.relocs r → r.kind ≡ 8 → place_at p.bodies d.object r.index ≡ place
      → Holds bytes (bytes ++ tail_of all p) all p d r (word_of (dead_word d.section.name) r.addend place)
  holds_place d r place stand at in_d k is =
      subst (Holds bytes (bytes ++ tail_of all p) all p d r) (of_function (begins all d.object) d r k ∙ ap (word_of (dead_word d.section.name) r.addend) is) (holds d r stand at in_d)
