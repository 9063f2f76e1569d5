-- The sizes of sections, one part more.
use Rattle.std.proofs.Common.{◌≡◌, ℕ, ◌+◌, ◌<◌, List, ◌∷◌, length, map, drop, get_or, ap, ◌∙◌, subst, arith, length-append}
use Rattle.std.specs.List.{flat_map}
use Rattle.std.proofs.lemmas.List.{length-map, at_drop_more}
use Rattle.std.proofs.lemmas.List.Sums.{sum_by-drop_more}
use Rattle.std.proofs.lemmas.Grind.{flat_map-append}
use Rattle.reloc_section.specs.declared.entry.Reloc.{Reloc}
use Rattle.partial_rules.specs.Relocatable.{reloc, later}
use Rattle.partial_bytes.specs.declared.tree.Part.{Part}
use Rattle.partial_bytes.specs.declared.part.PartKind.{PartKind}
use Rattle.partial_bytes.specs.Measured.{AddsUp}
use Rattle.partial_bytes.specs.Relocs.{reloc_by, relocs_of}
use Rattle.partial_bytes.specs.Written.{head_len, part_len, parts_len, relocs_at, part_entries}
use Rattle.partial_bytes.proofs.Bridge.{entries_made}

module _ (kind : PartKind) (p : Part) (at : ℕ) (rest : List Part) where
  count_split : length (relocs_at kind at (p ∷ rest)) ≡ length (relocs_of p) + length (relocs_at kind (at + head_len kind p + length p.bytes.now) rest)
  count_split =
      omega (
        arith,
        length-append (map {A = Reloc} {B = Reloc} (later (at + head_len kind p)) (relocs_of p)) (relocs_at kind (at + head_len kind p + length p.bytes.now) rest),
        length-map {A = Reloc} {B = Reloc} (relocs_of p) (later (at + head_len kind p)),
      )

  entries_split : length (flat_map reloc (relocs_at kind at (p ∷ rest)))
      ≡ length (part_entries (at + head_len kind p) p) + length (flat_map reloc (relocs_at kind (at + head_len kind p + length p.bytes.now) rest))
  entries_split =
      let xs : List Reloc = map {A = Reloc} {B = Reloc} (later (at + head_len kind p)) (relocs_of p) in
      let ys = relocs_at kind (at + head_len kind p + length p.bytes.now) rest in
      omega (
        arith,
        ap (λ (zs : List ℕ). length zs) (flat_map-append reloc xs ys),
        length-append (flat_map reloc xs) (flat_map reloc ys),
        ap (λ (zs : List ℕ). length zs) (entries_made (at + head_len kind p) p),
      )

pub adds_more : (kind : PartKind) (ps : List Part) (i : ℕ) (d : Part) → i < length ps
    → (at from end count counted entered entries_now size : ℕ)
    → from ≡ at + head_len kind (get_or ps i d) → end ≡ from + length (get_or ps i d).bytes.now → counted ≡ count + length (get_or ps i d).named.now
    → size ≡ length (part_entries from (get_or ps i d)) → entries_now ≡ entered + size
    → AddsUp kind ps (drop i ps) at count entered → AddsUp kind ps (drop (i + 1) ps) end counted entries_now
adds_more kind ps i d lt at from end count counted entered entries_now size begins ends more long all so_far =
    let p : Part = get_or ps i d in
    let rest : List Part = drop (i + 1) ps in
    let here : drop i ps ≡ p ∷ rest = at_drop_more (λ (xs : List Part). xs) ps i d lt in
    let now : AddsUp kind ps (p ∷ rest) at count entered = subst (λ (xs : List Part). AddsUp kind ps xs at count entered) here so_far in
    let stop : at + head_len kind p + length p.bytes.now ≡ end = omega (arith, begins, ends) in
    let sum : parts_len kind (p ∷ rest) ≡ part_len kind p + parts_len kind rest = sum_by-drop_more (part_len kind) (p ∷ rest) 0 p (omega arith) in
    let as_many : length (relocs_of p) ≡ length p.named.now = length-map p.named.now (reloc_by p.numbers.now) in
    let size_is : size ≡ length (part_entries (at + head_len kind p) p) = long ∙ ap (λ n. length (part_entries n p)) begins in (
      omega (arith, now.0, sum, stop),
      omega (arith, now.1, more, as_many, count_split kind p at rest, ap (λ n. length (relocs_at kind n rest)) stop),
      omega (arith, now.2, all, size_is, entries_split kind p at rest, ap (λ n. length (flat_map reloc (relocs_at kind n rest))) stop),
    )
