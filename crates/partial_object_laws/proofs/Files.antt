-- What the bytes of an object that was read of a file of its own are in the link.
use Rattle.std.proofs.Common.{◌≡◌, ℕ, ◌+◌, ◌-◌, ◌≤◌, List, [], length, take, drop, sym, ap, ◌∙◌, arith}
use Rattle.std.specs.Prelude.{slice_index_or, Option}
use Rattle.std.proofs.lemmas.List.{take-take, drop-take, length-take, length-take-le, length-drop, drop-drop}
use Rattle.name_rules.specs.object_file.wl_base.declared.span.Span.{Span}
use Rattle.object_rules.specs.object_parts.Sections.{bytes_in}
use Rattle.object_rules.specs.object_parts.Spans.{LiesIn}
use Rattle.object_file.specs.declared.object.Object.{Object}
use Rattle.round_rules.specs.Rounds.{Candidate}
use Rattle.image_emit.specs.Bytes.{file_part}
use Rattle.link_rules.specs.Program.{span_in}
use Rattle.partial_parts_laws.specs.Linked.{Linked, bytes_at}
use Rattle.partial_object_laws.specs.ReadAlone.{bytes_of, IsReadFrom}

-- a part of a part
part_in : (s n m t : ℕ) (xs : List ℕ) → s + n ≤ length (take m (drop t xs)) → take n (drop s (take m (drop t xs))) ≡ take n (drop (t + s) xs)
part_in s n m t xs fits =
    let low : s + n ≤ m = omega (arith, fits, length-take m (drop t xs)) in
    let whole : m ≡ s + (m - s) = omega (arith, low) in
    let few : n ≤ m - s = omega (arith, low) in
    ap (λ k. take n (drop s (take k (drop t xs)))) whole
    ∙ (ap (take n) (drop-take s (m - s) (drop t xs)) ∙ (take-take n (m - s) (drop s (drop t xs)) few ∙ ap (take n) (drop-drop s t xs)))

module _ (l : Linked) (o : Object) (from : IsReadFrom l o) where
  abbrev pub file : List ℕ
  file = bytes_of l from.candidate

  -- The bytes of a span are those of the input's file.
  pub bytes_are : (s : Span) → LiesIn (length file) s → bytes_at l o.input s ≡ bytes_in file s
  bytes_are s lies =
      ap (λ (c : Option Candidate). file_part l.files (span_in c s)) from.found
      ∙ sym (part_in s.start s.len from.candidate.len from.candidate.start (slice_index_or l.files from.candidate.file []) lies)

  pub bytes_long : (s : Span) → LiesIn (length file) s → length (bytes_at l o.input s) ≡ s.len
  bytes_long s lies =
      ap (λ (bs : List ℕ). length bs) (bytes_are s lies) ∙ length-take-le s.len (drop s.start file) (omega (arith, lies, length-drop s.start file))

  -- Its file stands at the place of the input.
  pub own_bytes : (s : Span) → LiesIn (length file) s → take s.len (drop s.start (slice_index_or l.files (o.input - 1) [])) ≡ bytes_in file s
  own_bytes s lies =
      let place : o.input - 1 ≡ from.candidate.file = omega (arith, from.file) in
      let start : s.start ≡ from.candidate.start + s.start = omega (arith, from.start) in
      ap (λ n. take s.len (drop s.start (slice_index_or l.files n []))) place
      ∙ (ap (λ n. take s.len (drop n (slice_index_or l.files from.candidate.file []))) start
      ∙ sym (part_in s.start s.len from.candidate.len from.candidate.start (slice_index_or l.files from.candidate.file []) lies))
