-- The windows of segments stand one behind another in their bytes.
use Rattle.std.proofs.Common.{◌≡◌, ℕ, zero, suc, ◌+◌, ◌-◌, ◌≤◌, true, eqb, List, [], ◌∷◌, map, take, drop, refl, arith}
use Rattle.std.specs.Prelude.{All, nat_le, ◌&&◌, ◌||◌}
use Rattle.std.specs.List.{list_all, prefix_len}
use Rattle.std.proofs.lemmas.Bool.{and_parts, leb-true}
use Rattle.std.proofs.lemmas.List.Elements.{All-nil, All-cons, All-drop}
use Rattle.object_rules.specs.wl_base.declared.span.Span.{Span}
use Rattle.object_rules.specs.reloc_section.declared.entry.Reloc.{Reloc}
use Rattle.object_rules.specs.linking_section.declared.segment.SegmentInfo.{SegmentInfo}
use Rattle.object_rules.specs.object_parts.declared.parts.DataPart.{DataPart}
use Rattle.object_rules.specs.object_parts.Code.{begins_before, before, behind, end_in, base_in}
use Rattle.object_columns.specs.declared.segments.SegmentDef.{SegmentDef}
use Rattle.object_rules.specs.Relocs.{lie_apart}
use Rattle.object_rules.specs.Windows.{in_segment, data_windows_stand}
use Rattle.object_file.specs.Objects.{other_infos, window_from, segments_from}
use Rattle.object_file.specs.Sound.{WindowsStandIn}
use Rattle.object_file.proofs.Made.{segment_made}

-- Windows of four bytes that rise and don't overlap.
abbrev pub AreApart : List Reloc → Type 0
AreApart rs = (len : ℕ) × (from : ℕ) × (lie_apart 4 len from rs ≡ true)

-- one and those behind it
apart_parts : (len from : ℕ) (r : Reloc) (rs : List Reloc) → lie_apart 4 len from (r ∷ rs) ≡ true → (from ≤ r.offset) × (lie_apart 4 len (r.offset + 4) rs ≡ true)
apart_parts len from r rs e =
    let both = and_parts (nat_le from r.offset && nat_le (r.offset + 4) len) (lie_apart 4 len (r.offset + 4) rs) e in
    (leb-true from r.offset (and_parts (nat_le from r.offset) (nat_le (r.offset + 4) len) both.0).0, both.1)

take_apart : (n len from : ℕ) (rs : List Reloc) → lie_apart 4 len from rs ≡ true → lie_apart 4 len from (take n rs) ≡ true
take_apart zero len from rs e = refl
take_apart (suc n) len from [] e = refl
take_apart (suc n) len from (r ∷ rs) e =
    let both = and_parts (nat_le from r.offset && nat_le (r.offset + 4) len) (lie_apart 4 len (r.offset + 4) rs) e in
    rw both.0 (take_apart n len (r.offset + 4) rs both.1)

drop_apart : (n len from : ℕ) (rs : List Reloc) → lie_apart 4 len from rs ≡ true → AreApart (drop n rs)
drop_apart zero len from rs e = (len, from, e)
drop_apart (suc n) len from [] e = (len, from, refl)
drop_apart (suc n) len from (r ∷ rs) e = drop_apart n len (r.offset + 4) rs (apart_parts len from r rs e).1

-- windows that lie in a segment, by their places in it
in_place : (start : ℕ) (span : Span) (len from at : ℕ) (rs : List Reloc) → at ≤ from - base_in start span → at ≤ span.len → lie_apart 4 len from rs ≡ true → list_all (in_segment start span) rs ≡ true
    → WindowsStandIn at span.len (map (window_from (base_in start span)) rs)
in_place start span len from at [] low fits apart inside = fits
in_place start span len from at (r ∷ rs) low fits apart inside =
    let here = and_parts (in_segment start span r) (list_all (in_segment start span) rs) inside in
    let ends = and_parts ((eqb r.kind 2 || eqb r.kind 5) && nat_le (base_in start span) r.offset) (nat_le (r.offset + 4) (end_in start span)) here.0 in
    let begins = and_parts (eqb r.kind 2 || eqb r.kind 5) (nat_le (base_in start span) r.offset) ends.0 in
    let first : base_in start span ≤ r.offset = leb-true (base_in start span) r.offset begins.1 in
    let last : r.offset + 4 ≤ end_in start span = leb-true (r.offset + 4) (end_in start span) ends.1 in
    let next = apart_parts len from r rs apart in
    (omega (arith, low, next.0), in_place start span len (r.offset + 4) (r.offset - base_in start span + 4) rs (omega (arith, first)) (omega (arith, first, last)) next.1 here.1)

pub windows_in_place : (start : ℕ) (infos : List SegmentInfo) (d : DataPart) (left : List Reloc) → AreApart left → list_all (in_segment start d.span) (before (end_in start d.span) left) ≡ true
    → WindowsStandIn 0 d.span.len (segment_made start left infos d).windows
windows_in_place start infos d left apart inside =
    let n : ℕ = prefix_len (begins_before (end_in start d.span)) left in
    in_place start d.span apart.0 apart.1 0 (take n left) (omega arith) (omega arith) (take_apart n apart.0 apart.1 left apart.2) inside

-- what holds of each segment that is made with its windows
module _ (E : Reloc → Type 0) (P : SegmentDef → Type 0) (start : ℕ)
    (each : (infos : List SegmentInfo) (d : DataPart) (left : List Reloc) → All E left → AreApart left → list_all (in_segment start d.span) (before (end_in start d.span) left) ≡ true → P (segment_made start left infos d)) where
  pub segments_all : (relocs : List Reloc) (infos : List SegmentInfo) (ds : List DataPart) → All E relocs → AreApart relocs → data_windows_stand start relocs ds ≡ true → All P (segments_from start relocs infos ds)
  segments_all relocs infos [] known apart e = All-nil P
  segments_all relocs infos (d ∷ ds) known apart e =
      let n : ℕ = prefix_len (begins_before (end_in start d.span)) relocs in
      let both = and_parts (list_all (in_segment start d.span) (before (end_in start d.span) relocs)) (data_windows_stand start (behind (end_in start d.span) relocs) ds) e in
      All-cons P (segment_made start relocs infos d) (segments_from start (behind (end_in start d.span) relocs) (other_infos infos) ds) (each infos d relocs known apart both.0)
      (segments_all (behind (end_in start d.span) relocs) (other_infos infos) ds (All-drop E n relocs known) (drop_apart n apart.0 apart.1 relocs apart.2) both.1)
