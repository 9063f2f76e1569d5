use Rattle.std.proofs.Common.{◌≡◌, ℕ, take}
use Rattle.std.specs.List.{list_any}
use Rattle.name_rules.specs.object_file.linking_section.declared.member_kinds.TheConstants as kinds
use Rattle.name_entries.specs.Parts.{has_flag}
use Rattle.name_entries.proofs.Grouped.{is_lost}
use Rattle.name_entries.proofs.dropping.dropped_of.Given as goal

abbrev pub invariant-loop-at : goal.invariant-loop-at
invariant-loop-at l = record {
  functions : (k : ℕ) → has_flag l.dropped.functions.items k ≡ list_any (is_lost l.objects l.from kinds.FUNCTION k) (take l.at l.from.groups);
  segments : (k : ℕ) → has_flag l.dropped.segments.items k ≡ list_any (is_lost l.objects l.from kinds.DATA k) (take l.at l.from.groups);
}
