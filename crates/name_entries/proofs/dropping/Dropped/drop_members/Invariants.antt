use Rattle.std.proofs.Common.{◌≡◌, ◌==◌, ◌||◌, ◌&&◌, ℕ, take}
use Rattle.std.specs.List.{list_any}
use Rattle.name_rules.specs.object_file.linking_section.declared.member_kinds.TheConstants as kinds
use Rattle.name_entries.specs.Parts.{has_flag}
use Rattle.name_entries.proofs.dropping.Dropped.drop_members.Given as goal

abbrev pub invariant-loop-member : goal.invariant-loop-member
invariant-loop-member l = record {
  functions : (k : ℕ) → has_flag l.self.functions.items k ≡ (has_flag l.fn.self.functions.items k || list_any
      (λ m. (m.kind == kinds.FUNCTION) && (m.index == k)) (take l.member-index l.members));
  segments : (k : ℕ) → has_flag l.self.segments.items k ≡ (has_flag l.fn.self.segments.items k || list_any (λ m. (m.kind == kinds.DATA) && (m.index == k))
      (take l.member-index l.members));
}
