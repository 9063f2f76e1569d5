use Rattle.std.proofs.Common.{◌≡◌, slice_get, position, Some, None, sym, subst, rules}
use Rattle.mark_bits.specs.Chunks.{Lacks}
use Rattle.mark_bits.proofs.Held.{same, found_is, none_lacks, same_sound, same_whole}
use Rattle.mark_bits.proofs.chunk_table.ChunkTable.find.Goals as goal

pub returns-in_err-get_index_of-clause-none : goal.returns-in_err-get_index_of-clause-none
returns-in_err-get_index_of-clause-none c =
    let none : position (same c.args.c) c.self.inside.chunks.keys ≡ None = search rules in
    let lacks : Lacks c.args.self.now c.args.c = subst (λ cs. Lacks cs c.args.c) c.self.view_is (none_lacks c.self.inside.chunks.keys c.args.c (same c.args.c) (same_sound c.args.c) (same_whole c.args.c) none) in
    search rules

pub returns-clause-some : goal.returns-clause-some
returns-clause-some c =
    let some : position (same c.args.c) c.self.inside.chunks.keys ≡ Some c.in_ok-get_index_of.field-0 = search rules in
    subst (λ cs. slice_get cs c.in_ok-get_index_of.field-0 ≡ Some c.args.c) c.self.view_is (found_is c.self.inside.chunks.keys c.args.c (same c.args.c) (same_sound c.args.c) (same_whole c.args.c) c.in_ok-get_index_of.field-0 some)

pub returns-clause-only : goal.returns-clause-only
returns-clause-only c = λ k at.
    let some : position (same c.args.c) c.self.inside.chunks.keys ≡ Some c.in_ok-get_index_of.field-0 = search rules in
    let there = found_is c.self.inside.chunks.keys c.args.c (same c.args.c) (same_sound c.args.c) (same_whole c.args.c) c.in_ok-get_index_of.field-0 some in
    c.self.invariant.1 k c.in_ok-get_index_of.field-0 c.args.c (subst (λ cs. slice_get cs k ≡ Some c.args.c) (sym c.self.view_is) at) there
