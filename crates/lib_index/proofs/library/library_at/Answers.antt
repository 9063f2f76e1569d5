use Rattle.std.proofs.Common.{◌≡◌, ◌<◌, ◌∙◌, length, ap, sym, subst, List, ℕ, arith}
use Rattle.std.specs.Prelude.{All}
use Rattle.std.specs.List.Sorted.{IsStrictlyIncreasing}
use Rattle.wl_base.specs.declared.span.Span.{Span}
use Rattle.lib_index.specs.declared.members.Member.{Member}
use Rattle.lib_index.specs.Library.{headers, spans}
use Rattle.lib_index.specs.Table.{shown}
use Rattle.lib_index.proofs.LeastLaws.{Entry}
use Rattle.lib_index.proofs.LibraryLaws.{EndsIn, members_rise, members_end, headers_at_most, offered_below}
use Rattle.lib_index.proofs.MemberLaws.{spans_many}
use Rattle.lib_index.proofs.library.library_at.Goals as goal

pub entries_of-requires-clause-rising : goal.entries_of-requires-clause-rising
entries_of-requires-clause-rising c =
    let rest = c.in_ok-rest.rest.now in
    let rise = members_rise (length rest) c.args.bytes.now rest c.in_ok-all.all (omega arith) c.in_ok-rest.ensures.shorter c.in_ok-all.ensures in
    let same : c.as_slice-2.result.now ≡ headers c.in_ok-all.all = c.as_slice-2.ensures ∙ c.in_ok-places.ensures ∙ ap headers c.as_slice.ensures in
    subst (λ (x : List ℕ). IsStrictlyIncreasing x) (sym same) rise

pub entries_of-requires-clause-few : goal.entries_of-requires-clause-few
entries_of-requires-clause-few c =
    let rest = c.in_ok-rest.rest.now in
    let few = headers_at_most (length rest) c.args.bytes.now rest c.in_ok-all.all (omega arith) c.in_ok-rest.ensures.shorter c.in_ok-all.ensures in
    let same : c.as_slice-2.result.now ≡ headers c.in_ok-all.all = c.as_slice-2.ensures ∙ c.in_ok-places.ensures ∙ ap headers c.as_slice.ensures in
    omega (arith, few, ap length same)

pub entries_of-requires-clause-within : goal.entries_of-requires-clause-within
entries_of-requires-clause-within c =
    let rest = c.in_ok-rest.rest.now in
    let all = members_end (length rest) c.args.bytes.now rest c.in_ok-all.all (omega arith) c.in_ok-rest.ensures.shorter c.in_ok-all.ensures in
    subst (λ (x : List Member). All (λ m. EndsIn (length c.args.bytes.now) m.span) x) (sym c.as_slice-3.ensures) all

pub invariant_of-result : goal.invariant_of-result
invariant_of-result c =
    let rest = c.in_ok-rest.rest.now in
    let few = headers_at_most (length rest) c.args.bytes.now rest c.in_ok-all.all (omega arith) c.in_ok-rest.ensures.shorter c.in_ok-all.ensures in
    let members : c.in_ok-members.members ≡ spans c.in_ok-all.all = c.in_ok-members.ensures ∙ ap spans c.as_slice-4.ensures in
    let below = offered_below c.args.bytes.now c.as_slice-3.result.now (shown c.in_ok-table.table) c.in_ok-table.ensures in
    let same : spans c.as_slice-3.result.now ≡ c.in_ok-members.members = ap spans c.as_slice-3.ensures ∙ sym members in
    (omega (arith, few, ap length members, spans_many c.in_ok-all.all), subst (λ (ms : List Span). All (λ (o : Entry). o.1 < length ms) (shown c.in_ok-table.table)) same below)
