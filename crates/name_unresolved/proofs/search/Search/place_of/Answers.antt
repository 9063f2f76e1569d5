use Rattle.std.proofs.Common.{slice_get, sym, ap, ◌∙◌, subst}
use Rattle.std.specs.Option.{option_and_then}
use Rattle.std.specs.Ordering.{nat_cmp}
use Rattle.std.specs.List.Sorted.{IsStrictlyIncreasing, IsBinarySearchResult}
use Rattle.name_meanings.specs.name_entries.object_file.declared.object.Object.{Object}
use Rattle.name_unresolved.proofs.Places.{found}
use Rattle.name_unresolved.proofs.search.Search.place_of.Goals as goal

pub returns : goal.returns
returns c =
    let s = c.args.self.now in
    let r = c.binary_search.result in
    ap (option_and_then (slice_get s.objects.now)) c.ok.ensures.value
    ∙ sym (found (λ (o : Object). o.input) c.args.input s.objects.now r (subst IsStrictlyIncreasing c.requires.inputs c.requires.rise)
    (subst (λ xs. IsBinarySearchResult (λ y. nat_cmp y c.args.input) xs r) c.requires.inputs c.binary_search.ensures.position))
