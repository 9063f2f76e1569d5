use Rattle.std.proofs.Common.{◌≡◌, Some, None, sym, ap, ◌∙◌}
use Rattle.std.specs.Map.{lookup}
use Rattle.std.specs.Str.{bytes_eq}
use Rattle.indexmap.specs.IndexMap.{insert_entry}
use Rattle.lib_index.specs.Table.{shown, lesser}
use Rattle.lib_index.proofs.NameSteps.{put_in, put_back}
use Rattle.lib_index.proofs.table.offer.Goals as goal

pub returns-in_default : goal.returns-in_default
returns-in_default c =
    let os = shown c.args.table.now in
    let key : c.in_ok-new.field-0 ≡ c.args.name.now = c.in_ok-new.ensures in
    let found : c.in_ok-before.before ≡ lookup (bytes_eq c.args.name.now) os = c.in_ok-before.ensures.old ∙ ap (λ k. lookup (bytes_eq k) os) key in
    let none : lesser (lookup (bytes_eq c.args.name.now) os) c.args.number ≡ None = ap (λ o. lesser o c.args.number) (sym found) ∙ sym c.lesser.ensures ∙ c.in_default.is in
    c.in_ok-before.ensures.entries ∙ ap (λ k. insert_entry bytes_eq os k c.args.number) key ∙ put_in os c.args.name.now c.args.number none

pub returns-in_ok-insert : goal.returns-in_ok-insert
returns-in_ok-insert c =
    let os = shown c.args.table.now in
    let name = c.args.name.now in
    let key : c.in_ok-new.field-0 ≡ name = c.in_ok-new.ensures in
    let again : c.in_ok-new-2.field-0 ≡ name = c.in_ok-new-2.ensures in
    let found : c.in_ok-before.before ≡ lookup (bytes_eq name) os = c.in_ok-before.ensures.old ∙ ap (λ k. lookup (bytes_eq k) os) key in
    let some : lesser (lookup (bytes_eq name) os) c.args.number ≡ Some c.in-Some.first = ap (λ o. lesser o c.args.number) (sym found) ∙ sym c.lesser.ensures ∙ c.in-Some.is in
    let put : shown c.insert.new.self ≡ insert_entry bytes_eq os name c.args.number = c.in_ok-before.ensures.entries ∙ ap (λ k. insert_entry bytes_eq os k c.args.number) key in
    c.in_ok-insert.ensures.entries
    ∙ ap (λ k. insert_entry bytes_eq (shown c.insert.new.self) k c.in-Some.first) again
    ∙ ap (λ es. insert_entry bytes_eq es name c.in-Some.first) put
    ∙ put_back os name c.args.number c.in-Some.first some
