use Rattle.std.proofs.Common.{◌<◌, length, get_or, refl, sym, ap, ◌∙◌, arith}
use Rattle.std.proofs.lemmas.Option.{slice_get_read}
use Rattle.wl_base.specs.Names.{Names, number_of}
use Rattle.wl_base.proofs.Places.{own_place}
use Rattle.wl_base.proofs.name_table.NameTable.name.Goals as goal

pub returns-clause-own : goal.returns-clause-own
returns-clause-own c =
    let keys = c.self.inside.names.keys in
    let same = ap (λ (t : Names). length t.names) c.self.view_is in
    let within : c.args.number < length keys = omega (arith, same, c.requires) in
    let key = c.index-as_slice-number.result in
    let at = slice_get_read keys (length keys) c.args.number key refl within (c.index-as_slice-number.is ∙ ap (λ xs. get_or xs c.args.number key) c.as_slice.ensures.keys) in
    ap (λ (t : Names). number_of t.names c.as_slice-2.result.now) (sym c.self.view_is)
    ∙ ap (number_of keys) c.as_slice-2.ensures ∙ own_place keys c.args.number key c.as_slice.ensures.unique at
