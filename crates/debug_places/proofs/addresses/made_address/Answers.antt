use Rattle.std.proofs.Common.{◌≡◌, refl, sym, ap, subst, ◌∙◌, true, None}
use Rattle.std.specs.Prelude.{slice_index_or}
use Rattle.link_program.specs.linking_section.declared.symbol.SymbolKind.TheVariants.{Datum}
use Rattle.link_program.specs.memory_layout.declared.rules.Places.{Places}
use Rattle.link_program.specs.name_rules.Entries.{InputSymbol, untyped}
use Rattle.link_program.specs.link_rules.Values as values
use Rattle.link_program.specs.link_rules.Values.{made_data}
use Rattle.link_program.specs.link_rules.Output.{layout}
use Rattle.link_layout.specs.Layout.{IsLayoutIn}
use Rattle.debug_places.proofs.addresses.made_address.Goals as goal

pub address-requires : goal.address-requires
address-requires g c = subst (λ m. IsLayoutIn m g.s.program g.s.parts g.s.exports c.args.layout) (sym c.requires.asked) c.requires

pub returns : goal.returns
unfolding layout
returns g c =
    let n = c.args.number in
    let e : InputSymbol = record { input = 0; place = n; symbol = record { kind = Datum; flags = 0; name = None; index = 0; offset = 0; size = 0 }; type = untyped; import = None; defines = true; class = 0; index = n } in
    subst (λ m. c.address.result ≡ values.address_of m (layout m g.s.program g.s.parts g.s.exports) e) c.requires.asked (c.address.ensures e refl)
    ∙ ap (λ (x : Places). slice_index_or (made_data x) n 0) (sym c.requires.placed.places)
