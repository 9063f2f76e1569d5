-- Where segments stand, as the data tell it.
use Rattle.std.proofs.Common.{◌≡◌, ℕ, List, map, get_or, slice_get, Some, option_map, ap, ◌∙◌}
use Rattle.std.specs.Prelude.{slice_index_or}
use Rattle.std.proofs.lemmas.Option.{slice_get-map, get_or_from_slice_get}
use Rattle.link_program.specs.made_symbols.declared.mode.Mode.{Mode}
use Rattle.link_program.specs.memory_layout.declared.rules.Places.{Places}
use Rattle.link_program.specs.name_rules.Entries.{InputSymbol}
use Rattle.link_program.specs.link_rules.Program as rules
use Rattle.link_program.specs.link_rules.Values as values
use Rattle.link_program.specs.link_rules.Values.{segments}
use Rattle.link_program.specs.link_rules.Output.{layout}
use Rattle.link_layout.specs.declared.values.Layout.{Layout}
use Rattle.link_layout.specs.Placed.{chunks_of, address_among}
use Rattle.link_loader.proofs.Stands.{Stands}

module _ (m : Mode) (p : rules.Program) (parts : List rules.Part) (es : List InputSymbol) (d : Layout) (is : Stands m p parts es d) where
  pub address_told : (n : ℕ) (part : rules.Part) → slice_get p.parts n ≡ Some part → slice_index_or d.placed.now.addresses n 0 ≡ values.segment_address (layout m p parts es) part.chunk
  unfolding layout
  address_told n part at =
      let f : rules.Part → ℕ = λ (x : rules.Part). address_among (chunks_of (segments parts)) d.placed.now.places.addresses x.chunk in
      ap (λ xs. get_or xs n 0) is.placed.addresses
      ∙ get_or_from_slice_get (map f p.parts) n (f part) 0 (slice_get-map f p.parts n ∙ ap (option_map f) at)
      ∙ ap (λ (x : Places). address_among (chunks_of (segments parts)) x.addresses part.chunk) is.placed.places
