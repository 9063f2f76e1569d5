-- All places of a layout, as the data tell them.
use Rattle.std.proofs.Common.{◌≡◌, ℕ, Bool, List, map, ap, ◌∙◌}
use Rattle.link_program.specs.made_symbols.declared.mode.Mode.{Mode}
use Rattle.link_program.specs.object_file.declared.object.Object.{Object}
use Rattle.link_program.specs.name_rules.Entries.{InputSymbol}
use Rattle.link_program.specs.image_emit.declared.measuring.Measured.{Measured}
use Rattle.link_program.specs.image_emit.Bytes.{tree_of}
use Rattle.link_program.specs.image_emit.Pieces.{code_place, source_places}
use Rattle.link_program.specs.link_rules.Program as rules
use Rattle.link_program.specs.link_rules.Output.{layout, image}
use Rattle.link_program.specs.Live.{AreLive}
use Rattle.link_layout.specs.declared.values.Layout.{Layout}
use Rattle.link_layout.specs.Layout.{IsLayoutIn}
use Rattle.link_layout.proofs.Told.{IsTold, told_by}
use Rattle.link_layout.proofs.link_numbers_lemmas.Begun.{numbers_told, refs_known}
use Rattle.link_debug.specs.Places.{link_places}
use Rattle.debug_places.specs.Found.{AreMarked, AreMade}
use Rattle.debug_out.specs.declared.places.DebugPlaces.{DebugPlaces}
use Rattle.debug_out.specs.Inputs.{places_of}
use Rattle.debug_places.specs.declared.rows.Asked.TheVariants.{Address, Slot, Global}
use Rattle.debug_places.specs.Bodies.{body_row, code_of}
use Rattle.debug_places.specs.Seen.{sight_of, place_meant, address_meant, slot_meant, global_meant, rows_by}
use Rattle.debug_places.proofs.Starts.{bodies_told}
use Rattle.debug_places.proofs.Meanings.{addresses_told, slots_told, globals_told}

module _ (mode : Mode) (p : rules.Program) (parts : List rules.Part) (es : List InputSymbol) (d : Layout) (is : IsLayoutIn mode p parts es d) (live : List ℕ) (are : AreLive p live parts) where
  told : IsTold mode p parts es d
  told = told_by mode numbers_told refs_known p parts es d is

  pub all_told : (made : List ℕ) → AreMade mode made d.placed.now.places → (flags : List Bool) → AreMarked flags live → (m : Measured)
      → m.places ≡ source_places (tree_of p.files (image mode p parts es (layout mode p parts es)))
      → m.code ≡ code_place (tree_of p.files (image mode p parts es (layout mode p parts es)))
      → (all : DebugPlaces)
      → all.bodies ≡ map (body_row (code_of d m)) d.program.objects.now
      → all.addresses ≡ rows_by (place_meant (sight_of d made flags) Address) d.program.objects.now d.program.tables.now.symbols
      → all.slots ≡ rows_by (place_meant (sight_of d made flags) Slot) d.program.objects.now d.program.tables.now.symbols
      → all.globals ≡ rows_by (place_meant (sight_of d made flags) Global) d.program.objects.now d.program.tables.now.symbols
      → places_of all ≡ link_places mode p parts es (layout mode p parts es)
  unfolding link_places
  all_told made is_made flags marked m at code all bodies addresses slots globals =
      let same : d.program.objects.now ≡ p.objects = is.program.objects in
      let k = sight_of d made flags in
      let symbols = d.program.tables.now.symbols in
      let b = bodies ∙ (ap (map (body_row (code_of d m))) same ∙ bodies_told mode p parts es d is live are m.places m.code at code) in
      let a = addresses ∙ (ap (λ (os : List Object). rows_by (address_meant k) os symbols) same ∙ addresses_told mode p parts es d is live are told made is_made flags marked) in
      let s = slots ∙ (ap (λ (os : List Object). rows_by (slot_meant d.numbering.now) os symbols) same ∙ slots_told mode p parts es d is) in
      let g = globals ∙ (ap (λ (os : List Object). rows_by (global_meant k) os symbols) same ∙ globals_told mode p parts es d is made flags) in
      λ i. record { bodies = b i; addresses = a i; slots = s i; globals = g i }
