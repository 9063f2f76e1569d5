-- What holds of the references of a program of loaded objects, where no names clash.
use Rattle.std.specs.Prelude.{◌≡◌}
use Rattle.list_places.specs.Has.{Has}
use Rattle.linking_section.specs.declared.symbol.SymbolKind.TheVariants.{Function}
use Rattle.name_rules.specs.Entries.{InputSymbol}
use Rattle.name_rules.specs.Meanings.{here}
use Rattle.link_rules.specs.Program.{Program, Part, Ref, refs, chunk_at}
use Rattle.link_facts.specs.link_worlds.Sound.{PartOf}
use Rattle.shared_laws.proofs.Named.{NamesByKind}

pub record FunctionsStand (p : Program) : Type 0 where
  pub names : (part : Part) (ref : Ref) → Has p.parts part → Has (refs part) ref → NamesByKind ref
  pub kinds : (part : Part) (ref : Ref) (e : InputSymbol) → Has p.parts part → Has (refs part) ref → ref.meaning ≡ here e → e.symbol.kind ≡ ref.entry.symbol.kind
  pub functions : (part : Part) (ref : Ref) (e : InputSymbol) → Has p.parts part → Has (refs part) ref → ref.meaning ≡ here e → e.symbol.kind ≡ Function
      → PartOf p.parts (chunk_at e.input 0 e.index) × (e.input ≡ 0 → e.index ≡ e.place)
