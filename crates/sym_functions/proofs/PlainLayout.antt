-- A layout of a plain output is one of the output that its program's plan asks for.
use Rattle.std.proofs.Common.{ℕ, List, sym, subst}
use Rattle.link_program.specs.made_symbols.declared.mode.Mode.TheVariants.{Plain}
use Rattle.link_program.specs.name_rules.Entries.{InputSymbol}
use Rattle.link_program.specs.link_rules.Program as rules
use Rattle.link_image.specs.link_layout.declared.values.Layout.{Layout}
use Rattle.link_image.specs.link_layout.Layout.{IsLayoutIn, IsLayout}
use Rattle.link_image.proofs.link_loader_lemmas.Stands.{Stands}
use Rattle.link_image.proofs.link_loader_lemmas.Standing.{stands}

module _ (p : rules.Program) (parts : List rules.Part) (es : List InputSymbol) (d : Layout) (is : IsLayoutIn Plain p parts es d) where
  pub asked_layout : IsLayout p parts es d
  asked_layout = subst (λ m. IsLayoutIn m p parts es d) (sym is.asked) is

  pub plain_stands : Stands Plain p parts es d
  plain_stands = subst (λ m. Stands m p parts es d) is.asked (stands p parts es d asked_layout)
