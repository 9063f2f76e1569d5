use Rattle.std.proofs.Common.{◌≡◌, drop, flat_map}
use Rattle.link_program.specs.made_symbols.declared.mode.Mode.TheVariants.{Plain}
use Rattle.link_layout.specs.Put.{written_on}
use Rattle.link_layout.specs.Sources.{plain_windows}
use Rattle.link_layout.specs.Layout.{looked}
use Rattle.link_layout.proofs.patches.push_plain_sources.Given as goal

abbrev pub invariant-loop-source : goal.invariant-loop-source
invariant-loop-source l =
    written_on Plain l.patches.patches (flat_map (plain_windows (looked l.layout)) (drop l.source-index l.sources)) ≡ written_on Plain l.fn.patches.patches (flat_map (plain_windows (looked l.layout)) l.sources)
