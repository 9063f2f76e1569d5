-- A link that gives bytes was of objects that were loaded, of which no names clash and nothing is unresolved.
use Rattle.std.proofs.Common.{map, sym, ◌∙◌}
use Rattle.made_symbols.specs.declared.mode.Mode.TheVariants.{Plain}
use Rattle.link_program.specs.Loaded.{home_of}
use Rattle.link_inputs.specs.Loaded.{LoadedAreSound}
use Rattle.link_rules.specs.LinkOf.{asked_names, plain_link}
use Rattle.link_rules.specs.Marks.{exported}
use Rattle.link_rules.specs.Program.{program_of}
use Rattle.link_facts.proofs.Loads.{are_loaded}
use Rattle.link_facts.proofs.Steps.{is_link, is_linked, is_marked}
use Rattle.key_laws.specs.Differ.{KeysDiffer}
use Rattle.key_laws.specs.Standing.{KeysStand}
use Rattle.key_laws.specs.Links.{LinksNumber}

pub links_number : KeysDiffer → KeysStand → LoadedAreSound → LinksNumber
unfolding program_of
links_number differ stand loads plan files bytes all objects long plain c l e =
    let p = program_of Plain plan files all objects in
    let loaded = are_loaded files all objects (map home_of all) (loads Plain plan files (asked_names plan) all objects long c l).1 in
    let k = is_linked p bytes (is_link plan files bytes all objects c l (sym (plain_link plan files plain) ∙ e)) in
    let m = is_marked p (exported Plain p) bytes k.1 in
    record { differ = differ plan files all objects loaded.rise; stand = stand plan files all objects loaded k.0 m.0.resolved }
