-- A shared output whose length is in range is short with its windows written.
use Rattle.std.proofs.Common.{◌≡◌, ◌-◌, ◌<◌, List, length, None, arith}
use Rattle.std.specs.Prelude.{◌^◌, nat_lt}
use Rattle.std.proofs.lemmas.Bool.{ltb-false}
use Rattle.made_symbols.specs.declared.mode.Mode.TheVariants.{Shared}
use Rattle.name_rules.specs.Entries.{InputSymbol}
use Rattle.image_emit.specs.Bytes.{bytes_of, tree_of}
use Rattle.link_rules.specs.Program.{Program}
use Rattle.link_rules.specs.Marks.{live}
use Rattle.link_rules.specs.Output.{image, source_windows, held}
use Rattle.link_rules.specs.LinkOf.{output_fault}
use Rattle.link_runs.specs.link_program.Stand.{PartsStand}
use Rattle.link_output.proofs.Sources.{held_windows_stand}
use Rattle.link_runs.proofs.Length.{same_long, lives, given_none}
use Rattle.shared_module.specs.Outputs.{shared_lay, shared_tree}

tree_short : (p : Program) (exports : List InputSymbol) → output_fault p (image Shared p (live p exports) exports (shared_lay p exports)) ≡ None
    → length (bytes_of (tree_of p.files (image Shared p (live p exports) exports (shared_lay p exports)))) < 2 ^ 32
unfolding output_fault
tree_short p exports e =
    let n = length (bytes_of (tree_of p.files (image Shared p (live p exports) exports (shared_lay p exports)))) in
    let f = ltb-false (2 ^ 31 - 1) n (given_none (nat_lt (2 ^ 31 - 1) n) _ e) in
    omega (arith, f)

pub short : (p : Program) (exports : List InputSymbol) → PartsStand p → output_fault p (image Shared p (live p exports) exports (shared_lay p exports)) ≡ None
    → length (bytes_of (shared_tree p (live p exports) exports (shared_lay p exports))) < 2 ^ 32
short p exports stand e =
    let v = lives p exports in
    let s = held_windows_stand Shared p v.0 (live p exports) exports stand v.1 in
    let k = same_long (tree_of p.files (image Shared p (live p exports) exports (shared_lay p exports))) (held Shared (source_windows Shared p (live p exports) exports (shared_lay p exports))) s in
    let t = tree_short p exports e in
    omega (arith, k, t)
