use Rattle.std.proofs.Common.{rules, ◌≡◌, true}
use Rattle.std.specs.List.{list_all}
use Rattle.link_program.specs.declared.symbol.Symbol.{Symbol}
use Rattle.link_loader.specs.Weak.{is_strong}
use Rattle.link_loader.proofs.Unused.{none_used}
use Rattle.link_loader.proofs.weak.note_live.Goals as goal

pub returns-then-all_are_strong : goal.returns-then-all_are_strong
returns-then-all_are_strong c =
    let all : list_all (λ (s : Symbol). is_strong c.args.strong.now s.lead s.name) c.args.program.tables.now.symbols ≡ true = search rules in
    none_used c.args.strong.now c.args.program.resolution.now.cells c.args.program.tables.now c.args.live.now c.args.flags.now all
