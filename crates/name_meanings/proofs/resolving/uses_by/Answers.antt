use Rattle.std.proofs.Common.{sym, subst}
use Rattle.name_meanings.specs.Known.{AreUses}
use Rattle.name_meanings.proofs.resolving.uses_by.Goals as goal
use Rattle.name_meanings.proofs.Uses.{none_asked, all_asked}

pub returns-in-Plain : goal.returns-in-Plain
returns-in-Plain c =
    subst (AreUses c.args.mode c.args.entries.names.now.names c.args.entries.objects.now) (sym c.new.ensures.items)
    (none_asked c.args.mode c.args.entries.names.now.names c.args.entries.objects.now c.in-Plain.is)

pub returns-in_ok-uses-in-Shared : goal.returns-in_ok-uses-in-Shared
returns-in_ok-uses-in-Shared c =
    all_asked c.args.mode c.args.entries.names.now.names c.args.entries.objects.now c.in_ok-uses-in-Shared.uses.items c.in-Shared.is c.in_ok-uses-in-Shared.ensures
