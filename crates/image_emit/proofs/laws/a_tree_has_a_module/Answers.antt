use Rattle.image_emit.proofs.SpelledRows.{call_module, call_is_tree, call_spellable}
use Rattle.image_emit.proofs.laws.a_tree_has_a_module.Goals as goal

pub returns-clause-spellable : goal.returns-clause-spellable
returns-clause-spellable c = call_spellable

pub returns-clause-module : goal.returns-clause-module
returns-clause-module c = (call_module, call_is_tree)
