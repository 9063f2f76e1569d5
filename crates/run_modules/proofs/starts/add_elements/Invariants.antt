use Rattle.std.proofs.Common.{◌≡◌, drop, length, true}
use Rattle.std.specs.List.{list_all}
use Rattle.run_rules.specs.Modules.{element_fits, with_elements}
use Rattle.run_modules.proofs.starts.add_elements.Given as goal

abbrev pub invariant-loop-element : goal.invariant-loop-element
invariant-loop-element l = record {
  slots : with_elements l.firsts (drop l.element-index l.elements) l.slots ≡ with_elements l.firsts l.elements l.fn.slots;
  fits : list_all (element_fits l.firsts (length l.slots)) (drop l.element-index l.elements) ≡ true;
}
