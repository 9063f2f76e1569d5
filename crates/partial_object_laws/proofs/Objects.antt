-- The relocatable object of inputs that were read is an object: what is asked of it, one after another.
use Rattle.std.proofs.Common.{◌≡◌, ℕ, ◌≤◌, ◌^◌, List, length}
use Rattle.std.specs.Prelude.{None}
use Rattle.object_rules.specs.Rules.{broken_rule}
use Rattle.object_file.specs.ObjectOf.{IsObject}
use Rattle.object_file.specs.Objects.{object_from}
use Rattle.partial_rules.specs.Relocatable.{Relocatable, relocatable_bytes}
use Rattle.partial_rules.specs.Partial.{relocatable}
use Rattle.partial_rules.specs.WellFormed.{Coded, IsWritable}
use Rattle.partial_rules.specs.Sections.{sections_told}
use Rattle.partial_rules.specs.ReadAs.{parts_told}
use Rattle.partial_parts_laws.specs.Linked.{program}
use Rattle.partial_parts_laws.specs.Writable.{AreWritable}
use Rattle.partial_parts_laws.specs.RulesKept.{RulesAreKept}
use Rattle.partial_object_laws.specs.ReadAlone.{ReadWell, BodiesAreCoded, GlobalsAreSpelled, AddressesAreRead, PartialsAreObjects}

abbrev pub BytesAreObjects : Type 0
BytesAreObjects = (input : ℕ) (r : Relocatable) (codes : List Coded) → IsWritable r codes → length (relocatable_bytes r) ≤ 2 ^ 30 → broken_rule (sections_told r) (relocatable_bytes r) (parts_told r codes) ≡ None
    → IsObject input (relocatable_bytes r) (object_from input (sections_told r) (parts_told r codes))

pub are_objects : ReadWell → BodiesAreCoded → GlobalsAreSpelled → AddressesAreRead → AreWritable → RulesAreKept → BytesAreObjects → PartialsAreObjects
are_objects well coded spelled addresses writable rules objects_law l objects read local short =
    let r : Relocatable = relocatable (program l objects) in
    let w = well l objects read in
    let c = coded l objects read in
    let is : IsWritable r c.codes = writable l objects w.linked w.named w.spellable w.addends short c.codes c.are c.coded (spelled l objects read) in
    let kept = (rules l objects w.linked w.named local c.codes c.are short).2 (addresses l objects read local c.codes) in
    record { codes = c.codes; writable = is; kept = kept; is = λ input. objects_law input r c.codes is short kept }
