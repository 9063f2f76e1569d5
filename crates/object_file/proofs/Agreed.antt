-- The rules that an object keeps, each by itself.
use Rattle.std.proofs.Common.{◌≡◌, ℕ, Bool, true, false, cond, not, List, Option, Some, None, refl}
use Rattle.object_rules.specs.wasm_sections.declared.section.SectionSpan.{SectionSpan}
use Rattle.object_rules.specs.linking_section.declared.linking.Linking.{Linking}
use Rattle.object_rules.specs.object_parts.declared.parts.Parts.{Parts}
use Rattle.object_rules.specs.Spaces.{counts_of}
use Rattle.object_rules.specs.Indexes.{are_counted, are_in_range}
use Rattle.object_rules.specs.Symbols.{symbols_stand, names_differ}
use Rattle.object_rules.specs.Metadata.{infos_stand, inits_stand, groups_stand}
use Rattle.object_rules.specs.Relocs.{targets_stand, entries_stand}
use Rattle.object_rules.specs.Windows.{windows_stand, indexes_are_covered}
use Rattle.object_rules.specs.Rules.{reloc_rule, linking_rule, rule_of, rule_with, broken_rule}

pub record Keeps (all : List SectionSpan) (bytes : List ℕ) (parts : Parts) (l : Linking) : Type 0 where
  pub counted : are_counted parts ≡ true
  pub in_range : are_in_range (counts_of all parts) parts ≡ true
  pub symbols : symbols_stand (counts_of all parts) parts l.symbols ≡ true
  pub names : names_differ parts.imports l.symbols ≡ true
  pub infos : infos_stand (counts_of all parts) l.segments ≡ true
  pub inits : inits_stand parts l.symbols l.inits ≡ true
  pub groups : groups_stand (counts_of all parts) l.groups ≡ true
  pub targets : targets_stand all parts.relocs ≡ true
  pub entries : entries_stand (counts_of all parts) parts.imports l.symbols parts.relocs ≡ true
  pub windows : windows_stand all bytes parts l.symbols ≡ true
  pub covered : indexes_are_covered parts ≡ true

-- a rule that isn't broken holds, and none behind it is broken
passes : (q : Bool) (rule : ℕ) (others : Option ℕ) → cond (not q) (Some rule) others ≡ None → (q ≡ true) × (others ≡ None)
passes true rule others e = (refl, e)
passes false rule others e = absurd cc

pub keeps : (all : List SectionSpan) (bytes : List ℕ) (parts : Parts) (l : Linking) → rule_of all bytes parts l ≡ None → Keeps all bytes parts l
unfolding rule_of linking_rule reloc_rule
keeps all bytes parts l e =
    let one = passes parts.in_order 1 _ e in
    let two = passes (are_counted parts) 2 _ one.1 in
    let three = passes (are_in_range (counts_of all parts) parts) 3 _ two.1 in
    let four = passes (symbols_stand (counts_of all parts) parts l.symbols) 4 _ three.1 in
    let five = passes (names_differ parts.imports l.symbols) 5 _ four.1 in
    let six = passes (infos_stand (counts_of all parts) l.segments) 6 _ five.1 in
    let seven = passes (inits_stand parts l.symbols l.inits) 7 _ six.1 in
    let eight = passes (groups_stand (counts_of all parts) l.groups) 8 _ seven.1 in
    let nine = passes (targets_stand all parts.relocs) 9 _ eight.1 in
    let ten = passes (entries_stand (counts_of all parts) parts.imports l.symbols parts.relocs) 10 _ nine.1 in
    let eleven = passes (windows_stand all bytes parts l.symbols) 11 _ ten.1 in
    let twelve = passes (indexes_are_covered parts) 12 None eleven.1 in
    record {
      counted = two.0;
      in_range = three.0;
      symbols = four.0;
      names = five.0;
      infos = six.0;
      inits = seven.0;
      groups = eight.0;
      targets = nine.0;
      entries = ten.0;
      windows = eleven.0;
      covered = twelve.0;
    }

-- An object without a section `linking` breaks the first rule.
pub agreed_keeps : (all : List SectionSpan) (bytes : List ℕ) (parts : Parts) → broken_rule all bytes parts ≡ None → (l : Linking) × (parts.linking ≡ Some l) × Keeps all bytes parts l
agreed_keeps all bytes parts e = by parts.linking refl e
  where
    by : (linking : Option Linking) → parts.linking ≡ linking → rule_with all bytes parts linking ≡ None → (l : Linking) × (parts.linking ≡ Some l) × Keeps all bytes parts l
    by None is f = absurd cc
    by (Some l) is f = (l, is, keeps all bytes parts l f)
