-- The names of what a line tells: the variant's name, with its numbers in round brackets where it has any.
use Rattle.std.specs.Prelude.{ℕ, List, [], ◌∷◌, codes, decimal}
use Rattle.wl_base.specs.declared.fault.LibFault.{LibFault}
use Rattle.wl_base.specs.declared.fault.LibFault.TheVariants.{NotLibrary, Thin, BadHeader, NoIndex, BadIndex}
use Rattle.wl_base.specs.declared.fault.What.{What}
use Rattle.wl_base.specs.declared.fault.What.TheVariants.{DataEnd, HeapBase, MaxMemory, TableSize, OutputLength, Reference}
use Rattle.wl_base.specs.declared.item.Item.{Item}
use Rattle.wl_base.specs.declared.item.Item.TheVariants as items
use Rattle.link_lines.specs.declared.label.Label.{Label}
use Rattle.link_lines.specs.declared.label.Label.TheVariants.{Alone, With, WithTwo}

abbrev pub alone : List ℕ → List (List ℕ)
alone word = word ∷ []

abbrev pub with : List ℕ → ℕ → List (List ℕ)
with word n = word ∷ codes "(" ∷ decimal n ∷ codes ")" ∷ []

abbrev pub with_two : List ℕ → ℕ → ℕ → List (List ℕ)
with_two word n m = word ∷ codes "(" ∷ decimal n ∷ codes "," ∷ decimal m ∷ codes ")" ∷ []

abbrev pub label_texts : Label → List (List ℕ)
label_texts (Alone word) = alone word.now
label_texts (With word n) = with word.now n
label_texts (WithTwo word n m) = with_two word.now n m

abbrev pub library_label : LibFault → List (List ℕ)
library_label NotLibrary = alone (codes "NotLibrary")
library_label Thin = alone (codes "Thin")
library_label (BadHeader at) = with (codes "BadHeader") at
library_label NoIndex = alone (codes "NoIndex")
library_label (BadIndex cause) = with (codes "BadIndex") cause

abbrev pub item_label : Item → List (List ℕ)
item_label items.TagSection = alone (codes "TagSection")
item_label items.StartSection = alone (codes "StartSection")
item_label items.DefinedMemory = alone (codes "DefinedMemory")
item_label items.DefinedTable = alone (codes "DefinedTable")
item_label items.MoreMemories = alone (codes "MoreMemories")
item_label items.OtherTable = alone (codes "OtherTable")
item_label items.TagImport = alone (codes "TagImport")
item_label (items.LimitsFlag flag) = with (codes "LimitsFlag") flag
item_label (items.ValueType code) = with (codes "ValueType") code
item_label (items.ConstExpr opcode) = with (codes "ConstExpr") opcode
item_label items.PassiveSegment = alone (codes "PassiveSegment")
item_label (items.SegmentForm flag) = with (codes "SegmentForm") flag
item_label (items.Opcode byte sub) = with_two (codes "Opcode") byte sub
item_label (items.LinkingVersion version) = with (codes "LinkingVersion") version
item_label items.TagSymbol = alone (codes "TagSymbol")
item_label (items.SymbolFlags flags) = with (codes "SymbolFlags") flags
item_label (items.SegmentFlags flags) = with (codes "SegmentFlags") flags
item_label (items.RelocType kind) = with (codes "RelocType") kind
item_label items.SharedModule = alone (codes "SharedModule")

abbrev pub what_name : What → List ℕ
what_name DataEnd = codes "DataEnd"
what_name HeapBase = codes "HeapBase"
what_name MaxMemory = codes "MaxMemory"
what_name TableSize = codes "TableSize"
what_name OutputLength = codes "OutputLength"
what_name Reference = codes "Reference"
