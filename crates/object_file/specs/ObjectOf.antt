-- Which bytes are an object (Linking.md), and the first fault of those that aren't.
use Rattle.std.specs.Prelude.{◌≡◌, ℕ, ◌^◌, ◌≤◌, nat_lt, List, length, if◌then◌else◌, Option, Some, None, Result, Ok, Err}
use Rattle.object_rules.specs.wl_base.declared.fault.Fault.{Fault}
use Rattle.object_rules.specs.wl_base.declared.fault.Fault.TheVariants.{TooLong, Malformed, Unsupported}
use Rattle.object_rules.specs.wl_base.declared.fault.Part.TheVariants as broken
use Rattle.object_rules.specs.wasm_grammar.declared.fault.Stop.{Stop}
use Rattle.object_rules.specs.wasm_grammar.declared.fault.Stop.TheVariants.{Broken, Foreign}
use Rattle.object_rules.specs.wasm_sections.declared.section.SectionSpan.{SectionSpan}
use Rattle.object_rules.specs.wasm_sections.declared.fault.FrameFault.{FrameFault}
use Rattle.object_rules.specs.wasm_sections.Sections.{IsFrame}
use Rattle.object_rules.specs.wasm_sections.Reading.{frame_at}
use Rattle.object_rules.specs.object_parts.declared.parts.Parts.{Parts}
use Rattle.object_rules.specs.object_parts.declared.reading.SectionStop.{SectionStop}
use Rattle.object_rules.specs.object_parts.Adding.{no_parts}
use Rattle.object_rules.specs.object_parts.Sections.{AddInTurn}
use Rattle.object_rules.specs.object_parts.Reading.{code_relocs, parts_of}
use Rattle.object_rules.specs.Rules.{broken_rule}
use Rattle.object_file.specs.declared.object.Object.{Object}
use Rattle.object_file.specs.declared.reading.ObjectError.{ObjectError}
use Rattle.object_file.specs.declared.reading.ObjectError.TheVariants as errors
use Rattle.object_file.specs.Objects.{object_from}

-- The bytes are an object: there are at most 2^30, they are cut into sections, each section is
-- spelled whole, and no rule is broken; and the object is what these sections tell.
pub record IsObject (input : ℕ) (bytes : List ℕ) (o : Object) : Type 0 where
  pub sections : List SectionSpan
  pub parts : Parts
  pub short : length bytes ≤ 2 ^ 30
  pub framed : IsFrame sections bytes
  pub spelled : AddInTurn sections (code_relocs sections bytes sections) bytes no_parts sections parts
  pub agrees : broken_rule sections bytes parts ≡ None
  pub is : o ≡ object_from input sections parts

-- ---- the first fault

-- A foreign item that stands before any broken byte of its section, or the section.
abbrev pub section_fault : ℕ → ℕ → Stop → Fault
section_fault input section (Broken place) = Malformed input (broken.Section section)
section_fault input section (Foreign item) = Unsupported input item

abbrev pub agreed : ℕ → List SectionSpan → Parts → Option ℕ → Result Object Fault
agreed input all parts None = Ok (object_from input all parts)
agreed input all parts (Some rule) = Err (Malformed input (broken.Cross rule))

abbrev pub spelled_object : ℕ → List ℕ → List SectionSpan → Result Parts SectionStop → Result Object Fault
spelled_object input bytes all (Ok parts) = agreed input all parts (broken_rule all bytes parts)
spelled_object input bytes all (Err e) = Err (section_fault input e.section e.stop)

abbrev pub framed_object : ℕ → List ℕ → Result (List SectionSpan) FrameFault → Result Object Fault
framed_object input bytes (Ok all) = spelled_object input bytes all (parts_of all bytes)
framed_object input bytes (Err e) = Err (Malformed input broken.Frame)

-- The object that the bytes are, as an input of this number; or its first fault: it is too long; it
-- isn't cut into sections; the first section that isn't spelled whole; the first rule that is
-- broken.
unfoldable pub object_of : ℕ → List ℕ → Result Object Fault
object_of input bytes =
    if nat_lt (2 ^ 30) (length bytes) then Err (TooLong input (length bytes))
    else framed_object input bytes (frame_at bytes)

-- What the program answers, beside what the bytes are. Want of memory alone is free.
abbrev pub Answers : Result Object ObjectError → Result Object Fault → Type 0
Answers (Ok o) said = said ≡ Ok o
Answers (Err (errors.Refused fault)) said = said ≡ Err fault
Answers (Err errors.OutOfMemory) said = Unit {0}
