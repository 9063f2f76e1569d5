-- What is read is an object, and an object is read.
use Rattle.std.proofs.Common.{◌≡◌, ℕ, ◌^◌, ◌≤◌, Bool, true, false, cond, List, length, Result, Ok, Err, Option, Some, None, refl, sym, ap, ◌∙◌}
use Rattle.std.specs.Prelude.{IfOk, nat_lt}
use Rattle.std.proofs.lemmas.Bool.{ltb-false, le-ltb}
use Rattle.object_rules.specs.wl_base.declared.fault.Fault.{Fault}
use Rattle.object_rules.specs.wl_base.declared.fault.Fault.TheVariants.{TooLong}
use Rattle.object_rules.specs.wasm_sections.declared.section.SectionSpan.{SectionSpan}
use Rattle.object_rules.specs.wasm_sections.declared.fault.FrameFault.{FrameFault}
use Rattle.object_rules.specs.wasm_sections.Reading.{frame_at}
use Rattle.object_rules.proofs.wasm_sections_lemmas.FrameLaws.{frame_found, frame_again}
use Rattle.object_rules.specs.object_parts.declared.parts.Parts.{Parts}
use Rattle.object_rules.specs.object_parts.declared.reading.SectionStop.{SectionStop}
use Rattle.object_rules.specs.object_parts.Reading.{parts_of}
use Rattle.object_rules.proofs.object_parts_lemmas.Sections.{parts_found, parts_again}
use Rattle.object_rules.specs.Rules.{broken_rule}
use Rattle.object_file.specs.declared.object.Object.{Object}
use Rattle.object_file.specs.declared.reading.ObjectError.{ObjectError}
use Rattle.object_file.specs.ObjectOf.{IsObject, agreed, spelled_object, framed_object, object_of, Answers}

ok_is : {x y : Object} → (let r : Result Object Fault = Ok x in r ≡ Ok y) → x ≡ y
ok_is e = cc

pub object_found : (input : ℕ) (bytes : List ℕ) (o : Object) → object_of input bytes ≡ Ok o → IsObject input bytes o
unfolding object_of
object_found input bytes o e = by (nat_lt (2 ^ 30) (length bytes)) refl e
  where
    agreeing : (all : List SectionSpan) (parts : Parts) (rule : Option ℕ) → length bytes ≤ 2 ^ 30 → frame_at bytes ≡ Ok all → parts_of all bytes ≡ Ok parts → broken_rule all bytes parts ≡ rule → agreed input all parts rule ≡ Ok o → IsObject input bytes o
    agreeing all parts None short framed spelled agrees f = record {
      sections = all;
      parts = parts;
      short = short;
      framed = frame_found bytes all framed;
      spelled = parts_found all bytes parts spelled;
      agrees = agrees;
      is = sym (ok_is f);
    }
    agreeing all parts (Some rule) short framed spelled agrees f = absurd cc

    spelling : (all : List SectionSpan) (read : Result Parts SectionStop) → length bytes ≤ 2 ^ 30 → frame_at bytes ≡ Ok all → parts_of all bytes ≡ read → spelled_object input bytes all read ≡ Ok o → IsObject input bytes o
    spelling all (Ok parts) short framed spelled f = agreeing all parts (broken_rule all bytes parts) short framed spelled refl f
    spelling all (Err s) short framed spelled f = absurd cc

    framing : (read : Result (List SectionSpan) FrameFault) → length bytes ≤ 2 ^ 30 → frame_at bytes ≡ read → framed_object input bytes read ≡ Ok o → IsObject input bytes o
    framing (Ok all) short framed f = spelling all (parts_of all bytes) short framed refl f
    framing (Err s) short framed f = absurd cc

    by : (q : Bool) → nat_lt (2 ^ 30) (length bytes) ≡ q → (cond q (Err (TooLong input (length bytes))) (framed_object input bytes (frame_at bytes))) ≡ Ok o → IsObject input bytes o
    by true is f = absurd cc
    by false is f = framing (frame_at bytes) (ltb-false (2 ^ 30) (length bytes) is) refl f

pub object_again : (input : ℕ) (bytes : List ℕ) (o : Object) → IsObject input bytes o → object_of input bytes ≡ Ok o
unfolding object_of
object_again input bytes o is =
    rw (le-ltb (2 ^ 30) (length bytes) is.short, frame_again bytes is.sections is.framed, parts_again is.sections bytes is.parts is.spelled, is.agrees)
    (ap (λ (x : Object). let r : Result Object Fault = Ok x in r) (sym is.is))

pub one_object : (input : ℕ) (bytes : List ℕ) (a b : Object) → IsObject input bytes a → IsObject input bytes b → a ≡ b
one_object input bytes a b x y = ok_is (sym (object_again input bytes a x) ∙ object_again input bytes b y)

pub is_object : (input : ℕ) (bytes : List ℕ) (r : Result Object ObjectError) → Answers r (object_of input bytes) → IfOk r (IsObject input bytes)
is_object input bytes (Ok o) said = object_found input bytes o said
is_object input bytes (Err e) said = tt
