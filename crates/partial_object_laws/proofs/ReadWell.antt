-- Objects that were read of their files are sound, lie in them, are named as they are read, and have spellings.
use Rattle.std.proofs.Common.{ℕ, List, length, inl, refl}
use Rattle.list_places.specs.Has.{Has}
use Rattle.list_places.proofs.Lists.{all_has}
use Rattle.object_rules.specs.object_parts.Spans.{LiesIn}
use Rattle.name_rules.specs.object_file.object_columns.declared.functions.FunctionDef.{FunctionDef}
use Rattle.name_rules.specs.object_file.object_columns.declared.segments.SegmentDef.{SegmentDef}
use Rattle.object_file.specs.declared.object.Object.{Object}
use Rattle.object_file.specs.ObjectOf.{IsObject}
use Rattle.object_file.specs.Sound.{Sound}
use Rattle.object_file.specs.Spellable.{IsSpellable}
use Rattle.partial_laws.proofs.Instance.{all_from_has}
use Rattle.partial_parts_laws.specs.SymbolsBack.{AreNamed}
use Rattle.partial_parts_laws.specs.NamedObjects.{ObjectsAreNamed}
use Rattle.partial_parts_laws.specs.ReadOperands.{ReadHaveAddends}
use Rattle.partial_object_laws.specs.ReadAlone.{bytes_of, ReadWell}
use Rattle.partial_object_laws.proofs.Files.{bytes_long}

abbrev pub SoundLaw : Type 0
SoundLaw = (input : ℕ) (bytes : List ℕ) (object : Object) → IsObject input bytes object → Sound (length bytes) object

abbrev pub SpellableLaw : Type 0
SpellableLaw = (input : ℕ) (bytes : List ℕ) (object : Object) → IsObject input bytes object → IsSpellable object

pub well_read : SoundLaw → SpellableLaw → ObjectsAreNamed → ReadHaveAddends → ReadWell
well_read sound_law spellable_law named_law addends_law l objects read =
    let file : (o : Object) → Has objects o → List ℕ = λ o ho. bytes_of l (read.each o ho).candidate in
    let sound : (o : Object) (ho : Has objects o) → Sound (length (file o ho)) o = λ o ho. sound_law o.input (file o ho) o (read.each o ho).is in
    record {
      linked = record {
        strict = read.strict;
        rise = read.rise;
        sound = all_from_has (λ (o : Object). (size : ℕ) × Sound size o) objects (λ o ho. (length (file o ho), sound o ho));
        lie = record {
          functions = λ o ho f hf. bytes_long l o (read.each o ho) f.span (all_has (λ (x : FunctionDef). LiesIn (length (file o ho)) x.span) o.functions (sound o ho).bodies f hf);
          segments = λ o ho g hg. bytes_long l o (read.each o ho) g.span (all_has (λ (x : SegmentDef). LiesIn (length (file o ho)) x.span) o.segments (sound o ho).segments g hg);
        };
        no_clash = read.no_clash;
      };
      named = all_from_has AreNamed objects (λ o ho. named_law o.input (file o ho) o (read.each o ho).is);
      spellable = all_from_has IsSpellable objects (λ o ho. spellable_law o.input (file o ho) o (read.each o ho).is);
      addends = λ o ho f hf. addends_law o.input (file o ho) o (read.each o ho).is o (inl refl) f hf;
    }
