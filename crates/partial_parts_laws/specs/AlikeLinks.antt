-- The programs of the whole link and of the later one are alike, so they give the same output.
use Rattle.std.specs.Prelude.{◌≡◌, ℕ, false, List, All, Ok}
use Rattle.made_symbols.specs.declared.mode.Mode.TheVariants.{Plain}
use Rattle.round_rules.specs.Rounds.{load}
use Rattle.name_rules.specs.object_file.declared.object.Object.{Object}
use Rattle.name_rules.specs.Entries.{InputSymbol}
use Rattle.name_rules.specs.Cases.{first_entry}
use Rattle.link_plan.specs.declared.plan.InputWord.{InputWord}
use Rattle.link_rules.specs.ModeOf.{IsPlain}
use Rattle.link_rules.specs.Candidates.{candidates_of}
use Rattle.link_rules.specs.Program.{Part}
use Rattle.link_rules.specs.Marks.{export_name, exported, refs_of}
use Rattle.link_rules.specs.Keys.{callable, stub_names, entry_type}
use Rattle.link_rules.specs.LinkOf.{asked_names, the_readers, exporting, link_program, link_of}
use Rattle.partial_rules.specs.Moving.{AlikeParts}
use Rattle.partial_rules.specs.Alike.{In, AlikePrograms, LiveMeant}
use Rattle.partial_laws.specs.Inputs.{Run, Objects, whole_objects, later_objects}
use Rattle.partial_laws.specs.Standing.{joining}
use Rattle.partial_laws.specs.PartialThenLink.{with_inputs}
use Rattle.partial_parts_laws.specs.Linked.{Linked, Links, alone_program, whole_program, later_program}
use Rattle.partial_parts_laws.specs.Moves.{moving, StandsInLinks}
use Rattle.partial_parts_laws.specs.Alike.{HeldChunk, HeldSymbol}

-- The later link has the same words but for its inputs, and no driver's words.
pub record WordsStay (ls : Links) : Type 0 where
  pub inputs : List InputWord
  pub plan : ls.after.plan ≡ with_inputs ls.whole.plan inputs
  pub no_driver : ls.whole.plan.like_lld ≡ false

module _ (run : Run) (os : Objects) (ls : Links) where
  -- What is exported has the same names.
  abbrev pub ExportNamesStay : Type 0
  ExportNamesStay = All (λ (e : InputSymbol). export_name (later_program run os ls) ((joining run os (alone_program run os ls)).move e) ≡ export_name (whole_program run os ls) e) (whole_program run os ls).winners

  -- The null functions that parts call have the same names, in one order, and the same types.
  pub record StubsStay : Type 0 where
    pub names : (xs ys : List Part) → All (λ x. In x (whole_program run os ls).parts) xs
        → AlikeParts (moving run os (alone_program run os ls)) (HeldChunk run os ls) (HeldSymbol run os ls) (whole_program run os ls) (later_program run os ls) xs ys
        → stub_names (later_program run os ls) (refs_of ys) ≡ stub_names (whole_program run os ls) (refs_of xs)
    pub types : (xs : List Part)
        → All (λ name. entry_type (first_entry (callable (later_program run os ls)) name) ≡ entry_type (first_entry (callable (whole_program run os ls)) name)) (stub_names (whole_program run os ls) (refs_of xs))

  abbrev pub ProgramsAlike : Type 0
  ProgramsAlike = AlikePrograms (moving run os (alone_program run os ls)) (HeldChunk run os ls) (HeldSymbol run os ls) (whole_program run os ls) (later_program run os ls)

  -- Where something is meant by all that live parts of the whole link refer to, the later link gives its bytes.
  abbrev pub SameOutput : Type 0
  SameOutput =
      LiveMeant (whole_program run os ls) → (bytes : List ℕ)
      → exporting Plain (whole_program run os ls) (exported Plain (whole_program run os ls)) ≡ Ok bytes
      → exporting Plain (later_program run os ls) (exported Plain (later_program run os ls)) ≡ Ok bytes

abbrev pub ExportsAreSame : Type 0
ExportsAreSame = (run : Run) (os : Objects) (ls : Links) → StandsInLinks run os ls → WordsStay ls → ExportNamesStay run os ls

abbrev pub StubsAreSame : Type 0
StubsAreSame = (run : Run) (os : Objects) (ls : Links) → StandsInLinks run os ls → WordsStay ls → StubsStay run os ls

abbrev pub ProgramsAreAlike : Type 0
ProgramsAreAlike = (run : Run) (os : Objects) (ls : Links) → StandsInLinks run os ls → WordsStay ls → ProgramsAlike run os ls

abbrev pub OutputsAreSame : Type 0
OutputsAreSame = (run : Run) (os : Objects) (ls : Links) → StandsInLinks run os ls → WordsStay ls → SameOutput run os ls

-- Where the whole link gives some bytes, the later one gives the same.
abbrev pub LinksAreSame : Type 0
LinksAreSame =
    (run : Run) (os : Objects) (ls : Links) → StandsInLinks run os ls → WordsStay ls → (bytes : List ℕ)
    → link_program Plain (whole_program run os ls) ≡ Ok bytes → link_program Plain (later_program run os ls) ≡ Ok bytes

-- The objects of a link are loaded by its words and files.
pub record IsLoaded (l : Linked) (objects : List Object) : Type 0 where
  pub plain : IsPlain l.plan
  pub candidates : candidates_of the_readers l.plan l.files ≡ Ok l.all
  pub load_all : load Plain (asked_names l.plan) l.all ≡ Ok objects

-- So where the two links load these objects, and the first gives some bytes, the second gives the same.
abbrev pub LinkedFilesAreSame : Type 0
LinkedFilesAreSame =
    (run : Run) (os : Objects) (ls : Links) → StandsInLinks run os ls → WordsStay ls → IsLoaded ls.whole (whole_objects os) → IsLoaded ls.after (later_objects run os)
    → (bytes : List ℕ) → link_of ls.whole.plan ls.whole.files ≡ Ok bytes → link_of ls.after.plan ls.after.files ≡ Ok bytes
