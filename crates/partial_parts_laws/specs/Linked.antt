-- The programs of three links, of all inputs, of a run of neighbours alone, and of all inputs with one object in the place of the run; and where the
-- same bytes stand in their files.
use Rattle.std.specs.Prelude.{◌≡◌, ℕ, List, length}
use Rattle.list_places.specs.Has.{Has}
use Rattle.name_rules.specs.object_file.wl_base.declared.span.Span.{Span}
use Rattle.name_rules.specs.object_file.declared.object.Object.{Object}
use Rattle.name_rules.specs.object_file.object_columns.declared.functions.FunctionDef.{FunctionDef}
use Rattle.name_rules.specs.object_file.object_columns.declared.segments.SegmentDef.{SegmentDef}
use Rattle.made_symbols.specs.declared.mode.Mode.TheVariants.{Plain}
use Rattle.round_rules.specs.Rounds.{Candidate}
use Rattle.link_plan.specs.declared.plan.Plan.{Plan}
use Rattle.image_emit.specs.Bytes.{file_part}
use Rattle.link_rules.specs.Program.{Program, program_of, span_of}
use Rattle.partial_laws.specs.Inputs.{Run, Objects, alone, later, whole_objects, run_objects, later_objects}

-- What a link is told beside its objects.
pub record Linked : Type 0 where
  pub plan : Plan
  pub files : List (List ℕ)
  pub all : List Candidate

abbrev pub program : Linked → List Object → Program
program l objects = program_of Plain l.plan l.files l.all objects

-- The bytes of a span of an input.
abbrev pub bytes_at : Linked → ℕ → Span → List ℕ
bytes_at l input s = file_part l.files (span_of l.all input s)

-- An input of one link and one of another have the same bytes.
pub record SameFile (l : Linked) (input : ℕ) (k : Linked) (other : ℕ) : Type 0 where
  pub len : (s : Span) → (span_of k.all other s).span.len ≡ (span_of l.all input s).span.len
  pub bytes : (s : Span) → bytes_at k other s ≡ bytes_at l input s

-- The three links.
pub record Links : Type 0 where
  pub run_alone : Linked
  pub whole : Linked
  pub after : Linked

module _ (run : Run) (os : Objects) (ls : Links) where
  abbrev pub alone_program : Program
  alone_program = program ls.run_alone (run_objects run os)

  abbrev pub whole_program : Program
  whole_program = program ls.whole (whole_objects os)

  abbrev pub later_program : Program
  later_program = program ls.after (later_objects run os)

  -- Inputs before and behind the run have the same bytes in the later link, and those of the run in the run alone. Functions and segments of the run
  -- lie in their files.
  pub record FilesAgree : Type 0 where
    pub before : (o : Object) → Has os.before o → SameFile ls.whole o.input ls.after o.input
    pub behind : (o : Object) → Has os.behind o → SameFile ls.whole o.input ls.after (later run o.input)
    pub of_run : (o : Object) → Has os.middle o → SameFile ls.whole o.input ls.run_alone (alone run o.input)
    pub functions : (o : Object) → Has os.middle o → (f : FunctionDef) → Has o.functions f → length (bytes_at ls.whole o.input f.span) ≡ f.span.len
    pub segments : (o : Object) → Has os.middle o → (g : SegmentDef) → Has o.segments g → length (bytes_at ls.whole o.input g.span) ≡ g.span.len
