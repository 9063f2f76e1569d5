-- What the debug sections behind an output say of places in functions (Linking.md, "Relocation Sections": FUNCTION_OFFSET_I32, which is 8).
use Rattle.std.specs.Prelude.{◌≡◌, ℕ, ◌+◌, pos, ◌+ℤ◌, true, List, ◌∷◌, ◌++◌, length, filter, flat_map, slice_get, slice_range, unwrap_or, Contains, Option, Some, None, Ok}
use Rattle.valid_links.specs.link_runs.link_program.object_file.leb_codec.Shortest.{u32}
use Rattle.valid_links.specs.link_runs.link_program.object_file.reloc_section.declared.entry.Reloc.{Reloc}
use Rattle.valid_links.specs.link_runs.link_program.object_file.declared.object.Object.{Object}
use Rattle.valid_links.specs.link_runs.link_program.reloc_apply.Windows.{bits32, little}
use Rattle.valid_links.specs.link_runs.link_program.image_emit.Bytes.{sized}
use Rattle.valid_links.specs.link_runs.link_program.made_symbols.declared.mode.Mode.TheVariants.{Plain}
use Rattle.valid_links.specs.link_runs.link_program.link_plan.declared.plan.Plan.{Plan}
use Rattle.valid_links.specs.link_runs.link_program.round_rules.Rounds.{Candidate, load}
use Rattle.valid_links.specs.link_runs.link_program.name_rules.Entries.{InputSymbol, symbols_of}
use Rattle.valid_links.specs.link_runs.link_program.link_rules.ModeOf.{IsPlain}
use Rattle.valid_links.specs.link_runs.link_program.link_rules.Candidates.{candidates_of}
use Rattle.valid_links.specs.link_runs.link_program.link_rules.Program.{Program, Part, program_of}
use Rattle.valid_links.specs.link_runs.link_program.link_rules.Marks.{exported, live}
use Rattle.valid_links.specs.link_runs.link_program.link_rules.LinkOf.{asked_names, the_readers, link_of}
use Rattle.valid_links.specs.link_runs.link_facts.link_worlds.Worlds.{layout_of}
use Rattle.debug_customs.specs.debug_rules.Faults.{Debug, debugs}
use Rattle.debug_customs.specs.debug_rules.Joined.{Places, dead_word, is_named, names_of, payload_of, section_of, content_of}
use Rattle.debug_tails.specs.link_debug.Places.{link_inputs, link_places}
use Rattle.debug_tails.specs.link_debug.Offsets.{bytes as bytes_of, own_part, IsSameFrom}
use Rattle.debug_tails.specs.Tails.{with_debug}

-- ---- where a window stands

-- What stands in a joined section before its contributions: its number and size, and its name (Core 5.5.3).
abbrev pub head_of : List Debug → Places → List ℕ → List ℕ
head_of all p name = 0 ∷ u32 (length (payload_of all p name)) ++ sized name

-- What stands in the output before a contribution: the module, the joined sections of the earlier names, and of its own the head and the
-- earlier contributions.
abbrev pub front_of : List ℕ → List Debug → Places → List (List ℕ) → List ℕ → List Debug → List ℕ
front_of bytes all p earlier name before = bytes ++ (flat_map (section_of all p) earlier ++ (head_of all p name ++ flat_map (content_of all p) before))

-- The four bytes of a window in the output hold this word: where the contribution begins, and as far behind that as the window's offset.
pub record Holds (bytes whole : List ℕ) (all : List Debug) (p : Places) (d : Debug) (r : Reloc) (word : ℕ) : Type 0 where
  pub earlier : List (List ℕ)
  pub later : List (List ℕ)
  pub names : names_of all ≡ earlier ++ d.section.name ∷ later
  pub before : List Debug
  pub after : List Debug
  pub contributions : filter (is_named d.section.name) all ≡ before ++ d ∷ after
  pub window : (let at = length (front_of bytes all p earlier d.section.name before) + r.offset in slice_range whole at (at + 4) ≡ little word)

-- ---- what it holds

module _ (p : Program) (exports : List InputSymbol) (bytes whole : List ℕ) (all : List Debug) where
  abbrev pub places : Places
  places = link_places Plain p (live p exports) exports (layout_of p exports)

  -- Where the symbol's own function is live: a place of it in the code and the addend. From that place on its body stands in the code, each
  -- instruction as far behind it as in the object. Where it isn't: the dead word.
  abbrev pub Tells : Debug → Reloc → Option Part → Type 0
  Tells d r (Some part) = (n : ℕ) × IsSameFrom p exports part n × Holds bytes whole all places d r (bits32 (pos n +ℤ r.addend))
  Tells d r None = Holds bytes whole all places d r (dead_word d.section.name)

-- Each window of that type in the debug sections of the loaded objects: it names a symbol of its object, and tells of it.
pub record OffsetsKept (plan : Plan) (files : List (List ℕ)) (bytes whole : List ℕ) : Type 0 where
  pub all : List Candidate
  pub objects : List Object
  pub found : candidates_of the_readers plan files ≡ Ok all
  pub loaded : load Plain (asked_names plan) all ≡ Ok objects
  pub sections : List Debug
  pub judged : debugs 0 (link_inputs files all objects) ≡ Ok sections
  -- the module before them, in which `IsSameFrom` finds the code
  pub output : (let p = program_of Plain plan files all objects in bytes_of p (exported Plain p) ≡ bytes)
  pub told : (d : Debug) → Contains sections d → (r : Reloc) → Contains d.relocs r → r.kind ≡ 8
      → (o : Object) × (e : InputSymbol) × (slice_get objects d.object ≡ Some o) × (slice_get (symbols_of objects o) r.index ≡ Some e)
      × (let p = program_of Plain plan files all objects in Tells p (exported Plain p) bytes whole sections d r (own_part p (exported Plain p) e))

-- So it is of a plain output.
abbrev pub OffsetsStay : Type 0
OffsetsStay = (plan : Plan) (files : List (List ℕ)) (bytes whole : List ℕ) → length files ≡ unwrap_or plan.make_case (length plan.inputs) → IsPlain plan
    → plan.keep_debug ≡ true → link_of plan files ≡ Ok bytes → with_debug plan files bytes ≡ Ok whole → OffsetsKept plan files bytes whole
