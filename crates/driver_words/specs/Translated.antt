-- The translation: what drivers' words stand for, where names hold what they hold.
use Rattle.std.specs.Prelude.{ℕ, List, [], ◌∷◌, length, drop, Bool, true, not, ◌||◌, if◌then◌else◌, Option, Some, None, Result, Ok, Err, codes}
use Rattle.std.specs.List.{list_any}
use Rattle.std.specs.Str.{bytes_eq}
use Rattle.link_plan.specs.declared.plan.FeatureWords.{FeatureWords}
use Rattle.driver_table.specs.declared.meaning.Meaning.TheVariants.{Version as AsksVersion, Help as AsksHelp}
use Rattle.driver_table.specs.Meanings.{same}
use Rattle.driver_table.specs.Items.{Said}
use Rattle.driver_table.specs.Texts.{line, begins}
use Rattle.driver_table.specs.Cut.{cut_of, behind}
use Rattle.driver_fields.specs.Values.{values_fault}
use Rattle.driver_fields.specs.Lacking.{lacking}
use Rattle.driver_fields.specs.Fields.{fatal}
use Rattle.driver_fields.specs.Own.{own_words, warnings}
use Rattle.driver_fields.specs.Sections.{keeps_names, feature_words}
use Rattle.driver_words.specs.Expand.{expanded_to}
use Rattle.driver_words.specs.Inputs.{inputs_of}
use Rattle.driver_words.specs.declared.answer.What.{What}
use Rattle.driver_words.specs.declared.answer.What.TheVariants.{Version, Help}
use Rattle.driver_words.specs.declared.answer.Answer.{Answer}
use Rattle.driver_words.specs.declared.answer.Answer.TheVariants.{Links, Says, Refuses}

-- What each name holds, where it holds anything.
abbrev pub World : Type 0
World = List ℕ → Option (List ℕ)

-- An answer of what a step gives, or its refusal.
abbrev pub then_answer : {A : Type 0} → Result A (List ℕ) → (A → Answer) → Answer
then_answer (Ok value) next = next value
then_answer (Err refusal) next = Refuses refusal

-- The refusal, where there is one, and else the answer.
abbrev pub unless_refused : Option (List ℕ) → Answer → Answer
unless_refused (Some refusal) answer = Refuses refusal
unless_refused None answer = answer

-- Warnings are errors where words say so: the first is told. It is kept for what the link itself warns of.
abbrev pub links : Bool → Bool → Option FeatureWords → List (List ℕ) → List (List ℕ) → Answer
links true names features own (warning ∷ more) = Refuses warning
links fatal names features own told = Links own told fatal names features

-- The words of the items, with what no own word asks for.
abbrev pub links_with : List Said → List (List ℕ) → Answer
links_with items own = links (fatal items) (keeps_names items) (feature_words items) own (warnings items)

-- What is said in place of a link, by the first item that asks for it.
abbrev pub asked : List Said → Option What
asked [] = None
asked (said ∷ items) = if same said.meaning AsksVersion then Some Version else if same said.meaning AsksHelp then Some Help else asked items

abbrev pub unless_said : Option What → Answer → Answer
unless_said (Some what) answer = Says what
unless_said None answer = answer

-- Whether there is an input among words.
abbrev pub is_path : List ℕ → Bool
is_path word = not (begins (codes "-") word)

abbrev pub has_path : List (List ℕ) → Bool
has_path words = list_any is_path words

-- Behind so many words there has to be an input: a thin library may have no member, and so stand for none.
abbrev pub with_path : ℕ → Result (List (List ℕ)) (List ℕ) → Result (List (List ℕ)) (List ℕ)
with_path options (Ok words) = if has_path (drop options words) then Ok words else Err (codes "no input files")
with_path options (Err refusal) = Err refusal

-- Files from left to right, and then warnings.
abbrev pub linked : World → List Said → Answer
linked held items = then_answer (with_path (length (own_words items)) (behind (own_words items) (inputs_of held items))) (links_with items)

-- What is asked for, values from left to right, what all words together lack, and then the files.
abbrev pub answered : World → List Said → Answer
answered held items = unless_said (asked items) (unless_refused (values_fault items) (unless_refused (lacking items) (linked held items)))

-- A file that names others too deep.
abbrev pub not_deeper : Result (List (List ℕ)) (List ℕ) → Result (List (List ℕ)) (List ℕ)
not_deeper (Ok words) = Ok words
not_deeper (Err name) = Err (line (codes "recursive expansion of: '") name (codes "'") [])

abbrev pub cut_and_answered : World → List (List ℕ) → Answer
cut_and_answered held words = then_answer (cut_of words) (answered held)

abbrev pub expanded_and_answered : World → Result (List (List ℕ)) (List ℕ) → Answer
expanded_and_answered held expanded = then_answer (not_deeper expanded) (cut_and_answered held)

-- Response files, and then the cut.
abbrev pub translated_words : World → List (List ℕ) → Answer
translated_words held words = expanded_and_answered held (expanded_to 20 held words)

-- The first two words may name the flavor.
abbrev pub is_flavor : List ℕ → Bool
is_flavor name = bytes_eq name (codes "wasm") || bytes_eq name (codes "ld-wasm")

abbrev pub under_flavor : World → List ℕ → List (List ℕ) → Answer
under_flavor held name words = if is_flavor name then translated_words held words else Refuses (line (codes "unknown flavor: ") name [] [])

abbrev pub first_and_rest : List (List ℕ) → Option (List ℕ × List (List ℕ))
first_and_rest [] = None
first_and_rest (word ∷ words) = Some (word, words)

abbrev pub flavored_by : World → Option (List ℕ × List (List ℕ)) → Answer
flavored_by held None = Refuses (codes "unknown flavor: ")
flavored_by held (Some p) = under_flavor held p.0 p.1

abbrev pub flavored : World → List (List ℕ) → Answer
flavored held words = flavored_by held (first_and_rest words)

-- The words behind `-flavor`, where it is the first.
abbrev pub behind_flavor : List (List ℕ) → Option (List (List ℕ))
behind_flavor [] = None
behind_flavor (word ∷ words) = if bytes_eq word (codes "-flavor") then Some words else None

abbrev pub translated_by : World → List (List ℕ) → Option (List (List ℕ)) → Answer
translated_by held words None = translated_words held words
translated_by held words (Some flavor) = flavored held flavor

abbrev pub translated : World → List (List ℕ) → Answer
translated held words = translated_by held words (behind_flavor words)
