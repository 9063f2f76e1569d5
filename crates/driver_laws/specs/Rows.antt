-- Worked rows: drivers' words, the linker's own words of them, and what is asked of names and features.
use Rattle.std.specs.Prelude.{◌≡◌, ℕ, Bool, true, false, List, [], ◌∷◌, codes, Option, Some, None, Result, Ok, Err, refl}
use Rattle.link_plan.specs.declared.plan.FeatureWords.{FeatureWords}
use Rattle.driver_table.specs.Items.{Said}
use Rattle.driver_table.specs.Rows.{alone_row, equals_row, letter_of}
use Rattle.driver_table.specs.Cut.{cut_of, option_in}
use Rattle.driver_fields.specs.Sections.{keeps_names, feature_words}
use Rattle.driver_fields.specs.Own.{exported_if, export_of, name_words, name_switches, memory_switches, switch_words, memory_numbers, number_words, own_words}

-- the own words of what was cut, or the line that refuses it
abbrev own_or_line : Result (List Said) (List ℕ) → List (List ℕ)
own_or_line (Ok items) = own_words items
own_or_line (Err line) = line ∷ []

-- Debug sections are kept without a word.
kept : own_or_line (cut_of (codes "a.o" ∷ codes "-o" ∷ codes "b" ∷ codes "--export=f" ∷ []))
    ≡ codes "-o" ∷ codes "b" ∷ codes "--export=f" ∷ codes "--stack-first" ∷ codes "--keep-debug" ∷ []
unfolding own_words name_words switch_words name_switches memory_switches number_words memory_numbers export_of exported_if alone_row equals_row letter_of option_in
kept = refl

-- Each of these words strips them, wherever it stands.
strip_all : own_or_line (cut_of (codes "a.o" ∷ codes "--strip-all" ∷ codes "-o" ∷ codes "b" ∷ [])) ≡ codes "-o" ∷ codes "b" ∷ codes "--stack-first" ∷ []
unfolding own_words name_words switch_words name_switches memory_switches number_words memory_numbers export_of exported_if alone_row equals_row letter_of option_in
strip_all = refl

strip_debug : own_or_line (cut_of (codes "-strip-debug" ∷ codes "a.o" ∷ codes "-o" ∷ codes "b" ∷ [])) ≡ codes "-o" ∷ codes "b" ∷ codes "--stack-first" ∷ []
unfolding own_words name_words switch_words name_switches memory_switches number_words memory_numbers export_of exported_if alone_row equals_row letter_of option_in
strip_debug = refl

one_letter : own_or_line (cut_of (codes "a.o" ∷ codes "-o" ∷ codes "b" ∷ codes "-s" ∷ [])) ≡ codes "-o" ∷ codes "b" ∷ codes "--stack-first" ∷ []
unfolding own_words name_words switch_words name_switches memory_switches number_words memory_numbers export_of exported_if alone_row equals_row letter_of option_in
one_letter = refl

other_letter : own_or_line (cut_of (codes "a.o" ∷ codes "-S" ∷ codes "-obb" ∷ [])) ≡ codes "-o" ∷ codes "bb" ∷ codes "--stack-first" ∷ []
unfolding own_words name_words switch_words name_switches memory_switches number_words memory_numbers export_of exported_if alone_row equals_row letter_of option_in
other_letter = refl

-- Both words ask for an object, behind all words but the one that keeps debug sections.
partial : own_or_line (cut_of (codes "-r" ∷ codes "a.o" ∷ codes "--no-entry" ∷ codes "-o" ∷ codes "r.o" ∷ []))
    ≡ codes "-o" ∷ codes "r.o" ∷ codes "--no-entry" ∷ codes "--stack-first" ∷ codes "-r" ∷ codes "--keep-debug" ∷ []
unfolding own_words name_words switch_words name_switches memory_switches number_words memory_numbers export_of exported_if alone_row equals_row letter_of option_in
partial = refl

relocatable : own_or_line (cut_of (codes "a.o" ∷ codes "--relocatable" ∷ codes "-S" ∷ codes "-o" ∷ codes "r.o" ∷ codes "-relocatable" ∷ [])) ≡ codes "-o" ∷ codes "r.o" ∷ codes "--stack-first" ∷ codes "-r" ∷ []
unfolding own_words name_words switch_words name_switches memory_switches number_words memory_numbers export_of exported_if alone_row equals_row letter_of option_in
relocatable = refl

-- A shared output exports all definitions that aren't hidden, unless the words say otherwise.
shared : own_or_line (cut_of (codes "-shared" ∷ codes "a.o" ∷ codes "-o" ∷ codes "b" ∷ []))
    ≡ codes "-o" ∷ codes "b" ∷ codes "--export-dynamic" ∷ codes "--stack-first" ∷ codes "-shared" ∷ codes "--keep-debug" ∷ []
unfolding own_words name_words switch_words name_switches memory_switches number_words memory_numbers export_of exported_if alone_row equals_row letter_of option_in
shared = refl

no_export_dynamic : own_or_line (cut_of (codes "a.o" ∷ codes "--no-export-dynamic" ∷ codes "-e" ∷ codes "f" ∷ codes "--shared" ∷ codes "-S" ∷ codes "-o" ∷ codes "b" ∷ []))
    ≡ codes "-o" ∷ codes "b" ∷ codes "--entry=f" ∷ codes "--stack-first" ∷ codes "-shared" ∷ []
unfolding own_words name_words switch_words name_switches memory_switches number_words memory_numbers export_of exported_if alone_row equals_row letter_of option_in
no_export_dynamic = refl

-- ---- names and features

abbrev Asks : Type 0
Asks = Bool × Option FeatureWords

-- what is asked by what was cut; nothing where it is refused
abbrev asked_or_none : Result (List Said) (List ℕ) → Asks
asked_or_none (Ok items) = (keeps_names items, feature_words items)
asked_or_none (Err line) = (false, None)

abbrev said : Option (List (List ℕ)) → List (List ℕ) → Bool → Bool → Option FeatureWords
said allowed extra checked kept = Some (record { allowed = allowed; extra = extra; checked = checked; kept = kept })

-- Without a word both sections are written, and objects have to agree.
both_sections : asked_or_none (cut_of (codes "a.o" ∷ codes "-o" ∷ codes "b" ∷ [])) ≡ (true, said None [] true true)
unfolding alone_row equals_row letter_of option_in
both_sections = refl

strip_debug_leaves_both : asked_or_none (cut_of (codes "a.o" ∷ codes "-S" ∷ [])) ≡ (true, said None [] true true)
unfolding alone_row equals_row letter_of option_in
strip_debug_leaves_both = refl

strip_all_takes_both : asked_or_none (cut_of (codes "-s" ∷ codes "a.o" ∷ [])) ≡ (false, said None [] true false)
unfolding alone_row equals_row letter_of option_in
strip_all_takes_both = refl

-- clang asks so for a section that it reads behind the link, and drivers' users for names
features_kept : asked_or_none (cut_of (codes "a.o" ∷ codes "--strip-all" ∷ codes "--keep-section=target_features" ∷ [])) ≡ (false, said None [] true true)
unfolding alone_row equals_row letter_of option_in
features_kept = refl

names_kept : asked_or_none (cut_of (codes "-keep-section" ∷ codes "name" ∷ codes "--keep-section=producers" ∷ codes "a.o" ∷ codes "-s" ∷ [])) ≡ (true, said None [] true false)
unfolding alone_row equals_row letter_of option_in
names_kept = refl

-- the last list counts as a whole, and so does the last of the two words on the check
last_list : asked_or_none (cut_of (codes "--features=a,b" ∷ codes "-features=c,,d" ∷ codes "--extra-features=x" ∷ codes "--no-check-features" ∷ codes "a.o" ∷ []))
    ≡ (true, said (Some (codes "c" ∷ codes "d" ∷ [])) (codes "x" ∷ []) false true)
unfolding alone_row equals_row letter_of option_in
last_list = refl

no_feature_allowed : asked_or_none (cut_of (codes "--no-check-features" ∷ codes "--features=" ∷ codes "a.o" ∷ codes "--check-features" ∷ [])) ≡ (true, said (Some []) [] true true)
unfolding alone_row equals_row letter_of option_in
no_feature_allowed = refl

shared_feature : asked_or_none (cut_of (codes "-shared" ∷ codes "a.o" ∷ codes "-extra-features=x,y" ∷ [])) ≡ (true, said None (codes "mutable-globals" ∷ codes "x" ∷ codes "y" ∷ []) true true)
unfolding alone_row equals_row letter_of option_in
shared_feature = refl

-- Of an object in place of a module nothing is asked.
none_of_an_object : asked_or_none (cut_of (codes "-r" ∷ codes "a.o" ∷ codes "--features=a" ∷ codes "--keep-section=name" ∷ [])) ≡ (false, None)
unfolding alone_row equals_row letter_of option_in
none_of_an_object = refl
