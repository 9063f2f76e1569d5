-- Whether a call of a symbol names its variant, by what is answered for the symbol.
use Rattle.std.proofs.Common.{◌≡◌, ℕ, Bool, true, false, not, ◌&&◌, List, refl, sym, ap, ◌∙◌, Option, Some, None}
use Rattle.std.specs.Prelude.{slice_get, option_map, IsSome}
use Rattle.program_tables.specs.link_program.object_file.declared.object.Object.{Object}
use Rattle.program_tables.specs.link_program.linking_section.declared.symbol.SymbolKind.TheVariants.{Function}
use Rattle.program_tables.specs.link_program.made_symbols.declared.mode.Mode.{Mode}
use Rattle.program_tables.specs.link_program.name_rules.declared.meaning.Meaning.{Meaning as Answer}
use Rattle.program_tables.specs.link_program.name_rules.declared.meaning.Meaning.TheVariants.{Here, Made, Import, Null, Nothing}
use Rattle.program_tables.specs.link_program.name_rules.Entries.{InputSymbol, ImportKey, SymbolType, entries, name_of, is_entry, is_kind, same_symbol_type}
use Rattle.program_tables.specs.link_program.name_rules.Cases.{has_other_type, judge, mismatches, passes}
use Rattle.program_tables.specs.link_program.name_rules.Meanings.{Meaning, here, imported, null, nothing}
use Rattle.program_tables.specs.link_program.name_entries.View.{InputsRise, entry_at}
use Rattle.program_tables.specs.link_program.name_meanings.Means.{Answers, answer_at}
use Rattle.program_tables.specs.link_program.link_rules.Program.{is_mismatch}
use Rattle.program_tables.specs.link_program.Told.{told_lead}
use Rattle.program_tables.proofs.link_program_lemmas.name_entries_lemmas.Rows.{no_entry}
use Rattle.program_tables.specs.Leads.{lead_from}
use Rattle.program_tables.specs.Loose.{loosens}
use Rattle.program_tables.proofs.Defining.{placed_at}
use Rattle.program_tables.proofs.There.{row_at}
use Rattle.program_tables.proofs.Answered.{Answered, IsMeant, meant, symbol_answered}
use Rattle.loose_calls.specs.Found.{is_here}

here_is : (mode : Mode) (objects : List Object) (imports : List ImportKey) (es : List InputSymbol) (e : InputSymbol) (answer : Answer) (m : Meaning) → lead_from mode objects answer ≡ told_lead imports m
    → (is_here answer && has_other_type es e) ≡ is_mismatch es e m
here_is mode objects imports es e (Here i s) (here d) lead = refl
here_is mode objects imports es e (Here i s) (imported k) lead = absurd cc
here_is mode objects imports es e (Here i s) null lead = absurd cc
here_is mode objects imports es e (Here i s) nothing lead = absurd cc
here_is mode objects imports es e (Made n) (here d) lead = refl
here_is mode objects imports es e (Made n) (imported k) lead = absurd cc
here_is mode objects imports es e (Made n) null lead = absurd cc
here_is mode objects imports es e (Made n) nothing lead = absurd cc
here_is mode objects imports es e (Import n) (here d) lead = absurd cc
here_is mode objects imports es e (Import n) (imported k) lead = refl
here_is mode objects imports es e (Import n) null lead = refl
here_is mode objects imports es e (Import n) nothing lead = refl
here_is mode objects imports es e Null (here d) lead = absurd cc
here_is mode objects imports es e Null (imported k) lead = refl
here_is mode objects imports es e Null null lead = refl
here_is mode objects imports es e Null nothing lead = refl
here_is mode objects imports es e Nothing (here d) lead = absurd cc
here_is mode objects imports es e Nothing (imported k) lead = refl
here_is mode objects imports es e Nothing null lead = refl
here_is mode objects imports es e Nothing nothing lead = refl

pub asked : (mode : Mode) (objects : List Object) (allow : Bool) (r : Answers) (i k : ℕ) (e : InputSymbol) → InputsRise 0 objects → IsMeant mode objects allow r → entry_at objects i k ≡ Some e → Answered mode objects r (meant mode objects allow e) e
asked mode objects allow r i k e rise is at = by (slice_get objects i) refl
  where
    by : (o : Option Object) → slice_get objects i ≡ o → Answered mode objects r (meant mode objects allow e) e
    by None none = absurd (let x = sym (no_entry objects i k none) ∙ at in let y : None ≡ Some e = x in cc)
    by (Some o) there = symbol_answered mode objects allow r i k o e rise is there (ap (λ l. slice_get l k) (sym (row_at objects i o there)) ∙ at)

pub loosened_is : (mode : Mode) (objects : List Object) (allow : Bool) (r : Answers) (e : InputSymbol) (answer : Answer) → (a : Answered mode objects r (meant mode objects allow e) e) → a.answer ≡ answer
    → (is_here answer && has_other_type (entries mode objects) e) ≡ loosens mode true allow objects e
loosened_is mode objects allow r e answer a is =
    ap (λ x. is_here x && has_other_type (entries mode objects) e) (sym is) ∙ here_is mode objects r.imports (entries mode objects) e a.answer (meant mode objects allow e) a.leads.lead

-- ---- a symbol that can have no other type

three : (a b c : Bool) → (a && c) ≡ false → (a && b && c) ≡ false
three true true c not_so = not_so
three true false c not_so = refl
three false b c not_so = refl

same_type : (es : List InputSymbol) (e : InputSymbol) → (is_kind Function e && not e.defines) ≡ false → has_other_type es e ≡ false
same_type es e not_so = by (is_entry e) (judge es (name_of e))
  where
    by : (b : Bool) (o : Option InputSymbol) → (b && passes (λ a. mismatches a e) o) ≡ false
    by false o = refl
    by true None = refl
    by true (Some a) = ap (λ b. b && not (same_symbol_type a.type e.type)) (three (is_kind Function e) a.defines (not e.defines) not_so)

no_mismatch : (es : List InputSymbol) (e : InputSymbol) (m : Meaning) → (is_kind Function e && not e.defines) ≡ false → is_mismatch es e m ≡ false
no_mismatch es e (here d) not_so = same_type es e not_so
no_mismatch es e (imported k) not_so = refl
no_mismatch es e null not_so = refl
no_mismatch es e nothing not_so = refl

pub never_loose : (mode : Mode) (objects : List Object) (allow : Bool) (e : InputSymbol) → (is_kind Function e && not e.defines) ≡ false → loosens mode true allow objects e ≡ false
never_loose mode objects allow e not_so = no_mismatch (entries mode objects) e (meant mode objects allow e) not_so

-- the answer for a symbol, by the place of its object
pub answer_there : (objects : List Object) (r : Answers) (i k : ℕ) (e : InputSymbol) (input : ℕ) → input ≡ e.input → entry_at objects i k ≡ Some e → answer_at r input k ≡ answer_at r e.input e.place
answer_there objects r i k e input is there = ap (λ n. answer_at r n k) is ∙ ap (answer_at r e.input) (sym (placed_at objects i k e there))

-- a symbol that is there has a type
pub no_type : (o : Option InputSymbol) → IsSome o → (let t : Option SymbolType = None in t ≡ option_map (λ (e : InputSymbol). e.type) o) → ⊥
no_type None some is = let x : false ≡ true = some in cc
no_type (Some e) some is = cc
