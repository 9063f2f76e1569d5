-- A link whose line nobody is to hear has one, and the lines of names that are lacking.
use Rattle.std.proofs.Common.{◌≡◌, ◌⊎◌, inl, inr, ℕ, Bool, true, false, List, [], ◌++◌, IsTrue, Option, Some, None, Result, Ok, Err, refl, sym, subst, ◌∙◌}
use Rattle.std.specs.Prelude.{IfOk, IfSome, codes, slice_get}
use Rattle.wl_base.specs.declared.fault.Fault.{Fault}
use Rattle.wl_base.specs.declared.usage.Usage.{Usage as UsageFault}
use Rattle.wl_outside.specs.Shelf.{Shown, Same, Grows}
use Rattle.link_plan.specs.declared.plan.Plan.{Plan}
use Rattle.link_words.specs.Words.{plan_of}
use Rattle.link_command.specs.declared.status.Status.{Status}
use Rattle.link_command.specs.declared.status.Status.TheVariants.{Linked, Refused, Usage, ReadFault, WriteFault, NoMemory}
use Rattle.driver_lines.specs.Lines.{refusal_line, error_line}
use Rattle.driver_words.specs.Search.{holds}
use Rattle.link_command.specs.Command.{input_names}
use Rattle.link_command.specs.mismatch_rules.declared.mismatch.Mismatch.{Mismatch}
use Rattle.driver_command.specs.Mismatched.{AreTold, told_lines, severity, gap}
use Rattle.driver_command.specs.Named.{AreNames, names_held}
use Rattle.driver_command.specs.Told.{IsRefusal, IsUnread, IsUnwritten, IsStatusLine, says_why, IsLast, IsEnd, unread_line, unwritten_line, no_memory_line}
use Rattle.driver_command.proofs.Around.{held_same}

-- names that are all lacking
pub without_names : (fault : Fault) (program : List ℕ) (shelf : Shown) (own : List (List ℕ)) → IsRefusal fault program shelf own (refusal_line program None [] [] fault)
without_names fault program shelf own = record {
  entry = None;
  inputs = [];
  files = [];
  line = refl;
  named = lacking (plan_of own);
} where
  lacking : (r : Result Plan UsageFault) → IfOk r (λ plan. AreNames shelf own plan None [] [])
  lacking (Ok plan) = record { entry = inr refl; files = inr refl; inputs = λ told. inr refl }
  lacking (Err usage) = tt

there : (name : Option (List ℕ)) (shelf : Shown) (program : List ℕ) → (line : List ℕ) × IsUnread name program shelf line
there None shelf program = (unread_line program None true, record { there = true; line = refl; held = λ told. tt })
there (Some name) shelf program =
    (unread_line program (Some name) (holds shelf name), record { there = holds shelf name; line = refl; held = λ told. refl })

-- a line that may be said
pub some_line : (status : Status) (program : List ℕ) (shelf : Shown) (own : List (List ℕ)) → (line : List ℕ) × IsStatusLine status program shelf own line
some_line Linked program shelf own = ([], refl)
some_line (Refused fault) program shelf own = (refusal_line program None [] [] fault, without_names fault program shelf own)
some_line (Usage usage) program shelf own = (error_line program (codes "the words are no link"), refl)
some_line (ReadFault k) program shelf own = there (slice_get own k) shelf program
some_line WriteFault program shelf own = (unwritten_line program None, record { output = None; line = refl; named = inl refl })
some_line NoMemory program shelf own = (no_memory_line program, refl)

-- what is called by the names that were loaded again
pub are_names : (before after : Shown) (own : List (List ℕ)) (plan : Plan) (entry : Option (List ℕ)) (files inputs : List (List ℕ)) → Same before after → Grows before after
    → (entry ≡ plan.entry) ⊎ (entry ≡ None) → (files ≡ input_names own plan) ⊎ (files ≡ [])
    → (IsTrue before.tells → (names_held before.held (input_names own plan) ≡ Some inputs) ⊎ (inputs ≡ [])) → AreNames after own plan entry files inputs
are_names before after own plan entry files inputs same grows is_entry are_files are_inputs = record {
  entry = is_entry;
  files = are_files;
  inputs = λ told.
      let before_told : IsTrue before.tells = subst IsTrue grows.tells told in
      subst (λ (held : List ℕ → Option (List ℕ)). (names_held held (input_names own plan) ≡ Some inputs) ⊎ (inputs ≡ []))
      (sym (held_same before after same before_told)) (are_inputs before_told);
}

-- ---- what is told of calls

abbrev no_inputs : List (List ℕ)
no_inputs = []

pub without_inputs : (told : List Mismatch) (program word end : List ℕ) (shelf : Shown) (own : List (List ℕ))
    → AreTold told program word end shelf own (told_lines program word [] told end)
without_inputs told program word end shelf own = record { inputs = no_inputs; line = refl; named = lacking (plan_of own) }
  where
    lacking : (r : Result Plan UsageFault) → IfOk r (λ plan. IsTrue shelf.tells → (names_held shelf.held (input_names own plan) ≡ Some no_inputs) ⊎ (no_inputs ≡ []))
    lacking (Ok plan) = λ told. inr refl
    lacking (Err usage) = tt

-- names that were loaded again
pub names_on : (before after : Shown) (own : List (List ℕ)) (plan : Plan) (inputs : List (List ℕ)) → Same before after → Grows before after
    → (IsTrue before.tells → (names_held before.held (input_names own plan) ≡ Some inputs) ⊎ (inputs ≡ []))
    → IsTrue after.tells → (names_held after.held (input_names own plan) ≡ Some inputs) ⊎ (inputs ≡ [])
names_on before after own plan inputs same grows are told =
    let before_told : IsTrue before.tells = subst IsTrue grows.tells told in
    subst (λ (held : List ℕ → Option (List ℕ)). (names_held held (input_names own plan) ≡ Some inputs) ⊎ (inputs ≡ [])) (sym (held_same before after same before_told)) (are before_told)

-- the same over what the shelf holds later
pub told_on : (told : List Mismatch) (program word end : List ℕ) (before after : Shown) (own : List (List ℕ)) (lines : List ℕ) → Same before after → Grows before after
    → AreTold told program word end before own lines → AreTold told program word end after own lines
told_on told program word end before after own lines same grows h = record { inputs = h.inputs; line = h.line; named = by (plan_of own) h.named }
  where
    by : (r : Result Plan UsageFault) → IfOk r (λ plan. IsTrue before.tells → (names_held before.held (input_names own plan) ≡ Some h.inputs) ⊎ (h.inputs ≡ []))
        → IfOk r (λ plan. IsTrue after.tells → (names_held after.held (input_names own plan) ≡ Some h.inputs) ⊎ (h.inputs ≡ []))
    by (Err usage) named = tt
    by (Ok plan) named = names_on before after own plan h.inputs same grows named

-- the same with words that are alike
pub told_as : (told : List Mismatch) (program word other end until : List ℕ) (shelf : Shown) (own : List (List ℕ)) (lines : List ℕ) → word ≡ other → end ≡ until
    → AreTold told program word end shelf own lines → AreTold told program other until shelf own lines
told_as told program word other end until shelf own lines same ends h = record { inputs = h.inputs; line = h.line ∙ (λ i. told_lines program (same i) h.inputs told (ends i)); named = h.named }

-- what may be said behind a link
some_last : (why : Bool) (status : Status) (program : List ℕ) (shelf : Shown) (own : List (List ℕ)) → (line : List ℕ) × IsLast why status program shelf own line
some_last true status program shelf own = ([], refl)
some_last false status program shelf own = some_line status program shelf own

-- by what is said of calls
pub some_end_by : (fatal : Bool) (status : Status) (told : List Mismatch) (program : List ℕ) (shelf : Shown) (own : List (List ℕ)) (first : List ℕ)
    → AreTold told program (severity fatal) (gap fatal status) shelf own first → (rest : List ℕ) × IsEnd fatal status told program shelf own (first ++ rest)
some_end_by fatal status told program shelf own first are =
    let rest = some_last (says_why fatal told) status program shelf own in
    (rest.0, record { first = first; rest = rest.0; is = refl; warned = are; ends = rest.1 })

pub some_end : (fatal : Bool) (status : Status) (told : List Mismatch) (program : List ℕ) (shelf : Shown) (own : List (List ℕ))
    → (line : List ℕ) × IsEnd fatal status told program shelf own line
some_end fatal status told program shelf own =
    let first = told_lines program (severity fatal) [] told (gap fatal status) in
    let e = some_end_by fatal status told program shelf own first (without_inputs told program (severity fatal) (gap fatal status) shelf own) in
    (first ++ e.0, e.1)
