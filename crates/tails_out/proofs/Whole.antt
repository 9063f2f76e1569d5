-- What stands behind a module, by its parts.
use Rattle.std.proofs.Common.{◌≡◌, ◌∙◌, ℕ, Bool, true, false, List, [], ◌++◌, Option, Some, None, Result, Ok, Err, refl, sym, ap, subst}
use Rattle.std.specs.Prelude.{is_some}
use Rattle.link_program.specs.wl_base.Choice.{◌>>=◌}
use Rattle.link_program.specs.wl_base.declared.fault.Fault.{Fault}
use Rattle.link_program.specs.wl_base.declared.span.FileSpan.{FileSpan}
use Rattle.link_program.specs.object_file.declared.object.Object.{Object}
use Rattle.link_program.specs.made_symbols.declared.mode.Mode.{Mode}
use Rattle.link_program.specs.round_rules.Rounds.{Candidate}
use Rattle.link_program.specs.name_rules.Entries.{InputSymbol}
use Rattle.link_program.specs.link_plan.declared.plan.FeatureWords.{FeatureWords}
use Rattle.link_program.specs.link_rules.Program.{Program, Part}
use Rattle.link_program.specs.link_rules.Output.{layout}
use Rattle.link_program.specs.declared.error.LinkError.{LinkError}
use Rattle.link_program.specs.declared.error.LinkError.TheVariants.{Refused, OutOfMemory}
use Rattle.link_program.specs.Answers.{Fails, Answers}
use Rattle.debug_out.specs.Inputs.{inputs_of}
use Rattle.link_tails.specs.debug_tails.link_debug.Places.{link_inputs}
use Rattle.link_tails.specs.debug_tails.Tails.{laid_tail}
use Rattle.link_tails.specs.function_names.Section.{placed_names}
use Rattle.object_features.specs.Tail.{feature_tail}
use Rattle.link_tails.specs.Tails.{laid_names, laid_features, laid_more, further, both_tails, laid_whole}

-- an error that is passed on
fails_by : {Y Z : Type 0} (e x : LinkError) (r : Result Y Fault) (next : Y → Result Z Fault) → x ≡ e → Fails e r → Fails x (r >>= next)
fails_by (Refused fault) x r next is f = subst (λ y. Fails y (r >>= next)) (sym is) (ap (λ q. q >>= next) f)
fails_by OutOfMemory x r next is f = subst (λ y. Fails y (r >>= next)) (sym is) tt

-- ---- the features

module _ (p : Program) (all : List Candidate) where
  -- the words don't ask for them
  pub unasked : (words : Option FeatureWords) → words ≡ p.plan.features → is_some words ≡ false → laid_features p all ≡ Ok []
  unfolding laid_features feature_tail
  unasked None is none = sym (ap (λ w. feature_tail w (link_inputs p.files all p.objects)) is)
  unasked (Some w) is none = absurd cc

  pub asked : (words : Option FeatureWords) (files : List (List ℕ)) (objects : List Object) (spans : List FileSpan) → words ≡ p.plan.features
      → inputs_of files objects spans ≡ link_inputs p.files all p.objects → feature_tail words (inputs_of files objects spans) ≡ laid_features p all
  unfolding laid_features
  asked words files objects spans same told = λ i. feature_tail (same i) (told i)

-- ---- all

module _ (mode : Mode) (p : Program) (all : List Candidate) (es : List InputSymbol) (parts : List Part) where
  pub no_features : (e x : LinkError) → x ≡ e → Fails e (laid_features p all) → Fails x (laid_more mode p all es parts)
  no_features e x is f = fails_by e x (laid_features p all) (λ (features : List ℕ). (let y : Result (List ℕ) Fault = Ok (laid_names mode p es parts ++ features) in y)) is f

  pub both_told : (names features : List ℕ) → names ≡ placed_names mode p (layout mode p parts es) → laid_features p all ≡ Ok features → laid_more mode p all es parts ≡ Ok (names ++ features)
  unfolding laid_names
  both_told names features named told =
      ap (λ (r : Result (List ℕ) Fault). r >>= λ features. (let y : Result (List ℕ) Fault = Ok (laid_names mode p es parts ++ features) in y)) told
      ∙ ap (λ (ns : List ℕ). (let y : Result (List ℕ) Fault = Ok (ns ++ features) in y)) (sym named)

  module _ (len : ℕ) where
    pub no_debug : (e x : LinkError) → x ≡ e → Fails e (laid_tail mode p all es parts len) → Fails x (laid_whole mode p all es parts len)
    unfolding laid_whole
    no_debug e x is f = fails_by e x (laid_tail mode p all es parts len) (λ (debug : List ℕ). laid_more mode p all es parts >>= λ more. further len debug more) is f

    pub no_more : (debug : List ℕ) (e x : LinkError) → laid_tail mode p all es parts len ≡ Ok debug → x ≡ e → Fails e (laid_more mode p all es parts) → Fails x (laid_whole mode p all es parts len)
    unfolding laid_whole
    no_more debug e x there is f =
        subst (Fails x) (sym (ap (λ (r : Result (List ℕ) Fault). r >>= λ debug. laid_more mode p all es parts >>= λ more. further len debug more) there))
        (fails_by e x (laid_more mode p all es parts) (λ (more : List ℕ). further len debug more) is f)

    pub all_told : (debug more : List ℕ) (result : Result (List ℕ) LinkError) → laid_tail mode p all es parts len ≡ Ok debug → laid_more mode p all es parts ≡ Ok more
        → Answers (λ bytes. bytes) result (further len debug more) → Answers (λ bytes. bytes) result (laid_whole mode p all es parts len)
    unfolding laid_whole
    all_told debug more result there told answer =
        subst (λ (said : Result (List ℕ) Fault). Answers (λ bytes. bytes) result said)
        (sym (ap (λ (r : Result (List ℕ) Fault). r >>= λ debug. laid_more mode p all es parts >>= λ more. further len debug more) there ∙ ap (λ (r : Result (List ℕ) Fault). r >>= λ more. further len debug more) told)) answer
