-- A word at fault has the cause that its fault tells, and words with a cause stop at the fault.
use Rattle.std.proofs.Common.{◌≡◌, ◌≢◌, inl, inr, ℕ, ◌+◌, Bool, true, false, not, cond, List, [], ◌∷◌, ◌++◌, take, codes, Option, Some, None, Result, Ok, Err, refl, sym, ap, subst, ◌∙◌}
use Rattle.std.proofs.lemmas.Slice.Eq.{bytes_eq-Decides}
use Rattle.std.specs.List.{list_any}
use Rattle.std.specs.Str.{bytes_eq}
use Rattle.wl_base.specs.declared.usage.Usage.{Usage}
use Rattle.wl_base.specs.declared.usage.Usage.TheVariants.{UnknownOption, MissingValue, BadNumber, BadThreads, OpenGroup, CaseAndInput, NoInput, NoOutput, PartialClash}
use Rattle.link_words.specs.declared.kind.Kind.{Kind}
use Rattle.link_words.specs.declared.kind.Kind.TheVariants as kinds
use Rattle.link_words.specs.declared.range.Range.{Range}
use Rattle.link_words.specs.declared.range.Range.TheVariants as ranges
use Rattle.link_words.specs.declared.options.Form.{Form}
use Rattle.link_words.specs.declared.options.Form.TheVariants.{Text, Machine, Number, StackSize}
use Rattle.link_words.specs.declared.options.Takes.{Takes}
use Rattle.link_words.specs.declared.options.Takes.TheVariants as takes
use Rattle.link_words.specs.declared.options.Rule.{Rule}
use Rattle.link_words.specs.declared.cut.Next.{Next}
use Rattle.link_words.specs.declared.cut.Next.TheVariants.{Free, Value, Input}
use Rattle.link_words.specs.Kinds.{same}
use Rattle.link_words.specs.Items.{Said}
use Rattle.link_words.specs.Numbers.{number_in}
use Rattle.link_words.specs.Options.{options, row_of}
use Rattle.link_words.specs.Cut.{item, is_equals, parts_of, not_in, judged, numbered, stack_sized, valued, Step, and_free, alone, said_alone, long, said_long, split_of, optional, begins_with_dash, begun, step, onto, behind, cut_from}
use Rattle.link_words.specs.Spelled.{place_of}
use Rattle.link_words.specs.Causes.{takes_value, is_long, TakesText, HasText, IsNoOption, IsInVain, IsUnknown, no_option, in_vain, other_machine, no_size, IsMissing, HasNumeral, IsNoNumber, HasCause}
use Rattle.link_words.proofs.Equals.{any_equals, parts_found, parts_again}
use Rattle.link_words.proofs.Table.{not_true, row_has, dashed, no_equals, long_front}
use Rattle.link_words.proofs.Steps.{TakesNext, Waits, split_is, alone_again, not_dashes_named, front_named, begun_named}

some_is : {A : Type 0} {x y : A} → Some x ≡ Some y → x ≡ y
some_is e = cc

differ : (xs ys : List ℕ) → bytes_eq xs ys ≡ false → xs ≢ ys
differ xs ys other e = let yes = (bytes_eq-Decides xs ys).1 e in cc

-- a fault that names the place and has its cause, or none
abbrev pub IsWhy : {A : Type 0} → ℕ → List (List ℕ) → Result A Usage → Type 0
IsWhy at words (Ok value) = Unit {0}
IsWhy at words (Err fault) = (place_of fault ≡ Some at) × HasCause fault words

-- ---- numbers of workers are those of `--threads`

is_workers : Form → Bool
is_workers (Number ranges.Workers) = true
is_workers other = false

takes_workers : Takes → Bool
takes_workers takes.Nothing = false
takes_workers (takes.Next form) = is_workers form
takes_workers (takes.Long form) = is_workers form

is_threads : (kind : Kind) → same kind kinds.Threads ≡ true → kind ≡ kinds.Threads
is_threads kinds.Threads e = refl
is_threads other e = absurd cc

not_threads : (kind : Kind) → same kind kinds.Threads ≡ false → kind ≢ kinds.Threads
not_threads kind other is = let yes : same kind kinds.Threads ≡ true = ap (λ k. same k kinds.Threads) is in cc

agrees : List ℕ × Rule → Bool
agrees row = cond (takes_workers row.1.takes) (same row.1.kind kinds.Threads) (not (same row.1.kind kinds.Threads))

row_agrees : (word : List ℕ) (kind : Kind) (t : Takes) → row_of options word ≡ Some (record { kind = kind; takes = t }) → takes_workers t ≡ same kind kinds.Threads
unfolding agrees takes_workers is_workers
row_agrees word kind t found = by (takes_workers t) (same kind kinds.Threads) (row_has agrees options word (record { kind = kind; takes = t }) refl found)
  where
    by : (a b : Bool) → cond a b (not b) ≡ true → a ≡ b
    by true b e = sym e
    by false b e = sym (not_true b e)

text_agrees : (t : Takes) (form : Form) (name text : List ℕ) (words rest : List (List ℕ)) → TakesText t form name text words rest → takes_workers t ≡ is_workers form
unfolding takes_workers
text_agrees takes.Nothing form name text words rest s = absurd s
text_agrees (takes.Next own) form name text words rest s = ap is_workers s.0
text_agrees (takes.Long own) form name text words rest s = ap is_workers s.0

numeral_agrees : (form : Form) (range : Range) (text numeral : List ℕ) → HasNumeral form range text numeral → is_workers form ≡ is_workers (Number range)
unfolding is_workers
numeral_agrees Text range text numeral due = absurd due
numeral_agrees Machine range text numeral due = absurd due
numeral_agrees (Number own) range text numeral due = ap (λ r. is_workers (Number r)) due.0
numeral_agrees StackSize range text numeral due = sym (ap (λ r. is_workers (Number r)) due.0)

-- so a range is that of workers exactly where the option is `--threads`
range_agrees : (kind : Kind) (words : List (List ℕ)) (bad : IsNoNumber kind words) → is_workers (Number bad.range) ≡ same kind kinds.Threads
range_agrees kind words bad =
    sym (numeral_agrees bad.form bad.range bad.text bad.numeral bad.due)
    ∙ sym (text_agrees bad.value.takes bad.form bad.value.name bad.text words bad.value.rest bad.value.stands)
    ∙ row_agrees bad.value.name kind bad.value.takes bad.value.is_option

-- ---- values

not_in_why : (kind : Kind) (range : Range) (at : ℕ) (words : List (List ℕ)) → IsNoNumber kind words → is_workers (Number range) ≡ same kind kinds.Threads → (place_of (not_in range at) ≡ Some at) × HasCause (not_in range at) words
unfolding is_workers
not_in_why kind ranges.Workers at words bad is = (refl, subst (λ k. IsNoNumber k words) (is_threads kind (sym is)) bad)
not_in_why kind range at words bad is = (refl, (kind, bad, not_threads kind (sym is)))

number_why : (kind : Kind) (form : Form) (range : Range) (at : ℕ) (text numeral : List ℕ) (words : List (List ℕ)) → HasText kind form text words → HasNumeral form range text numeral
    → IsWhy at words (numbered kind range at numeral)
number_why kind form range at text numeral words value due = by (number_in range numeral) refl
  where
    by : (n : Option ℕ) → number_in range numeral ≡ n → IsWhy at words (judged n kind range at numeral)
    by (Some n) _ = tt
    by None none =
        let bad : IsNoNumber kind words = record { form = form; range = range; text = text; numeral = numeral; value = value; due = due; none = none } in
        not_in_why kind range at words bad (range_agrees kind words bad)

size_why : (kind : Kind) (at : ℕ) (text : List ℕ) (words : List (List ℕ)) → HasText kind StackSize text words → IsWhy at words (stack_sized (parts_of text) kind at)
size_why kind at text words value = by (parts_of text) refl
  where
    by : (p : Option (List ℕ × List ℕ)) → parts_of text ≡ p → IsWhy at words (stack_sized p kind at)
    by None none = (refl, no_size kind text value (λ size is. let some = parts_again (codes "stack-size") size refl in let same = ap parts_of is in cc))
    by (Some p) found = named (bytes_eq p.0 (codes "stack-size")) refl
      where
        named : (b : Bool) → bytes_eq p.0 (codes "stack-size") ≡ b → IsWhy at words (cond b (numbered kind ranges.Stack at p.1) (Err (UnknownOption at)))
        named false other = (
          refl,
          no_size kind text value (λ size is.
              let parts : p ≡ (codes "stack-size", size) = some_is (sym found ∙ ap parts_of is ∙ parts_again (codes "stack-size") size refl) in
              differ p.0 (codes "stack-size") other (ap (λ (q : List ℕ × List ℕ). q.0) parts)),
        )
        named true is =
            let name : p.0 ≡ codes "stack-size" = (bytes_eq-Decides p.0 (codes "stack-size")).0 is in
            number_why kind StackSize ranges.Stack at text p.1 words value (refl, parts_found text p found ∙ ap (λ (n : List ℕ). n ++ 61 ∷ p.1) name)

value_why : (kind : Kind) (form : Form) (at : ℕ) (text : List ℕ) (words : List (List ℕ)) → HasText kind form text words → IsWhy at words (valued kind form at text)
value_why kind Text at text words value = tt
value_why kind Machine at text words value = by (bytes_eq text (codes "wasm32")) refl
  where
    by : (b : Bool) → bytes_eq text (codes "wasm32") ≡ b → IsWhy at words (cond b (Ok (item kind at text)) (Err (UnknownOption at)))
    by true _ = tt
    by false other = (refl, other_machine kind text value (differ text (codes "wasm32") other))
value_why kind (Number range) at text words value = number_why kind (Number range) range at text text words value (refl, refl)
value_why kind StackSize at text words value = size_why kind at text words value

and_free_why : (at : ℕ) (words : List (List ℕ)) (r : Result Said Usage) → IsWhy at words r → IsWhy at words (and_free r)
and_free_why at words (Ok said) why = tt
and_free_why at words (Err fault) why = why

-- ---- words

-- no name before a `=` is in the table: there is no `=`, or the name before the first one isn't
no_name : (word : List ℕ) → parts_of word ≡ None → (name text : List ℕ) → word ≡ name ++ 61 ∷ text → row_of options name ≡ None
no_name word none name text is = by (row_of options name) refl
  where
    by : (o : Option Rule) → row_of options name ≡ o → o ≡ None
    by None _ = refl
    by (Some rule) found = let some = parts_again name text (no_equals name rule found) in let same = ap parts_of is in absurd cc

no_other : (word : List ℕ) (p : List ℕ × List ℕ) → parts_of word ≡ Some p → row_of options p.0 ≡ None → (name text : List ℕ) → word ≡ name ++ 61 ∷ text → row_of options name ≡ None
no_other word p parts none name text is = by (row_of options name) refl
  where
    by : (o : Option Rule) → row_of options name ≡ o → o ≡ None
    by None _ = refl
    by (Some rule) found =
        let one : p ≡ (name, text) = some_is (sym parts ∙ ap parts_of is ∙ parts_again name text (no_equals name rule found)) in
        sym found ∙ sym (ap (λ (q : List ℕ × List ℕ). row_of options q.0) one) ∙ none

-- a word with a `=` isn't in the table
no_word : (word name text : List ℕ) → word ≡ name ++ 61 ∷ text → row_of options word ≡ None
no_word word name text is = by (row_of options word) refl
  where
    by : (o : Option Rule) → row_of options word ≡ o → o ≡ None
    by None _ = refl
    by (Some rule) found = let none = no_equals word rule found in let any = ap (list_any is_equals) is ∙ any_equals name text in absurd cc

split_parts : (word : List ℕ) (p : List ℕ × List ℕ) → split_of word ≡ Some p → parts_of word ≡ Some p
split_parts word p e = by (bytes_eq (take 2 word) (codes "--")) e
  where
    by : (b : Bool) → cond b (parts_of word) None ≡ Some p → parts_of word ≡ Some p
    by false e = absurd cc
    by true e = e

-- the option before the first `=` of a word that isn't cut there takes no value so
not_long : (word : List ℕ) (p : List ℕ × List ℕ) (kind : Kind) (t : Takes) → split_of word ≡ None → parts_of word ≡ Some p → row_of options p.0 ≡ Some (record { kind = kind; takes = t }) → is_long t ≡ false
not_long word p kind takes.Nothing none parts found = refl
not_long word p kind (takes.Next form) none parts found = refl
not_long word p kind (takes.Long form) none parts found =
    let front = front_named p.0 p.1 (long_front p.0 kind form found) in
    let cut : bytes_eq (take 2 word) (codes "--") ≡ true = ap (λ w. bytes_eq (take 2 w) (codes "--")) (parts_found word p parts) ∙ front in
    let split : split_of word ≡ parts_of word = ap (λ b. cond b (parts_of word) None) cut in
    absurd cc

begun_why : (at : ℕ) (word : List ℕ) (rest : List (List ℕ)) → IsWhy at (word ∷ rest) (begun at word)
begun_why at word rest = by_dash (begins_with_dash word) refl
  where
    by_dash : (b : Bool) → begins_with_dash word ≡ b
        → IsWhy at (word ∷ rest) (cond (not b) (Ok (Some (item kinds.Input at word), Free)) (cond (bytes_eq word (codes "--")) (Ok (Some (item kinds.OnlyInputs at []), Input)) (optional at word (split_of word))))
    by_dash false _ = tt
    by_dash true dash = by_dashes (bytes_eq word (codes "--")) refl
      where
        vain : (name text : List ℕ) (rule : Rule) → word ≡ name ++ 61 ∷ text → row_of options name ≡ Some rule → is_long rule.takes ≡ false → IsUnknown (word ∷ rest)
        vain name text rule is found none = in_vain word rest refl (record { name = name; text = text; rule = rule; word_is = is; is_option = found; none = none })

        by_long : (name text : List ℕ) (kind : Kind) (t : Takes) → word ≡ name ++ 61 ∷ text → row_of options name ≡ Some (record { kind = kind; takes = t }) → IsWhy at (word ∷ rest) (long at text kind t)
        by_long name text kind takes.Nothing is found = (refl, vain name text (record { kind = kind; takes = takes.Nothing }) is found refl)
        by_long name text kind (takes.Next form) is found = (refl, vain name text (record { kind = kind; takes = takes.Next form }) is found refl)
        by_long name text kind (takes.Long form) is found =
            let value : HasText kind form text (word ∷ rest) = record {
              name = name;
              takes = takes.Long form;
              rest = rest;
              is_option = found;
              stands = (refl, inr (ap (λ w. w ∷ rest) is));
            } in
            and_free_why at (word ∷ rest) (valued kind form at text) (value_why kind form at text (word ∷ rest) value)

        by_dashes : (b : Bool) → bytes_eq word (codes "--") ≡ b → IsWhy at (word ∷ rest) (cond b (Ok (Some (item kinds.OnlyInputs at []), Input)) (optional at word (split_of word)))
        by_dashes true _ = tt
        by_dashes false more = by_split (split_of word) refl
          where
            unknown : row_of options word ≡ None → ((name text : List ℕ) → word ≡ name ++ 61 ∷ text → row_of options name ≡ None) → IsUnknown (word ∷ rest)
            unknown none named = no_option word rest refl (record { dash = dash; more = differ word (codes "--") more; alone = none; named = named })

            by_named : (p : List ℕ × List ℕ) → split_of word ≡ Some p → (o : Option Rule) → row_of options p.0 ≡ o → IsWhy at (word ∷ rest) (said_long at p.1 o)
            by_named p split None none = (refl, unknown (no_word word p.0 p.1 (split_is word p split)) (no_other word p (split_parts word p split) none))
            by_named p split (Some rule) found = by_long p.0 p.1 rule.kind rule.takes (split_is word p split) found

            by_part : (p : List ℕ × List ℕ) → split_of word ≡ None → parts_of word ≡ Some p → row_of options word ≡ None → (o : Option Rule) → row_of options p.0 ≡ o → IsUnknown (word ∷ rest)
            by_part p split parts none None other = unknown none (no_other word p parts other)
            by_part p split parts none (Some rule) found = vain p.0 p.1 rule (parts_found word p parts) found (not_long word p rule.kind rule.takes split parts found)

            by_parts : split_of word ≡ None → row_of options word ≡ None → (o : Option (List ℕ × List ℕ)) → parts_of word ≡ o → IsUnknown (word ∷ rest)
            by_parts split none None other = unknown none (no_name word other)
            by_parts split none (Some p) parts = by_part p split parts none (row_of options p.0) refl

            by_taking : (kind : Kind) (t : Takes) → IsWhy at (word ∷ rest) (alone at kind t)
            by_taking kind takes.Nothing = tt
            by_taking kind (takes.Next form) = tt
            by_taking kind (takes.Long form) = tt

            by_row : split_of word ≡ None → (o : Option Rule) → row_of options word ≡ o → IsWhy at (word ∷ rest) (said_alone at o)
            by_row split None none = (refl, by_parts split none (parts_of word) refl)
            by_row split (Some rule) _ = by_taking rule.kind rule.takes

            by_split : (o : Option (List ℕ × List ℕ)) → split_of word ≡ o → IsWhy at (word ∷ rest) (optional at word o)
            by_split None split = by_row split (row_of options word) refl
            by_split (Some p) split = by_named p split (row_of options p.0) refl

-- a word at fault
pub begun_fault : (at : ℕ) (word : List ℕ) (rest : List (List ℕ)) (fault : Usage) → begun at word ≡ Err fault → (place_of fault ≡ Some at) × HasCause fault (word ∷ rest)
begun_fault at word rest fault e = subst (λ (r : Step). IsWhy at (word ∷ rest) r) e (begun_why at word rest)

-- an option that waits for the next word has it as its text
next_text : (at : ℕ) (word text : List ℕ) (n : Next) (rest : List (List ℕ)) (w : Waits at word n) → HasText w.kind w.form text (word ∷ text ∷ rest)
next_text at word text n rest w = record { name = word; takes = w.takes; rest = rest; is_option = w.is_option; stands = by w.takes w.takes_next }
  where
    by : (t : Takes) → TakesNext t w.form → TakesText t w.form word text (word ∷ text ∷ rest) rest
    by takes.Nothing next = absurd next
    by (takes.Next own) next = (next, refl)
    by (takes.Long own) next = (next, inl refl)

-- a value at fault is told by the place of its option
pub value_fault : (at : ℕ) (word text : List ℕ) (n : Next) (rest : List (List ℕ)) (fault : Usage) (w : Waits at word n) → step (Value w.kind w.form at) (at + 1) text ≡ Err fault
    → (place_of fault ≡ Some at) × HasCause fault (word ∷ text ∷ rest)
value_fault at word text n rest fault w e =
    let words = word ∷ text ∷ rest in
    subst (λ (r : Step). IsWhy at words r) e (and_free_why at words (valued w.kind w.form at text) (value_why w.kind w.form at text words (next_text at word text n rest w)))

-- an option whose value is due is the last word
pub missing_fault : (at : ℕ) (word : List ℕ) (n : Next) → Waits at word n → HasCause (MissingValue at) (word ∷ [])
missing_fault at word n w = record { name = word; rule = record { kind = w.kind; takes = w.takes }; last = refl; is_option = w.is_option; due = by w.takes w.takes_next }
  where
    by : (t : Takes) → TakesNext t w.form → takes_value t ≡ true
    by takes.Nothing next = absurd next
    by (takes.Next own) next = refl
    by (takes.Long own) next = refl

-- ---- and the other way

-- words that begin with a word at fault
stops_here : (at : ℕ) (word : List ℕ) (rest : List (List ℕ)) (fault : Usage) → begun at word ≡ Err fault → cut_from Free at (word ∷ rest) ≡ ([], Some fault)
stops_here at word rest fault e = ap (λ (s : Step). behind s (λ n. cut_from n (at + 1) rest)) e

-- those that begin with an option whose value is at fault
stops_behind : (at : ℕ) (name text : List ℕ) (kind : Kind) (form : Form) (rest : List (List ℕ)) (fault : Usage) → begun at name ≡ Ok (None, Value kind form at) → valued kind form at text ≡ Err fault
    → cut_from Free at (name ∷ text ∷ rest) ≡ ([], Some fault)
stops_behind at name text kind form rest fault waits e =
    ap (λ (s : Step). behind s (λ n. cut_from n (at + 1) (text ∷ rest))) waits
    ∙ ap (λ (r : Result Said Usage). onto [] (behind (and_free r) (λ n. cut_from n (at + 1 + 1) rest))) e

stops_at_value : (at : ℕ) (kind : Kind) (form : Form) (text : List ℕ) (words : List (List ℕ)) (fault : Usage) → HasText kind form text words → valued kind form at text ≡ Err fault
    → cut_from Free at words ≡ ([], Some fault)
stops_at_value at kind form text words fault value e = by value.takes value.is_option value.stands
  where
    by : (t : Takes) → row_of options value.name ≡ Some (record { kind = kind; takes = t }) → TakesText t form value.name text words value.rest → cut_from Free at words ≡ ([], Some fault)
    by takes.Nothing found s = absurd s
    by (takes.Next own) found s =
        ap (cut_from Free at) s.1
        ∙ stops_behind at value.name text kind own value.rest fault (alone_again at value.name kind (takes.Next own) found) (ap (λ f. valued kind f at text) s.0 ∙ e)
    by (takes.Long own) found (is, inl two) =
        ap (cut_from Free at) two
        ∙ stops_behind at value.name text kind own value.rest fault (alone_again at value.name kind (takes.Long own) found) (ap (λ f. valued kind f at text) is ∙ e)
    by (takes.Long own) found (is, inr one) =
        let name = value.name in
        let begins : begun at (name ++ 61 ∷ text) ≡ said_long at text (row_of options name)
        = begun_named at name text (long_front name kind own found) (no_equals name (record { kind = kind; takes = takes.Long own }) found) in
        ap (cut_from Free at) one
        ∙ stops_here at (name ++ 61 ∷ text) value.rest fault (begins ∙ ap (said_long at text) found ∙ ap and_free (ap (λ f. valued kind f at text) is ∙ e))

-- a word that may be an option
begun_option : (at : ℕ) (word : List ℕ) → begins_with_dash word ≡ true → bytes_eq word (codes "--") ≡ false → begun at word ≡ optional at word (split_of word)
begun_option at word dash more =
    ap (λ b. cond (not b) (Ok (Some (item kinds.Input at word), Free)) (cond (bytes_eq word (codes "--")) (Ok (Some (item kinds.OnlyInputs at []), Input)) (optional at word (split_of word)))) dash
    ∙ ap (λ b. cond b (Ok (Some (item kinds.OnlyInputs at []), Input)) (optional at word (split_of word))) more

-- one that is none
unlisted : (at : ℕ) (word : List ℕ) → IsNoOption word → begun at word ≡ Err (UnknownOption at)
unlisted at word bad = begun_option at word bad.dash (by_more (bytes_eq word (codes "--")) refl) ∙ by_split (split_of word) refl
  where
    by_more : (b : Bool) → bytes_eq word (codes "--") ≡ b → b ≡ false
    by_more false _ = refl
    by_more true is = absurd (bad.more ((bytes_eq-Decides word (codes "--")).0 is))

    by_split : (o : Option (List ℕ × List ℕ)) → split_of word ≡ o → optional at word o ≡ Err (UnknownOption at)
    by_split None _ = ap (said_alone at) bad.alone
    by_split (Some p) split = ap (said_long at p.1) (bad.named p.0 p.1 (split_is word p split))

-- one that has a value in vain
begins_again : (name text : List ℕ) → begins_with_dash name ≡ true → begins_with_dash (name ++ 61 ∷ text) ≡ true
begins_again [] text dash = absurd cc
begins_again (b ∷ name) text dash = dash

vain_long : (at : ℕ) (text : List ℕ) (kind : Kind) (t : Takes) → is_long t ≡ false → long at text kind t ≡ Err (UnknownOption at)
vain_long at text kind takes.Nothing none = refl
vain_long at text kind (takes.Next form) none = refl
vain_long at text kind (takes.Long form) none = absurd cc

valueless : (at : ℕ) (word : List ℕ) → IsInVain word → begun at word ≡ Err (UnknownOption at)
valueless at word bad = begun_option at word dash more ∙ by_split (split_of word) refl
  where
    dash : begins_with_dash word ≡ true
    dash = ap begins_with_dash bad.word_is ∙ begins_again bad.name bad.text (dashed bad.name bad.rule bad.is_option)

    more : bytes_eq word (codes "--") ≡ false
    more = ap (λ w. bytes_eq w (codes "--")) bad.word_is ∙ not_dashes_named bad.name bad.text

    by_split : (o : Option (List ℕ × List ℕ)) → split_of word ≡ o → optional at word o ≡ Err (UnknownOption at)
    by_split None _ = ap (said_alone at) (no_word word bad.name bad.text bad.word_is)
    by_split (Some p) split =
        let one : p ≡ (bad.name, bad.text) = some_is (sym (split_parts word p split) ∙ ap parts_of bad.word_is ∙ parts_again bad.name bad.text (no_equals bad.name bad.rule bad.is_option)) in
        ap (λ (q : List ℕ × List ℕ). said_long at q.1 (row_of options q.0)) one ∙ ap (said_long at bad.text) bad.is_option ∙ vain_long at bad.text bad.rule.kind bad.rule.takes bad.none

-- values at fault
no_machine : (kind : Kind) (at : ℕ) (text : List ℕ) → text ≢ codes "wasm32" → valued kind Machine at text ≡ Err (UnknownOption at)
no_machine kind at text other = by (bytes_eq text (codes "wasm32")) refl
  where
    by : (b : Bool) → bytes_eq text (codes "wasm32") ≡ b → cond b (Ok (item kind at text)) (Err (UnknownOption at)) ≡ Err (UnknownOption at)
    by false _ = refl
    by true is = absurd (other ((bytes_eq-Decides text (codes "wasm32")).0 is))

sizeless : (kind : Kind) (at : ℕ) (text : List ℕ) → ((size : List ℕ) → text ≢ codes "stack-size" ++ 61 ∷ size) → valued kind StackSize at text ≡ Err (UnknownOption at)
sizeless kind at text other = by (parts_of text) refl
  where
    by : (p : Option (List ℕ × List ℕ)) → parts_of text ≡ p → stack_sized p kind at ≡ Err (UnknownOption at)
    by None _ = refl
    by (Some p) found = named (bytes_eq p.0 (codes "stack-size")) refl
      where
        named : (b : Bool) → bytes_eq p.0 (codes "stack-size") ≡ b → cond b (numbered kind ranges.Stack at p.1) (Err (UnknownOption at)) ≡ Err (UnknownOption at)
        named false _ = refl
        named true is = absurd (other p.1 (parts_found text p found ∙ ap (λ (n : List ℕ). n ++ 61 ∷ p.1) ((bytes_eq-Decides p.0 (codes "stack-size")).0 is)))

numberless : (kind : Kind) (form : Form) (range : Range) (at : ℕ) (text numeral : List ℕ) → HasNumeral form range text numeral → number_in range numeral ≡ None → valued kind form at text ≡ Err (not_in range at)
numberless kind Text range at text numeral due none = absurd due
numberless kind Machine range at text numeral due none = absurd due
numberless kind (Number own) range at text numeral due none = (λ j. numbered kind (due.0 j) at (due.1 j)) ∙ ap (λ n. judged n kind range at numeral) none
numberless kind StackSize range at text numeral due none =
    ap (λ (t : List ℕ). stack_sized (parts_of t) kind at) due.1 ∙ ap (λ p. stack_sized p kind at) (parts_again (codes "stack-size") numeral refl)
    ∙ ap (λ r. numbered kind r at numeral) (sym due.0) ∙ ap (λ n. judged n kind range at numeral) none

-- which fault it is
not_in_threads : (range : Range) (at : ℕ) → is_workers (Number range) ≡ true → not_in range at ≡ BadThreads at
unfolding is_workers
not_in_threads ranges.Workers at is = refl
not_in_threads range at is = absurd cc

not_in_other : (range : Range) (at : ℕ) → is_workers (Number range) ≡ false → not_in range at ≡ BadNumber at
unfolding is_workers
not_in_other ranges.Workers at is = absurd cc
not_in_other range at is = refl

other_kind : (kind : Kind) → kind ≢ kinds.Threads → same kind kinds.Threads ≡ false
other_kind kind other = by (same kind kinds.Threads) refl
  where
    by : (b : Bool) → same kind kinds.Threads ≡ b → b ≡ false
    by false _ = refl
    by true is = absurd (other (is_threads kind is))

stops_at_number : (at : ℕ) (kind : Kind) (words : List (List ℕ)) (fault : Usage) (bad : IsNoNumber kind words) → not_in bad.range at ≡ fault → cut_from Free at words ≡ ([], Some fault)
stops_at_number at kind words fault bad is =
    stops_at_value at kind bad.form bad.text words fault bad.value (numberless kind bad.form bad.range at bad.text bad.numeral bad.due bad.none ∙ ap (λ f. Err f) is)

stops_unknown : (at : ℕ) (words : List (List ℕ)) → IsUnknown words → cut_from Free at words ≡ ([], Some (UnknownOption at))
stops_unknown at words (no_option word rest is bad) = ap (cut_from Free at) is ∙ stops_here at word rest (UnknownOption at) (unlisted at word bad)
stops_unknown at words (in_vain word rest is bad) = ap (cut_from Free at) is ∙ stops_here at word rest (UnknownOption at) (valueless at word bad)
stops_unknown at words (other_machine kind text value other) = stops_at_value at kind Machine text words (UnknownOption at) value (no_machine kind at text other)
stops_unknown at words (no_size kind text value other) = stops_at_value at kind StackSize text words (UnknownOption at) value (sizeless kind at text other)

stops_missing : (at : ℕ) (words : List (List ℕ)) → IsMissing words → cut_from Free at words ≡ ([], Some (MissingValue at))
stops_missing at words bad = ap (cut_from Free at) bad.last ∙ by bad.rule.takes bad.is_option bad.due
  where
    by : (t : Takes) → row_of options bad.name ≡ Some (record { kind = bad.rule.kind; takes = t }) → takes_value t ≡ true → cut_from Free at (bad.name ∷ []) ≡ ([], Some (MissingValue at))
    by takes.Nothing found due = absurd cc
    by (takes.Next form) found due = ap (λ (s : Step). behind s (λ n. cut_from n (at + 1) [])) (alone_again at bad.name bad.rule.kind (takes.Next form) found)
    by (takes.Long form) found due = ap (λ (s : Step). behind s (λ n. cut_from n (at + 1) [])) (alone_again at bad.name bad.rule.kind (takes.Long form) found)

-- words that begin with what a fault tells stop there
pub stops_by_cause : (at : ℕ) (fault : Usage) (words : List (List ℕ)) → place_of fault ≡ Some at → HasCause fault words → cut_from Free at words ≡ ([], Some fault)
stops_by_cause at (UnknownOption own) words place bad = ap (λ k. cut_from Free k words) (sym (some_is place)) ∙ stops_unknown own words bad
stops_by_cause at (MissingValue own) words place bad = ap (λ k. cut_from Free k words) (sym (some_is place)) ∙ stops_missing own words bad
stops_by_cause at (BadNumber own) words place (kind, bad, other) =
    ap (λ k. cut_from Free k words) (sym (some_is place))
    ∙ stops_at_number own kind words (BadNumber own) bad (not_in_other bad.range own (range_agrees kind words bad ∙ other_kind kind other))
stops_by_cause at (BadThreads own) words place bad =
    ap (λ k. cut_from Free k words) (sym (some_is place)) ∙ stops_at_number own kinds.Threads words (BadThreads own) bad (not_in_threads bad.range own (range_agrees kinds.Threads words bad))
stops_by_cause at (OpenGroup own) words place bad = absurd bad
stops_by_cause at CaseAndInput words place bad = absurd bad
stops_by_cause at NoInput words place bad = absurd bad
stops_by_cause at NoOutput words place bad = absurd bad
stops_by_cause at PartialClash words place bad = absurd bad
