use Rattle.std.proofs.Common.{◌≡◌, [], ap, sym, subst, ◌∙◌, Some, map, arith}
use Rattle.std.specs.Prelude.{flat_map}
use Rattle.object_file.specs.wl_base.Names.{Names}
use Rattle.made_symbols.specs.Made.{made}
use Rattle.link_names.specs.Numbered.{Numbered, AreNumbers, numbers_seen, AllShort}
use Rattle.link_names.specs.Interning.{TellsAll, one, names_in, groups_in, made_name, made_number, symbols_numbered, groups_numbered}
use Rattle.link_names.proofs.Steps.{taken}
use Rattle.link_names.proofs.Whole.{fails, too_many_made, too_many_entries, too_many_groups, too_many_words, names_after, numbers_are}
use Rattle.link_names.proofs.names.Names.new.Goals as goal

pub returns-in_err-made : goal.returns-in_err-made
returns-in_err-made c =
    let t0 = c.new-table.result in
    let none : t0.names ≡ [] = ap (λ (t : Names). t.names) c.new-table.ensures in
    fails (λ names numbers. TellsAll made_number (λ n. Some n) (made c.args.mode) names numbers.items) c.args.mode c.args.words.now c.args.objects.now c.args.limit t0 t0 c.made_numbers.new.table (flat_map made_name (made c.args.mode))
    c.made_numbers.result c.from_residual.result c.in_err-made.field-0.0 (ap (λ (t : Names). t.limit) c.new-table.ensures) (too_many_made c.args.mode c.args.words.now c.args.objects.now t0 none) c.made_numbers.ensures c.in_err-made.was c.from_residual.ensures

pub returns-in_err-symbols : goal.returns-in_err-symbols
returns-in_err-symbols c =
    let t0 = c.new-table.result in
    let none : t0.names ≡ [] = ap (λ (t : Names). t.names) c.new-table.ensures in
    let first = taken (λ names numbers. TellsAll made_number (λ n. Some n) (made c.args.mode) names numbers.items) c.made_numbers.result t0 c.made_numbers.new.table (flat_map made_name (made c.args.mode)) c.in_ok-made.made c.in_ok-made.was c.made_numbers.ensures in
    fails (λ names lists. TellsAll symbols_numbered numbers_seen c.args.objects.now names lists × AllShort lists) c.args.mode c.args.words.now c.args.objects.now c.args.limit t0 c.made_numbers.new.table c.symbol_lists.new.table (flat_map names_in c.args.objects.now)
    c.symbol_lists.result c.from_residual-in_err-symbols.result c.in_err-symbols.field-0.0 (ap (λ (t : Names). t.limit) c.new-table.ensures) (too_many_entries c.args.mode c.args.words.now c.args.objects.now t0 none c.made_numbers.new.table first.0)
    c.symbol_lists.ensures c.in_err-symbols.was c.from_residual-in_err-symbols.ensures

pub returns-in_err-groups : goal.returns-in_err-groups
returns-in_err-groups c =
    let t0 = c.new-table.result in
    let none : t0.names ≡ [] = ap (λ (t : Names). t.names) c.new-table.ensures in
    let first = taken (λ names numbers. TellsAll made_number (λ n. Some n) (made c.args.mode) names numbers.items) c.made_numbers.result t0 c.made_numbers.new.table (flat_map made_name (made c.args.mode)) c.in_ok-made.made c.in_ok-made.was c.made_numbers.ensures in
    let second = taken (λ names lists. TellsAll symbols_numbered numbers_seen c.args.objects.now names lists × AllShort lists) c.symbol_lists.result c.made_numbers.new.table c.symbol_lists.new.table (flat_map names_in c.args.objects.now) c.in_ok-symbols.symbols c.in_ok-symbols.was c.symbol_lists.ensures in
    fails (λ names lists. TellsAll groups_numbered (map (λ n. Some n)) c.args.objects.now names lists × AllShort lists) c.args.mode c.args.words.now c.args.objects.now c.args.limit t0 c.symbol_lists.new.table c.group_lists.new.table (flat_map groups_in c.args.objects.now)
    c.group_lists.result c.from_residual-in_err-groups.result c.in_err-groups.field-0.0 (ap (λ (t : Names). t.limit) c.new-table.ensures) (too_many_groups c.args.mode c.args.words.now c.args.objects.now t0 none c.made_numbers.new.table c.symbol_lists.new.table first.0 second.0)
    c.group_lists.ensures c.in_err-groups.was c.from_residual-in_err-groups.ensures

pub returns-in_err-add_words : goal.returns-in_err-add_words
returns-in_err-add_words c =
    let t0 = c.new-table.result in
    let none : t0.names ≡ [] = ap (λ (t : Names). t.names) c.new-table.ensures in
    let first = taken (λ names numbers. TellsAll made_number (λ n. Some n) (made c.args.mode) names numbers.items) c.made_numbers.result t0 c.made_numbers.new.table (flat_map made_name (made c.args.mode)) c.in_ok-made.made c.in_ok-made.was c.made_numbers.ensures in
    let second = taken (λ names lists. TellsAll symbols_numbered numbers_seen c.args.objects.now names lists × AllShort lists) c.symbol_lists.result c.made_numbers.new.table c.symbol_lists.new.table (flat_map names_in c.args.objects.now) c.in_ok-symbols.symbols c.in_ok-symbols.was c.symbol_lists.ensures in
    let third = taken (λ names lists. TellsAll groups_numbered (map (λ n. Some n)) c.args.objects.now names lists × AllShort lists) c.group_lists.result c.symbol_lists.new.table c.group_lists.new.table (flat_map groups_in c.args.objects.now) c.in_ok-groups.groups c.in_ok-groups.was c.group_lists.ensures in
    fails (λ names nothing. Unit {0}) c.args.mode c.args.words.now c.args.objects.now c.args.limit t0 c.group_lists.new.table c.add_words.new.table (flat_map one c.args.words.now)
    c.add_words.result c.from_residual-in_err-add_words.result c.in_err-add_words.field-0.0 (ap (λ (t : Names). t.limit) c.new-table.ensures) (too_many_words c.args.mode c.args.words.now c.args.objects.now t0 none c.made_numbers.new.table c.symbol_lists.new.table c.group_lists.new.table first.0 second.0 third.0)
    c.add_words.ensures c.in_err-add_words.was c.from_residual-in_err-add_words.ensures

pub returns : goal.returns
returns c =
    let t0 = c.new-table.result in
    let none : t0.names ≡ [] = ap (λ (t : Names). t.names) c.new-table.ensures in
    let first = taken (λ names numbers. TellsAll made_number (λ n. Some n) (made c.args.mode) names numbers.items) c.made_numbers.result t0 c.made_numbers.new.table (flat_map made_name (made c.args.mode)) c.in_ok-made.made c.in_ok-made.was c.made_numbers.ensures in
    let second = taken (λ names lists. TellsAll symbols_numbered numbers_seen c.args.objects.now names lists × AllShort lists) c.symbol_lists.result c.made_numbers.new.table c.symbol_lists.new.table (flat_map names_in c.args.objects.now) c.in_ok-symbols.symbols c.in_ok-symbols.was c.symbol_lists.ensures in
    let third = taken (λ names lists. TellsAll groups_numbered (map (λ n. Some n)) c.args.objects.now names lists × AllShort lists) c.group_lists.result c.symbol_lists.new.table c.group_lists.new.table (flat_map groups_in c.args.objects.now) c.in_ok-groups.groups c.in_ok-groups.was c.group_lists.ensures in
    let fourth = taken (λ names nothing. Unit {0}) c.add_words.result c.group_lists.new.table c.add_words.new.table (flat_map one c.args.words.now) c.in_ok-add_words.field-0 c.in_ok-add_words.was c.add_words.ensures in
    let limits : c.add_words.new.table.limit ≡ c.args.limit =
    ap (λ (t : Names). t.limit) fourth.0.0 ∙ ap (λ (t : Names). t.limit) third.0.0 ∙ ap (λ (t : Names). t.limit) second.0.0 ∙ ap (λ (t : Names). t.limit) first.0.0 ∙ ap (λ (t : Names). t.limit) c.new-table.ensures in
    let parts : ◌≡◌ {A = Numbered} (record { names = c.add_words.new.table.names; made = c.in_ok-made.made.items; symbols = map numbers_seen c.in_ok-symbols.symbols; groups = c.in_ok-groups.groups })
    (record { names = c.add_words.new.table.names; made = c.from_vec.result; symbols = map numbers_seen c.shrunk.result; groups = c.shrunk-2.result }) =
    (λ j. record { names = c.add_words.new.table.names; made = sym c.from_vec.ensures j; symbols = map numbers_seen (sym c.shrunk.ensures j); groups = sym c.shrunk-2.ensures j }) in (
      names_after c.args.mode c.args.words.now c.args.objects.now t0 c.made_numbers.new.table c.symbol_lists.new.table c.group_lists.new.table c.add_words.new.table none first.0 second.0 third.0 fourth.0,
      omega (arith, limits, fourth.0.1.0),
      subst (AreNumbers c.args.mode c.args.objects.now) parts
          (numbers_are c.args.mode c.args.words.now c.args.objects.now t0 c.made_numbers.new.table c.symbol_lists.new.table c.group_lists.new.table c.add_words.new.table c.in_ok-made.made.items c.in_ok-symbols.symbols c.in_ok-groups.groups
          none first.0 second.0 third.0 fourth.0 first.1 second.1.0 third.1.0 second.1.1 third.1.1),
    )
