-- Names that are made of others.
use Rattle.std.specs.Prelude.{◌≡◌, List, ℕ, ◌++◌}
use Rattle.name_rules.specs.object_file.wasm_types.declared.function.FuncType.{FuncType}
use Rattle.link_rules.specs.Program.{variant_name}
use Rattle.function_names.specs.Labels.{mismatch_prefix, stub_label}

-- A variant's stub is named by the name that it stands for.
abbrev pub VariantsAreNamed : Type 0
VariantsAreNamed = (t : FuncType) (name : List ℕ) → stub_label (variant_name t name) ≡ mismatch_prefix ++ name
