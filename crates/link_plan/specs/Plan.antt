-- The forms and ranges of a plan's numbers.
use Rattle.std.specs.Prelude.{ℕ, ◌<◌, ◌≤◌, ◌^◌, ◌%◌, ◌≡◌, length, IfSome}
use Rattle.link_plan.specs.declared.plan.Plan.{Plan}

-- A number of bytes that whole pages of 65,536 bytes have, at most 2^32.
abbrev pub IsMemory : ℕ → Type 0
IsMemory n = (n % 65536 ≡ 0) × (n ≤ 2 ^ 32)

-- What the words let through: a stack of whole units of 16 bytes, memories of whole pages, 1 to 64 workers, 1 to 20,000 generated
-- objects, and fewer than 2^32 inputs.
pub record IsPlan (plan : Plan) : Type 0 where
  pub stack : plan.stack_size % 16 ≡ 0
  pub stack_small : plan.stack_size < 2 ^ 32
  pub initial : IsMemory plan.initial_memory
  pub max : IfSome plan.max_memory IsMemory
  pub base : IfSome plan.global_base (λ n. n < 2 ^ 32)
  pub some_thread : 1 ≤ plan.threads
  pub few_threads : plan.threads ≤ 64
  pub cases : IfSome plan.make_case (λ n. (1 ≤ n) × (n ≤ 20000))
  pub inputs : length plan.inputs < 2 ^ 32
