-- The line of each answer.
use Rattle.std.specs.Prelude.{ℕ, List, [], length, Option, Some, None, Result, Ok, Err}
use Rattle.std.specs.List.{sum}
use Rattle.wl_base.specs.declared.fault.Fault.{Fault}
use Rattle.wl_base.specs.declared.usage.Usage.{Usage as UsageFault}
use Rattle.link_plan.specs.declared.plan.Plan.{Plan}
use Rattle.link_core.specs.Whole.{whole_link}
use Rattle.case_objects.specs.Objects.{objects}
use Rattle.case_objects.specs.Functions.{functions_in}
use Rattle.link_lines.specs.Faults.{fault_line}
use Rattle.link_lines.specs.Usages.{usage_line}
use Rattle.link_lines.specs.Ends.{read_fault_line, write_fault_line, no_memory_line, case_line}
use Rattle.link_command.specs.declared.status.Status.{Status}
use Rattle.link_command.specs.declared.status.Status.TheVariants.{Linked, Refused, Usage, ReadFault, WriteFault, NoMemory}

-- What became of a generated case of n objects: the output's functions, length and sum. All of its data segments are live.
abbrev pub summed_line : ℕ → Result (List ℕ) Fault → List ℕ
summed_line n (Ok bytes) = case_line n (functions_in bytes) n (length bytes) (sum bytes)
summed_line n (Err fault) = []

-- nothing, but of a generated case
abbrev pub linked_line : Option ℕ → Plan → List ℕ
linked_line (Some n) plan = summed_line n (whole_link plan (objects n))
linked_line None plan = []

abbrev pub planned_line : Result Plan UsageFault → List ℕ
planned_line (Ok plan) = linked_line plan.make_case plan
planned_line (Err usage) = []

-- the line of an answer to words that have this plan, or none
abbrev pub status_line : Result Plan UsageFault → Status → List ℕ
status_line said Linked = planned_line said
status_line said (Refused fault) = fault_line fault
status_line said (Usage usage) = usage_line usage
status_line said (ReadFault place) = read_fault_line place
status_line said WriteFault = write_fault_line
status_line said NoMemory = no_memory_line
