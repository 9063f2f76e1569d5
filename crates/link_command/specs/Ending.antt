-- How the work ended, and the line that is written of it.
use Rattle.std.specs.Prelude.{ℕ, List, [], length, Option, Some, None}
use Rattle.std.specs.List.{sum}
use Rattle.case_objects.specs.Functions.{functions_in}
use Rattle.link_lines.specs.declared.case_line.CaseSummary.{CaseSummary}
use Rattle.link_lines.specs.Faults.{fault_line}
use Rattle.link_lines.specs.Usages.{usage_line}
use Rattle.link_lines.specs.Ends.{read_fault_line, write_fault_line, no_memory_line, case_line}
use Rattle.link_command.specs.declared.status.Status.{Status}
use Rattle.link_command.specs.declared.status.Status.TheVariants.{Linked, Refused, Usage, ReadFault, WriteFault, NoMemory}

-- what is told of the output of a generated case of n objects
abbrev pub summary_of : List ℕ → ℕ → CaseSummary
summary_of bytes n = record { objects = n; functions = functions_in bytes; segments = n; bytes = length bytes; sum = sum bytes }

abbrev pub summary_line : Option CaseSummary → List ℕ
summary_line (Some c) = case_line c.objects c.functions c.segments c.bytes c.sum
summary_line None = []

-- the line of a status, with what is told of a case
abbrev pub ending_line : Status → Option CaseSummary → List ℕ
ending_line Linked case = summary_line case
ending_line (Refused fault) case = fault_line fault
ending_line (Usage usage) case = usage_line usage
ending_line (ReadFault place) case = read_fault_line place
ending_line WriteFault case = write_fault_line
ending_line NoMemory case = no_memory_line
