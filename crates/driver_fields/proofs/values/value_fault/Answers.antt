use Rattle.driver_table.specs.declared.meaning.Meaning.TheVariants.{TableBase, PageSize, InitialHeap}
use Rattle.driver_fields.proofs.Faults.{fault_is}
use Rattle.driver_fields.proofs.values.value_fault.Goals as goal

pub returns-in-TableBase : goal.returns-in-TableBase
returns-in-TableBase c =
    fault_is c.args.item.now TableBase c.value-value.result.now c.spelling-spelling.result.now c.only.result c.in-TableBase.ensures c.value-value.ensures c.spelling-spelling.ensures c.only.ensures

pub returns-in-PageSize : goal.returns-in-PageSize
returns-in-PageSize c =
    fault_is c.args.item.now PageSize c.value-value.result.now c.spelling-spelling.result.now c.only-in-PageSize.result c.in-PageSize.ensures c.value-value.ensures c.spelling-spelling.ensures c.only-in-PageSize.ensures

pub returns-in-InitialHeap : goal.returns-in-InitialHeap
returns-in-InitialHeap c =
    fault_is c.args.item.now InitialHeap c.value-value.result.now c.spelling-spelling.result.now c.only-in-InitialHeap.result c.in-InitialHeap.ensures c.value-value.ensures c.spelling-spelling.ensures c.only-in-InitialHeap.ensures
