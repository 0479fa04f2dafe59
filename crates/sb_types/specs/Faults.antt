-- Why a type has no base, as a fault of the table.
use Rattle.sb_layout.specs.declared.faults.Fault.{Fault}
use Rattle.sb_layout.specs.declared.faults.Fault.TheVariants as layout
use Rattle.sb_types.specs.declared.fault.TableFault.{TableFault}
use Rattle.sb_types.specs.declared.fault.TableFault.TheVariants.{TooBig, Memory}

abbrev pub fault_of : Fault → TableFault
fault_of layout.TooBig = TooBig
fault_of layout.Memory = Memory
