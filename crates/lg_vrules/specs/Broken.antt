-- Why a module does not pass: the least of the seven rules that it breaks. Of want of memory nothing is said.
use Rattle.std.specs.Prelude.{◌≡◌, Some}
use Rattle.lg_vtree.specs.declared.module.Module.{Module}
use Rattle.lg_vrules.specs.declared.fault.RuleFault.{RuleFault}
use Rattle.lg_vrules.specs.declared.fault.RuleFault.TheVariants.{Broken, Memory}
use Rattle.lg_vrules.specs.Rules.{first_broken}

abbrev pub IsBroken : Module → RuleFault → Type 0
IsBroken m (Broken rule) = first_broken m ≡ Some rule
IsBroken m Memory = Unit {0}
