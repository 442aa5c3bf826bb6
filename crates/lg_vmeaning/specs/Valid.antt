-- Valid modules: they keep the seven rules, and nothing in them depends on itself.
-- Source: IEEE 1364-2005, in a narrower form (see the rules).
use Rattle.std.specs.Prelude.{◌≡◌, ℕ, List, Some, None}
use Rattle.lg_vtree.specs.declared.module.Module.{Module}
use Rattle.lg_vmeaning.specs.declared.validity.MeanFault.{MeanFault}
use Rattle.lg_vmeaning.specs.declared.validity.MeanFault.TheVariants.{NotValid, Cyclic, Memory}
use Rattle.lg_vrules.specs.declared.fault.RuleFault.{RuleFault}
use Rattle.lg_vrules.specs.declared.fault.RuleFault.TheVariants as rule
use Rattle.lg_vrules.specs.Rules.{first_broken}
use Rattle.lg_vrules.specs.Depends.{IsAcyclic, IsFirstCyclic}

pub record IsValid (m : Module) : Type 0 where
  pub rules : first_broken m ≡ None
  pub acyclic : IsAcyclic m

-- the first name in the order of assigns that depends on itself, in a module that keeps the rules
pub record IsCyclicAt (m : Module) (wire : List ℕ) : Type 0 where
  pub rules : first_broken m ≡ None
  pub at : ℕ
  pub first : IsFirstCyclic m at
  pub named : first.assign.name ≡ wire

-- the module is not valid for this reason; of want of memory nothing is said
abbrev pub IsInvalid : Module → MeanFault → Type 0
IsInvalid m (NotValid rule) = first_broken m ≡ Some rule
IsInvalid m (Cyclic wire) = IsCyclicAt m wire
IsInvalid m Memory = Unit {0}

-- a fault of the rules as one of the module
abbrev pub rule_fault : RuleFault → MeanFault
rule_fault (rule.Broken n) = NotValid n
rule_fault rule.Memory = Memory
