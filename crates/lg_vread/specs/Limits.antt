-- The limits of the reader of modules.
use Rattle.std.specs.Prelude.{ℕ, ◌≤◌, List, length}
use Rattle.lg_vtree.specs.declared.module.Module.{Module}
use Rattle.lg_vtree.specs.Grammar.{IsModuleText}
use Rattle.lg_vtree.specs.Depth.{module_depth}

-- bytes are a text of the module, and neither is beyond the limits: 134,217,728 bytes, and expressions 100 deep
pub record IsWithinLimits (bytes : List ℕ) (m : Module) : Type 0 where
  pub text : IsModuleText bytes m
  pub length : length bytes ≤ 134217728
  pub depth : module_depth m ≤ 100
