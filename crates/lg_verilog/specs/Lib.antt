pub use Rattle.lg_vtree.specs.Token
pub use Rattle.lg_vtree.specs.Printed
pub use Rattle.lg_vtree.specs.Grammar
pub use Rattle.lg_vtree.specs.Depth
pub use Rattle.lg_vread.specs.Limits
